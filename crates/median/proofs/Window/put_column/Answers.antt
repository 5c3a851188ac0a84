-- `put_column` meets its contract, sample by sample. Assumes nothing.
use native.Mathlib.Omega.{arith}
use mathlib.Core.Path.{refl}
use Prim.Native.Nat.{ℕ, ◌+◌, ◌<◌}
use lib.Dec.{ltb}
use lib.ListN.{length}
use Rattle.rules.specs.Picture.{tally}
use Rattle.rules.specs.Limits.{max_side}
use Rattle.rules.proofs.Tallies.{tally_all}
use Rattle.border.proofs.Reading.{read_byte}
use Rattle.median.specs.Counts.{column_at}
use Rattle.median.proofs.Counting.{changing_start, changing_more, changing_all, put_small, belows_more}
use Rattle.median.proofs.Window.put_column.Goals as goal

pub loop-row-init : goal.loop-row-init
unfolding tally
loop-row-init c = (changing_start, omega arith)

pub overflow_add-counts : goal.overflow_add-counts
overflow_add-counts c =
    let f : ℕ → ℕ = column_at c.args.self.now.pixels.now c.args.self.now.size c.args.self.now.rows.now c.args.x in
    let n : (j : ℕ) → f j < length c.args.counts.now = λ j. rw c.requires.0.count (read_byte _ _ c.args.self.now.bytes _ _) in
    rw c.loop-row.invariant.0.is (omega (arith, put_small f c.args.counts.now n c.loop-row.row-index c.read-b.result max_side (c.requires.0.small c.read-b.result)))

pub overflow_add-below : goal.overflow_add-below
overflow_add-below c =
    let f : ℕ → ℕ = column_at c.args.self.now.pixels.now c.args.self.now.size c.args.self.now.rows.now c.args.x in
    let k = tally_all (λ i. ltb (f i) c.args.found.value) (c.loop-row.row-index + 1) in
    record { fits = omega (arith, c.loop-row.invariant.1, c.from-below.ensures, belows_more f c.read-b.ensures c.args.found.value, c.args.self.now.fits.few) }

pub loop-row-preserved : goal.loop-row-preserved
loop-row-preserved c =
    let f : ℕ → ℕ = column_at c.args.self.now.pixels.now c.args.self.now.size c.args.self.now.rows.now c.args.x in (
      changing_more c.loop-row-test.true c.loop-row.invariant.0 c.read-b.ensures,
      omega (arith, c.from-below.ensures, c.loop-row.invariant.1, belows_more f c.read-b.ensures c.args.found.value),
    )

pub returns : goal.returns
returns c =
    let e = changing_all c.loop-row.invariant.0 c.loop-row-test.false in
    (rw e at c.loop-row.invariant.0.is, refl, rw e at c.loop-row.invariant.1)
