-- `clear` meets its contract: a loop that fills the entries that it is lent, no more than the buffer has. Assumes nothing.
use native.Mathlib.Omega.{arith}
use mathlib.Core.Path.{◌≡◌, refl}
use mathlib.Core.List.{List, ◌++◌, append-nil}
use Prim.Native.Nat.{ℕ, ◌≤◌, min}
use lib.ListN.{length, take, drop, drop_of_length-le}
use lib.Seq.{length-take-le}
use Rattle.rules.specs.Picture.{filled}
use Rattle.rules.proofs.Fill.{filling_start, filling_more, filling_end}
use Rattle.scratch.proofs.clear.Goals as goal

-- the first m entries filled whole, and put back before the others
first_filled : {A : Type 0} (n m : ℕ) (f : ℕ → A) (o l : List A) → m ≡ min n (length o) → l ≡ filled (length (take m o)) f (take m o) → l ++ drop m o ≡ filled (min n (length o)) f o
first_filled n m f o l h p =
    let e : length (take m o) ≡ m = length-take-le m o (omega arith) in
    let q : l ≡ filled m f (take m o) = rw e at p in
    let s : length (take m o) ≤ m = omega arith in
    rw (← h, q, drop_of_length-le (take m o) s, append-nil)

pub loop-entry-init : goal.loop-entry-init
loop-entry-init g c = filling_start

pub loop-entry-preserved : goal.loop-entry-preserved
loop-entry-preserved g c = filling_more (omega arith) c.loop-entry-test.true c.loop-entry.invariant refl

pub returns : goal.returns
returns g c = first_filled c.args.n c.min-most.result _ _ _ c.min-most.ensures (filling_end c.loop-entry.invariant c.loop-entry-test.false)
