-- `apply_separable_kernel` meets its contract: refused, or both passes and the work buffer cleared. Assumes nothing.
use borrow.Author.Rules.{rules}
use mathlib.Core.Path.{sym, refl}
use Rattle.rules.specs.Calls.{apply_separable_kernel}
use Rattle.rules.proofs.Answers.{named, refused_is, accepted_is}
use Rattle.filters.proofs.Convolving.{Taps, taps, still_kernelled, both_passes}
use Rattle.filters.proofs.convolution.apply_separable_kernel.Goals as goal
use Rattle.filters.proofs.convolution.apply_separable_kernel.Goals.{In_ok-of_separable}

-- what the table grants where no row applies
granted : (c : In_ok-of_separable) → Taps c.args.size c.args.kernel c.args.pixels.now c.args.horizontal.now c.args.vertical.now c.args.work.now c.args.out.now
granted c = taps (sym c.in_ok-of_separable.ensures)

pub returns-in_err-of_separable : goal.returns-in_err-of_separable
unfolding apply_separable_kernel
returns-in_err-of_separable c = search (rules, refused_is, named)

pub invariant_of-across : goal.invariant_of-across
invariant_of-across c =
    let t = granted (goal.at.invariant_of-across c).In_ok-of_separable in
    record { within = t.row_pass }

pub sums_to-requires : goal.sums_to-requires
sums_to-requires c =
    let t = granted (goal.at.sums_to-requires c).In_ok-of_separable in
    t.column_pass.long

pub invariant_of-down : goal.invariant_of-down
invariant_of-down c =
    let t = granted (goal.at.invariant_of-down c).In_ok-of_separable in
    record { within = still_kernelled t.column_pass c.sums_to.auto.work }

pub bytes_to-requires : goal.bytes_to-requires
bytes_to-requires c =
    let t = granted (goal.at.bytes_to-requires c).In_ok-of_separable in
    (t.room, search rules)

pub returns : goal.returns
unfolding apply_separable_kernel
returns c =
    let t = granted (goal.at.returns c).In_ok-of_separable in
    accepted_is _ _ c.in_ok-of_separable.ensures _ _ _ refl
    (both_passes _ t c.sums_to.ensures c.bytes_to.ensures c.clear.ensures)
