-- `slice` answers as the definition does. Assumes nothing.
use borrow.Author.Rules.{rules}
use mathlib.Core.Path.{sym}
use Rattle.hysteresis.proofs.Numbers.{slice_fit}
use Rattle.hysteresis.proofs.Answering.{slice_refused, slice_made}
use Rattle.hysteresis.proofs.slice.Goals as goal

pub returns-in_err-of_slice : goal.returns-in_err-of_slice
returns-in_err-of_slice c =
    let a = c.args in
    slice_refused a.walk a.budget a.marks.now a.stack.now c.from-size.ensures c.in_err-of_slice.field-0.0 (search rules) c.in_err-of_slice.ensures

pub invariant_of-walking : goal.invariant_of-walking
invariant_of-walking c = record { fits = slice_fit _ c.args.budget _ (sym c.in_ok-of_slice.ensures) }

-- the struct's buffers are those that were lent
pub returns : goal.returns
returns c =
    let a = c.args in
    let k = c.take_until-takes.ensures in
    slice_made a.walk a.budget a.marks.now a.stack.now c.from-size.ensures c.in_ok-of_slice.ensures k.left k.made (search rules) (search rules)
