-- `map` answers as the definition does. Assumes nothing.
use borrow.Author.Rules.{rules}
use mathlib.Core.Path.{sym}
use Rattle.rules.specs.Walk.{state}
use Rattle.rules.specs.Calls.{sides_of}
use Rattle.hysteresis.proofs.Classing.{first_filled}
use Rattle.hysteresis.proofs.Numbers.{mappable}
use Rattle.hysteresis.proofs.Answering.{map_refused, map_made}
use Rattle.hysteresis.proofs.map.Goals as goal

pub returns-in_err-of_map : goal.returns-in_err-of_map
returns-in_err-of_map c =
    let a = c.args in
    map_refused a.walk a.marks.now a.stack.now a.out.now c.from.ensures c.in_err-of_map.field-0.0 (search rules) c.in_err-of_map.ensures

pub returns : goal.returns
returns c =
    let a = c.args in
    let p = mappable (sides_of a.walk) (state a.marks.now a.stack.now a.walk.pending) a.out.now (rw c.from.ensures at (sym c.in_ok-of_map.ensures)) in
    map_made a.walk a.marks.now a.stack.now a.out.now c.from.ensures c.in_ok-of_map.ensures
    (first_filled _ _ a.out.now p.out_long c.fill_map.ensures)
