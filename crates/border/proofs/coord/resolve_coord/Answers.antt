-- `resolve_coord` meets its contract: refused, or what `resolve` gives. Assumes nothing.
use mathlib.Core.Path.{◌≡◌, refl, ap}
use mathlib.Core.Bool.{Bool, true, false, cond}
use Prim.Native.Nat.{ℕ}
use mir.Syntax.{w64}
use mir.ValLaws.{to_z-of_z}
use Rattle.rules.specs.Refusals.{one_side_row}
use Rattle.rules.specs.Border.{coord_says}
use Rattle.rules.specs.Calls.{resolve_coord}
use Rattle.rules.proofs.Answers.{named}
use Rattle.border.proofs.coord.resolve_coord.Goals as goal

-- a table of one row, that refused
applied : (b : Bool) {r : ℕ} → r ≡ cond b 1 0 → (r ≡ 0 → ⊥) → b ≡ true
applied true e n = refl
applied false e n = absurd (n e)

pub returns-in-Ok : goal.returns-in-Ok
unfolding resolve_coord
returns-in-Ok c = rw (← c.in-Ok.ensures) (ap coord_says (rw (to_z-of_z w64 _ c.ranges.coord) at c.resolve.ensures))

pub returns-in-Err : goal.returns-in-Err
unfolding resolve_coord
returns-in-Err c = rw (applied (one_side_row c.args.side).applies c.in-Err.ensures (named c.in-Err.field-0))
