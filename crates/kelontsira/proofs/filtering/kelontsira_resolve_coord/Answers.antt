-- `kelontsira_resolve_coord` equals `resolve_coord`, case by case. Assumes nothing.
use Rattle.std.proofs.Common.{refl, rules}
use Rattle.kelontsira.proofs.Modes.{unknown, known}
use Rattle.kelontsira.proofs.Lent.{case_of, at_told, nothing_told, coord_refused}
use Rattle.kelontsira.proofs.filtering.kelontsira_resolve_coord.Goals as goal

pub returns-in_default : goal.returns-in_default
returns-in_default c = unknown _ _ _ c.in_default.ensures

pub returns-in-At : goal.returns-in-At
returns-in-At c =
    known _ _ _ _ _ _ _ c.in-Some.ensures refl (at_told _ _ _ _ (case_of c.args.coord _ _ _ _ (search rules) c.resolve_coord.ensures c.in-At.is))

pub returns-in-Nothing : goal.returns-in-Nothing
returns-in-Nothing c =
    known _ _ _ _ _ _ _ c.in-Some.ensures refl (nothing_told _ _ _ (case_of c.args.coord _ _ _ _ (search rules) c.resolve_coord.ensures c.in-Nothing.is))

pub returns-in-Refused : goal.returns-in-Refused
returns-in-Refused c =
    known _ _ _ _ _ _ _ c.in-Some.ensures refl
    (coord_refused _ _ _ _ c.from.ensures (case_of c.args.coord _ _ _ _ (search rules) c.resolve_coord.ensures c.in-Refused.is))
