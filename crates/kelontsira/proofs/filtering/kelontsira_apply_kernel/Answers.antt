-- `kelontsira_apply_kernel` equals the call it wraps: an unknown mode is refused, a known one handed on. Assumes nothing.
use Rattle.kelontsira.proofs.Modes.{unknown, known}
use Rattle.kelontsira.proofs.filtering.kelontsira_apply_kernel.Goals as goal

pub returns-in_default : goal.returns-in_default
returns-in_default c = unknown _ _ _ c.in_default.ensures

pub returns : goal.returns
returns c = known _ _ _ _ _ _ _ c.in-Some.ensures c.number.ensures c.apply_kernel.ensures
