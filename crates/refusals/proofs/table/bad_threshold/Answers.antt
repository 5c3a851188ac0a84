-- `bad_threshold` is row 5: each comparison computes at each kind of float. Assumes nothing.
use mathlib.Core.Path.{◌≡◌, refl}
use mathlib.Core.Bool.{true, false, not, ◌||◌}
use lib.Ieee.{Float, nan, inf, fin, binary32, lt, of_bits, of_fields, of_int, round, odd, units, span, climb, size}
use Rattle.std.specs.Float.{float_is_finite}
use Rattle.rules.specs.Refusals.{bad_threshold}
use Rattle.refusals.proofs.table.bad_threshold.Goals as goal

threshold_test : (t : Float) → (not (float_is_finite t) || (lt t (of_bits binary32 0) || lt (of_bits binary32 0x437f_0000) t)) ≡ bad_threshold t
unfolding lt of_bits of_fields of_int round odd units span climb size float_is_finite
threshold_test nan = refl
threshold_test (inf true) = refl
threshold_test (inf false) = refl
threshold_test (fin s m e) = refl

pub returns : goal.returns
returns c = let e = threshold_test c.args.t in rw c.is_finite.ensures.value e
