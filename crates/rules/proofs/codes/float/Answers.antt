-- A NaN's pattern is told by one comparison of its bits. Assumes nothing.
use Rattle.std.proofs.Common.{◌≡◌, sym, ◌∙◌, ap, true}
use mathlib.Core.Bool.{not}
use mathlib.Core.Path.{refl}
use borrow.Author.Tests.{lt-ltb, le-ltb}
use lib.Ieee.{Float, nan, inf, fin, binary32, div, of_bits, of_fields, is_nan}
use lib.Ieee.Bits.{nan_bits_above, nan_bits_is}
use Rattle.rules.proofs.Bools.{is_true, clash}
use Rattle.rules.proofs.codes.float.Goals as goal

-- there is one NaN
the_nan : (x : Float) → is_nan x ≡ true → nan ≡ x
unfolding is_nan
the_nan nan e = refl
the_nan (inf s) e = absurd (clash e refl)
the_nan (fin s m x) e = absurd (clash e refl)

pub returns-then-bits-gt2139095040 : goal.returns-then-bits-gt2139095040
unfolding div of_bits of_fields
returns-then-bits-gt2139095040 c =
    let b = c.args.bits in
    the_nan (of_bits binary32 b) (sym (nan_bits_is binary32 b) ∙ nan_bits_above binary32 b ∙ lt-ltb _ _ c.if-bits-gt2139095040.true)

pub float_from_bits-result : goal.float_from_bits-result
float_from_bits-result c = is_true (ap not (nan_bits_above binary32 _ ∙ le-ltb _ _ c.if-bits-gt2139095040.false))
