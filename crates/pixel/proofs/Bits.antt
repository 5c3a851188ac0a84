-- What a guess owes before its bits are read: that it is no NaN. Assumes nothing.
use Rattle.std.proofs.Common.{◌≡◌, ℕ, ◌%◌, ◌<◌, ◌≤◌, true, not, T, sym, subst, arith, le-ltb}
use lib.Ieee.{Float, nan, inf, fin, binary32, lt, eq, le, is_nan, nan_bits}
use lib.Ieee.Bits.{nan_bits_above}

-- what is at least another number is one
pub no_nan_le : (z x : Float) → le z x ≡ true → T (not (is_nan x))
unfolding le lt eq is_nan
no_nan_le z (inf s) e = tt
no_nan_le z (fin s m d) e = tt
no_nan_le nan nan e = subst T (sym e) tt
no_nan_le (inf s) nan e = subst T (sym e) tt
no_nan_le (fin s m d) nan e = subst T (sym e) tt

-- and what is above it
pub no_nan : (z x : Float) → lt z x ≡ true → T (not (is_nan x))
unfolding le
no_nan z x e = no_nan_le z x (rw e)

-- the pattern of a positive finite f32
pub low_bits : (n : ℕ) → n < 0x7f80_0000 → T (not (nan_bits binary32 n))
low_bits n h = let l : n % 2147483648 ≤ 0x7f80_0000 = omega arith in rw (nan_bits_above binary32 n, le-ltb _ _ l) tt
