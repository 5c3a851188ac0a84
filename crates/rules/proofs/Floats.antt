-- The finite test by two comparisons with an infinity, and the whole numbers that an f32 holds exactly. Assumes nothing.
use mathlib.Core.Path.{◌≡◌, refl, sym}
use mathlib.Core.Bool.{true, false, ◌&&◌}
use Prim.Native.Nat.{ℕ, ◌<◌, ◌^◌}
use native.Mathlib.Nat.{mul-one, lt_of_lt_of_le}
use native.Mathlib.Omega.{arith}
use lib.Dec.{lit≤}
use lib.IntN.{pos}
use lib.Pow.{pow_mono, shl_lt}
use lib.Ieee.Exact.{HasValue, round_exact}
use Rattle.rules.specs.Sums.{whole_f32}
use lib.Ieee.{Float, nan, inf, fin, binary32, lt, neg, of_bits, of_int}
use lib.Ieee.Scale.{finite}

abbrev pub infinity : Float
infinity = of_bits binary32 0x7f80_0000

pub between : (x : Float) → (lt x infinity && lt (neg infinity) x) ≡ finite x
unfolding lt neg of_bits
between nan = refl
between (inf true) = refl
between (inf false) = refl
between (fin true m e) = refl
between (fin false m e) = refl

-- a whole number below 2^24, as an f32, has that value
pub whole_exact : (n : ℕ) → n < 2 ^ 24 → HasValue (whole_f32 (pos n)) false n 1
unfolding of_int
whole_exact n h =
    round_exact binary32 false n 1 n 149 (omega arith) h (lt_of_lt_of_le (shl_lt 24 149 h) (pow_mono {i = 173} {j = 277} (lit≤ tt))) (sym (mul-one _))
