-- The ordered f32 sum, the flipped weight, and the conversion of an f32 to a byte.
use Rattle.std.specs.Prelude.{ℕ, zero, suc, ◌+◌, ◌-◌, ◌*◌, ◌/◌, ◌≤◌, ◌<◌, min, Bool, true, false, List, get_or, ℤ, pos, negsuc, neg_ℤ, Float}
use Rattle.std.specs.Float.{nan, inf, fin, binary32}
use Rattle.std.specs.Float.Ieee.{add, mul, of_int, of_bits, up, down}
use Rattle.rules.specs.declared.Kernel.{Kernel}

-- +0
abbrev pub plus_zero : Float
plus_zero = of_bits binary32 0

-- a whole number as an f32: exact up to 2^24
abbrev pub whole_f32 : ℤ → Float
whole_f32 z = of_int binary32 z

-- The sum of the first k terms (01.Border.7): it starts at +0 and adds them in their order, each sum rounded before the next.
-- Any of them may overflow; what follows is still this sum (01.Border.9).
unfoldable pub ordered_sum : (ℕ → Float) → ℕ → Float
ordered_sum t zero = plus_zero
ordered_sum t (suc k) = add binary32 (ordered_sum t k) (t k)

-- sample times weight, rounded by itself: never fused with the sum
abbrev pub product : Float → Float → Float
product sample weight = mul binary32 sample weight

-- the weight at column x and row y of the flipped kernel (01.Border.6)
abbrev pub flipped : Kernel → List Float → ℕ → ℕ → Float
flipped k weights x y = get_or weights ((k.height - 1 - y) * k.width + (k.width - 1 - x)) nan

-- ---- the byte (01.Border.8), a rule on the exact value. A finite f32 is `fin s m e`: m * up e / down e, negative where s is true.

-- the whole number nearest to a / c, halves upwards
abbrev pub nearest_whole : ℕ → ℕ → ℕ
nearest_whole a c = (2 * a + c) / (2 * c)

-- What that means: n is at most a half from a / c, and the half below it is n's. There is exactly one such n (proofs/Bytes).
pub record Nearest (a c n : ℕ) : Type 0 where
  pub above : 2 * (n * c) ≤ 2 * a + c
  pub below : 2 * a + c < 2 * (n * c) + 2 * c

-- with a sign, so that halves go away from zero
abbrev pub signed : Bool → ℕ → ℤ
signed false n = pos n
signed true n = neg_ℤ (pos n)

-- held to 0..255
abbrev pub held : ℤ → ℕ
held (pos n) = min n 255
held (negsuc n) = 0

-- NaN gives 0; the infinities are held as what they exceed
unfoldable pub to_byte : Float → ℕ
to_byte nan = 0
to_byte (inf true) = 0
to_byte (inf false) = 255
to_byte (fin s m e) = held (signed s (nearest_whole (m * up e) (down e)))
