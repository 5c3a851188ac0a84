-- An f32 held to 0..255, and a whole number nearest to it.
use Rattle.std.specs.Prelude.{ℕ, ◌+◌, ◌*◌, ◌≤◌, false, cond, ℤ, Float}
use Rattle.std.specs.Float.{fin, binary32}
use Rattle.std.specs.Float.Ieee.{lt, of_bits, up, down}
use Rattle.rules.specs.Sums.{plus_zero}

-- 255.0
abbrev pub top : Float
top = of_bits binary32 0x437f_0000

-- NaN and what is not positive give plus zero
unfoldable pub held_of : Float → Float
held_of v = cond (lt plus_zero v) (cond (lt v top) v top) plus_zero

-- from 0 to 255
pub data Small : Float → Type 0 where
  small : {m : ℕ} {e : ℤ} → m * up e ≤ 255 * down e → Small (fin false m e)

-- n is a whole number nearest to the float: at most a half away
pub data Near : Float → ℕ → Type 0 where
  near : {m n : ℕ} {e : ℤ} → n ≤ 255 → 2 * (n * down e) ≤ 2 * (m * up e) + down e → 2 * (m * up e) ≤ 2 * (n * down e) + down e → Near (fin false m e) n
