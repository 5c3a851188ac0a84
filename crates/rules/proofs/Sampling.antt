-- Samples by the places of their two coordinates: inside both the picture's entry, else zero. Assumes nothing.
use mathlib.Core.Path.{◌≡◌, refl, sym, ap, ◌∙◌}
use Prim.Native.Nat.{ℕ, ◌+◌, ◌*◌, ◌<◌, ◌≤◌}
use native.Mathlib.Omega.{arith}
use lib.IntN.{ℤ}
use Rattle.rules.specs.Border.{resolved, entry_at, sample_at}
use Rattle.rules.specs.declared.Size.{Size}
use Rattle.rules.specs.declared.BorderMode.{BorderMode}
use Rattle.rules.specs.declared.Coord.{Coord}
use Rattle.rules.specs.declared.Coord.TheVariants.{At, Nothing, Refused}
use Rattle.rules.proofs.Border.{Within, resolved_within}

-- a resolved coordinate as a number: the side itself stands for nowhere
abbrev pub place_in : ℕ → Coord → ℕ
place_in side (At i) = i
place_in side Nothing = side
place_in side Refused = side

place_in_lem : (side : ℕ) (c : Coord) → place_in side c < side → c ≡ At (place_in side c)
place_in_lem side (At i) h = refl
place_in_lem side Nothing h = absurd (omega arith)
place_in_lem side Refused h = absurd (omega arith)

place_out : (side : ℕ) (c : Coord) → Within side c → side ≤ place_in side c → c ≡ Nothing
place_out side (At i) w h = absurd (omega arith)
place_out side Nothing w h = refl
place_out side Refused w h = absurd w

-- a coordinate of a side, by its place p
module _ (mode : BorderMode) (z : ℤ) (side p : ℕ) (e : p ≡ place_in side (resolved mode z side)) where
  pub inside : p < side → resolved mode z side ≡ At p
  inside h = place_in_lem side (resolved mode z side) (rw e at h) ∙ ap At (sym e)

  pub outside : 0 < side → side ≤ p → resolved mode z side ≡ Nothing
  outside s h = place_out side (resolved mode z side) (resolved_within mode z side s) (rw e at h)

-- a row outside, with any column
no_row : {A : Type 0} (z : A) (at : ℕ → A) (w : ℕ) (c : Coord) → z ≡ entry_at z at w c Nothing
no_row z at w (At x) = refl
no_row z at w Nothing = refl
no_row z at w Refused = refl

module _ {A : Type 0} (z : A) (at : ℕ → A) (d : Size) (mode : BorderMode) (cx cy : ℤ) where
  pub below : resolved mode cy d.height ≡ Nothing → z ≡ sample_at z at d mode cx cy
  unfolding sample_at
  below e = rw e (no_row z at d.width (resolved mode cx d.width))

  pub cell : (x y : ℕ) → resolved mode cx d.width ≡ At x → resolved mode cy d.height ≡ At y → at (y * d.width + x) ≡ sample_at z at d mode cx cy
  unfolding sample_at
  cell x y e f = rw (e, f)
