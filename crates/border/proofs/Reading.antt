-- Samples by the places of their columns and rows, as `place` and `read` give them. Assumes nothing.
use mathlib.Core.Path.{◌≡◌, refl, sym, ap, ◌∙◌}
use mathlib.Core.Bool.{Bool, true, false, cond}
use mathlib.Core.List.{List}
use Prim.Native.Nat.{ℕ, ◌+◌, ◌*◌, ◌<◌, ◌≤◌}
use native.Mathlib.Omega.{arith}
use borrow.Author.Tests.{lt-ltb, le-ltb, ne_eqb}
use lib.Dec.{ltb, eqb}
use lib.ListN.{get_or}
use lib.IntN.{ℤ, pos, ◌-ℤ◌}
use mir.Syntax.{w32, w64}
use mir.Val.{Fits, to_z, of_z}
use Rattle.rules.specs.Limits.{max_side}
use Rattle.rules.specs.Border.{resolved, coord_says, entry_at, sample_at, byte_sample}
use Rattle.rules.specs.Refusals.{first}
use Rattle.rules.specs.Calls.{resolve_coord}
use Rattle.rules.specs.declared.Size.{Size}
use Rattle.rules.specs.declared.BorderMode.{BorderMode}
use Rattle.rules.specs.declared.Coord.{Coord}
use Rattle.rules.specs.declared.Coord.TheVariants.{At, Nothing, Refused}
use Rattle.rules.proofs.Border.{Within, resolved_within}
use Rattle.rules.proofs.Sampling.{place_in}
use Rattle.rules.proofs.Signed.{diff_back}
use Rattle.rules.proofs.Rows.{input_fits}
use Rattle.border.specs.Reading.{or_side, placed, read_at, read_in}
use Rattle.refusals.specs.Rows.{Picture, picture_rows}

-- the place of a case v of what `resolve_coord` gave, whose signed argument goes by its bits
pub place_case : (mode : BorderMode) (side : ℕ) {a b : ℕ} {r v : Coord} → Fits w32 a → Fits w32 b
    → coord_says r ≡ resolve_coord (to_z w64 (of_z w64 (to_z w64 a -ℤ to_z w64 b))) side mode → r ≡ v
    → or_side side (coord_says v).1 ≡ placed mode (pos a -ℤ pos b) side
unfolding placed
place_case mode side {a} {b} f g e q = ap (λ (o : ℕ × _). or_side side o.1) (ap coord_says (sym q) ∙ (rw (diff_back a b (omega arith) (omega arith)) at e))

-- of a side that is not refused
pub placed_is : (mode : BorderMode) (c : ℤ) (side : ℕ) → 0 < side → side ≤ max_side → placed mode c side ≡ place_in side (resolved mode c side)
unfolding placed resolve_coord
placed_is mode c side p q =
    let n : eqb side 0 ≡ false = ne_eqb side 0 (λ w. omega arith) in
    rw (n, le-ltb max_side side q) (go (resolved mode c side))
  where
    go : (r : Coord) → or_side side (coord_says r).1 ≡ place_in side r
    go (At i) = refl
    go Nothing = refl
    go Refused = refl

module _ (d : Size) (pixels : List ℕ) where
  -- a byte is read, or 0
  pub read_byte : ((i : ℕ) → get_or pixels i 0 < 256) → (x y : ℕ) → read_in pixels d x y < 256
  unfolding read_in
  read_byte byte x y = go (eqb (first (picture_rows d pixels)) 0) (ltb x d.width) (ltb y d.height)
    where
      go : (n a b : Bool) → cond n (cond a (cond b (get_or pixels (y * d.width + x) 0) 0) 0) 0 < 256
      go true true true = byte (y * d.width + x)
      go true true false = omega arith
      go true false b = omega arith
      go false a b = omega arith

  -- nowhere is at the side's own number, so it is not below the side
  at_places : (cx cy : Coord) → Within d.width cx → Within d.height cy
      → read_at pixels d (place_in d.width cx) (place_in d.height cy) ≡ entry_at 0 (λ i. get_or pixels i 0) d.width cx cy
  at_places (At x) (At y) h k = rw (lt-ltb x d.width h, lt-ltb y d.height k)
  at_places (At x) Nothing h k = let l : d.height ≤ d.height = omega arith in rw (lt-ltb x d.width h, le-ltb d.height d.height l)
  at_places (At x) Refused h k = absurd k
  at_places Nothing cy h k = let l : d.width ≤ d.width = omega arith in rw (le-ltb d.width d.width l)
  at_places Refused cy h k = absurd h

  module _ (p : Picture d pixels) where
    -- of a picture that is not refused
    pub read_in_lem : (x y : ℕ) → read_in pixels d x y ≡ read_at pixels d x y
    unfolding read_in
    read_in_lem x y = rw (le-ltb max_side d.width p.sides.width, le-ltb max_side d.height p.sides.height, input_fits d pixels p.long)

    -- the sample at two coordinates
    pub read_is : (mode : BorderMode) (cx cy : ℤ) → 0 < d.width → 0 < d.height
        → read_in pixels d (placed mode cx d.width) (placed mode cy d.height) ≡ byte_sample pixels d mode cx cy
    unfolding sample_at
    read_is mode cx cy w h =
        rw (read_in_lem, placed_is mode cx d.width w p.sides.width, placed_is mode cy d.height h p.sides.height)
        (at_places (resolved mode cx d.width) (resolved mode cy d.height) (resolved_within mode cx d.width w) (resolved_within mode cy d.height h))
