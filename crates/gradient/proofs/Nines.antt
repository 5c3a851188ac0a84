-- The nine bytes about a pixel, taken from its row and those above and below it, are the definition's samples. Assumes nothing.
use mathlib.Core.Path.{◌≡◌, refl, sym, ap, ap₂, ◌∙◌}
use mathlib.Core.Bool.{Bool, true, false, cond}
use mathlib.Core.List.{List, [], ◌∷◌}
use Prim.Native.Nat.{ℕ, ◌+◌, ◌-◌, ◌*◌, ◌<◌, ◌≤◌}
use native.Mathlib.Omega.{arith}
use lib.Dec.{ltb}
use lib.ListN.{length, get_or, take, drop, length-take, length-drop, get_or-eq_default}
use lib.Seq.{get_or-take, get_or-drop}
use lib.IntN.{ℤ, pos, ◌-ℤ◌}
use borrow.Author.Tests.{ltb-true, ltb-false, lt-ltb}
use Rattle.rules.specs.Limits.{max_side}
use Rattle.rules.specs.Picture.{tabulate, filled}
use Rattle.rules.specs.Border.{byte_sample, under}
use Rattle.rules.specs.Gradient.{gx_table, gy_table, sum_z, gradient_term, gradient_at, energy}
use Rattle.rules.specs.Root.{sobel_byte}
use Rattle.rules.specs.Calls.{sobel_at}
use Rattle.rules.specs.declared.Size.{Size}
use Rattle.rules.specs.declared.BorderMode.{BorderMode}
use Rattle.rules.proofs.Fill.{recount}
use Rattle.rules.proofs.Grid.{row_in_lem}
use Rattle.rules.proofs.Border.{diff, resolved_inside}
use Rattle.refusals.specs.Rows.{Picture}
use Rattle.border.specs.Reading.{placed, read_at}
use Rattle.border.proofs.Reading.{placed_is, read_in_lem, read_is}
use Rattle.pixel.specs.Components.{component, nine_energy}
use Rattle.pixel.specs.Halving.{held}
use Rattle.pixel.proofs.Halving.{held_byte}
use Rattle.gradient.specs.Nine.{Three, three_about, nine_about, row_in, nine_of, nine_in}

pub nine_same : {a b c d e f g h i a' b' c' d' e' f' g' h' i' : ℕ} → a ≡ a' → b ≡ b' → c ≡ c' → d ≡ d' → e ≡ e' → f ≡ f' → g ≡ g' → h ≡ h' → i ≡ i'
    → ◌≡◌ {A = List ℕ} (a ∷ b ∷ c ∷ d ∷ e ∷ f ∷ g ∷ h ∷ i ∷ []) (a' ∷ b' ∷ c' ∷ d' ∷ e' ∷ f' ∷ g' ∷ h' ∷ i' ∷ [])
nine_same p q r s t u v w x = cc

-- ---- places: a coordinate inside is its own

own : (mode : BorderMode) (at c side : ℕ) → at ≡ c + 1 → c < side → side ≤ max_side → placed mode (pos at -ℤ pos 1) side ≡ c
own mode at c side e h l =
    let p : at - 1 ≡ c = omega arith in
    rw (placed_is mode (pos at -ℤ pos 1) side (omega arith) l, diff at 1 (omega arith), p, resolved_inside mode c side h)

-- the columns beside an inner column are its own
pub beside_is : (t : Three) (x : ℕ) → 0 < x → x + 1 < length t.row → length t.row ≤ max_side → nine_of t (x - 1) x (x + 1) ≡ nine_in t x
unfolding nine_in
beside_is t x h k l =
    rw (own t.mode (x + 0) (x - 1) (length t.row) (omega arith) (omega arith) l, own t.mode (x + 2) (x + 1) (length t.row) (omega arith) k l)

-- ---- rows

-- a byte of a row
row_byte : (d : Size) (pixels : List ℕ) (x y : ℕ) → get_or (row_in d pixels y) x 0 ≡ read_at pixels d x y
unfolding row_in
row_byte d pixels x y = go (ltb y d.height) (ltb x d.width) refl
  where
    go : (b c : Bool) → ltb x d.width ≡ c
        → get_or (cond b (take d.width (drop (y * d.width) pixels)) []) x 0 ≡ cond c (cond b (get_or pixels (y * d.width + x) 0) 0) 0
    go true true e = get_or-take d.width (drop (y * d.width) pixels) x 0 (ltb-true x d.width e) ∙ get_or-drop (y * d.width) pixels x 0
    go true false e =
        let l = ltb-false x d.width e in
        get_or-eq_default (take d.width (drop (y * d.width) pixels)) 0 (simp (length-take, length-drop) (omega arith))
    go false true e = refl
    go false false e = refl

module _ (d : Size) (mode : BorderMode) (pixels : List ℕ) (p : Picture d pixels) where
  pub row_length : (y : ℕ) → y < d.height → length (row_in d pixels y) ≡ d.width
  unfolding row_in
  row_length y h = rw (lt-ltb y d.height h) (simp (length-take, length-drop) (omega (arith, p.long, row_in_lem y d.width d.height h)))

  -- a sample, by the row that it stands in
  sample : (cx cy : ℤ) → 0 < d.width → 0 < d.height → get_or (row_in d pixels (placed mode cy d.height)) (placed mode cx d.width) 0 ≡ byte_sample pixels d mode cx cy
  sample cx cy w h = row_byte d pixels _ _ ∙ sym (read_in_lem d pixels p _ _) ∙ read_is d pixels p mode cx cy w h

  module _ (x y : ℕ) (inx : x < d.width) (iny : y < d.height) where
    -- place (i, j) of the nine
    place : (i j : ℕ) {a b : ℕ} → a ≡ placed mode (under x 3 i) d.width → b ≡ placed mode (under y 3 j) d.height
        → get_or (row_in d pixels b) a 0 ≡ byte_sample pixels d mode (under x 3 i) (under y 3 j)
    place i j e f = rw (e, f) (sample _ _ (omega arith) (omega arith))

    pub nine_is : nine_in (three_about d mode pixels y) x ≡ nine_about d mode pixels x y
    unfolding nine_in nine_about tabulate three_about
    nine_is =
        let m = sym (own mode (x + 1) x d.width refl inx p.sides.width) in
        let n = sym (own mode (y + 1) y d.height refl iny p.sides.height) in
        rw (row_length y iny)
        (nine_same (place 0 0 refl refl) (place 1 0 m refl) (place 2 0 refl refl) (place 0 1 refl n) (place 1 1 m n) (place 2 1 refl n)
        (place 0 2 refl refl) (place 1 2 m refl) (place 2 2 refl refl))

  -- the row of those about row y
  pub about_row : (y : ℕ) → y < d.height → length (three_about d mode pixels y).row ≡ d.width
  unfolding three_about
  about_row y h = row_length y h

  -- a row of what F makes of the nine
  pub row_is : {A : Type 0} (F : List ℕ → A) (G : ℕ → A) (y n : ℕ) (o : List A) {r : List A} → y < d.height → n ≡ d.width
      → ((x : ℕ) → F (nine_about d mode pixels x y) ≡ G x) → r ≡ filled n (λ x. F (nine_in (three_about d mode pixels y) x)) o → r ≡ filled d.width G o
  row_is F G y n o h w e q = recount d.width _ G o _ (rw w at q) (λ x l. ap F (nine_is x y l h) ∙ e x)

-- ---- what is made of the nine

module _ (d : Size) (mode : BorderMode) (pixels : List ℕ) (x y : ℕ) {nine : List ℕ} (e : nine ≡ nine_about d mode pixels x y) where
  -- a component of the nine bytes about (x, y), through the border
  pub about : (table : List ℤ) → component table nine ≡ gradient_at table d mode pixels x y
  unfolding component nine_about gradient_at gradient_term tabulate sum_z
  about table = ap (component table) e

  -- and Sobel's byte of their S
  pub byte_about : sobel_byte (held (nine_energy nine)) ≡ sobel_at d mode pixels x y
  unfolding sobel_at
  byte_about = held_byte _ ∙ ap sobel_byte (ap₂ energy (about gx_table) (about gy_table))
