-- A row of what is made of the nine about each column. Assumes nothing.
use mathlib.Core.Path.{◌≡◌, ap, ◌∙◌}
use mathlib.Core.List.{List}
use Prim.Native.Nat.{ℕ, ◌+◌, ◌-◌, ◌*◌, ◌<◌, ◌≤◌}
use native.Mathlib.Omega.{arith}
use lib.ListN.{length, set}
use borrow.Rule.Slice.PartMut.{put_mid, mid_of}
use Rattle.rules.specs.Picture.{area, by_pixel, filled}
use Rattle.rules.specs.declared.Size.{Size}
use Rattle.rules.proofs.ByRows.{ByRows, by_rows_start, by_rows_more}
use native.Mathlib.Nat.{add-mul, zero-mul}
use Rattle.rules.proofs.Fill.{Filling, filling_more, filling_end, fill_whole, length_filled}
use Rattle.rules.specs.Gradient.{gx_table, gy_table}
use Rattle.pixel.specs.Components.{component}
use Rattle.gradient.specs.Nine.{Three, nine_in}
use Rattle.gradient.specs.Rows.{component_in}
use lib.IntN.{ℤ}
use mir.Syntax.{w16}
use mir.Val.{SFits, to_z, of_z}
use mir.ValLaws.{to_z-of_z}

-- a block of a row, lent from a to e
pub filling_block : {A : Type 0} {n a : ℕ} (e : ℕ) {f : ℕ → A} (g : ℕ → A) {o l part : List A} → Filling n a f o l → a ≤ e → e ≤ n → n ≤ length o
    → part ≡ filled (length (mid_of a (e - a) l)) g (mid_of a (e - a) l) → ((i : ℕ) → a + i < e → g i ≡ f (a + i)) → Filling n e f o (put_mid a (e - a) l part)
filling_block {a = a} e {f} g {o} {l} p h k m q r =
    let t = fill_whole a e f g o l h (omega arith) p.is q r in
    record { within = k; same = ap length t ∙ length_filled e f o (omega arith); is = t }

-- a loop goes on from where the one before it stopped
pub filling_from : {A : Type 0} {n i j : ℕ} {f : ℕ → A} {o l : List A} → Filling n i f o l → i ≡ j → Filling n j f o l
filling_from p e = rw e at p

-- a buffer filled row by row, whose row y is lent from y * width on
pub by_rows_first : {A : Type 0} {d : Size} {f : ℕ → ℕ → A} {o : List A} → area d ≤ length o → ByRows d 0 (0 * d.width) f o o
by_rows_first {d = d} h = rw (zero-mul d.width) (by_rows_start h)

-- a picture without columns has no row to fill
pub by_rows_none : {A : Type 0} (d : Size) (f : ℕ → ℕ → A) (o : List A) → area d ≤ length o → d.width ≡ 0 → o ≡ filled (area d) (by_pixel d f) o
by_rows_none d f o h e = let z : area d ≡ 0 = rw e (zero-mul d.height) in filling_end (by_rows_start {f = f} h).filling (omega (arith, z))

pub by_rows_next : {A : Type 0} {d : Size} {f : ℕ → ℕ → A} {o l part : List A} {y : ℕ} → ByRows d y (y * d.width) f o l → y < d.height
    → part ≡ filled d.width (λ x. f x y) (mid_of (y * d.width) (y * d.width + d.width - y * d.width) l)
    → ByRows d (y + 1) ((y + 1) * d.width) f o (put_mid (y * d.width) (y * d.width + d.width - y * d.width) l part)
by_rows_next {d = d} {y = y} p h q = let e : (y + 1) * d.width ≡ y * d.width + d.width = omega (arith, add-mul y 1 d.width) in rw e (by_rows_more p h q)

-- ---- both components of a row, after x columns

abbrev pub BothFilled : Three → ℕ → List ℤ → List ℤ → List ℤ → List ℤ → Type 0
BothFilled t x gx gy l m = Filling (length gx) x (component_in gx_table t) gx l × Filling (length gy) x (component_in gy_table t) gy m

-- one column more, from the nine about it; the components go by their bits
pub both_more : (t : Three) (gx gy : List ℤ) {x : ℕ} {l m : List ℤ} {nine : List ℕ} (a b : ℤ) → x < length gx → x < length gy → BothFilled t x gx gy l m → SFits w16 a → SFits w16 b
    → nine ≡ nine_in t x → a ≡ component gx_table nine → b ≡ component gy_table nine
    → BothFilled t (x + 1) gx gy (set l x (to_z w16 (of_z w16 a))) (set m x (to_z w16 (of_z w16 b)))
both_more t gx gy a b h k p f g n q r = (
  filling_more (omega arith) h p.0 (to_z-of_z w16 _ f ∙ q ∙ ap (component gx_table) n),
  filling_more (omega arith) k p.1 (to_z-of_z w16 _ g ∙ r ∙ ap (component gy_table) n),
)
