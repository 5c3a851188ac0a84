-- Tables of refusals: a number 0 says that no row applies, and each row then gives its fact; and how the code goes down a table. Assumes nothing.
use mathlib.Core.Path.{◌≡◌, refl, sym, ap, ◌∙◌}
use mathlib.Core.Bool.{Bool, true, false, not, ◌&&◌, ◌||◌, cond}
use mathlib.Core.List.{List, [], ◌∷◌, ◌++◌}
use Prim.Native.Nat.{ℕ, ◌*◌, ◌%◌, ◌<◌, ◌≤◌}
use native.Mathlib.Omega.{arith}
use native.Mathlib.Nat.{mul-le-mul}
use lib.Dec.{T, ltb, eqb, ltb→lt}
use lib.ListN.{length}
use mir.Syntax.{w64}
use mir.Val.{Fits}
use lib.Ieee.{Float}
use lib.Ieee.Fits.{and_l, and_r}
use borrow.Author.Tests.{ltb-false, eqb-true, eqb-false, not-false, eq-eqb, ne_eqb, lt-ltb, le-ltb}
use Rattle.rules.specs.Limits.{max_side, max_area}
use Rattle.rules.specs.Picture.{entries}
use Rattle.rules.specs.Accepted.{Sides, Input, Room}
use Rattle.rules.specs.Refusals.{Rule, first, side_row, input_row, count_row, match_row, room_row}
use Rattle.rules.specs.declared.Size.{Size}
use Rattle.rules.proofs.Bools.{neither}

-- each row has a number of its own
abbrev pub numbered : List Rule → Bool
numbered [] = true
numbered (r ∷ rs) = ltb 0 r.number && numbered rs

-- no row applies
abbrev pub Off : List Rule → Type 0
Off [] = Unit
Off (r ∷ rs) = (r.applies ≡ false) × Off rs

passed : (b : Bool) (n rest : ℕ) → 0 < n → cond b n rest ≡ 0 → (b ≡ false) × (rest ≡ 0)
passed true n rest h e = absurd (omega arith)
passed false n rest h e = (refl, e)

pub off : (rs : List Rule) → T (numbered rs) → first rs ≡ 0 → Off rs
off [] t e = tt
off (r ∷ rs) t e =
    let p = passed r.applies r.number (first rs) (ltb→lt 0 r.number (and_l (ltb 0 r.number) (numbered rs) t)) e in
    (p.0, off rs (and_r (ltb 0 r.number) (numbered rs) t) p.1)

-- and where no row applies the number is 0
pub none : (rs : List Rule) → Off rs → first rs ≡ 0
none [] o = refl
none (r ∷ rs) o = rw o.0 (none rs o.1)

-- a table in two parts: the number of the first part, where one of its rows applies, else that of the second
pub front_refuses : (rs rest : List Rule) {r : ℕ} → r ≡ first rs → (r ≡ 0 → ⊥) → r ≡ first (rs ++ rest)
front_refuses [] rest e n = absurd (n e)
front_refuses (x ∷ rs) rest {r} e n = go x.applies e (λ q. front_refuses rs rest q n)
  where
    go : (b : Bool) → r ≡ cond b x.number (first rs) → (r ≡ first rs → r ≡ first (rs ++ rest)) → r ≡ cond b x.number (first (rs ++ rest))
    go true q k = q
    go false q k = k q

pub front_passes : (rs rest : List Rule) → Off rs → first (rs ++ rest) ≡ first rest
front_passes [] rest o = refl
front_passes (x ∷ rs) rest o = rw o.0 (front_passes rs rest o.1)

-- ---- what a row that does not apply says

pub side_off : (d : Size) → (side_row d).applies ≡ false → Sides d
side_off d e =
    let p = neither (ltb max_side d.width) (ltb max_side d.height) e in
    let w = ltb-false max_side d.width p.0 in
    let h = ltb-false max_side d.height p.1 in
    record { width = w; height = h; small = mul-le-mul w h }

pub input_off : {A : Type 0} (d : Size) (l : List A) → (input_row d l).applies ≡ false → Input d l
input_off d l e = eqb-true (length l) (entries d) (not-false _ e)

pub room_off : {A : Type 0} (d : Size) (l : List A) → (room_row d l).applies ≡ false → Room d l
room_off d l e = ltb-false (length l) (entries d) e

-- and the fact that keeps a row from applying
pub input_fits : {A : Type 0} (d : Size) (l : List A) → Input d l → (input_row d l).applies ≡ false
input_fits d l e = ap not (eq-eqb (length l) (entries d) e)

pub record Odd (most n : ℕ) : Type 0 where
  pub some : 0 < n
  pub odd : n % 2 ≡ 1
  pub few : n ≤ most

pub count_off : (most n : ℕ) → (count_row most n).applies ≡ false → Odd most n
count_off most n e =
    let p = neither (eqb n 0) _ e in
    let q = neither (eqb (n % 2) 0) (ltb most n) p.1 in
    let z = eqb-false n 0 p.0 in
    let o = eqb-false (n % 2) 0 q.0 in
    record { some = omega arith; odd = omega arith; few = ltb-false most n q.1 }

pub match_off : (n : ℕ) (l : List Float) → (match_row n l).applies ≡ false → length l ≡ n
match_off n l e = eqb-true (length l) n (not-false _ e)

-- ---- down a table in code: `search rows` closes what a test returns, `search rows depth 9` where the table is long

-- a row that applies ends it, one that does not is passed
pub on : {b : Bool} {n : ℕ} (rest : ℕ) → b ≡ true → n ≡ cond b n rest
on rest e = rw e

pub past : {b : Bool} {r : ℕ} (n : ℕ) {rest : ℕ} → b ≡ false → r ≡ rest → r ≡ cond b n rest
past n e q = rw e q

-- whether a row applies, by the answer of a function or of two, or by a fact of numbers
pub told : {a x v : Bool} → x ≡ a → x ≡ v → a ≡ v
told p q = sym p ∙ q

pub told_or : {a b x y v : Bool} → x ≡ a → y ≡ b → (x || y) ≡ v → (a || b) ≡ v
told_or p q e = rw (← p, ← q) e

pub eq_not : (a b : ℕ) → a ≡ b → not (eqb a b) ≡ false
eq_not a b e = ap not (eq-eqb a b e)

pub ne_not : (a b : ℕ) → (a ≡ b → ⊥) → not (eqb a b) ≡ true
ne_not a b n = ap not (ne_eqb a b n)

-- where no side is over the limit their product is small, and fits
module _ (w h : ℕ) {x : Bool} (p : x ≡ (ltb max_side w || ltb max_side h)) (q : x ≡ false) where
  pub small : w * h ≤ max_area
  small = (side_off (record { width = w; height = h }) (told p q)).small

  pub small_fits : Fits w64 (w * h)
  small_fits = record { fits = omega (arith, small) }

pub ruleset rows = (tt, on, past, told, lt-ltb, le-ltb, eq-eqb, ne_eqb, eq_not, ne_not, small, small_fits)

-- rows of one number are one row, so `simp joined` goes before the search where the code tests them together
pub joined : (n : ℕ) (a b : Bool) (r : ℕ) → cond a n (cond b n r) ≡ cond (a || b) n r
joined n true b r = refl
joined n false b r = refl

-- tests joined by `or`, one after the other
pub or_on : {a : Bool} (b : Bool) → a ≡ true → true ≡ (a || b)
or_on b e = rw e

pub or_past : {a b r : Bool} → a ≡ false → r ≡ b → r ≡ (a || b)
or_past e q = rw e q

pub ruleset ors = (or_on, or_past, told, lt-ltb, le-ltb)
