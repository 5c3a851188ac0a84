-- Bytes stored one after another from a place of a text. Assumes nothing.
use mathlib.Core.Path.{◌≡◌, refl, ap, ◌∙◌}
use mathlib.Core.Bool.{Bool, true, false, cond}
use mathlib.Core.List.{List, [], ◌∷◌, ◌++◌, append_assoc, append-nil}
use Prim.Native.Nat.{ℕ, suc, ◌+◌, ◌-◌, ◌*◌, ◌/◌, ◌%◌, ◌<◌, ◌≤◌}
use native.Mathlib.Nat.{zero-add, add-mul, mul_comm, mul-le-mul}
use native.Mathlib.Omega.{arith}
use lib.Dec.{ltb}
use lib.ListN.{length, get_or, take, drop, set, length-append, length-take, length-drop, drop_of_length-le}
use lib.Seq.{sets, sets-eq, drop-drop}
use borrow.Author.Tests.{ltb-true}
use borrow.Rule.Slice.PartMut.{put_mid, mid_of}
use Rattle.rules.specs.Picture.{tabulate, filled}
use Rattle.rules.specs.Frame.{newline, space, decimal, refused_text, edges_text, rows_text, pixel_text, placed}
use Rattle.rules.specs.declared.Size.{Size}
use Rattle.rules.proofs.Fill.{length_tabulate, Filling, filling_part}
use Rattle.rules.proofs.Grid.{row_in_lem, column_of_lem, row_of_lem, part_length, part_at}
use Rattle.frame.specs.Room.{Small, Rows}
use Rattle.frame.proofs.Decimals.{one_digit, more_digits, few_digits, four_digits}

-- first a, then b
sets_append : (a b l : List ℕ) (i : ℕ) → sets (sets l i a) (i + length a) b ≡ sets l i (a ++ b)
sets_append [] b l i = let e : i + 0 ≡ i = omega arith in rw e
sets_append (x ∷ a) b l i = let e : i + suc (length a) ≡ suc i + length a = omega arith in rw e (sets_append a b (set l i x) (suc i))

-- the text so far: the bytes a stand from place i of what was o, and e is the next place
pub record Put (o : List ℕ) (i : ℕ) (a : List ℕ) (e : ℕ) (l : List ℕ) : Type 0 where
  pub place : e ≡ i + length a
  pub is : l ≡ sets o i a

-- b behind them
then : {o a b l r : List ℕ} {i e f : ℕ} → Put o i a e l → Put l e b f r → Put o i (a ++ b) f r
then {o} {a} {b} {i = i} p q =
    record {
      place = omega (arith, length-append a b, p.place, q.place);
      is = q.is ∙ rw (p.place, p.is) (sets_append a b o i);
    }

-- one byte more
pub then_byte : {o a l : List ℕ} {i e : ℕ} (v : ℕ) → Put o i a e l → Put o i (a ++ (v ∷ [])) (e + 1) (set l e v)
then_byte v p = then p (record { place = refl; is = refl })

-- a number's last digit, alone or behind those of its tenth
pub only_digit : {n : ℕ} (o : List ℕ) (i : ℕ) → n < 10 → Put o i (decimal n) (i + 1) (set o i (48 + n))
only_digit {n} o i h = rw (one_digit n h) (record { place = refl; is = refl })

pub last_digit : {n : ℕ} {o l : List ℕ} {i e : ℕ} → 10 ≤ n → Put o i (decimal (n / 10)) e l → Put o i (decimal n) (e + 1) (set l e (48 + n % 10))
last_digit {n} h p = rw (more_digits n h) (then_byte (48 + n % 10) p)

-- from the start: the bytes, then what was behind them
from_start : (p o : List ℕ) → length p ≤ length o → sets o 0 p ≡ p ++ drop (length p) o
from_start p o h = sets-eq p o 0 (omega arith) ∙ rw zero-add

-- bytes that a callee wrote over a part of the text, from a to e
part_sets : (p l part : List ℕ) (a e : ℕ) → e ≡ a + length p → e ≤ length l → part ≡ p ++ drop (length p) (mid_of a (e - a) l)
    → put_mid a (e - a) l part ≡ sets l a p
part_sets p l part a e q h m =
    let k : e - a ≡ length p = omega arith in
    let s : length (take (length p) (drop a l)) ≤ length p = simp (length-take, length-drop) (omega arith) in
    rw (m, k, drop_of_length-le (take (length p) (drop a l)) s, append-nil, drop-drop (length p) a l, sets-eq p l a (omega arith)) (simp append_assoc)

-- the whole written from the start
pub from_first : (p text : List ℕ) {l : List ℕ} {r : ℕ} → length p ≤ length text → Put text 0 p r l → (r, l) ≡ placed p text
from_first p text h q =
    let e : ◌≡◌ {A = ℕ} (0 + length p) (length p) = omega arith in rw (q.place, e, q.is, from_start p text h)

-- ---- the printout's parts

pub length_refused : (n : ℕ) → length (refused_text n) ≡ 9 + length (decimal n)
unfolding refused_text
length_refused n = omega (arith, length-append (decimal n) (newline ∷ []))

-- a number and the byte after it
abbrev pub field : ℕ → ℕ → List ℕ
field n after = decimal n ++ (after ∷ [])

-- a field more
pub field_more : {o a l r : List ℕ} {i e next : ℕ} (n after : ℕ) → Put o i a e l → (next ≡ e + (length (decimal n) + 1)) × (r ≡ sets l e (field n after))
    → Put o i (a ++ field n after) next r
field_more n after p q = then p (record { place = q.0 ∙ simp length-append; is = q.1 })

abbrev pub refused_word : List ℕ
refused_word = 114 ∷ 101 ∷ 102 ∷ 117 ∷ 115 ∷ 101 ∷ 100 ∷ space ∷ []

pub refused_fields : (n : ℕ) → refused_word ++ field n newline ≡ refused_text n
unfolding refused_text
refused_fields n = refl

abbrev pub edges_word : List ℕ
edges_word = 101 ∷ 100 ∷ 103 ∷ 101 ∷ 115 ∷ space ∷ []

pub edges_fields : (d : Size) (count : ℕ) → ((edges_word ++ field d.width space) ++ field d.height space) ++ field count newline ≡ edges_text d count
unfolding edges_text
edges_fields d count = simp append_assoc

pub length_edges : (d : Size) (count : ℕ)
    → length (edges_text d count) ≡ 9 + length (decimal d.width) + length (decimal d.height) + length (decimal count)
unfolding edges_text
length_edges d count = simp length-append (omega arith)

-- so much and no more, which 2,369 bytes hold
pub record Lengths (d : Size) (count : ℕ) : Type 0 where
  pub width : length (decimal d.width) ≤ 2
  pub height : length (decimal d.height) ≤ 2
  pub counted : length (decimal count) ≤ 4
  pub rows : d.height * (d.width + 1) ≤ 2352

pub lengths : {d : Size} {count : ℕ} → Small d count → Lengths d count
lengths {d} {count} s =
    let wide : d.width + 1 ≤ 49 = omega (arith, s.wide) in
    record {
      width = few_digits d.width (omega (arith, s.wide));
      height = few_digits d.height (omega (arith, s.high));
      counted = four_digits count s.few;
      rows = mul-le-mul s.high wide;
    }

module _ (d : Size) (map : List ℕ) where
  abbrev line : ℕ
  line = d.width + 1

  -- what stands at place i of the rows
  abbrev pub shown_at : ℕ → ℕ
  shown_at i = cond (ltb (i % line) d.width) (pixel_text (get_or map (i / line * d.width + i % line) 0)) newline

  pub rows_are : rows_text d map ≡ tabulate (d.height * line) shown_at
  unfolding rows_text
  rows_are = refl

  pub length_rows : length (rows_text d map) ≡ d.height * line
  length_rows = rw rows_are (length_tabulate (d.height * line) shown_at)

  -- row y of the map as it is lent, and what stands at place i of its line
  abbrev row_of : ℕ → List ℕ
  row_of y = take (y * d.width + d.width - y * d.width) (drop (y * d.width) map)

  abbrev line_of : ℕ → ℕ → ℕ
  line_of y i = cond (ltb i (length (row_of y))) (pixel_text (get_or (row_of y) i 0)) newline

  module _ {o : List ℕ} (y : ℕ) (p : Rows d map o) (h : y < d.height) where
    -- row y stands within the map, and its line within the text
    pub source : y * d.width + d.width ≤ length map
    source = omega (arith, row_in_lem y d.width d.height h, p.whole)

    target : y * line + line ≤ d.height * line
    target = omega (arith, row_in_lem y line d.height h, mul_comm line d.height)

    pub room : (y * line + line ≤ length o) × (d.height * line ≤ 2352)
    room = let wide : line ≤ 49 = omega (arith, p.wide) in (omega (arith, target, p.room), mul-le-mul p.high wide)

    pub row_long : length (row_of y) ≡ d.width
    row_long = part_length map (y * d.width) (y * d.width + d.width) d.width refl source

    row_at : (i : ℕ) → i < line → line_of y i ≡ shown_at (y * line + i)
    row_at i k = rw (column_of_lem y k, row_of_lem y k, row_long) (go (ltb i d.width) refl)
      where
        go : (b : Bool) → ltb i d.width ≡ b → cond b (pixel_text (get_or (row_of y) i 0)) newline ≡ cond b (pixel_text (get_or map (y * d.width + i) 0)) newline
        go true e = ap pixel_text (part_at map (y * d.width) (y * d.width + d.width) d.width refl i 0 (ltb-true i d.width e))
        go false e = refl

    -- a row more
    pub rows_more : {l part : List ℕ} → Filling (d.height * line) (y * line) shown_at o l
        → part ≡ filled (length (row_of y) + 1) (line_of y) (mid_of (y * line) (y * line + line - y * line) l)
        → Filling (d.height * line) ((y + 1) * line) shown_at o (put_mid (y * line) (y * line + line - y * line) l part)
    rows_more {l} {part} f q =
        let e : (y + 1) * line ≡ y * line + line = omega (arith, add-mul y 1 line) in
        let mid = mid_of (y * line) (y * line + line - y * line) l in
        rw e (filling_part p.room target f (q ∙ ap (λ (m : ℕ). filled (m + 1) (line_of y) mid) row_long) row_at)

  -- the rows behind the head, written over a part of the text
  pub head_and_rows : (count : ℕ) (o l part : List ℕ) (a n : ℕ) → n ≤ length o → n ≡ a + d.height * line → length l ≡ length o
      → (a ≡ length (edges_text d count)) × (l ≡ sets o 0 (edges_text d count)) → part ≡ rows_text d map ++ drop (d.height * line) (mid_of a (n - a) l)
      → (n, put_mid a (n - a) l part) ≡ placed (edges_text d count ++ rows_text d map) o
  head_and_rows count o l part a n h e k p m =
      let r = length_rows in
      let head : Put o 0 (edges_text d count) a l = record { place = omega (arith, p.0); is = p.1 } in
      let rows : Put l a (rows_text d map) n (put_mid a (n - a) l part) =
      record { place = omega (arith, p.0); is = part_sets (rows_text d map) l part a n (omega (arith, p.0)) (omega arith) (rw (← r) at m) } in
      from_first (edges_text d count ++ rows_text d map) o (omega (arith, length-append (edges_text d count) (rows_text d map), p.0)) (then head rows)
