-- Buffers written from one index to another: a store at the end, a second run after the first, and a run of all pixels. Assumes nothing.
use mathlib.Core.Path.{◌≡◌, refl, sym, ap, ◌∙◌}
use mathlib.Core.List.{List, ◌++◌, append_assoc}
use Prim.Native.Nat.{ℕ, suc, ◌+◌, ◌-◌, ◌*◌, ◌<◌, ◌≤◌}
use native.Mathlib.Numerals.{add-one}
use native.Mathlib.Nat.{add-zero, add-mul, mul_comm}
use native.Mathlib.Omega.{arith}
use lib.ListN.{length, get_or, take, drop, set, length-append, length-take, length-drop, length-set, take-append-drop}
use lib.Seq.{drop-cons, set_at, take_at, drop_at, drop-drop}
use Rattle.rules.specs.Limits.{max_area}
use Rattle.rules.specs.Picture.{tabulate, filled, area}
use Rattle.rules.specs.declared.Size.{Size}
use Rattle.rules.proofs.Grid.{row_in_lem}
use Rattle.rules.proofs.Fill.{length_tabulate, tabulate_cong, tabulate_add}
use Rattle.border.specs.Lent.{written, written_row}
use Rattle.refusals.specs.Rows.{Picture}

module _ {A : Type 0} (a : ℕ) (g : ℕ → A) (o : List A) where
  -- nothing yet
  write_start : o ≡ written a a g o
  unfolding written tabulate
  write_start = let e : a - a ≡ 0 = omega arith in rw e (sym (take-append-drop a o))

  -- what stands before index e, and how long it is
  front : ℕ → List A
  front e = take a o ++ tabulate (e - a) (λ k. g (a + k))

  front_length : (e : ℕ) → a ≤ e → e ≤ length o → length (front e) ≡ e
  unfolding front
  front_length e h l = simp (length-append, length-take, length_tabulate) (omega arith)

  written_is : (e : ℕ) → written a e g o ≡ front e ++ drop e o
  unfolding written front
  written_is e = simp append_assoc

  length_written : (e : ℕ) → a ≤ e → e ≤ length o → length (written a e g o) ≡ length o
  length_written e h l = ap length (written_is e) ∙ simp (length-append, length-drop) (omega (arith, front_length e h l))

  -- a longer front
  front_add : (b e : ℕ) → a ≤ b → b ≤ e → front e ≡ front b ++ tabulate (e - b) (λ k. g (b + k))
  unfolding front
  front_add b e h l =
      let n : e - a ≡ b - a + (e - b) = omega arith in
      rw (n, tabulate_add (b - a) (e - b) (λ k. g (a + k)), tabulate_cong (e - b) (λ k. g (a + (b - a + k))) (λ k. g (b + k)) (λ k p. ap g (omega arith)))
      (simp append_assoc)

  -- one more, at i
  write_more : (i : ℕ) (l : List A) (v : A) → a ≤ i → i < length o → l ≡ written a i g o → v ≡ g i → set l i v ≡ written a (i + 1) g o
  unfolding tabulate
  write_more i l v h k p q =
      let n : i + 1 - i ≡ 1 = omega arith in
      let s = set_at (front i) (get_or o i v) (drop (suc i) o) v i (front_length i h (omega arith)) in
      rw (p, written_is i, drop-cons o i v k, s, written_is (i + 1), front_add i (i + 1) h (omega arith), n, q, add-one i) (simp (add-zero, append_assoc))

  -- the same entries by another account
  pub rewrite_as : (f : ℕ → A) (e : ℕ) (l : List A) → a ≤ e → l ≡ written a e g o → ((i : ℕ) → a ≤ i → i < e → g i ≡ f i) → l ≡ written a e f o
  unfolding written
  rewrite_as f e l h p q = p ∙ rw (tabulate_cong (e - a) (λ k. g (a + k)) (λ k. f (a + k)) (λ k m. q (a + k) (omega arith) (omega arith)))

  -- a second run goes on where the first ended
  pub write_on : (b e : ℕ) (l r : List A) → a ≤ b → b ≤ e → e ≤ length o → l ≡ written a b g o → r ≡ written b e g l → r ≡ written a e g o
  unfolding written
  write_on b e l r h k m p q =
      let n = front_length b h (omega arith) in
      let s = p ∙ written_is b in
      let t : take b l ≡ front b = ap (take b) s ∙ take_at (front b) (drop b o) b n in
      let u : drop b l ≡ drop b o = ap (drop b) s ∙ drop_at (front b) (drop b o) b n in
      let z : b + (e - b) ≡ e = omega arith in
      let d : drop e l ≡ drop e o = rw (← z, ← drop-drop (e - b) b l, u, drop-drop (e - b) b o) refl in
      q ∙ rw (t, d, written_is e, front_add b e h k) (simp append_assoc)

-- THE INVARIANT of a loop that writes the entries from a to e, before entry i
pub record Writing {A : Type 0} (a e i : ℕ) (g : ℕ → A) (o l : List A) : Type 0 where
  pub from : a ≤ i
  pub within : i ≤ e
  pub same : length l ≡ length o
  pub is : l ≡ written a i g o

pub writing_start : {A : Type 0} {a e : ℕ} {g : ℕ → A} {o : List A} → a ≤ e → Writing a e a g o o
writing_start {A} {a} {e} {g} {o} h = record { from = omega arith; within = h; same = refl; is = write_start a g o }

pub writing_more : {A : Type 0} {a e i : ℕ} {g : ℕ → A} {o l : List A} {v : A} → e ≤ length o → i < e → Writing a e i g o l → v ≡ g i
    → Writing a e (i + 1) g o (set l i v)
writing_more {A} {a} {e} {i} {g} {o} {l} {v} h k p q =
    let f = p.from in
    record { from = omega arith; within = omega arith; same = length-set l i v ∙ p.same; is = write_more a g o i l v f (omega arith) p.is q }

pub writing_end : {A : Type 0} {a e i : ℕ} {g : ℕ → A} {o l : List A} → Writing a e i g o l → e ≤ i → l ≡ written a e g o
writing_end {A} {a} {e} {i} p h = let n : i ≡ e = omega (arith, p.within) in rw n at p.is

-- all of the first n
pub write_all : {A : Type 0} (n : ℕ) (g : ℕ → A) (o : List A) → written 0 n g o ≡ filled n g o
unfolding written
write_all n g o =
    let z : n - 0 ≡ n = omega arith in
    rw (z, tabulate_cong n (λ k. g (0 + k)) g (λ k p. ap g (omega arith)))

-- ---- a picture, row by row

-- where row y lies
pub record Row (d : Size) (y : ℕ) : Type 0 where
  pub within : y * d.width + d.width ≤ area d
  pub small : area d ≤ max_area

pub row_of_picture : (d : Size) (pixels : List ℕ) (y : ℕ) → Picture d pixels → y < d.height → Row d y
row_of_picture d pixels y p h = record { within = row_in_lem y d.width d.height h; small = p.sides.small }

-- THE INVARIANT of a loop over the rows of a picture, before row y
pub record Rows {A : Type 0} (d : Size) (y : ℕ) (g : ℕ → A) (o l : List A) : Type 0 where
  pub within : y ≤ d.height
  pub same : length l ≡ length o
  pub is : l ≡ written 0 (y * d.width) g o

pub rows_start : {A : Type 0} {d : Size} {g : ℕ → A} {o : List A} → Rows d 0 g o o
rows_start {A} {d} {g} {o} =
    let z : 0 * d.width ≡ 0 = omega arith in
    record { within = omega arith; same = refl; is = rw z (write_start 0 g o) }

-- row y after those above it
pub rows_more : {A : Type 0} {d : Size} {y : ℕ} {g : ℕ → A} {o l r : List A} → area d ≤ length o → y < d.height → Rows d y g o l → r ≡ written_row d y g l
    → Rows d (y + 1) g o r
rows_more {A} {d} {y} {g} {o} {l} {r} k h p q =
    let z : (y + 1) * d.width ≡ y * d.width + d.width = omega (arith, add-mul y 1 d.width) in
    let m = row_in_lem y d.width d.height h in
    let e = write_on 0 g o (y * d.width) (y * d.width + d.width) l r (omega arith) (omega arith) (omega arith) p.is q in
    record { within = omega arith; same = ap length e ∙ length_written 0 g o _ (omega arith) (omega arith); is = rw z e }

-- all of them
pub rows_all : {A : Type 0} {d : Size} {y : ℕ} {g : ℕ → A} {o l : List A} → Rows d y g o l → d.height ≤ y → l ≡ filled (area d) g o
rows_all {A} {d} {y} {g} {o} {l} p h =
    let e : y ≡ d.height = omega (arith, p.within) in
    let n : y * d.width ≡ area d = ap (λ (k : ℕ). k * d.width) e ∙ mul_comm d.height d.width in
    (rw n at p.is) ∙ write_all (area d) g o
