-- Buffers that a loop fills: what stands in them after n stores, after the last, and after two fillings in turn. Assumes nothing.
use mathlib.Core.Path.{◌≡◌, refl, sym, ap, subst, ◌∙◌}
use mathlib.Core.Logic.{⊎_elim}
use mathlib.Core.List.{List, [], ◌∷◌, ◌++◌, append_assoc, append-nil}
use Prim.Native.Nat.{ℕ, zero, suc, ◌+◌, ◌-◌, ◌<◌, ◌≤◌}
use native.Mathlib.Nat.{eq-or-lt_of_le, add-zero, add-suc}
use native.Mathlib.Numerals.{add-one, one-add}
use native.Mathlib.Omega.{arith}
use lib.ListN.{length, get_or, take, drop, set, length-append, length-drop, length-take, length-set, drop_of_length-le, take-append-drop, get_or-append}
use lib.Seq.{length-take-le, drop-cons, set_at, drop-append-add, drop-drop, drop_at, take_at, get_or_at, get_or-drop, get_or-take}
use borrow.Rule.Slice.PartMut.{put_mid, mid_of}
use Rattle.rules.specs.Picture.{tabulate, filled}

module _ {A : Type 0} where
  -- ---- a tabulated list

  pub length_tabulate : (n : ℕ) (f : ℕ → A) → length (tabulate n f) ≡ n
  unfolding tabulate
  length_tabulate zero f = refl
  length_tabulate (suc n) f = length-append (tabulate n f) (f n ∷ []) ∙ omega (arith, length_tabulate n f)

  pub get_d_tabulate : (n : ℕ) (f : ℕ → A) (z : A) (i : ℕ) → i < n → get_or (tabulate n f) i z ≡ f i
  unfolding tabulate
  get_d_tabulate zero f z i h = absurd (omega arith)
  get_d_tabulate (suc n) f z i h =
      ⊎_elim (λ (e : i ≡ n). rw e (get_or_at (tabulate n f) (f n) [] z n (length_tabulate n f)))
      (λ (l : i < n). get_or-append (tabulate n f) (f n ∷ []) z i (rw (length_tabulate n f) l) ∙ get_d_tabulate n f z i l)
      (eq-or-lt_of_le (omega arith))

  pub tabulate_cong : (n : ℕ) (f g : ℕ → A) → ((i : ℕ) → i < n → f i ≡ g i) → tabulate n f ≡ tabulate n g
  unfolding tabulate
  tabulate_cong zero f g h = refl
  tabulate_cong (suc n) f g h = rw (tabulate_cong n f g (λ i l. h i (omega arith)), h n (omega arith))

  pub tabulate_add : (a k : ℕ) (f : ℕ → A) → tabulate (a + k) f ≡ tabulate a f ++ tabulate k (λ i. f (a + i))
  unfolding tabulate
  tabulate_add a zero f = rw (add-zero, append-nil)
  tabulate_add a (suc k) f = rw (add-suc, tabulate_add a k f, append_assoc)

  -- a list is its own entries
  pub tabulate_get_d : (l : List A) (z : A) → tabulate (length l) (λ i. get_or l i z) ≡ l
  unfolding tabulate
  tabulate_get_d [] z = refl
  tabulate_get_d (a ∷ l) z =
      ap (λ (k : ℕ). tabulate k (λ i. get_or (a ∷ l) i z)) e
      ∙ tabulate_add 1 (length l) (λ i. get_or (a ∷ l) i z)
      ∙ ap (λ (t : List A). a ∷ t) (tabulate_cong (length l) _ (λ i. get_or l i z) (λ i h. ap (λ (k : ℕ). get_or (a ∷ l) k z) (one-add i)) ∙ tabulate_get_d l z)
    where
      e : length (a ∷ l) ≡ 1 + length l
      e = omega arith

  -- ---- a filling loop, by its count

  pub length_filled : (n : ℕ) (f : ℕ → A) (o : List A) → n ≤ length o → length (filled n f o) ≡ length o
  length_filled n f o h = simp (length-append, length-drop) (omega (arith, length_tabulate n f))

  -- nothing is written yet
  pub fill_start : (f : ℕ → A) (o : List A) → o ≡ filled 0 f o
  unfolding tabulate
  fill_start f o = refl

  -- one more entry, at n
  pub fill_more : (n : ℕ) (f : ℕ → A) (o l : List A) (v : A) → n < length o → l ≡ filled n f o → v ≡ f n → set l n v ≡ filled (n + 1) f o
  unfolding tabulate
  fill_more n f o l v h p q =
      rw (p, drop-cons o n v h, set_at (tabulate n f) (get_or o n v) (drop (suc n) o) v n (length_tabulate n f), add-one, q)
      (sym (append_assoc (tabulate n f) (f n ∷ []) (drop (suc n) o)))

  -- THE INVARIANT of a loop that fills n entries, after i of them
  pub record Filling (n i : ℕ) (f : ℕ → A) (o l : List A) : Type 0 where
    pub within : i ≤ n
    pub same : length l ≡ length o
    pub is : l ≡ filled i f o

  pub filling_start : {n : ℕ} {f : ℕ → A} {o : List A} → Filling n 0 f o o
  filling_start {n} {f} {o} = record { within = omega arith; same = refl; is = fill_start f o }

  pub filling_more : {n i : ℕ} {f : ℕ → A} {o l : List A} {v : A} → n ≤ length o → i < n → Filling n i f o l → v ≡ f i → Filling n (i + 1) f o (set l i v)
  filling_more {n} {i} {f} {o} {l} {v} h k p q =
      record { within = omega arith; same = length-set l i v ∙ p.same; is = fill_more i f o l v (omega arith) p.is q }

  pub filling_end : {n i : ℕ} {f : ℕ → A} {o l : List A} → Filling n i f o l → n ≤ i → l ≡ filled n f o
  filling_end {n} {i} p h = let e : i ≡ n = omega (arith, p.within) in rw e at p.is

  -- a run of k entries at a, written as a part of the buffer
  pub fill_part : (a k : ℕ) (f g : ℕ → A) (o l part : List A) → a + k ≤ length o → l ≡ filled a f o
      → part ≡ filled k g (mid_of a k l) → ((i : ℕ) → i < k → g i ≡ f (a + i)) → put_mid a k l part ≡ filled (a + k) f o
  fill_part a k f g o l part h e m q =
      let n = length_tabulate a f in
      let d : drop a l ≡ drop a o = ap (drop a) e ∙ drop_at (tabulate a f) (drop a o) a n in
      let t : take a l ≡ tabulate a f = ap (take a) e ∙ take_at (tabulate a f) (drop a o) a n in
      let s : length (take k (drop a o)) ≤ k = simp (length-take, length-drop) (omega arith) in
      rw (t, m, d, drop_of_length-le (take k (drop a o)) s, append-nil, drop-drop k a o, tabulate_add a k f, tabulate_cong k g (λ i. f (a + i)) q)
      (sym (append_assoc (tabulate a f) (tabulate k (λ i. f (a + i))) (drop (a + k) o)))

  -- the same up to e, as the code lends the part from a to e
  pub fill_to : (a e : ℕ) (f g : ℕ → A) (o l part : List A) → a ≤ e → e ≤ length o → l ≡ filled a f o
      → part ≡ filled (e - a) g (mid_of a (e - a) l) → ((i : ℕ) → i < e - a → g i ≡ f (a + i)) → put_mid a (e - a) l part ≡ filled e f o
  fill_to a e f g o l part p h q m r =
      let k : a + (e - a) ≡ e = omega arith in
      rw k at (fill_part a (e - a) f g o l part (omega arith) q m r)

  -- k entries more, as the code lends the part from a to a + k
  pub filling_part : {n a k : ℕ} {f g : ℕ → A} {o l part : List A} → n ≤ length o → a + k ≤ n → Filling n a f o l
      → part ≡ filled k g (mid_of a (a + k - a) l) → ((i : ℕ) → i < k → g i ≡ f (a + i)) → Filling n (a + k) f o (put_mid a (a + k - a) l part)
  filling_part {n} {a} {k} {f} {g} {o} {l} {part} h b p q r =
      let e : a + k - a ≡ k = omega arith in
      let t : put_mid a (a + k - a) l part ≡ filled (a + k) f o =
      fill_to a (a + k) f g o l part (omega arith) (omega arith) p.is (subst (λ (m : ℕ). part ≡ filled m g (mid_of a (a + k - a) l)) (sym e) q) (λ i m. r i (omega arith)) in
      record { within = b; same = ap length t ∙ length_filled (a + k) f o (omega arith); is = t }

  -- a part that is filled whole
  pub fill_whole : (a e : ℕ) (f g : ℕ → A) (o l : List A) {part : List A} → a ≤ e → e ≤ length o → l ≡ filled a f o
      → part ≡ filled (length (mid_of a (e - a) l)) g (mid_of a (e - a) l) → ((i : ℕ) → a + i < e → g i ≡ f (a + i)) → put_mid a (e - a) l part ≡ filled e f o
  fill_whole a e f g o l {part} p h q m r =
      let k : length l ≡ length o = ap length q ∙ length_filled a f o (omega arith) in
      let n : length (mid_of a (e - a) l) ≡ e - a = simp (length-take, length-drop) (omega arith) in
      fill_to a e f g o l part p h q (rw n at m) (λ i w. r i (omega arith))

  -- an entry of such a part is still the one at entry
  pub mid_unread : (a k : ℕ) (f : ℕ → A) (o l : List A) (z : A) (i : ℕ) → l ≡ filled a f o → i < k → get_or (mid_of a k l) i z ≡ get_or o (a + i) z
  mid_unread a k f o l z i p h =
      get_or-take k (drop a l) i z h
      ∙ ap (λ (r : List A). get_or r i z) (ap (drop a) p ∙ drop_at (tabulate a f) (drop a o) a (length_tabulate a f))
      ∙ get_or-drop a o i z

  -- ---- what stands in a filled buffer

  -- an entry that is written, in what a loop left
  pub filled_at : (n : ℕ) (f : ℕ → A) (o l : List A) (z : A) (i : ℕ) → l ≡ filled n f o → i < n → get_or l i z ≡ f i
  filled_at n f o l z i p h =
      ap (λ (k : List A). get_or k i z) p
      ∙ get_or-append (tabulate n f) (drop n o) z i (rw (length_tabulate n f) h)
      ∙ get_d_tabulate n f z i h

  -- and one that is not written yet
  pub unread : (n : ℕ) (f : ℕ → A) (o l : List A) (z : A) → n < length o → l ≡ filled n f o → get_or l n z ≡ get_or o n z
  unread n f o l z h p = rw (p, drop-cons o n z h) (get_or_at (tabulate n f) (get_or o n z) (drop (suc n) o) z n (length_tabulate n f))

  pub drop_filled : (n : ℕ) (f : ℕ → A) (o l : List A) → l ≡ filled n f o → drop n l ≡ drop n o
  drop_filled n f o l p = ap (drop n) p ∙ drop_at (tabulate n f) (drop n o) n (length_tabulate n f)

  pub take_filled : (n : ℕ) (f : ℕ → A) (o l : List A) → l ≡ filled n f o → take n l ≡ tabulate n f
  take_filled n f o l p = ap (take n) p ∙ take_at (tabulate n f) (drop n o) n (length_tabulate n f)

  -- the first n entries as the code lends them
  pub first_part : (n : ℕ) (l : List A) → take (n - 0) (drop 0 l) ≡ take n l
  first_part n l = let z : n - 0 ≡ n = omega arith in rw z

  -- a buffer whose first n entries are f's and whose others are as they were
  pub filled_by : (n : ℕ) (f : ℕ → A) (o l : List A) (z : A) → n ≤ length l → ((i : ℕ) → i < n → get_or l i z ≡ f i) → drop n l ≡ drop n o → l ≡ filled n f o
  filled_by n f o l z h p d =
      let e : length (take n l) ≡ n = length-take-le n l h in
      let t : take n l ≡ tabulate n f =
      sym (tabulate_get_d (take n l) z) ∙ ap (λ (k : ℕ). tabulate k (λ i. get_or (take n l) i z)) e ∙ tabulate_cong n _ f (λ i q. get_or-take n l i z q ∙ p i q) in
      sym (take-append-drop n l) ∙ rw (t, d)

  -- ---- fillings in turn

  -- the same entries by another account
  pub recount : (n : ℕ) (f g : ℕ → A) (o l : List A) → l ≡ filled n f o → ((i : ℕ) → i < n → f i ≡ g i) → l ≡ filled n g o
  recount n f g o l p e = rw (p, tabulate_cong n f g e)

  -- filled anew, from what the first filling left
  pub refill : (n : ℕ) (f g h : ℕ → A) (o l r : List A) → l ≡ filled n f o → r ≡ filled n g l → ((i : ℕ) → i < n → g i ≡ h i) → r ≡ filled n h o
  refill n f g h o l r p q e = rw (q, tabulate_cong n g h e, drop_filled n f o l p)

  -- a second loop goes on from where the first stopped, counting from what it finds
  pub still : (n : ℕ) (f : ℕ → A) (o l : List A) → l ≡ filled n f o → l ≡ filled n f l
  still n f o l p = p ∙ ap (λ (k : List A). tabulate n f ++ k) (sym (drop_filled n f o l p))

  pub onward : (n m : ℕ) (f : ℕ → A) (o l r : List A) → n ≤ m → l ≡ filled n f o → r ≡ filled m f l → r ≡ filled m f o
  onward n m f o l r h p q = q ∙ ap (λ (k : List A). tabulate m f ++ k) same
    where
      e : length (tabulate n f) + (m - n) ≡ m
      e = omega (arith, length_tabulate n f)

      back : n + (m - n) ≡ m
      back = omega arith

      same : drop m l ≡ drop m o
      same =
          ap (drop m) p
          ∙ ap (λ (k : ℕ). drop k (filled n f o)) (sym e)
          ∙ drop-append-add (tabulate n f) (drop n o) (m - n)
          ∙ drop-drop (m - n) n o
          ∙ ap (λ (k : ℕ). drop k o) back
