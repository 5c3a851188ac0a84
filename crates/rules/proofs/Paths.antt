-- Paths over any one test, and the joined pixels: `joined` tells exactly those that a path joins to a seed, and N is one number. A crate
-- that groups the pixels of a map cites the laws of a way: to be on one way is to touch (`touches_of`, `touch_of`) or to be reached
-- (`way_keeps`: what is closed under touching holds of all that a way reaches), there and back. Assumes nothing.
use Prim.Native.Nat.{ℕ, zero, suc, ◌+◌, ◌/◌, ◌%◌, ◌≤◌, ◌<◌, zero-le}
use native.Mathlib.Omega.{arith}
use mathlib.Core.Path.{◌≡◌, refl, sym, ap, ◌∙◌}
use mathlib.Core.Logic.{◌⊎◌, inl, inr, ⊎_elim}
use mathlib.Core.Bool.{Bool, true, false, ◌&&◌, ◌||◌}
use lib.Dec.{T, leb}
use lib.ListN.{get_or}
use borrow.Author.Tests.{leb-true, leb-false, le-leb}
use Rattle.rules.specs.Picture.{area, tabulate, any_below, tally}
use Rattle.rules.specs.Joined.{Near, Touch, Way, Joined, near, touches, grown, closed, told, joined, Tells, joined_count}
use Rattle.rules.specs.Joined.Way.{here, on}
use Rattle.rules.specs.declared.Size.{Size}
use Rattle.rules.proofs.Bools.{true_is, is_true, both}
use Rattle.rules.proofs.Fill.{get_d_tabulate}
use Rattle.rules.proofs.Tests.{any_some, some_any}
use Rattle.rules.proofs.Tallies.{tally_all, tally_le, tally_less}

-- ---- the computed test of touching

near_is : (a b : ℕ) → near a b ≡ true → Near a b
near_is a b e = let p = both (leb a (b + 1)) _ e in (leb-true a (b + 1) p.0, leb-true b (a + 1) p.1)

is_near : (a b : ℕ) → Near a b → near a b ≡ true
is_near a b h = rw (le-leb a (b + 1) h.0, le-leb b (a + 1) h.1)

module _ (d : Size) (q r : ℕ) where
  pub touch_of : q < area d → r < area d → touches d q r ≡ true → Touch d q r
  touch_of k l e =
      let p = both (near (q % d.width) (r % d.width)) _ e in
      record { from = k; to = l; columns = near_is _ _ p.0; rows = near_is _ _ p.1 }

  pub touches_of : Touch d q r → touches d q r ≡ true
  touches_of t = rw (is_near (q % d.width) (r % d.width) t.columns, is_near (q / d.width) (r / d.width) t.rows)

pub touch_back : {d : Size} {q r : ℕ} → Touch d q r → Touch d r q
touch_back t = record { from = t.to; to = t.from; columns = (t.columns.1, t.columns.0); rows = (t.rows.1, t.rows.0) }

-- ---- a way: its end is in the picture and passes the test; what is closed under touching goes along it; it goes on, and back

module _ (d : Size) (lo : ℕ → Bool) where
  pub way_in : {q r : ℕ} → Way d lo q r → r < area d
  way_in (here l t) = l
  way_in (on w t e) = t.to

  pub way_passes : {q r : ℕ} → Way d lo q r → T (lo r)
  way_passes (here l t) = t
  way_passes (on w t e) = e

  pub way_keeps : (P : ℕ → Type 0) → ((r t : ℕ) → P r → Touch d r t → T (lo t) → P t) → {q r : ℕ} → P q → Way d lo q r → P r
  way_keeps P step p (here l t) = p
  way_keeps P step p (on {r = r} {t = u} w t e) = step r u (way_keeps P step p w) t e

  pub way_on : {q r t : ℕ} → Way d lo q r → Way d lo r t → Way d lo q t
  way_on v (here l t) = v
  way_on v (on w t e) = on (way_on v w) t e

  pub way_back : {q r : ℕ} → Way d lo q r → Way d lo r q
  way_back (here l t) = here l t
  way_back (on w t e) = way_on (on (here t.to e) (touch_back t) (way_passes w)) (way_back w)

-- ---- the rounds of `told`

module _ (d : Size) (hi lo : ℕ → Bool) where
  -- what is told after k rounds
  abbrev At : ℕ → ℕ → Bool
  At k q = get_or (closed d lo k (tabulate (area d) (λ q. hi q && lo q))) q false

  -- a pixel at or above low that touches one that is told
  abbrev Beside : ℕ → ℕ → Bool
  Beside k q = lo q && any_below (λ r. At k r && touches d r q) (area d)

  first_round : (q : ℕ) → q < area d → At 0 q ≡ (hi q && lo q)
  unfolding closed
  first_round q l = get_d_tabulate (area d) (λ q. hi q && lo q) false q l

  next_round : (k q : ℕ) → q < area d → At (suc k) q ≡ (At k q || Beside k q)
  unfolding closed grown
  next_round k q l = get_d_tabulate (area d) (λ q. At k q || Beside k q) false q l

  stays : (k q : ℕ) → q < area d → At k q ≡ true → At (suc k) q ≡ true
  stays k q l e = next_round k q l ∙ ap (λ (b : Bool). b || Beside k q) e

  -- what is told after one more round was told, or touches what was
  came : (k q : ℕ) → q < area d → At (suc k) q ≡ true
      → (At k q ≡ true) ⊎ ((r : ℕ) × (At k r ≡ true) × (Touch d r q) × (T (lo q)))
  came k q l e = go (At k q) refl (sym (next_round k q l) ∙ e)
    where
      go : (b : Bool) → At k q ≡ b → (b || Beside k q) ≡ true → (At k q ≡ true) ⊎ ((r : ℕ) × (At k r ≡ true) × (Touch d r q) × (T (lo q)))
      go true p f = inl p
      go false p f =
          let x = both (lo q) _ f in
          let y = any_some (λ r. At k r && touches d r q) (area d) x.1 in
          let z = both (At k y.0) _ y.2 in
          inr (y.0, z.0, touch_of d y.0 q y.1 l z.1, is_true x.0)

  goes : (k q r : ℕ) → At k q ≡ true → Touch d q r → T (lo r) → At (suc k) r ≡ true
  goes k q r e t p = next_round k r t.to ∙ go (At k r)
    where
      beside : Beside k r ≡ true
      beside = rw (true_is (lo r) p, some_any (λ z. At k z && touches d z r) (area d) q t.from (rw (e, touches_of d q r t)))

      go : (b : Bool) → (b || Beside k r) ≡ true
      go true = refl
      go false = beside

  -- by induction on the rounds, what is told is joined
  told_joined : (k q : ℕ) → q < area d → At k q ≡ true → Joined d hi lo q
  told_joined zero q l e =
      let p = both (hi q) _ (sym (first_round q l) ∙ e) in
      record { seed = q; strong = is_true p.0; way = here l (is_true p.1) }
  told_joined (suc k) q l e =
      ⊎_elim (told_joined k q l)
      (λ x. let j = told_joined k x.0 x.2.from x.1 in record { seed = j.seed; strong = j.strong; way = on j.way x.2 x.3 })
      (came k q l e)

  -- ---- a round that adds nothing is a fixed point ever after, and after width * height rounds nothing is left to add

  abbrev Fixed : ℕ → Type 0
  Fixed k = (q : ℕ) → q < area d → At (suc k) q ≡ true → At k q ≡ true

  fixed_on : (k : ℕ) → Fixed k → Fixed (suc k)
  fixed_on k f q l e =
      ⊎_elim (λ x. x) (λ x. goes k x.0 q (f x.0 x.2.from x.1) x.2 x.3) (came (suc k) q l e)

  -- where g passes what is told, and no more, it tells nothing new
  by_count : (k : ℕ) (g : ℕ → Bool) → ((q : ℕ) → q < area d → T (At k q) → T (g q)) → tally g (area d) ≤ tally (At k) (area d)
      → (q : ℕ) → q < area d → g q ≡ true → At k q ≡ true
  by_count k g up h q l e = go (At k q) refl
    where
      go : (b : Bool) → At k q ≡ b → b ≡ true
      go true p = refl
      go false p = absurd (let a = tally_less (At k) g q p e (area d) up l in omega arith)

  -- each round that adds something raises the count by at least one
  counted : (k : ℕ) → Fixed k ⊎ (k ≤ tally (At k) (area d))
  counted zero = inr zero-le
  counted (suc k) =
      ⊎_elim (λ f. inl (fixed_on k f)) (λ h. go h (leb (tally (At (suc k)) (area d)) (tally (At k) (area d))) refl) (counted k)
    where
      up : (q : ℕ) → q < area d → T (At k q) → T (At (suc k) q)
      up q l t = is_true (stays k q l (true_is _ t))

      go : k ≤ tally (At k) (area d) → (b : Bool) → leb (tally (At (suc k)) (area d)) (tally (At k) (area d)) ≡ b
          → Fixed (suc k) ⊎ (suc k ≤ tally (At (suc k)) (area d))
      go h true e = inl (fixed_on k (by_count k (At (suc k)) up (leb-true _ _ e)))
      go h false e = inr (let a = leb-false (tally (At (suc k)) (area d)) (tally (At k) (area d)) e in omega arith)

  all_told : Fixed (area d)
  all_told =
      ⊎_elim (λ f. f)
      (λ h q l e. by_count (area d) (λ z. true) (λ z k t. tt) (let a = tally_all (λ z. true) (area d) in omega arith) q l refl)
      (counted (area d))

  -- a fixed point is closed under touching, so it holds the end of every way
  seeds_stay : (k q : ℕ) → q < area d → At 0 q ≡ true → At k q ≡ true
  seeds_stay zero q l e = e
  seeds_stay (suc k) q l e = stays k q l (seeds_stay k q l e)

  reached : {q r : ℕ} → T (hi q) → Way d lo q r → At (area d) r ≡ true
  reached {q} s (here l t) = seeds_stay (area d) q l (first_round q l ∙ rw (true_is (hi q) s, true_is (lo q) t))
  reached s (on {r = r} {t = u} w t e) = all_told u t.to (goes (area d) r u (reached s w) t e)

-- `joined` tells exactly the joined pixels
pub joined_tells : (d : Size) (hi lo : ℕ → Bool) → Tells d hi lo (joined d hi lo)
unfolding joined told
joined_tells d hi lo = record {
  sound = λ q l t. told_joined d hi lo (area d) q l (true_is _ t);
  complete = λ q j. is_true (reached d hi lo j.strong j.way);
}

-- any two tests that tell them count the same
pub same_count : (d : Size) (hi lo J K : ℕ → Bool) → Tells d hi lo J → Tells d hi lo K → tally J (area d) ≡ tally K (area d)
same_count d hi lo J K a b =
    let x = tally_le J K (area d) (λ q l t. b.complete q (a.sound q l t)) in
    let y = tally_le K J (area d) (λ q l t. a.complete q (b.sound q l t)) in
    omega arith

-- and N is that count
pub joined_count_lem : (d : Size) (hi lo : ℕ → Bool) → joined_count d hi lo ≡ tally (joined d hi lo) (area d)
unfolding joined_count joined
joined_count_lem d hi lo = refl
