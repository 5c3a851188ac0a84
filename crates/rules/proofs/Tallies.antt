-- `tally`: comparing counts by their tests, a count after a store, and a loop that counts. Assumes nothing.
use Prim.Native.Nat.{ℕ, zero, suc, ◌+◌, ◌≤◌, ◌<◌, zero-le}
use native.Mathlib.Nat.{le_refl}
use native.Mathlib.Decide.{ℕ_discrete}
use native.Mathlib.Omega.{arith}
use native.Mathlib.Numerals.{add-one}
use mathlib.Core.Path.{◌≡◌, refl, sym, ap, ap₂, ◌∙◌}
use mathlib.Core.Logic.{◌⊎◌, inl, inr, ⊎_elim, ◌≢◌}
use mathlib.Core.Bool.{Bool, true, false}
use mathlib.Core.List.{List}
use lib.ListN.{length, get_or, set}
use lib.Seq.{get_or-set_same, get_or-set_other}
use lib.Dec.{T, eqb}
use borrow.Author.Tests.{eq-eqb, ne_eqb}
use Rattle.rules.specs.Picture.{bit, tally}
use Rattle.rules.specs.Walk.{has, count}
use Rattle.rules.proofs.Tests.{below_suc}

bit_le : (a b : Bool) → (T a → T b) → bit a ≤ bit b
bit_le true true h = le_refl 1
bit_le true false h = absurd (h tt)
bit_le false true h = zero-le
bit_le false false h = zero-le

pub tally_all : (f : ℕ → Bool) (n : ℕ) → tally f n ≤ n
unfolding tally
tally_all f zero = zero-le
tally_all f (suc n) = let a = tally_all f n in let b = bit_le (f n) true (λ t. tt) in omega arith

module _ (f g : ℕ → Bool) where
  -- g passes what f passes
  pub tally_le : (n : ℕ) → ((q : ℕ) → q < n → T (f q) → T (g q)) → tally f n ≤ tally g n
  unfolding tally
  tally_le zero h = zero-le
  tally_le (suc n) h =
      let ih = tally_le n (λ q l. h q (omega arith)) in
      let b = bit_le (f n) (g n) (h n (le_refl (suc n))) in
      omega arith

  pub tally_eq : (n : ℕ) → ((q : ℕ) → q < n → f q ≡ g q) → tally f n ≡ tally g n
  unfolding tally
  tally_eq zero h = refl
  tally_eq (suc n) h = ap₂ (λ (x : ℕ) (b : Bool). x + bit b) (tally_eq n (λ q l. h q (omega arith))) (h n (le_refl (suc n)))

  module _ (i : ℕ) (off : f i ≡ false) (up : g i ≡ true) where
    bits_at : (n : ℕ) → i ≡ n → (bit (f n) ≡ 0) × (bit (g n) ≡ 1)
    bits_at n p = (ap (λ (j : ℕ). bit (f j)) (sym p) ∙ ap bit off, ap (λ (j : ℕ). bit (g j)) (sym p) ∙ ap bit up)

    -- and i besides: at least one more
    pub tally_less : (n : ℕ) → ((q : ℕ) → q < n → T (f q) → T (g q)) → i < n → tally f n < tally g n
    unfolding tally
    tally_less zero h l = omega arith
    tally_less (suc n) h l = go (tally_less n (λ q p. h q (omega arith))) (below_suc l)
      where
        go : (i < n → tally f n < tally g n) → (i ≡ n) ⊎ (i < n) → tally f n + bit (f n) < tally g n + bit (g n)
        go ih (inl p) = let b = bits_at n p in let c = tally_le n (λ q l. h q (omega arith)) in omega arith
        go ih (inr p) = let b = bit_le (f n) (g n) (h n (le_refl (suc n))) in let c = ih p in omega arith

    -- and no other: one more
    pub tally_one : (n : ℕ) → i < n → ((q : ℕ) → q ≢ i → f q ≡ g q) → tally g n ≡ suc (tally f n)
    unfolding tally
    tally_one zero l h = omega arith
    tally_one (suc n) l h = go (λ lt. tally_one n lt h) (below_suc l)
      where
        go : (i < n → tally g n ≡ suc (tally f n)) → (i ≡ n) ⊎ (i < n) → tally g n + bit (g n) ≡ suc (tally f n + bit (f n))
        go ih (inl p) = let b = bits_at n p in let c = tally_eq n (λ q l. h q (omega arith)) in omega arith
        go ih (inr p) = let b : bit (f n) ≡ bit (g n) = ap bit (h n (omega arith)) in let c = ih p in omega arith

module _ (f : ℕ → Bool) where
  pub tally_zero : (n : ℕ) → tally f n ≡ 0 → (q : ℕ) → q < n → f q ≡ false
  unfolding tally
  tally_zero zero e q l = absurd (omega arith)
  tally_zero (suc n) e q l = ⊎_elim (λ z. ap f z ∙ go (f n) (omega arith)) (λ z. tally_zero n (omega arith) q z) (below_suc l)
    where
      go : (b : Bool) → bit b ≡ 0 → b ≡ false
      go true k = absurd (omega arith)
      go false k = refl

  -- ---- a loop that counts, with the code's i + 1

  pub tally_yes : (i c d : ℕ) → c ≡ tally f i → f i ≡ true → d ≡ c + 1 → d ≡ tally f (i + 1)
  unfolding tally
  tally_yes i c d e t k = rw add-one (let b : bit (f i) ≡ 1 = ap bit t in omega arith)

  pub tally_no : (i c d : ℕ) → c ≡ tally f i → f i ≡ false → d ≡ c → d ≡ tally f (i + 1)
  unfolding tally
  tally_no i c d e t k = rw add-one (let b : bit (f i) ≡ 0 = ap bit t in omega arith)

-- ---- the count of marks v after a store of a at r

module _ (m : List ℕ) (n r a v : ℕ) (long : n ≤ length m) (l : r < n) where
  other : (q : ℕ) → q ≢ r → has v (set m r a) q ≡ has v m q
  other q e = ap (λ (x : ℕ). eqb x v) (get_or-set_other m r q a 0 e)

  at : get_or (set m r a) r 0 ≡ a
  at = get_or-set_same m r a 0 (omega arith)

  pub count_less : get_or m r 0 ≡ v → a ≢ v → count v m n ≡ suc (count v (set m r a) n)
  count_less e k = tally_one (has v (set m r a)) (has v m) r (ne_eqb _ _ (λ z. k (sym at ∙ z))) (eq-eqb _ _ e) n l other

  pub count_more : get_or m r 0 ≢ v → a ≡ v → count v (set m r a) n ≡ suc (count v m n)
  count_more e k = tally_one (has v m) (has v (set m r a)) r (ne_eqb _ _ e) (eq-eqb _ _ (at ∙ k)) n l (λ q z. sym (other q z))

  pub count_same : get_or m r 0 ≢ v → a ≢ v → count v (set m r a) n ≡ count v m n
  count_same e k = tally_eq (has v (set m r a)) (has v m) n (λ q z. go q (ℕ_discrete q r))
    where
      go : (q : ℕ) → Dec (q ≡ r) → has v (set m r a) q ≡ has v m q
      go q (yes p) =
          let x : has v (set m r a) q ≡ false = ne_eqb _ _ (λ z. k (sym at ∙ ap (λ (j : ℕ). get_or (set m r a) j 0) (sym p) ∙ z)) in
          let y : has v m q ≡ false = ne_eqb _ _ (λ z. e (ap (λ (j : ℕ). get_or m j 0) (sym p) ∙ z)) in
          x ∙ sym y
      go q (no p) = other q p
