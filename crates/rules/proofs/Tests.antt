-- `any_below`: a loop that looks for an index, and what its answer says of each. Assumes nothing.
use mathlib.Core.Path.{◌≡◌, refl, ap, ◌∙◌}
use mathlib.Core.Logic.{⊎_elim, ◌⊎◌, inl, inr}
use mathlib.Core.Bool.{Bool, true, false, ◌||◌}
use Prim.Native.Nat.{ℕ, zero, suc, ◌+◌, ◌<◌}
use native.Mathlib.Decide.{ℕ_discrete}
use native.Mathlib.Numerals.{add-one}
use native.Mathlib.Omega.{arith}
use Rattle.rules.specs.Picture.{any_below}
use Rattle.rules.proofs.Bools.{neither}

-- below one more: the last, or below
pub below_suc : {i n : ℕ} → i < suc n → (i ≡ n) ⊎ (i < n)
below_suc {i} {n} h = go (ℕ_discrete i n)
  where
    go : Dec (i ≡ n) → (i ≡ n) ⊎ (i < n)
    go (yes e) = inl e
    go (no e) = inr (omega arith)

module _ (p : ℕ → Bool) where
  -- nothing found so far, and none at n
  pub any_more : (n : ℕ) (b v : Bool) → b ≡ any_below p n → v ≡ p n → (b || v) ≡ any_below p (n + 1)
  unfolding any_below
  any_more n b v e q = rw (add-one, e, q)

  -- none below n: not one
  pub any_none : (n : ℕ) → any_below p n ≡ false → (i : ℕ) → i < n → p i ≡ false
  unfolding any_below
  any_none zero e i h = absurd (omega arith)
  any_none (suc n) e i h =
      let q = neither (any_below p n) (p n) e in
      ⊎_elim (λ z. ap p z ∙ q.1) (λ l. any_none n q.0 i l) (below_suc h)

  pub none_any : (n : ℕ) → ((i : ℕ) → i < n → p i ≡ false) → any_below p n ≡ false
  unfolding any_below
  none_any zero h = refl
  none_any (suc n) h = rw (none_any n (λ i l. h i (omega arith)), h n (omega arith))

  -- one found is enough, however many follow
  or-true : (b : Bool) → (b || true) ≡ true
  or-true true = refl
  or-true false = refl

  pub some_any : (n i : ℕ) → i < n → p i ≡ true → any_below p n ≡ true
  unfolding any_below
  some_any zero i h e = absurd (omega arith)
  some_any (suc n) i h e =
      ⊎_elim (λ (z : i ≡ n). ap (λ (v : Bool). any_below p n || v) (ap p (omega arith) ∙ e) ∙ or-true (any_below p n))
      (λ (l : i < n). rw (some_any n i l e)) (below_suc h)

  -- and where the answer is yes there is one
  pub any_some : (n : ℕ) → any_below p n ≡ true → (i : ℕ) × (i < n) × (p i ≡ true)
  unfolding any_below
  any_some zero e = absurd (subst_true e)
    where
      subst_true : false ≡ true → ⊥
      subst_true q = let z : ◌≡◌ {A = ℕ} 0 1 = cc in omega arith
  any_some (suc n) e = go (any_below p n) refl e (any_some n)
    where
      go : (b : Bool) → any_below p n ≡ b → (b || p n) ≡ true → (any_below p n ≡ true → (i : ℕ) × (i < n) × (p i ≡ true)) → (i : ℕ) × (i < suc n) × (p i ≡ true)
      go true q f ih = let r = ih q in (r.0, omega arith, r.2)
      go false q f ih = (n, omega arith, f)
