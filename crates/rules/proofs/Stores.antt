-- The element at any place after a store. Assumes nothing.
use Prim.Native.Nat.{ℕ, ◌<◌}
use native.Mathlib.Decide.{ℕ_discrete}
use mathlib.Core.Path.{◌≡◌, ap, ◌∙◌}
use mathlib.Core.Logic.{◌⊎◌, inl, inr, ◌≢◌}
use mathlib.Core.List.{List}
use lib.ListN.{length, get_or, set}
use lib.Seq.{get_or-set_same, get_or-set_other}

-- the one stored, or the one that was there
pub at_set : {A : Type 0} (l : List A) (i : ℕ) (a z : A) (j : ℕ) → i < length l
    → ((j ≡ i) × (get_or (set l i a) j z ≡ a)) ⊎ ((j ≢ i) × (get_or (set l i a) j z ≡ get_or l j z))
at_set {A} l i a z j h = go (ℕ_discrete j i)
  where
    go : Dec (j ≡ i) → ((j ≡ i) × (get_or (set l i a) j z ≡ a)) ⊎ ((j ≢ i) × (get_or (set l i a) j z ≡ get_or l j z))
    go (yes e) = inl (e, ap (λ (k : ℕ). get_or (set l i a) k z) e ∙ get_or-set_same l i a z h)
    go (no e) = inr (e, get_or-set_other l i j a z e)
