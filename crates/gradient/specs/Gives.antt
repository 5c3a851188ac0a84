-- What a closure gives, by a rule.
use Rattle.std.specs.Prelude.{ℕ, ◌<◌, ◌≡◌, List}
use Rattle.std.specs.Borrow.{Bor}

-- at each index below n it gives f's value
abbrev pub Gives {ℓ} : {A : Type ℓ} → (ℕ → A → Type 0) → ℕ → (ℕ → A) → Type ℓ
Gives post n f = (i : ℕ) → i < n → (r : _) → post i r → r ≡ f i

-- of any nine bytes it makes what f does
abbrev pub Makes {ℓ} : {A : Type ℓ} → (Bor (List ℕ) → A → Type 0) → (List ℕ → A) → Type ℓ
Makes post f = (nine : Bor (List ℕ)) (r : _) → post nine r → r ≡ f nine.now
