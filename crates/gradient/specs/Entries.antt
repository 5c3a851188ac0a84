-- What a loop that tests the entries of a buffer finds.
use Rattle.std.specs.Prelude.{ℕ, ◌<◌, ◌≡◌, List, get_or}

-- the first n entries are f's
abbrev pub AllBelow {ℓ} : {A : Type ℓ} → A → ℕ → (ℕ → A) → List A → Type ℓ
AllBelow none n f l = (i : ℕ) → i < n → get_or l i none ≡ f i
