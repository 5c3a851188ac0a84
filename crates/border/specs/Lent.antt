-- What the loops over a picture's pixels promise: a buffer written from one index to another.
use Rattle.std.specs.Prelude.{ℕ, ◌+◌, ◌-◌, ◌*◌, List, ◌++◌, take, drop}
use Rattle.rules.specs.Picture.{tabulate}
use Rattle.rules.specs.declared.Size.{Size}

-- the buffer `old` with g a, .., g (e - 1) written over its entries from a to e
unfoldable pub written {ℓ} : {A : Type ℓ} → ℕ → ℕ → (ℕ → A) → List A → List A
written a e g old = take a old ++ (tabulate (e - a) (λ k. g (a + k)) ++ drop e old)

-- with row y of a picture
abbrev pub written_row {ℓ} : {A : Type ℓ} → Size → ℕ → (ℕ → A) → List A → List A
written_row d y g old = written (y * d.width) (y * d.width + d.width) g old
