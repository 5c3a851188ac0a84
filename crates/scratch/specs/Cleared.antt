-- A buffer cleared from its first entry on.
use Rattle.std.specs.Prelude.{ℕ, min, List, length}
use Rattle.rules.specs.Picture.{cleared}

-- the first n entries, or all where there are fewer
abbrev pub cleared_to {ℓ} : {A : Type ℓ} → ℕ → A → List A → List A
cleared_to n z old = cleared (min n (length old)) z old
