-- The nine places around a pixel, row by row, as the code looks at them.
use Rattle.std.specs.Prelude.{ℕ, ◌+◌}
use Rattle.rules.specs.Walk.{State, visit}
use Rattle.rules.specs.declared.Size.{Size}

-- three places of one row
unfoldable pub row : Size → ℕ → ℕ → State → State
row d x ny s = visit d (x + 2) ny (visit d (x + 1) ny (visit d x ny s))
