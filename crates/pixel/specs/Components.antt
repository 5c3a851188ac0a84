-- A component of nine bytes, and S of them; the square of a component.
use Rattle.std.specs.Prelude.{◌≡◌, ℕ, ◌*◌, ◌^◌, ◌≤◌, List, length, ℤ, pos, ◌*ℤ◌, slice_index, slice_index_or, unsigned_abs}
use Rattle.rules.specs.Gradient.{gx_table, gy_table, sum_z, energy}

-- a table of nine small weights
pub record Weights (table : List ℤ) : Type 0 where
  pub count : length table ≡ 9
  pub small : (j : ℕ) → unsigned_abs (slice_index_or table j (pos 0)) ≤ 2

-- nine bytes in row order, weighted
unfoldable pub component : List ℤ → List ℕ → ℤ
component table nine = sum_z (λ j. slice_index_or table j (pos 0) *ℤ pos (slice_index nine j)) 9

-- S of nine bytes
abbrev pub nine_energy : List ℕ → ℕ
nine_energy nine = energy (component gx_table nine) (component gy_table nine)

-- the square of an i16
pub record SquareOf (g : ℤ) (r : ℕ) : Type 0 where
  pub is : r ≡ unsigned_abs g * unsigned_abs g
  pub most : r ≤ 2 ^ 30
