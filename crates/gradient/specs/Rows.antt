-- What stands in a row of the two components, and of Sobel's sums, by the row and those above and below it.
use Rattle.std.specs.Prelude.{ℕ, List, ℤ}
use Rattle.rules.specs.Root.{sobel_byte}
use Rattle.pixel.specs.Components.{component, nine_energy}
use Rattle.pixel.specs.Halving.{held}
use Rattle.gradient.specs.Nine.{Three, nine_in}

-- a component in column x
abbrev pub component_in : List ℤ → Three → ℕ → ℤ
component_in table t x = component table (nine_in t x)

-- S, held to 16 bits
abbrev pub sum_in : Three → ℕ → ℕ
sum_in t x = held (nine_energy (nine_in t x))

-- Sobel's byte of it
abbrev pub byte_in : Three → ℕ → ℕ
byte_in t x = sobel_byte (sum_in t x)
