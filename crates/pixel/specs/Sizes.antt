-- The absolute value of a component, as the sector's tests take it.
use Rattle.std.specs.Prelude.{◌≡◌, ℕ, ◌^◌, ◌≤◌, ℤ, unsigned_abs}

-- of an i16
pub record AbsoluteOf (g : ℤ) (r : ℕ) : Type 0 where
  pub is : r ≡ unsigned_abs g
  pub most : r ≤ 2 ^ 15
