-- What the private functions are lent: the sizes that keep every index inside.
use Rattle.std.specs.Prelude.{ℕ, ◌+◌, ◌<◌, ◌≤◌, ◌≡◌, List, length, ℤ, Float}
use Rattle.rules.specs.Limits.{max_side}
use Rattle.rules.specs.Picture.{area}
use Rattle.rules.specs.declared.Size.{Size}

-- the magnitudes and the components of one picture
pub record Pictures (d : Size) (magnitude : List Float) (gx gy : List ℤ) : Type 0 where
  pub width : d.width ≤ max_side
  pub height : d.height ≤ max_side
  pub long : length magnitude ≡ area d
  pub long_x : length gx ≡ area d
  pub long_y : length gy ≡ area d

-- a row with a row before it and one after it, and with inner pixels
pub record InnerRow (magnitude : List Float) (gx gy : List ℤ) (start width : ℕ) : Type 0 where
  pub least : 3 ≤ width
  pub most : width ≤ max_side
  pub before : width ≤ start
  pub after : start + width + width ≤ length magnitude
  pub long_x : length gx ≡ length magnitude
  pub long_y : length gy ≡ length magnitude

-- a pixel with all its neighbours
pub record Around (width : ℕ) (magnitude : List Float) (i : ℕ) : Type 0 where
  pub least : 0 < width
  pub most : width ≤ max_side
  pub before : width + 1 ≤ i
  pub after : i + width + 1 < length magnitude

-- and with its components
pub record GradientAround (width : ℕ) (magnitude : List Float) (gx gy : List ℤ) (i : ℕ) : Type 0 where
  pub around : Around width magnitude i
  pub long_x : length gx ≡ length magnitude
  pub long_y : length gy ≡ length magnitude
