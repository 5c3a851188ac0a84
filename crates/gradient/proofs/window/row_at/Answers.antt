-- `row_at` meets its contract: a row of the picture, or none. Assumes nothing.
use Rattle.std.proofs.Common.{◌≡◌, ℕ, ◌+◌, ◌-◌, ◌*◌, ◌<◌, ◌≤◌, List, [], take, drop, arith, lt-ltb, le-ltb}
use Rattle.rules.specs.declared.Size.{Size}
use Rattle.gradient.specs.Nine.{row_in}
use Rattle.gradient.proofs.window.row_at.Goals as goal

somewhere : (d : Size) (pixels : List ℕ) (y : ℕ) → y < d.height → take (y * d.width + d.width - y * d.width) (drop (y * d.width) pixels) ≡ row_in d pixels y
unfolding row_in
somewhere d pixels y h = let n : y * d.width + d.width - y * d.width ≡ d.width = omega arith in rw (lt-ltb y d.height h, n)

nowhere : (d : Size) (pixels : List ℕ) (y : ℕ) → d.height ≤ y → [] ≡ row_in d pixels y
unfolding row_in
nowhere d pixels y h = rw (le-ltb y d.height h)

pub returns-then-y-size : goal.returns-then-y-size
returns-then-y-size c = somewhere _ _ _ c.if-y-size.true

pub returns : goal.returns
returns c = nowhere _ _ _ c.if-y-size.false
