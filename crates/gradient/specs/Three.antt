-- The model of the code's three rows.
use Rattle.std.specs.Prelude.{◌≤◌, length}
use Rattle.rules.specs.Limits.{max_side}
use Rattle.gradient.specs.Nine.{Three}
use Rattle.gradient.specs.declared.window.Three.TheInside.{Inside}

abbrev pub three_of : Inside → Three
three_of t = record { mode = t.border; above = t.above.now; row = t.row.now; below = t.below.now }

abbrev pub IsThree : Inside → Type 0
IsThree t = length t.row.now ≤ max_side
