-- What the total reading functions give: the place of a coordinate as a number, and the byte at two places.
use Rattle.std.specs.Prelude.{ℕ, ◌+◌, ◌*◌, cond, List, ltb, get_or, ℤ}
use Rattle.std.proofs.Math.Option.{Option, some, none}
use Rattle.rules.specs.Refusals.{first}
use Rattle.refusals.specs.Rows.{picture_rows}
use Rattle.rules.specs.Calls.{accepted, resolve_coord}
use Rattle.rules.specs.declared.Size.{Size}
use Rattle.rules.specs.declared.BorderMode.{BorderMode}

abbrev pub or_side : ℕ → Option ℕ → ℕ
or_side side (some i) = i
or_side side none = side

-- the place that the resolver gives; the side itself where it gives none
unfoldable pub placed : BorderMode → ℤ → ℕ → ℕ
placed mode c side = or_side side (resolve_coord c side mode).1

-- the byte at two places: 0 where either is nowhere
abbrev pub read_at : List ℕ → Size → ℕ → ℕ → ℕ
read_at pixels d x y = cond (ltb x d.width) (cond (ltb y d.height) (get_or pixels (y * d.width + x) 0) 0) 0

-- and 0 of a picture that is refused
unfoldable pub read_in : List ℕ → Size → ℕ → ℕ → ℕ
read_in pixels d x y = accepted (first (picture_rows d pixels)) (read_at pixels d x y) 0
