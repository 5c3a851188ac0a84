-- The border rules: where a coordinate is read, and what a sample is. A coordinate is any signed number (01.Border.2).
use Rattle.std.specs.Prelude.{ℕ, suc, ◌+◌, ◌-◌, ◌*◌, ◌/◌, ◌%◌, cond, List, ltb, eqb, get_or, ℤ, pos, negsuc, ◌-ℤ◌}
use Rattle.std.proofs.Math.Option.{Option, some, none}
use Rattle.rules.specs.declared.Size.{Size}
use Rattle.rules.specs.declared.BorderMode.{BorderMode}
use Rattle.rules.specs.declared.BorderMode.TheVariants.{Zero, Clamp, Mirror}
use Rattle.rules.specs.declared.Coord.{Coord}
use Rattle.rules.specs.declared.Coord.TheVariants.{At, Nothing, Refused}

-- outside is nowhere (01.Border.3)
abbrev pub zero_of : ℤ → ℕ → Coord
zero_of (pos n) side = cond (ltb n side) (At n) Nothing
zero_of (negsuc n) side = Nothing

-- the nearest place of the side (01.Border.4)
abbrev pub clamp_of : ℤ → ℕ → ℕ
clamp_of (pos n) side = cond (ltb n side) n (side - 1)
clamp_of (negsuc n) side = 0

-- the non-negative remainder of c by p
abbrev pub emod : ℤ → ℕ → ℕ
emod (pos n) p = n % p
emod (negsuc n) p = (p - suc n % p) % p

-- a remainder of at least the side is taken from the period
abbrev pub fold : ℕ → ℕ → ℕ → ℕ
fold m side period = cond (ltb m side) m (period - m)

-- a side of 1 gives 0; otherwise the non-negative remainder by 2 (side - 1), folded (01.Border.5)
abbrev pub mirror_of : ℤ → ℕ → ℕ
mirror_of c side = cond (eqb side 1) 0 (fold (emod c (2 * (side - 1))) side (2 * (side - 1)))

-- where coordinate c of a side is read, under a mode
abbrev pub resolved : BorderMode → ℤ → ℕ → Coord
resolved Zero c side = zero_of c side
resolved Clamp c side = At (clamp_of c side)
resolved Mirror c side = At (mirror_of c side)

-- What each case of Coord says (01.Shape.15): its refusal number, and the place to read, if there is one.
abbrev pub coord_says : Coord → ℕ × Option ℕ
coord_says (At i) = (0, some i)
coord_says Nothing = (0, none)
coord_says Refused = (1, none)

-- the sample at two resolved coordinates, of a picture whose entry i is `at i`; outside reads as `z`, which is 0
abbrev pub entry_at {ℓ} : {A : Type ℓ} → A → (ℕ → A) → ℕ → Coord → Coord → A
entry_at z at width (At x) (At y) = at (y * width + x)
entry_at z at width (At x) Nothing = z
entry_at z at width (At x) Refused = z
entry_at z at width Nothing c = z
entry_at z at width Refused c = z

-- The sample in column cx and row cy. All stages read their pictures by this one definition.
unfoldable pub sample_at {ℓ} : {A : Type ℓ} → A → (ℕ → A) → Size → BorderMode → ℤ → ℤ → A
sample_at z at d mode cx cy =
    entry_at z at d.width (resolved mode cx d.width) (resolved mode cy d.height)

-- of a byte picture, as a whole number
abbrev pub byte_sample : List ℕ → Size → BorderMode → ℤ → ℤ → ℕ
byte_sample pixels d mode cx cy = sample_at 0 (λ i. get_or pixels i 0) d mode cx cy

-- the coordinate under place k of n, where a window of n places lies centred on x
abbrev pub under : ℕ → ℕ → ℕ → ℤ
under x n k = pos (x + k) -ℤ pos (n / 2)

-- ---- modes by number, as exports and cases give them (docs/DECISIONS.md)

-- 0 and 1; all else is the last
abbrev pub mode_of : ℕ → BorderMode
mode_of n = cond (eqb n 0) Zero (cond (eqb n 1) Clamp Mirror)
