-- The walk (01.Walk.1 to 01.Walk.11): marks 0 none, 1 weak, 2 pending, 3 finished.
use Rattle.std.specs.Prelude.{ℕ, zero, suc, ◌+◌, ◌-◌, ◌*◌, ◌/◌, ◌%◌, Bool, cond, ◌&&◌, ◌||◌, List, leb, ltb, eqb, get_or, set, Float}
use Rattle.std.specs.Float.{nan}
use Rattle.std.specs.Float.Ieee.{le}
use Rattle.rules.specs.Picture.{area, filled, cleared, any_below, tally, bit}
use Rattle.rules.specs.declared.Size.{Size}

-- the lent marks and stack, and the pending count; the sides travel beside them
pub record State : Type 0 where
  pub marks : List ℕ
  pub stack : List ℕ
  pub pending : ℕ

abbrev pub state : List ℕ → List ℕ → ℕ → State
state m s p = record { marks = m; stack = s; pending = p }

-- pixel q's mark
abbrev pub mark : State → ℕ → ℕ
mark s q = get_or s.marks q 0

-- whether pixel q has mark v
abbrev pub has : ℕ → List ℕ → ℕ → Bool
has v m q = eqb (get_or m q 0) v

-- how many of the first n marks are v
abbrev pub count : ℕ → List ℕ → ℕ → ℕ
count v m n = tally (has v m) n

-- pixel r gets mark 2 and is put on the stack
abbrev pub push : ℕ → State → State
push r s = state (set s.marks r 2) (set s.stack s.pending r) (s.pending + 1)

-- ---- start (01.Walk.3 to 01.Walk.6)

-- whether pixel q's magnitude is at or above t, by IEEE comparison: a NaN is below everything
abbrev pub at_least : Float → List Float → ℕ → Bool
at_least t magnitudes q = le t (get_or magnitudes q nan)

-- pixel i is classed: at or above high, mark 2 and on the stack; else at or above low, mark 1; else 0
unfoldable pub class : Bool → Bool → ℕ → State → State
class hi lo i s = cond hi (push i s) (state (set s.marks i (bit lo)) s.stack s.pending)

-- the first i pixels are classed, in row order
unfoldable pub classed : (ℕ → Bool) → (ℕ → Bool) → ℕ → State → State
classed hi lo zero s = s
classed hi lo (suc i) s = class (hi i) (lo i) i (classed hi lo i s)

-- a start over n pixels: stack places from the pending count on hold 0
unfoldable pub started : (ℕ → Bool) → (ℕ → Bool) → ℕ → List ℕ → List ℕ → State
started hi lo n marks stack = classed hi lo n (state marks (cleared n 0 stack) 0)

-- ---- one take (01.Walk.7)

-- the last pending index
abbrev pub last : State → ℕ
last s = get_or s.stack (s.pending - 1) 0

-- it is removed, 0 put in its place, its mark set to 3
unfoldable pub pop : State → State
pop s = state (set s.marks (last s) 3) (set s.stack (s.pending - 1) 0) (s.pending - 1)

-- pixel r is looked at: with mark 1 it gets 2 and is put on the stack
unfoldable pub look : ℕ → State → State
look r s = cond (has 1 s.marks r) (push r s) s

-- Whether column nx - 1 and row ny - 1 are in the picture. Neighbours are counted from one column left and one row above.
abbrev pub inside : Size → ℕ → ℕ → Bool
inside d nx ny = leb 1 nx && (leb nx d.width && (leb 1 ny && leb ny d.height))

-- the pixel in column nx - 1 and row ny - 1
abbrev pub place : Size → ℕ → ℕ → ℕ
place d nx ny = (ny - 1) * d.width + (nx - 1)

unfoldable pub visit : Size → ℕ → ℕ → State → State
visit d nx ny s = cond (inside d nx ny) (look (place d nx ny) s) s

-- the first k of the nine places around pixel q are looked at: dy from -1 to 1, and within it dx from -1 to 1
unfoldable pub looks : Size → ℕ → ℕ → State → State
looks d q zero s = s
looks d q (suc k) s = visit d (q % d.width + k % 3) (q / d.width + k / 3) (looks d q k s)

unfoldable pub taken : Size → State → State
taken d s = looks d (last s) 9 (pop s)

-- ---- a slice (01.Walk.8, 01.Walk.9)

-- takes until the budget is spent or nothing is pending
unfoldable pub sliced : Size → ℕ → State → State
sliced d zero s = s
sliced d (suc b) s = cond (eqb s.pending 0) s (sliced d b (taken d s))

-- how many takes that makes
unfoldable pub takes : Size → ℕ → State → ℕ
takes d zero s = 0
takes d (suc b) s = cond (eqb s.pending 0) 0 (suc (takes d b (taken d s)))

-- ---- unusable states (01.Walk.10); only the first width * height marks count

unfoldable pub unusable : Size → State → Bool
unusable d s =
    let n = area d in
    ltb n s.pending
    || (any_below (λ i. leb n (get_or s.stack i 0)) s.pending
    || (any_below (λ q. ltb 3 (get_or s.marks q 0)) n
    || ltb n (s.pending + count 1 s.marks n)))

-- ---- the map (01.Walk.11): 255 where the mark is 3, else 0

abbrev pub edge : ℕ → ℕ
edge m = cond (eqb m 3) 255 0

abbrev pub mapped : ℕ → List ℕ → List ℕ → List ℕ
mapped n marks out = filled n (λ q. edge (get_or marks q 0)) out
