-- A start in two passes, over any two tests: the marks of all pixels, then the strong ones on the stack. Together they are the
-- definition's one pass (proofs/Classing, `both_passes`).
use Rattle.std.specs.Prelude.{ℕ, zero, suc, ◌+◌, Bool, cond, List, set}
use Rattle.rules.specs.Picture.{bit, filled}

-- the mark of a pixel at or above high, or low
abbrev pub mark_of : Bool → Bool → ℕ
mark_of hi lo = cond hi 2 (bit lo)

-- the first n marks, by any two tests
abbrev pub marked : (ℕ → Bool) → (ℕ → Bool) → ℕ → List ℕ → List ℕ
marked hi lo n marks = filled n (λ i. mark_of (hi i) (lo i)) marks

-- pixel i goes on the stack if it is strong; beside the stack, how many are pending
unfoldable pub put : Bool → ℕ → List ℕ × ℕ → List ℕ × ℕ
put strong i s = cond strong (set s.0 s.1 i, s.1 + 1) s

-- the first i pixels
unfoldable pub stacked : (ℕ → Bool) → ℕ → List ℕ → List ℕ × ℕ
stacked hi zero stack = (stack, 0)
stacked hi (suc i) stack = put (hi i) i (stacked hi i stack)
