-- `unusable_state` is row 9, test by test. Assumes nothing.
use mathlib.Core.Path.{◌≡◌, ◌∙◌}
use mathlib.Core.Bool.{Bool}
use mathlib.Core.List.{List}
use Prim.Native.Nat.{ℕ, ◌≤◌}
use native.Mathlib.Nat.{min-eq_left}
use native.Mathlib.Omega.{arith}
use lib.Dec.{leb, ltb}
use lib.ListN.{get_or, length, take}
use Rattle.std.specs.List.{list_any}
use Rattle.rules.specs.Picture.{area, any_below}
use Rattle.rules.specs.Walk.{unusable}
use Rattle.rules.proofs.Rows.{ors}
use Rattle.refusals.proofs.Searching.{any_of_first}
use Rattle.refusals.proofs.walk.unusable_state.Goals as goal

-- a test of the first entries, as the definition has it
of_first : (test : ℕ → Bool) (xs : List ℕ) (n : ℕ) {r : Bool} → n ≤ length xs → r ≡ list_any test (take n xs) → r ≡ any_below (λ k. test (get_or xs k 0)) n
of_first test xs n h e = e ∙ any_of_first test xs 0 n h

pub returns-then-n-pending : goal.returns-then-n-pending
unfolding unusable
returns-then-n-pending c = search ors

pub returns-then-any_beyond : goal.returns-then-any_beyond
unfolding unusable
returns-then-any_beyond c =
    let a = c.args in
    let beyond = of_first (leb (area a.size)) a.stack.now a.pending (omega arith) c.any_beyond.ensures in
    rw c.if-any_beyond.true (search ors)

pub returns-then-any_above : goal.returns-then-any_above
unfolding unusable
returns-then-any_above c =
    let a = c.args in
    let beyond = of_first (leb (area a.size)) a.stack.now a.pending (omega arith) c.any_beyond.ensures in
    let above = of_first (ltb 3) a.marks.now (area a.size) c.requires.1 c.any_above.ensures in
    rw c.if-any_above.true (search ors)

pub returns-else-any_above : goal.returns-else-any_above
unfolding unusable
returns-else-any_above c =
    let a = c.args in
    let beyond = of_first (leb (area a.size)) a.stack.now a.pending (omega arith) c.any_beyond.ensures in
    let above = of_first (ltb 3) a.marks.now (area a.size) c.requires.1 c.any_above.ensures in
    rw (c.count_of.ensures.1, min-eq_left c.requires.1) (search ors)
