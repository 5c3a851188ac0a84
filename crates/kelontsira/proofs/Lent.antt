-- An answer through lent numbers: refused, they are as they were; accepted, they are the answer's. Assumes nothing.
use mathlib.Core.Path.{◌≡◌, ap, sym, ◌∙◌}
use Prim.Native.Nat.{ℕ}
use mathlib.Core.Option.{Option}
use borrow.Author.Tests.{ne_eqb}
use lib.IntN.{ℤ}
use mir.Syntax.{w64}
use mir.Val.{SFits, to_z, of_z}
use mir.ValLaws.{to_z-of_z}
use Rattle.rules.specs.Calls.{resolve_coord}
use Rattle.rules.specs.declared.BorderMode.{BorderMode}
use Rattle.std.specs.Prelude.{Result, Ok, Err}
use Rattle.rules.specs.declared.Walk.{Walk}
use Rattle.rules.specs.declared.Progress.{Progress}
use Rattle.rules.specs.declared.refusal.Refusal.{Refusal}
use Rattle.rules.specs.Answers.{Started, Sliced, Mapped, Counted, number_of, number, start_answer, slice_answer, map_answer, run_answer}
use Rattle.rules.proofs.Answers.{named}
use Rattle.rules.specs.declared.Coord.{Coord}
use Rattle.rules.specs.declared.Coord.TheVariants.{At, Nothing, Refused}
use Rattle.rules.specs.Border.{coord_says}
use Rattle.kelontsira.specs.Exports.{numbers_of, placed, start_says, slice_says, map_says, run_says}

module _ {A : Type 0} (lent : A) where
  module _ (old : ℕ × (ℕ × ℕ)) (call : Started × A) where
    pub start_told : (walk : Walk) → (start_answer (Ok walk), lent) ≡ call → (0, (numbers_of walk, lent)) ≡ start_says old call
    unfolding start_says
    start_told walk e = rw (← e)

    pub start_refused : (refusal : Refusal) (n : ℕ) → n ≡ number_of refusal → (start_answer (Err refusal), lent) ≡ call → (n, (old, lent)) ≡ start_says old call
    unfolding start_says
    start_refused refusal n q e = rw (q, ← e, ne_eqb _ _ (named refusal))

  module _ (w : Walk) (taken : ℕ) (old : ℕ × (ℕ × ℕ)) (call : Sliced × A) where
    pub slice_told : (made : Progress) → (slice_answer w (Ok made), lent) ≡ call → (0, ((made.takes, numbers_of made.walk), lent)) ≡ slice_says taken old call
    unfolding slice_says
    slice_told made e = rw (← e)

    pub slice_refused : (refusal : Refusal) (n : ℕ) → n ≡ number_of refusal → (slice_answer w (Err refusal), lent) ≡ call → (n, ((taken, old), lent)) ≡ slice_says taken old call
    unfolding slice_says
    slice_refused refusal n q e = rw (q, ← e, ne_eqb _ _ (named refusal))

  pub map_told : (w : Walk) (answer : Result Unit Refusal) (call : Mapped × A) (n : ℕ) → n ≡ number answer → (map_answer w answer, lent) ≡ call → (n, lent) ≡ map_says call
  unfolding map_says
  map_told w answer call n q e = rw (q, ← e)

  module _ (old : ℕ) (call : Counted × A) where
    pub run_told : (edges : ℕ) → (run_answer (Ok edges), lent) ≡ call → (0, (edges, lent)) ≡ run_says old call
    unfolding run_says
    run_told edges e = rw (← e)

    pub run_refused : (refusal : Refusal) (n : ℕ) → n ≡ number_of refusal → (run_answer (Err refusal), lent) ≡ call → (n, (old, lent)) ≡ run_says old call
    unfolding run_says
    run_refused refusal n q e = rw (q, ← e, ne_eqb _ _ (named refusal))

-- the resolver's answer, a case v of which was met
pub case_of : (z : ℤ) (side : ℕ) (mode : BorderMode) (r v : Coord) → SFits w64 z → coord_says r ≡ resolve_coord (to_z w64 (of_z w64 z)) side mode → r ≡ v
    → coord_says v ≡ resolve_coord z side mode
case_of z side mode r v f e q = sym (ap coord_says q) ∙ (rw (to_z-of_z w64 z f) at e)

module _ (side old : ℕ) (call : ℕ × Option ℕ) where
  pub at_told : (i : ℕ) → coord_says (At i) ≡ call → (0, i) ≡ placed side old call
  unfolding placed
  at_told i e = ap (placed side old) e

  pub nothing_told : coord_says Nothing ≡ call → (0, side) ≡ placed side old call
  unfolding placed
  nothing_told e = ap (placed side old) e

  pub coord_refused : (n : ℕ) → n ≡ 1 → coord_says Refused ≡ call → (n, old) ≡ placed side old call
  unfolding placed
  coord_refused n q e = rw q (ap (placed side old) e)
