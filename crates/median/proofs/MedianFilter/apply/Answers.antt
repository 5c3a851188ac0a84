-- `MedianFilter::apply` meets its contract: refused, or every row. Assumes nothing.
use mathlib.Core.Path.{◌≡◌, refl}
use borrow.Author.Rules.{rules}
use borrow.Author.Tests.{ne_eqb}
use Prim.Native.Nat.{ℕ}
use Rattle.std.specs.Prelude.{Result, Err}
use Rattle.rules.specs.Calls.{median}
use Rattle.rules.specs.Answers.{number_of, number}
use Rattle.rules.specs.Calls.{answered}
use Rattle.rules.specs.declared.refusal.Refusal.{Refusal}
use Rattle.rules.proofs.Answers.{named, accepted_is}
use Rattle.median.proofs.MedianFilter.apply.Goals as goal

-- what a refused call answers, by the refusal of its rows
refused_err : {A T : Type 0} (n : ℕ) (r : Refusal) {a : Result T Refusal} (done kept : A) → a ≡ Err r → number_of r ≡ n → (number a, kept) ≡ answered n done kept
refused_err n r done kept e m = rw (e, ← m, ne_eqb (number_of r) 0 (named r))

pub returns-in_err-of_median : goal.returns-in_err-of_median
unfolding median
returns-in_err-of_median c = refused_err _ c.in_err-of_median.field-0.0 _ _ (search rules) c.in_err-of_median.ensures

pub returns : goal.returns
unfolding median
returns c = accepted_is _ _ c.in_ok-of_median.ensures _ _ _ refl c.median_rows.ensures
