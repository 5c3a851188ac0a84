-- `check_weights` is row 4. Assumes nothing.
use mathlib.Core.Path.{◌≡◌, refl, ◌∙◌}
use mathlib.Core.Bool.{not}
use lib.Ieee.{Float, nan, inf, fin}
use lib.Ieee.Scale.{finite}
use borrow.Author.Rules.{rules}
use borrow.Author.Tests.{tests}
use Rattle.std.specs.List.{list_any}
use Rattle.std.specs.Float.{float_is_finite}
use Rattle.std.proofs.lemmas.Iterator.{YieldsList-from_slice}
use Rattle.std.proofs.lemmas.Iterator.Search.{any_from_yields_List}
use Rattle.refusals.proofs.Searching.{any_of_all}
use Rattle.refusals.proofs.table.check_weights.Goals as goal

same : (x : Float) → float_is_finite x ≡ finite x
unfolding float_is_finite
same nan = refl
same (inf s) = refl
same (fin s m e) = refl

pub returns : goal.returns
returns c =
    let xs = c.args.weights.now in
    let test = λ (x : Float). not (finite x) in
    let r : c.any.result ≡ list_any test xs = any_from_yields_List test _ _ _ c.any.ensures.ran (YieldsList-from_slice xs cc) (λ x b q k. search (rules, tests, same)) in
    let e = r ∙ any_of_all test xs nan in rw e at c.refuse_if.ensures
