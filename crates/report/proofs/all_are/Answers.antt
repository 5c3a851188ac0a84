-- `all_are` meets its contract. Assumes nothing.
use Rattle.std.proofs.Common.{rules, ◌∙◌}
use Rattle.std.proofs.lemmas.Iterator.{YieldsList-from_slice}
use Rattle.std.proofs.lemmas.Iterator.Search.{all_from_yields_List}
use Rattle.report.proofs.Every.{every_of_all}
use Rattle.report.proofs.all_are.Goals as goal

pub returns : goal.returns
returns g c =
    all_from_yields_List (λ x. g.T.Entry.alike x c.args.v) _ _ _ c.all.ensures.ran (YieldsList-from_slice c.args.buffer.now cc) (λ x b q k. search rules)
    ∙ every_of_all (λ x. g.T.Entry.alike x c.args.v) g.T.Entry.none c.args.buffer.now
