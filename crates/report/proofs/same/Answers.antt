-- `same` meets its contract. Assumes nothing.
use Rattle.std.proofs.Common.{rules, ◌≡◌, ◌∙◌, eq-eqb, ne_eqb}
use Rattle.std.proofs.lemmas.Iterator.{YieldsList-from_slice, YieldsList-from_zip}
use Rattle.std.proofs.lemmas.Iterator.Search.{all_from_yields_List}
use Rattle.std.specs.List.{list_all, zip}
use Rattle.report.specs.Tests.{alike}
use Rattle.report.proofs.Every.{every_of_pairs}
use Rattle.report.proofs.same.Goals as goal

pub returns-then-got-wanted : goal.returns-then-got-wanted
unfolding alike
returns-then-got-wanted g c =
    let e : c.all.result ≡ list_all (λ p. g.T.Entry.alike p.0 p.1) (zip c.args.got.now c.args.wanted.now) =
    all_from_yields_List (λ p. g.T.Entry.alike p.0 p.1) c.all.new.self _ c.all.result c.all.ensures.ran (YieldsList-from_zip {s = c.zip.result} (YieldsList-from_slice c.args.got.now cc) (YieldsList-from_slice c.args.wanted.now cc)) (λ x b q k. search rules) in
    rw (eq-eqb _ _ c.if-got-wanted.true) (e ∙ every_of_pairs g.T.Entry.alike g.T.Entry.none c.args.got.now c.args.wanted.now c.if-got-wanted.true)

pub returns-else-got-wanted : goal.returns-else-got-wanted
unfolding alike
returns-else-got-wanted g c = rw (ne_eqb _ _ c.if-got-wanted.false)
