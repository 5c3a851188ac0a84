-- `sample_at` meets its contract: the entry that is read has the trait's value. Assumes nothing.
use mathlib.Core.Path.{ap, ◌∙◌}
use Rattle.std.proofs.lemmas.List.{get_or_read}
use Rattle.filters.proofs.sums.sample_at.Goals as goal

pub returns : goal.returns
returns g c =
    let s = g.T.Sample in
    c.sample.ensures ∙ ap s.value (get_or_read c.args.samples.now _ _ c.requires c.index-samples-i.is s.missing)
