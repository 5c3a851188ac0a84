-- `edge` meets its contract: at the coordinate's place, or nowhere. Assumes nothing.
use mathlib.Core.Path.{◌∙◌}
use Rattle.filters.proofs.Taps.{row_cell, row_nowhere}
use Rattle.filters.proofs.sums.edge.Goals as goal

pub returns-then-i-row : goal.returns-then-i-row
returns-then-i-row g c =
    let s = g.T.Sample in
    c.sample_at.ensures ∙ row_cell s.value s.missing c.args.row.now _ _ _ c.place_about-i.ensures c.if-i-row.true

pub returns : goal.returns
returns g c =
    let s = g.T.Sample in
    row_nowhere s.value s.missing c.args.row.now _ _ _ c.place_about-i.ensures c.requires.0 c.if-i-row.false
