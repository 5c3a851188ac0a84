-- `add_term` meets its contract: the kernel's row is a row of the picture, or nowhere. Assumes nothing.
use mathlib.Core.Path.{refl}
use borrow.Author.Rules.{rules}
use Rattle.rules.specs.Sums.{plus_zero}
use Rattle.filters.proofs.Terms.{in_row, nowhere}
use Rattle.filters.proofs.sums.Convolution.add_term.Goals as goal

pub returns-then-r-self : goal.returns-then-r-self
returns-then-r-self g c =
    let s = g.T.Sample in
    in_row c.args.self.now.within s.value s.missing _ c.requires.0 c.requires.1 refl c.place_about-r.ensures c.if-r-self.true c.add_row.ensures

pub returns : goal.returns
returns g c =
    let s = g.T.Sample in
    nowhere c.args.self.now.within s.value s.missing _ c.requires.0 c.requires.1 refl c.place_about-r.ensures c.if-r-self.false
    (c.add_each.ensures (λ i. plus_zero) (λ i e h p. search rules))
