-- `magnitude_of` meets its contract, by its two tests. Assumes nothing.
use Rattle.std.proofs.Common.{eq-eqb, ne_eqb, le-leb}
use borrow.Author.Tests.{lt-leb}
use Rattle.rules.specs.Root.{magnitude_of}
use Rattle.pixel.proofs.Mending.{cap_is}
use Rattle.pixel.proofs.root.magnitude_of.Goals as goal

pub returns-then-s-eq0 : goal.returns-then-s-eq0
unfolding magnitude_of
returns-then-s-eq0 c = rw (eq-eqb _ _ c.if-s-eq0.true)

pub returns-then-s-lt-CAP : goal.returns-then-s-lt-CAP
unfolding magnitude_of
returns-then-s-lt-CAP c = rw (ne_eqb _ _ c.if-s-eq0.false, lt-leb _ _ c.if-s-lt-CAP.true) c.root_from.ensures

pub returns : goal.returns
unfolding magnitude_of
returns c = rw (ne_eqb _ _ c.if-s-eq0.false, le-leb _ _ c.if-s-lt-CAP.false) cap_is
