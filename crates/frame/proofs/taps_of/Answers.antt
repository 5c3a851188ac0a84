-- `taps_of` meets its contract: a breach, too many taps, or their count. Assumes nothing.
use Rattle.std.proofs.Common.{◌≡◌, false, sym, ◌∙◌, arith}
use Rattle.rules.specs.Frame.{breach}
use Rattle.frame.proofs.Breaches.{laid}
use Rattle.frame.proofs.Printouts.{breached, kept, many_taps}
use Rattle.frame.proofs.taps_of.Goals as goal

pub returns-then-breach : goal.returns-then-breach
returns-then-breach c = breached _ (sym c.breach.ensures ∙ c.if-breach.true)

-- past the first test the layout is kept, and grants what `laid` says
pub wide-taps-requires : goal.wide-taps-requires
wide-taps-requires c = omega (arith, (laid _ (sym c.breach.ensures ∙ c.if-breach.false)).header)

pub returns-then-taps-gt-MAX_TAPS : goal.returns-then-taps-gt-MAX_TAPS
returns-then-taps-gt-MAX_TAPS c =
    let keeps : breach c.args.file.now ≡ false = sym c.breach.ensures ∙ c.if-breach.false in
    kept _ keeps ∙ many_taps _ (laid _ keeps) (rw c.wide-taps.ensures.0 at c.if-taps-gt-MAX_TAPS.true)

pub returns : goal.returns
returns c = record { keeps = sym c.breach.ensures ∙ c.if-breach.false; counted = c.wide-taps.ensures.0; few = c.if-taps-gt-MAX_TAPS.false }
