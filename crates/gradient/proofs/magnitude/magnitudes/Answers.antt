-- `magnitudes` meets its contract: the guesses, if they pass, or else each by itself. Assumes nothing.
use Rattle.std.proofs.Common.{rules}
use lib.Ieee.{nan}
use Rattle.rules.specs.Calls.{magnitude_at}
use Rattle.gradient.proofs.Bytes.{whole, all_right}
use Rattle.gradient.proofs.magnitude.magnitudes.Goals as goal

pub returns-else-not-are_magnitudes : goal.returns-else-not-are_magnitudes
returns-else-not-are_magnitudes c =
    all_right nan (magnitude_at c.args.gx.now c.args.gy.now) c.args.magnitude.now _ c.guesses.auto.magnitude (c.are_magnitudes.ensures (search rules))

pub returns-then-not-are_magnitudes : goal.returns-then-not-are_magnitudes
returns-then-not-are_magnitudes c =
    whole (magnitude_at c.args.gx.now c.args.gy.now) c.args.magnitude.now _ c.guesses.auto.magnitude (c.fill_by.ensures (magnitude_at c.args.gx.now c.args.gy.now) (λ i h r q. search rules))
