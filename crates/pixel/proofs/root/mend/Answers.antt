-- `mend` meets its contract: up until m is not too low, down until it is not too high; one number alone is neither. Assumes nothing.
use Rattle.std.proofs.Common.{arith}
use Rattle.rules.proofs.Roots.{near_only, near_is}
use Rattle.pixel.proofs.root.mend.Goals as goal

pub returns : goal.returns
returns c =
    let t = c.args.t in
    near_only t _ _ (record { low = c.loop-m-2-test.false; high = c.loop-m-2.invariant.1 }) (near_is t (omega arith) (omega arith))
