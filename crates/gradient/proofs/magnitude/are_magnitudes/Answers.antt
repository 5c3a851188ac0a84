-- `are_magnitudes` meets its contract: all so far, entry by entry. Assumes nothing.
use Rattle.std.proofs.Common.{sym, ◌∙◌, rules}
use lib.Ieee.{nan}
use Rattle.rules.proofs.Bools.{both}
use Rattle.gradient.proofs.Entries.{magnitude_at_lem, all_more}
use Rattle.gradient.proofs.magnitude.are_magnitudes.Goals as goal

-- an entry whose bits pass is the magnitude
pub loop-i-preserved : goal.loop-i-preserved
loop-i-preserved c = λ e.
    let p = both _ _ e in
    let w = c.are_bits-all.ensures.1 p.1 in
    all_more nan c.args.magnitude.now (c.loop-i.invariant p.0)
    (magnitude_at_lem c.args.gx.now c.args.gy.now c.loop-i.i (search rules) (search rules) c.energy.ensures (sym (c.bits_of.ensures.1 w.some) ∙ w.are))
