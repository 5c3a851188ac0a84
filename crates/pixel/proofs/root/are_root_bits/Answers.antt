-- `are_root_bits` meets its contract: what passes is the nearest root of 01's own words. Assumes nothing.
use Rattle.std.proofs.Common.{refl, ltb-true, leb-true}
use Rattle.rules.proofs.Bools.{both}
use Rattle.pixel.proofs.Testing.{root_bits}
use Rattle.pixel.proofs.root.are_root_bits.Goals as goal

pub returns : goal.returns
returns c = (
  rw c.is_near-near.ensures.0,
  λ e.
      let p = both _ _ e in
      let q = both _ _ p.0 in
      let r = both _ _ q.0 in
      root_bits (ltb-true _ _ r.0) (leb-true _ _ r.1) (ltb-true _ _ q.1) refl (c.is_near-near.ensures.1 p.1),
)
