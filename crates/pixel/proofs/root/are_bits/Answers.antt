-- `are_bits` meets its contract: 0, the cap, or a root. Assumes nothing.
use Rattle.std.proofs.Common.{⊎_elim, eqb-true, leb-true}
use Rattle.rules.proofs.Bools.{both, either}
use Rattle.pixel.specs.Guess.{bits_test}
use Rattle.pixel.proofs.Testing.{zero_bits, cap_bits}
use Rattle.pixel.proofs.root.are_bits.Goals as goal

pub returns : goal.returns
unfolding bits_test
returns c = (
  rw c.are_root_bits.ensures.0,
  λ e.
      ⊎_elim
      (λ f.
      ⊎_elim (λ g. let p = both _ _ g in zero_bits (eqb-true _ _ p.0) (eqb-true _ _ p.1))
      (λ g. let p = both _ _ g in cap_bits (leb-true _ _ p.0) (eqb-true _ _ p.1)) (either _ _ f))
      c.are_root_bits.ensures.1 (either _ _ e),
)
