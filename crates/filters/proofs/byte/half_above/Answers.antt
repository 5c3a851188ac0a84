-- `half_above` meets its contract, by one computed test over the bytes. Assumes nothing.
use borrow.Author.Rules.{rules}
use Rattle.filters.proofs.Rounding.{half}
use Rattle.filters.proofs.byte.half_above.Goals as goal

pub returns : goal.returns
returns c = half c.args.n (search rules)
