-- `apply_kernel` meets its contract: refused, or convolved. Assumes nothing.
use borrow.Author.Rules.{rules}
use mathlib.Core.Path.{sym, refl}
use Rattle.rules.specs.Calls.{apply_kernel}
use Rattle.rules.specs.Filters.{convolved_at}
use Rattle.rules.proofs.Answers.{named, refused_is, accepted_is}
use Rattle.filters.proofs.Convolving.{Single, single}
use Rattle.filters.proofs.convolution.apply_kernel.Goals as goal

pub returns-in_err-of_kernel : goal.returns-in_err-of_kernel
unfolding apply_kernel
returns-in_err-of_kernel c = search (rules, refused_is, named)

pub invariant_of-convolution : goal.invariant_of-convolution
invariant_of-convolution c =
    -- what the table grants where no row applies
    let t : Single c.args.size c.args.kernel c.args.pixels.now c.args.weights.now c.args.out.now = single (sym c.in_ok-of_kernel.ensures) in
    record { within = t.pass }

pub bytes_to-requires : goal.bytes_to-requires
bytes_to-requires c =
    let t : Single c.args.size c.args.kernel c.args.pixels.now c.args.weights.now c.args.out.now = single (sym c.in_ok-of_kernel.ensures) in
    (t.room, search rules)

pub returns : goal.returns
unfolding apply_kernel convolved_at
returns c = accepted_is _ _ c.in_ok-of_kernel.ensures _ _ _ refl c.bytes_to.ensures
