-- `put_field` meets its contract: the digits, and one byte more. Assumes nothing.
use native.Mathlib.Omega.{arith}
use Rattle.rules.specs.Frame.{decimal}
use Rattle.frame.proofs.Writing.{Put, then_byte}
use Rattle.frame.proofs.text.put_field.Goals as goal

pub returns : goal.returns
returns c =
    let d = c.put_decimal-end in
    let p : Put c.args.text.now c.args.at (decimal c.args.n) d.result d.new.text = record { place = d.ensures.0; is = d.ensures.1 } in
    (omega (arith, d.ensures.0), (then_byte c.args.after p).is)
