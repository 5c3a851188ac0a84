-- `put_decimal` meets its contract: the digits of the tenth, then the last. Assumes nothing.
use Rattle.std.proofs.Common.{◌/◌, arith}
use Rattle.rules.specs.Frame.{decimal}
use Rattle.frame.proofs.Decimals.{length_1, length_more}
use Rattle.frame.proofs.Writing.{Put, only_digit, last_digit}
use Rattle.frame.proofs.text.+put_decimal.Goals as goal

pub bounds-text-at : goal.bounds-text-at
bounds-text-at t c = omega (arith, length_1 c.args.n c.if-n-lt10.true, c.requires)

pub returns-then-n-lt10 : goal.returns-then-n-lt10
returns-then-n-lt10 t c =
    let p = only_digit c.args.text.now c.args.at c.if-n-lt10.true in
    (p.place, rw c.digit.ensures p.is)

pub put_decimal-end-requires : goal.put_decimal-end-requires
put_decimal-end-requires t c =
    let l = length_more c.args.n c.if-n-lt10.false in
    (omega (arith, c.decreases), omega (arith, c.requires))

pub bounds-text-end : goal.bounds-text-end
bounds-text-end t c =
    omega (arith, length_more c.args.n c.if-n-lt10.false, c.requires, c.put_decimal-end.ensures.0, c.put_decimal-end.auto.text)

pub overflow_add-result-2 : goal.overflow_add-result-2
overflow_add-result-2 t c =
    omega (arith, length_more c.args.n c.if-n-lt10.false, c.requires, c.put_decimal-end.ensures.0, c.put_decimal-end.auto.text)

pub returns : goal.returns
returns t c =
    let d = c.put_decimal-end in
    let p : Put c.args.text.now c.args.at (decimal (c.args.n / 10)) d.result d.new.text = record { place = d.ensures.0; is = d.ensures.1 } in
    let q = last_digit c.if-n-lt10.false p in
    (q.place, rw c.digit-2.ensures q.is)
