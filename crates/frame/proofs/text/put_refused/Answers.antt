-- `put_refused` meets its contract: a word and a field. Assumes nothing.
use Rattle.std.proofs.Common.{◌≤◌, length, arith}
use Rattle.rules.specs.Frame.{newline, refused_text}
use Rattle.frame.proofs.Decimals.{four_digits}
use Rattle.frame.proofs.Writing.{Put, field_more, refused_word, refused_fields, length_refused, from_first}
use Rattle.frame.proofs.text.put_refused.Goals as goal

-- the text has room for the word and the number
pub put_field-requires : goal.put_field-requires
put_field-requires c =
    omega (arith, length_refused c.from-number.result, four_digits c.from-number.result (omega arith), c.requires, c.put_word-at.ensures.0, c.put_word-at.auto.text)

pub returns : goal.returns
returns c =
    let v = c.put_word-at in
    let p : Put c.args.text.now 0 refused_word v.result v.new.text = record { place = v.ensures.0; is = v.ensures.1 } in
    let room : length (refused_text c.from-number.result) ≤ length c.args.text.now =
    omega (arith, length_refused c.from-number.result, four_digits c.from-number.result (omega arith), c.requires) in
    rw (← c.from-number.ensures)
    (from_first (refused_text c.from-number.result) c.args.text.now room
    (rw (refused_fields c.from-number.result) at (field_more c.from-number.result newline p c.put_field.ensures)))
