-- `put_head` meets its contract: a word and three fields. Assumes nothing.
use native.Mathlib.Omega.{arith}
use Rattle.rules.specs.Frame.{newline, space}
use Rattle.frame.proofs.Writing.{Put, field_more, edges_word, edges_fields, length_edges}
use Rattle.frame.proofs.text.put_head.Goals as goal

-- what the head takes
pub put_word-word-requires : goal.put_word-word-requires
put_word-word-requires c = omega (arith, length_edges c.args.size c.args.count, c.requires)

pub put_field-width-requires : goal.put_field-width-requires
put_field-width-requires c = omega (arith, length_edges c.args.size c.args.count, c.requires, c.put_word-word.ensures.0, c.put_word-word.auto.text)

pub put_field-height-requires : goal.put_field-height-requires
put_field-height-requires c =
    omega (
      arith,
      length_edges c.args.size c.args.count,
      c.requires,
      c.put_word-word.ensures.0,
      c.put_word-word.auto.text,
      c.put_field-width.ensures.0,
      c.put_field-width.auto.text,
    )

pub put_field-requires : goal.put_field-requires
put_field-requires c =
    omega (
      arith,
      length_edges c.args.size c.args.count,
      c.requires,
      c.put_word-word.ensures.0,
      c.put_word-word.auto.text,
      c.put_field-width.ensures.0,
      c.put_field-width.auto.text,
      c.put_field-height.ensures.0,
      c.put_field-height.auto.text,
    )

pub returns : goal.returns
returns c =
    let v = c.put_word-word in
    let p : Put c.args.text.now 0 edges_word v.result v.new.text = record { place = v.ensures.0; is = v.ensures.1 } in
    let q = field_more c.args.size.height space (field_more c.args.size.width space p c.put_field-width.ensures) c.put_field-height.ensures in
    let r = rw (edges_fields c.args.size c.args.count) at (field_more c.args.count newline q c.put_field.ensures) in
    (omega (arith, r.place), r.is)
