-- `put_edges` meets its contract: the head, then the rows in the part behind it. Assumes nothing.
use Rattle.std.proofs.Common.{◌+◌, ◌*◌, ◌≤◌, refl, length, arith}
use Rattle.rules.specs.Frame.{edges_text}
use Rattle.frame.proofs.Writing.{lengths, length_edges, head_and_rows}
use Rattle.frame.proofs.text.put_edges.Goals as goal

-- the text has room for the head and the rows
pub put_head-at-requires : goal.put_head-at-requires
put_head-at-requires c = omega (arith, length_edges c.args.size c.args.count, lengths c.requires.small, c.requires.room)

pub overflow_mul-total : goal.overflow_mul-total
overflow_mul-total c = omega (arith, lengths c.requires.small)

pub overflow_add-total-2 : goal.overflow_add-total-2
overflow_add-total-2 c = omega (arith, lengths c.requires.small, length_edges c.args.size c.args.count, c.put_head-at.ensures.0)

pub slice_bounds-put_rows-end : goal.slice_bounds-put_rows-end
slice_bounds-put_rows-end c =
    omega (arith, length_edges c.args.size c.args.count, lengths c.requires.small, c.requires.room, c.put_head-at.ensures.0, c.put_head-at.auto.text)

pub returns : goal.returns
returns c =
    let d = c.args.size in
    let head = c.put_head-at in
    let room : length (edges_text d c.args.count) + d.height * (d.width + 1) ≤ length c.args.text.now =
    omega (arith, length_edges d c.args.count, lengths c.requires.small, c.requires.room) in
    head_and_rows d c.args.map.now c.args.count c.args.text.now _ _ _ _ (omega (arith, room, head.ensures.0)) refl head.auto.text head.ensures
    c.put_rows.ensures
