-- `median_row` meets its contract: the places of its window's rows, then the row. Assumes nothing.
use native.Mathlib.Omega.{arith}
use Rattle.median.proofs.Windows.{part_count, part_about}
use Rattle.median.proofs.median_row.Goals as goal

pub invariant_of-about : goal.invariant_of-about
invariant_of-about c =
    let s = c.requires in
    let n = part_count c.args.size _ _ _ _ c.place_rows.ensures in
    record {
      fits = record { picture = s.0; wide = s.1; some = omega (arith, s.3); few = omega (arith, s.4) };
      bytes = λ i. omega (arith, c.type_inv.pixels i);
    }

pub slide-requires : goal.slide-requires
slide-requires c =
    let s = c.requires in
    (part_about c.args.size _ _ _ _ c.place_rows.ensures s.2, s.5)

pub returns : goal.returns
returns c = rw (part_count c.args.size _ _ _ _ c.place_rows.ensures) at c.slide.ensures
