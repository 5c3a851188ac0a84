-- `byte_rows` meets its contract, row by row. Assumes nothing.
use Rattle.std.proofs.Common.{refl, sym, ◌∙◌}
use Rattle.rules.specs.Root.{sobel_byte}
use Rattle.rules.specs.Calls.{sobel_at}
use Rattle.rules.proofs.ByRows.{row_long}
use Rattle.pixel.specs.Components.{nine_energy}
use Rattle.pixel.specs.Halving.{held}
use Rattle.gradient.proofs.Nines.{byte_about, about_row, row_is}
use Rattle.gradient.proofs.Rows.{by_rows_none, by_rows_first, by_rows_next}
use Rattle.gradient.proofs.sobel.byte_rows.Goals as goal

pub returns-then-size-eq0 : goal.returns-then-size-eq0
returns-then-size-eq0 c = let a = c.args in by_rows_none a.size (sobel_at a.size a.border a.pixels.now) a.out.now c.requires.1 c.if-size-eq0.true

pub loop-y-init : goal.loop-y-init
loop-y-init c = by_rows_first c.requires.1

pub byte_row-requires : goal.byte_row-requires
byte_row-requires c =
    let a = c.args in
    let l = c.loop-y in
    let h = c.loop-y-test.true in
    rw c.about-three.ensures (row_long l.invariant h ∙ sym (about_row a.size a.border a.pixels.now c.requires.0 l.y h))

pub loop-y-preserved : goal.loop-y-preserved
loop-y-preserved c =
    let a = c.args in
    let l = c.loop-y in
    let h = c.loop-y-test.true in
    let rows = a.pixels.now in
    by_rows_next l.invariant h
    (row_is a.size a.border rows c.requires.0 (λ n. sobel_byte (held (nine_energy n))) _ l.y _ _ h (row_long l.invariant h)
    (λ x. byte_about a.size a.border rows x l.y refl) (rw c.about-three.ensures at c.byte_row.ensures))
