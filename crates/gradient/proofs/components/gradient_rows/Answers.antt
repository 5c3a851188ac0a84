-- `gradient_rows` meets its contract, row by row. Assumes nothing.
use Rattle.std.proofs.Common.{sym, ◌∙◌, refl}
use Rattle.rules.specs.Gradient.{gx_table, gy_table}
use Rattle.rules.proofs.ByRows.{row_long}
use Rattle.pixel.specs.Components.{component}
use Rattle.gradient.proofs.Nines.{about, about_row, row_is}
use Rattle.gradient.proofs.Rows.{by_rows_first, by_rows_next}
use Rattle.gradient.proofs.components.gradient_rows.Goals as goal

pub loop-y-init : goal.loop-y-init
loop-y-init c = (by_rows_first c.requires.1, by_rows_first c.requires.2)

pub gradient_row-requires : goal.gradient_row-requires
gradient_row-requires c =
    let a = c.args in
    let h = c.loop-y-test.true in
    let n = sym (about_row a.size a.border a.pixels.now c.requires.0 c.loop-y.y h) in
    rw c.about-three.ensures (row_long c.loop-y.invariant.0 h ∙ n, row_long c.loop-y.invariant.1 h ∙ n)

pub loop-y-preserved : goal.loop-y-preserved
loop-y-preserved c =
    let a = c.args in
    let p = c.requires.0 in
    let y = c.loop-y.y in
    let i = c.loop-y.invariant in
    let h = c.loop-y-test.true in
    let q = rw c.about-three.ensures at c.gradient_row.ensures in
    let rows = a.pixels.now in (
      by_rows_next i.0 h (row_is a.size a.border rows p (component gx_table) _ y _ _ h (row_long i.0 h) (λ x. about a.size a.border rows x y refl gx_table) q.0),
      by_rows_next i.1 h (row_is a.size a.border rows p (component gy_table) _ y _ _ h (row_long i.1 h) (λ x. about a.size a.border rows x y refl gy_table) q.1),
    )
