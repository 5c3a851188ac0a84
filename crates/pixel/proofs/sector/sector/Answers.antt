-- `sector` meets its contract, test by test. Assumes nothing.
use Rattle.pixel.proofs.Sectors.{sizes_of, both_zero, along_x, along_y, diagonal}
use Rattle.pixel.proofs.sector.sector.Goals as goal

pub returns-then-a-b-eq0 : goal.returns-then-a-b-eq0
returns-then-a-b-eq0 c =
    let z = sizes_of c.ranges.gx c.ranges.gy c.absolute-a.ensures c.absolute-b.ensures in
    both_zero z c.if-a-b-eq0.true

pub returns-then-twice-b : goal.returns-then-twice-b
returns-then-twice-b c =
    let z = sizes_of c.ranges.gx c.ranges.gy c.absolute-a.ensures c.absolute-b.ensures in
    along_x z c.if-a-b-eq0.false c.if-twice-b.true

pub returns-then-twice-a : goal.returns-then-twice-a
returns-then-twice-a c =
    let z = sizes_of c.ranges.gx c.ranges.gy c.absolute-a.ensures c.absolute-b.ensures in
    along_y z c.if-a-b-eq0.false c.if-twice-b.false c.if-twice-a.true

pub returns-then-gx-gy : goal.returns-then-gx-gy
returns-then-gx-gy c =
    let z = sizes_of c.ranges.gx c.ranges.gy c.absolute-a.ensures c.absolute-b.ensures in
    diagonal z c.if-a-b-eq0.false c.if-twice-b.false c.if-twice-a.false c.if-gx-gy.true

pub returns-else-gx-gy : goal.returns-else-gx-gy
returns-else-gx-gy c =
    let z = sizes_of c.ranges.gx c.ranges.gy c.absolute-a.ensures c.absolute-b.ensures in
    diagonal z c.if-a-b-eq0.false c.if-twice-b.false c.if-twice-a.false c.if-gx-gy.false
