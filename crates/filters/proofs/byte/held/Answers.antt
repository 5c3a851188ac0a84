-- `held` meets its contract, test by test. Assumes nothing.
use Rattle.filters.specs.Byte.{held_of}
use Rattle.filters.proofs.byte.held.Goals as goal

pub returns-then-v-2 : goal.returns-then-v-2
unfolding held_of
returns-then-v-2 c = rw (c.if-v.true, c.if-v-2.true)

pub returns-then-v : goal.returns-then-v
unfolding held_of
returns-then-v c = rw (c.if-v.true, c.if-v-2.false)

pub returns : goal.returns
unfolding held_of
returns c = rw c.if-v.false
