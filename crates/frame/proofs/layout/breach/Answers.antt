-- `breach` meets its contract: the tests in the definition's order. Assumes nothing.
use native.Mathlib.Nat.{mul-le-mul}
use borrow.Author.Tests.{lt-ltb, le-ltb}
use native.Mathlib.Omega.{arith}
use Rattle.rules.specs.Frame.{breach}
use Rattle.frame.proofs.layout.breach.Goals as goal

pub returns-then-file-lt-HEADER_LENGTH : goal.returns-then-file-lt-HEADER_LENGTH
unfolding breach
returns-then-file-lt-HEADER_LENGTH c = rw (lt-ltb _ _ c.if-file-lt-HEADER_LENGTH.true)

pub returns-then-width-gt-MAX_FRAME_SIDE : goal.returns-then-width-gt-MAX_FRAME_SIDE
unfolding breach
returns-then-width-gt-MAX_FRAME_SIDE c =
    rw (le-ltb _ _ c.if-file-lt-HEADER_LENGTH.false, lt-ltb _ _ (rw c.wide-width.ensures.0 at c.if-width-gt-MAX_FRAME_SIDE.true))

pub returns-then-height-gt-MAX_FRAME_SIDE : goal.returns-then-height-gt-MAX_FRAME_SIDE
unfolding breach
returns-then-height-gt-MAX_FRAME_SIDE c =
    let e = le-ltb _ _ (rw c.wide-width.ensures.0 at c.if-width-gt-MAX_FRAME_SIDE.false) in
    rw (le-ltb _ _ c.if-file-lt-HEADER_LENGTH.false, e, lt-ltb _ _ (rw c.wide-height.ensures.0 at c.if-height-gt-MAX_FRAME_SIDE.true))

pub overflow_mul-result-2 : goal.overflow_mul-result-2
unfolding breach
overflow_mul-result-2 c = omega (arith, mul-le-mul c.if-width-gt-MAX_FRAME_SIDE.false c.if-height-gt-MAX_FRAME_SIDE.false)

pub overflow_add-result-2 : goal.overflow_add-result-2
unfolding breach
overflow_add-result-2 c = omega (arith, mul-le-mul c.if-width-gt-MAX_FRAME_SIDE.false c.if-height-gt-MAX_FRAME_SIDE.false)

pub returns : goal.returns
unfolding breach
returns c =
    rw (
      c.wide.ensures.0,
      c.wide-pixels.ensures.0,
      c.wide-2.ensures.0,
      c.wide-length.ensures.0,
      le-ltb _ _ c.if-file-lt-HEADER_LENGTH.false,
      le-ltb _ _ (rw c.wide-width.ensures.0 at c.if-width-gt-MAX_FRAME_SIDE.false),
      le-ltb _ _ (rw c.wide-height.ensures.0 at c.if-height-gt-MAX_FRAME_SIDE.false),
      c.wide-width.ensures.0,
      c.wide-height.ensures.0,
    )
