-- `read` meets its contract: a picture that is refused, no column, no row, or the pixel. Assumes nothing.
use mathlib.Core.Path.{◌≡◌, refl, sym, ◌∙◌}
use mathlib.Core.Bool.{true, false}
use mathlib.Core.List.{List}
use Prim.Native.Nat.{ℕ}
use borrow.Author.Tests.{lt-ltb, le-ltb, ne_eqb}
use Rattle.std.proofs.Common.{Result, Ok, Err}
use Rattle.std.specs.Result.{is_err}
use Rattle.rules.specs.Answers.{number}
use Rattle.rules.specs.Refusals.{first}
use Rattle.rules.specs.declared.Size.{Size}
use Rattle.rules.specs.declared.refusal.Refusal.{Refusal}
use Rattle.rules.proofs.Answers.{named}
use Rattle.rules.proofs.Bools.{clash}
use Rattle.border.specs.Reading.{read_in}
use Rattle.refusals.specs.Rows.{Picture, picture_rows}
use Rattle.refusals.proofs.Down.{picture_of}
use Rattle.border.proofs.Reading.{read_in_lem}
use Rattle.border.proofs.picture.read.Goals as goal

module _ (d : Size) (pixels : List ℕ) where
  refused : (r : Result Unit Refusal) (x y : ℕ) → number r ≡ first (picture_rows d pixels) → is_err r ≡ true → 0 ≡ read_in pixels d x y
  unfolding read_in
  refused (Ok u) x y e t = absurd (clash t refl)
  refused (Err refusal) x y e t = rw (← e, ne_eqb _ _ (named refusal))

  picture : (r : Result Unit Refusal) → number r ≡ first (picture_rows d pixels) → is_err r ≡ false → Picture d pixels
  picture (Ok u) e t = picture_of d pixels e
  picture (Err refusal) e t = absurd (clash refl t)

pub returns-then-is_err : goal.returns-then-is_err
returns-then-is_err c = refused c.args.size c.args.pixels.now c.of_picture.result _ _ c.of_picture.ensures (sym c.is_err.ensures.value ∙ c.if-is_err.true)

pub returns-then-size-x : goal.returns-then-size-x
returns-then-size-x c =
    let p = picture c.args.size c.args.pixels.now c.of_picture.result c.of_picture.ensures (sym c.is_err.ensures.value ∙ c.if-is_err.false) in
    rw (read_in_lem _ _ p, le-ltb _ _ c.if-size-x.true)

pub returns-then-size-y : goal.returns-then-size-y
returns-then-size-y c =
    let p = picture c.args.size c.args.pixels.now c.of_picture.result c.of_picture.ensures (sym c.is_err.ensures.value ∙ c.if-is_err.false) in
    rw (read_in_lem _ _ p, lt-ltb _ _ c.if-size-x.false, le-ltb _ _ c.if-size-y.true)

pub returns : goal.returns
returns c =
    let p = picture c.args.size c.args.pixels.now c.of_picture.result c.of_picture.ensures (sym c.is_err.ensures.value ∙ c.if-is_err.false) in
    rw (read_in_lem _ _ p, lt-ltb _ _ c.if-size-x.false, lt-ltb _ _ c.if-size-y.false)
