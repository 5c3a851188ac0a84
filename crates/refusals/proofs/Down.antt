-- Down a table in code, check by check: a check that refuses ends it, one that does not is passed. Assumes nothing.
use mathlib.Core.Path.{◌≡◌, sym, ◌∙◌}
use mathlib.Core.List.{List, ◌++◌}
use Prim.Native.Nat.{ℕ}
use lib.Dec.{T}
use Rattle.rules.specs.Answers.{number_of}
use Rattle.rules.specs.Refusals.{Rule, first}
use Rattle.rules.specs.declared.Size.{Size}
use Rattle.rules.specs.declared.refusal.Refusal.{Refusal}
use Rattle.rules.proofs.Answers.{named}
use Rattle.rules.proofs.Rows.{numbered, off, front_refuses, front_passes, side_off, input_off}
use Rattle.refusals.specs.Rows.{Picture, picture_rows}

-- of the rows that a check looked at, and those that follow
pub ended : (rs rest : List Rule) (e : Refusal) → number_of e ≡ first rs → number_of e ≡ first (rs ++ rest)
ended rs rest e p = front_refuses rs rest p (named e)

pub passed : (rs rest : List Rule) (r : ℕ) → T (numbered rs) → 0 ≡ first rs → r ≡ first rest → r ≡ first (rs ++ rest)
passed rs rest r t p q = q ∙ sym (front_passes rs rest (off rs t (sym p)))

-- a picture that neither of its rows refuses
pub picture_of : (d : Size) (pixels : List ℕ) → 0 ≡ first (picture_rows d pixels) → Picture d pixels
picture_of d pixels e =
    let o = off (picture_rows d pixels) tt (sym e) in
    record { sides = side_off d o.0; long = input_off d pixels o.1.0 }
