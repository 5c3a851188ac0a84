-- What an accepted call has: each row of its table passed. Assumes nothing.
use mathlib.Core.Path.{◌≡◌, sym, ◌∙◌}
use mathlib.Core.List.{List}
use Prim.Native.Nat.{ℕ, ◌≤◌}
use lib.ListN.{length}
use lib.IntN.{ℤ}
use lib.Ieee.{Float}
use Rattle.rules.specs.Picture.{area}
use Rattle.rules.specs.Refusals.{first, magnitude_rows}
use Rattle.rules.specs.declared.Size.{Size}
use Rattle.rules.specs.Accepted.{Sides}
use Rattle.rules.proofs.Rows.{off, side_off, input_off, room_off}
use Rattle.std.proofs.Common.{Result, Err}
use Rattle.rules.specs.Answers.{number, number_of}
use Rattle.rules.specs.Calls.{answered}
use Rattle.rules.specs.declared.refusal.Refusal.{Refusal}
use Rattle.rules.proofs.Answers.{named, refused_is}

pub record Components (d : Size) (gx gy : List ℤ) (magnitude : List Float) : Type 0 where
  pub sides : Sides d
  pub long_x : length gx ≡ area d
  pub long_y : length gy ≡ area d
  pub room : area d ≤ length magnitude

pub magnitude_fit : {d : Size} {gx gy : List ℤ} {m : List Float} {r : ℕ} → r ≡ first (magnitude_rows d gx gy m) → r ≡ 0 → Components d gx gy m
magnitude_fit {d} {gx} {gy} {m} e z =
    let p = off (magnitude_rows d gx gy m) tt (sym e ∙ z) in
    record { sides = side_off d p.0; long_x = input_off d gx p.1.0; long_y = input_off d gy p.1.1.0; room = room_off d m p.1.1.1.0 }

-- what a refused call answers: the refusal's number, and what was there
pub refused : {A : Type 0} (r : Refusal) (n : ℕ) {a : Result Unit Refusal} (done kept : A) → a ≡ Err r → number_of r ≡ n → (number a, kept) ≡ answered n done kept
refused r n done kept e p = rw e (refused_is n (number_of r) p done kept (named r))
