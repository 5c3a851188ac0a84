-- What a call answers by its refusal number: the number and what was there, or 0 and what acceptance gives. Assumes nothing.
use mathlib.Core.Path.{◌≡◌, ap, ◌∙◌}
use Prim.Native.Nat.{ℕ}
use native.Mathlib.Omega.{arith}
use borrow.Author.Tests.{ne_eqb}
use Rattle.rules.specs.Answers.{number_of}
use Rattle.rules.specs.Calls.{answered}
use Rattle.rules.specs.declared.refusal.Refusal.{Refusal}
use Rattle.rules.specs.declared.refusal.Refusal.TheVariants.{Side, Input, Count, Weight, Threshold, Order, Room, Budget, State, Pending, Layout}

-- no refusal's number is that of acceptance
pub named : (refusal : Refusal) → number_of refusal ≡ 0 → ⊥
named Side e = omega arith
named Input e = omega arith
named Count e = omega arith
named Weight e = omega arith
named Threshold e = omega arith
named Order e = omega arith
named Room e = omega arith
named Budget e = omega arith
named State e = omega arith
named Pending e = omega arith
named Layout e = omega arith

module _ {A : Type 0} (number r : ℕ) (e : r ≡ number) (done kept : A) where
  pub refused_is : (r ≡ 0 → ⊥) → (r, kept) ≡ answered number done kept
  refused_is n = rw (← e, ne_eqb r 0 n)

  pub accepted_is : (left : A) → r ≡ 0 → left ≡ done → (0, left) ≡ answered number done kept
  accepted_is left z p = rw (← e, z, p)

-- what a call that is known to be accepted leaves
pub left_is : {A : Type 0} (number r : ℕ) (done kept left : A) → number ≡ 0 → (r, left) ≡ answered number done kept → left ≡ done
left_is {A} number r done kept left z e = ap (λ (p : ℕ × A). p.1) e ∙ rw z
