-- What callers use of the border rules: a resolved coordinate is inside, and inside every mode reads the picture itself. Assumes nothing.
use mathlib.Core.Path.{◌≡◌, refl, ap}
use mathlib.Core.Bool.{Bool, true, false, cond}
use Prim.Native.Nat.{ℕ, zero, suc, ◌+◌, ◌-◌, ◌*◌, ◌%◌, ◌<◌, ◌≤◌}
use native.Mathlib.Nat.{mod-lt, mod-eq_of_lt}
use native.Mathlib.Omega.{arith}
use borrow.Author.Tests.{ltb-true, ltb-false, eqb-true, eqb-false, lt-ltb, le-ltb}
use lib.Dec.{ltb, eqb}
use lib.IntN.{ℤ, pos, negsuc, ◌-ℤ◌}
use Rattle.rules.specs.Border.{resolved, fold, emod, sample_at}
use Rattle.rules.specs.declared.Size.{Size}
use Rattle.rules.specs.declared.BorderMode.{BorderMode}
use Rattle.rules.specs.declared.BorderMode.TheVariants.{Zero, Clamp, Mirror}
use Rattle.rules.specs.declared.Coord.{Coord}
use Rattle.rules.specs.declared.Coord.TheVariants.{At, Nothing, Refused}

-- the non-negative remainder is below its divisor
pub emod_lt : (z : ℤ) (p : ℕ) → 0 < p → emod z p < p
emod_lt (pos a) p h = mod-lt a h
emod_lt (negsuc a) p h = mod-lt (p - suc a % p) h

-- ---- inside or nowhere, never refused

abbrev pub Within : ℕ → Coord → Type 0
Within side (At i) = i < side
Within side Nothing = Unit
Within side Refused = ⊥

zero_within : (b : Bool) (n side : ℕ) → ltb n side ≡ b → Within side (cond b (At n) Nothing)
zero_within true n side e = ltb-true n side e
zero_within false n side e = tt

clamp_within : (b : Bool) (n side : ℕ) → 0 < side → ltb n side ≡ b → cond b n (side - 1) < side
clamp_within true n side h e = ltb-true n side e
clamp_within false n side h e = omega arith

fold_within : (b : Bool) (m side p : ℕ) → m < p → p ≤ 2 * (side - 1) → ltb m side ≡ b → cond b m (p - m) < side
fold_within true m side p h q e = ltb-true m side e
fold_within false m side p h q e = let l = ltb-false m side e in omega arith

mirror_within : (b : Bool) (c : ℤ) (side : ℕ) → 0 < side → eqb side 1 ≡ b → cond b 0 (fold (emod c (2 * (side - 1))) side (2 * (side - 1))) < side
mirror_within true c side h e = h
mirror_within false c side h e =
    let n = eqb-false side 1 e in
    let p = 2 * (side - 1) in
    let l : emod c p < p = emod_lt c p (omega arith) in
    fold_within _ (emod c p) side p l (omega arith) refl

pub resolved_within : (mode : BorderMode) (c : ℤ) (side : ℕ) → 0 < side → Within side (resolved mode c side)
resolved_within Zero (pos n) side h = zero_within _ n side refl
resolved_within Zero (negsuc n) side h = tt
resolved_within Clamp (pos n) side h = clamp_within _ n side h refl
resolved_within Clamp (negsuc n) side h = h
resolved_within Mirror c side h = mirror_within _ c side h refl

-- ---- inside, every mode reads the picture itself

mirror_inside : (b : Bool) (x side : ℕ) → x < side → eqb side 1 ≡ b → cond b 0 (fold (x % (2 * (side - 1))) side (2 * (side - 1))) ≡ x
mirror_inside true x side h e = let q : side ≡ 1 = eqb-true side 1 e in omega arith
mirror_inside false x side h e =
    let q : side ≡ 1 → ⊥ = eqb-false side 1 e in
    let l : x < 2 * (side - 1) = omega arith in
    rw (mod-eq_of_lt l, lt-ltb x side h)

pub resolved_inside : (mode : BorderMode) (x side : ℕ) → x < side → resolved mode (pos x) side ≡ At x
resolved_inside Zero x side h = rw (lt-ltb x side h)
resolved_inside Clamp x side h = rw (lt-ltb x side h)
resolved_inside Mirror x side h = ap At (mirror_inside _ x side h refl)

pub diff : (a b : ℕ) → b ≤ a → pos a -ℤ pos b ≡ pos (a - b)
diff a zero h = ap pos (omega arith)
diff a (suc b) h = rw (le-ltb a (suc b) h)

pub sample_inside : {A : Type 0} (z : A) (at : ℕ → A) (d : Size) (mode : BorderMode) (x y : ℕ) → x < d.width → y < d.height
    → sample_at z at d mode (pos x) (pos y) ≡ at (y * d.width + x)
unfolding sample_at
sample_inside z at d mode x y p q = rw (resolved_inside mode x d.width p, resolved_inside mode y d.height q)
