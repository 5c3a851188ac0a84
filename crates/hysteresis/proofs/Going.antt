-- A slice under way: so many takes of its budget are made. Assumes nothing.
use Prim.Native.Nat.{ℕ, zero, suc, ◌+◌, ◌-◌, ◌≤◌, ◌<◌}
use native.Mathlib.Omega.{arith}
use mathlib.Core.Path.{◌≡◌, refl}
use borrow.Author.Tests.{eq-eqb, ne_eqb}
use Rattle.rules.specs.Walk.{State, taken, sliced, takes}
use Rattle.rules.specs.declared.Size.{Size}
use Rattle.hysteresis.specs.Fit.{Fit}
use Rattle.hysteresis.proofs.Fits.{fit_taken}

-- THE INVARIANT: t takes are made from s₀, which leave s: the rest of the budget b ends where the whole would
pub record Going (d : Size) (b : ℕ) (s₀ : State) (t : ℕ) (s : State) : Type 0 where
  pub within : t ≤ b
  pub rest : sliced d (b - t) s ≡ sliced d b s₀
  pub made : t + takes d (b - t) s ≡ takes d b s₀
  pub fit : Fit d s

pub going_none : {d : Size} (b : ℕ) {s : State} → Fit d s → Going d b s 0 s
going_none b h = let e : b - 0 ≡ b = omega arith in record { within = omega arith; rest = rw e; made = rw e (omega arith); fit = h }

-- a walk that has ended stays as it is
ended : (d : Size) (k : ℕ) (s : State) → s.pending ≡ 0 → (sliced d k s ≡ s) × (takes d k s ≡ 0)
unfolding sliced takes
ended d zero s p = (refl, refl)
ended d (suc k) s p = (rw (eq-eqb s.pending 0 p), rw (eq-eqb s.pending 0 p))

module _ {d : Size} {b : ℕ} {s₀ : State} {t : ℕ} {s : State} (g : Going d b s₀ t s) where
  pub going_more : {u : State} → t < b → 0 < s.pending → u ≡ taken d s → Going d b s₀ (t + 1) u
  unfolding sliced takes
  going_more l p e =
      let m : b - t ≡ suc (b - (t + 1)) = omega arith in
      let n = ne_eqb s.pending 0 (omega arith) in
      record {
        within = omega arith;
        rest = rw e (rw (m, n) at g.rest);
        made = rw e (omega (arith, rw (m, n) at g.made));
        fit = rw e (fit_taken g.fit p);
      }

  pub going_spent : b ≤ t → (s ≡ sliced d b s₀) × (b ≡ takes d b s₀)
  unfolding sliced takes
  going_spent l = let m : b - t ≡ 0 = omega arith in (rw m at g.rest, omega (arith, g.within, rw m at g.made))

  pub going_ended : s.pending ≡ 0 → (s ≡ sliced d b s₀) × (t ≡ takes d b s₀)
  going_ended p = let x = ended d (b - t) s p in (rw x.0 at g.rest, omega (arith, g.made))
