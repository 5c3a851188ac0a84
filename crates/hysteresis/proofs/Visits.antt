-- A visit, a row of three and the nine looks of a take: what each push keeps, they keep. Assumes nothing.
use Prim.Native.Nat.{ℕ, zero, suc, ◌+◌, ◌/◌, ◌%◌, ◌≤◌, ◌<◌}
use native.Mathlib.Nat.{add-zero}
use native.Mathlib.Omega.{arith}
use mathlib.Core.Path.{◌≡◌, refl}
use mathlib.Core.Bool.{Bool, true, false, cond}
use borrow.Author.Tests.{eqb-true}
use Rattle.rules.specs.Walk.{State, mark, has, push, look, visit, looks, inside, place}
use Rattle.rules.specs.declared.Size.{Size}
use Rattle.hysteresis.specs.Around.{row}
use Rattle.hysteresis.proofs.Places.{Within, within, inside_of, col_at, row_at}

pub visit_in : {d : Size} {nx ny : ℕ} (s : State) → Within d nx ny → visit d nx ny s ≡ look (place d nx ny) s
unfolding visit
visit_in s w = rw (inside_of w)

pub visit_out : (d : Size) (nx ny : ℕ) (s : State) → (Within d nx ny → ⊥) → visit d nx ny s ≡ s
unfolding visit
visit_out d nx ny s h = go (inside d nx ny) refl
  where
    go : (b : Bool) → inside d nx ny ≡ b → cond b (look (place d nx ny) s) s ≡ s
    go true e = absurd (h (within d nx ny e))
    go false e = refl

-- three rows of three are the nine looks
pub nine_looks : (d : Size) (q : ℕ) (s : State)
    → row d (q % d.width) (q / d.width + 2) (row d (q % d.width) (q / d.width + 1) (row d (q % d.width) (q / d.width) s)) ≡ looks d q 9 s
unfolding looks row
nine_looks d q s = simp add-zero

-- P is kept where a weak pixel at a place of which Q holds is pushed
module _ (d : Size) (P : State → Type 0) (Q : ℕ → Type 0) (grow : (s : State) → P s → (r : ℕ) → Q r → mark s r ≡ 1 → P (push r s)) where
  look_keeps : (r : ℕ) → Q r → (s : State) → P s → P (look r s)
  unfolding look
  look_keeps r q s h = go (has 1 s.marks r) refl
    where
      go : (b : Bool) → has 1 s.marks r ≡ b → P (cond b (push r s) s)
      go true e = grow s h r q (eqb-true (mark s r) 1 e)
      go false e = h

  pub visit_keeps : (nx ny : ℕ) → (Within d nx ny → Q (place d nx ny)) → (s : State) → P s → P (visit d nx ny s)
  unfolding visit
  visit_keeps nx ny q s h = go (inside d nx ny) refl
    where
      go : (b : Bool) → inside d nx ny ≡ b → P (cond b (look (place d nx ny) s) s)
      go true e = look_keeps (place d nx ny) (q (within d nx ny e)) s h
      go false e = h

  pub looks_keep : (q : ℕ) → ((k : ℕ) → k < 9 → Within d (col_at d q k) (row_at d q k) → Q (place d (col_at d q k) (row_at d q k)))
      → (s : State) → P s → (k : ℕ) → k ≤ 9 → P (looks d q k s)
  unfolding looks
  looks_keep q f s h zero l = h
  looks_keep q f s h (suc k) l = visit_keeps (col_at d q k) (row_at d q k) (f k l) (looks d q k s) (looks_keep q f s h k (omega arith))
