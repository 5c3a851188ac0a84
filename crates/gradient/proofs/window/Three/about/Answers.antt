-- `Three::about` meets its contract: each row by its place. Assumes nothing.
use Rattle.std.proofs.Common.{◌≡◌, List, ℕ, length, ap, arith, add-zero}
use Rattle.rules.specs.declared.BorderMode.{BorderMode}
use Rattle.gradient.specs.Nine.{Three, three_about}
use Rattle.gradient.proofs.Nines.{row_length}
use Rattle.gradient.proofs.window.Three.about.Goals as goal

pub invariant_of-result : goal.invariant_of-result
invariant_of-result c =
    let a = c.args in
    let p = c.requires.0 in
    omega (arith, p.sides.width, ap length c.row_at-2.ensures, row_length a.size a.border a.pixels.now p a.y c.requires.1)

-- three rows, by what each is
three_same : {m : BorderMode} {a b c a' b' c' : List ℕ} → a ≡ a' → b ≡ b' → c ≡ c'
    → ◌≡◌ {A = Three} record { mode = m; above = a; row = b; below = c } record { mode = m; above = a'; row = b'; below = c' }
three_same p q r = cc

pub returns : goal.returns
unfolding three_about
returns c = rw add-zero (three_same (rw c.place.ensures at c.row_at.ensures) c.row_at-2.ensures (rw c.place-2.ensures at c.row_at-3.ensures))
