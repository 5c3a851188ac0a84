-- A border mode by its number: unknown and refused, or known and handed on. Assumes nothing.
use mathlib.Core.Path.{◌≡◌, ap, ◌∙◌}
use Prim.Native.Nat.{ℕ, ◌<◌, ◌≤◌}
use borrow.Author.Tests.{lt-ltb, le-ltb}
use Rattle.rules.specs.declared.BorderMode.{BorderMode}
use Rattle.rules.specs.Border.{mode_of}
use Rattle.kelontsira.specs.Exports.{bordered}

module _ {A : Type 0} (border : ℕ) (kept : A) (call : BorderMode → ℕ × A) where
  pub unknown : 2 < border → (255, kept) ≡ bordered border kept call
  unfolding bordered
  unknown u = rw (lt-ltb _ _ u)

  -- n is the number of the answer, which the call says
  pub known : (mode : BorderMode) (n m : ℕ) (left : A) → (border ≤ 2) × (mode ≡ mode_of border) → n ≡ m → (m, left) ≡ call mode → (n, left) ≡ bordered border kept call
  unfolding bordered
  known mode n m left k q e = rw (le-ltb _ _ k.0) (rw q e ∙ ap call k.1)
