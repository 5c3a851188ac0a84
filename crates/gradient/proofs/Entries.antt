-- The entries that a loop has tested, and the magnitude of an entry. Assumes nothing.
use mathlib.Core.Path.{◌≡◌, ap, ◌∙◌}
use mathlib.Core.Logic.{⊎_elim}
use mathlib.Core.List.{List}
use Prim.Native.Nat.{ℕ, ◌+◌}
use native.Mathlib.Omega.{arith}
use lib.ListN.{get_or}
use lib.Ieee.{Float}
use lib.IntN.{ℤ, pos}
use mir.Syntax.{w16}
use mir.Val.{SFits, to_z, of_z}
use mir.ValLaws.{to_z-of_z}
use Rattle.rules.specs.Gradient.{energy}
use Rattle.rules.specs.Root.{magnitude_of}
use Rattle.rules.specs.Calls.{magnitude_at}
use Rattle.rules.proofs.Tests.{below_suc}
use Rattle.gradient.specs.Entries.{AllBelow}

-- one entry more is right
pub all_more : {A : Type 0} {i : ℕ} {f : ℕ → A} (none : A) (l : List A) → AllBelow none i f l → get_or l i none ≡ f i → AllBelow none (i + 1) f l
all_more none l h e j k = ⊎_elim (λ z. rw z e) (h j) (below_suc (omega arith))

-- the magnitude at i
pub magnitude_at_lem : (gx gy : List ℤ) (i : ℕ) {s : ℕ} {r : Float} → SFits w16 (get_or gx i (pos 0)) → SFits w16 (get_or gy i (pos 0))
    → s ≡ energy (to_z w16 (of_z w16 (get_or gx i (pos 0)))) (to_z w16 (of_z w16 (get_or gy i (pos 0)))) → r ≡ magnitude_of s → r ≡ magnitude_at gx gy i
unfolding magnitude_at
magnitude_at_lem gx gy i f g e q = q ∙ ap magnitude_of (rw (to_z-of_z w16 _ f, to_z-of_z w16 _ g) at e)
