-- A list of patterns turned into bytes, floats or signed numbers.
use Rattle.std.specs.Prelude.{◌≡◌, List, ℕ, ◌≤◌, ◌%◌, min, length, get_or, ℤ}
use Rattle.std.specs.Int.{w16}
use Rattle.std.proofs.Common.{to_z}
use Rattle.rules.specs.Picture.{filled}

-- the signed number of a pattern's low 16 bits
abbrev pub signed_of : ℕ → ℤ
signed_of bits = to_z w16 (bits % 65536)

-- `new` is `old` with `count` of the list's entries, each turned by f: all, or as many as there is room for
pub record Turned {A : Type 0} (f : ℕ → A) (list : List ℕ) (old new : List A) (count : ℕ) : Type 0 where
  pub counted : count ≡ min (length list) (length old)
  pub within : count ≤ length new
  pub is : new ≡ filled count (λ i. f (get_or list i 0)) old
