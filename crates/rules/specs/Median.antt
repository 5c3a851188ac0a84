-- The median: the middle item of the sorted window (01.Border.12).
use Rattle.std.specs.Prelude.{ℕ, ◌+◌, ◌*◌, ◌/◌, ◌%◌, ◌≤◌, ◌<◌, ◌≡◌, cond, List, [], ◌∷◌, leb, eqb, length, get_or}
use Rattle.rules.specs.Picture.{tabulate, bit}
use Rattle.rules.specs.Border.{byte_sample, under}
use Rattle.rules.specs.declared.Size.{Size}
use Rattle.rules.specs.declared.BorderMode.{BorderMode}

-- how often v stands in a list
unfoldable pub occurrences : ℕ → List ℕ → ℕ
occurrences v [] = 0
occurrences v (a ∷ l) = bit (eqb a v) + occurrences v l

-- What "the sorted window" means: s is in order, and each number stands in s as often as in l.
-- There is exactly one such s, whatever the algorithm (proofs/Sorting).
pub record SortOf (l s : List ℕ) : Type 0 where
  pub ordered : (i j : ℕ) → i ≤ j → j < length s → get_or s i 0 ≤ get_or s j 0
  pub same : (v : ℕ) → occurrences v s ≡ occurrences v l

-- and this computes it
unfoldable pub insert : ℕ → List ℕ → List ℕ
insert a [] = a ∷ []
insert a (b ∷ l) = cond (leb a b) (a ∷ b ∷ l) (b ∷ insert a l)

unfoldable pub sorted : List ℕ → List ℕ
sorted [] = []
sorted (a ∷ l) = insert a (sorted l)

-- The k by k samples about (x, y), outside samples 0 under Zero; k is odd.
unfoldable pub window_at : Size → ℕ → BorderMode → List ℕ → ℕ → ℕ → List ℕ
window_at d k mode pixels x y =
    tabulate (k * k) (λ j. byte_sample pixels d mode (under x k (j % k)) (under y k (j / k)))

-- item k * k / 2 of the sorted window, counted from 0
unfoldable pub median_at : Size → ℕ → BorderMode → List ℕ → ℕ → ℕ → ℕ
median_at d k mode pixels x y = get_or (sorted (window_at d k mode pixels x y)) (k * k / 2) 0

-- a default median's window (01.Border.13); its border, like that of every default filter, is Clamp
abbrev pub default_window : ℕ
default_window = 3
