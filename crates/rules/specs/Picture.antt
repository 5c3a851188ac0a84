-- Pictures and lent buffers as lists in row order (01.Take.1), and tests and counts over their indexes.
use Rattle.std.specs.Prelude.{ℕ, zero, suc, ◌+◌, ◌*◌, ◌/◌, ◌%◌, Bool, true, false, ◌||◌, List, [], ◌∷◌, ◌++◌, drop}
use Rattle.rules.specs.declared.Size.{Size}

-- f 0, .., f (n - 1)
unfoldable pub tabulate {ℓ} : {A : Type ℓ} → ℕ → (ℕ → A) → List A
tabulate zero f = []
tabulate (suc n) f = tabulate n f ++ (f n ∷ [])

-- The buffer `old` with f 0, .., f (n - 1) written over its first n entries. The others are never written (01.Refusal.16).
abbrev pub filled {ℓ} : {A : Type ℓ} → ℕ → (ℕ → A) → List A → List A
filled n f old = tabulate n f ++ drop n old

-- its first n entries zero (01.Refusal.15)
abbrev pub cleared {ℓ} : {A : Type ℓ} → ℕ → A → List A → List A
cleared n z old = filled n (λ i. z) old

-- n zeros
abbrev pub zeros : ℕ → List ℕ
zeros n = tabulate n (λ i. 0)

-- how many pixels a picture has: what a walk, its marks, its stack and its map have a place for
abbrev pub area : Size → ℕ
area d = d.width * d.height

-- how many entries a lent picture has: one for each pixel
abbrev pub entries : Size → ℕ
entries d = area d

-- what stands at index i of a picture whose pixel in column x and row y is f x y
abbrev pub by_pixel {ℓ} : {A : Type ℓ} → Size → (ℕ → ℕ → A) → ℕ → A
by_pixel d f i = f (i % d.width) (i / d.width)

-- the picture itself
abbrev pub in_row_order {ℓ} : {A : Type ℓ} → Size → (ℕ → ℕ → A) → List A
in_row_order d f = tabulate (area d) (by_pixel d f)

-- whether some number below n passes the test
unfoldable pub any_below : (ℕ → Bool) → ℕ → Bool
any_below p zero = false
any_below p (suc n) = any_below p n || p n

-- a test as a number
abbrev pub bit : Bool → ℕ
bit true = 1
bit false = 0

-- how many numbers below n pass the test
unfoldable pub tally : (ℕ → Bool) → ℕ → ℕ
tally p zero = 0
tally p (suc n) = tally p n + bit (p n)
