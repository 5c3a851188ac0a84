-- Joined pixels, by paths and without a word of the walk (00.D3.2), and a test that computes them. Demand 3, which counts them, stands with
-- its proof in crate hysteresis, specs/Demand. `Touch` and `Way` speak of any one test of pixels, with no seeds: they are what a grouping of
-- a map's pixels is stated by (`Way d on q r`: q and r are of one group), with the laws in proofs/Paths.
use Rattle.std.specs.Prelude.{ℕ, zero, suc, ◌+◌, ◌/◌, ◌%◌, ◌≤◌, ◌<◌, Bool, false, ◌&&◌, ◌||◌, List, T, leb, get_or}
use Rattle.rules.specs.Picture.{area, tabulate, any_below, tally}
use Rattle.rules.specs.declared.Size.{Size}

-- ---- paths

-- at most one apart
abbrev pub Near : ℕ → ℕ → Type 0
Near a b = (a ≤ b + 1) × (b ≤ a + 1)

-- two pixels of the picture that touch, by a side or a corner: columns and rows are at most one apart
pub record Touch (d : Size) (q r : ℕ) : Type 0 where
  pub from : q < area d
  pub to : r < area d
  pub columns : Near (q % d.width) (r % d.width)
  pub rows : Near (q / d.width) (r / d.width)

-- an 8-connected path, from one pixel to another, of pixels that pass the test lo
pub data Way (d : Size) (lo : ℕ → Bool) : ℕ → ℕ → Type 0 where
  here : {q : ℕ} → q < area d → T (lo q) → Way d lo q q
  on : {q r t : ℕ} → Way d lo q r → Touch d r t → T (lo t) → Way d lo q t

-- joined to a pixel that passes the test hi, by such a path
pub record Joined (d : Size) (hi lo : ℕ → Bool) (q : ℕ) : Type 0 where
  pub seed : ℕ
  pub strong : T (hi seed)
  pub way : Way d lo seed q

-- ---- a test that computes them: the seeds, closed width * height times

abbrev pub near : ℕ → ℕ → Bool
near a b = leb a (b + 1) && leb b (a + 1)

abbrev pub touches : Size → ℕ → ℕ → Bool
touches d q r = near (q % d.width) (r % d.width) && near (q / d.width) (r / d.width)

-- the pixels told so far, and those at or above low that touch one of them
unfoldable pub grown : Size → (ℕ → Bool) → List Bool → List Bool
grown d lo told =
    tabulate (area d) (λ q. get_or told q false || (lo q && any_below (λ r. get_or told r false && touches d r q) (area d)))

unfoldable pub closed : Size → (ℕ → Bool) → ℕ → List Bool → List Bool
closed d lo zero told = told
closed d lo (suc k) told = grown d lo (closed d lo k told)

unfoldable pub told : Size → (ℕ → Bool) → (ℕ → Bool) → List Bool
told d hi lo = closed d lo (area d) (tabulate (area d) (λ q. hi q && lo q))

unfoldable pub joined : Size → (ℕ → Bool) → (ℕ → Bool) → ℕ → Bool
joined d hi lo q = get_or (told d hi lo) q false

-- A test that tells exactly the joined pixels; `joined` is one (proofs/Paths), and any two count the same.
pub record Tells (d : Size) (hi lo : ℕ → Bool) (J : ℕ → Bool) : Type 0 where
  pub sound : (q : ℕ) → q < area d → T (J q) → Joined d hi lo q
  pub complete : (q : ℕ) → Joined d hi lo q → T (J q)

-- N
unfoldable pub joined_count : Size → (ℕ → Bool) → (ℕ → Bool) → ℕ
joined_count d hi lo = let l = told d hi lo in tally (λ q. get_or l q false) (area d)
