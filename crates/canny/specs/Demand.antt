-- DEMAND 1 of the whole run (00.D1.3): what it shows depends on its picture, taps and thresholds alone, never on what its buffers held; and
-- what the map and the count are, in demand 3's words. What demand 1 says of every call, the run among them, is in rules/specs/Demand.
use Rattle.std.specs.Prelude.{ℕ, ◌<◌, ◌≡◌, Bool, List, get_or, take, drop, Float}
use Rattle.rules.specs.Picture.{area, tally}
use Rattle.rules.specs.Walk.{at_least}
use Rattle.rules.specs.Refusals.{Scratch}
use Rattle.rules.specs.Joined.{Joined, Tells}
use Rattle.rules.specs.Run.{suppressed_of, cleared_scratch, canny, Roomy}
use Rattle.rules.specs.declared.Size.{Size}
use Rattle.rules.specs.declared.Thresholds.{Thresholds}
use Rattle.rules.specs.Answers.{Counted}

module _ (d : Size) (pixels : List ℕ) (taps : List Float) (t : Thresholds) where
  -- a run with these buffers lent: its answer, the map, the scratch
  abbrev pub run : Scratch → List ℕ → Counted × (List ℕ × Scratch)
  run s map = canny d pixels taps t s map

  -- at or above high, and at or above low, among the suppressed magnitudes
  abbrev pub hi : ℕ → Bool
  hi = at_least t.high (suppressed_of d pixels taps)

  abbrev pub lo : ℕ → Bool
  lo = at_least t.low (suppressed_of d pixels taps)

  pub record Demand1 : Type 0 where
    -- any two sets of buffers with room: the same refusal and the same count
    pub same_answer : (s s' : Scratch) (map map' : List ℕ) → Roomy d s map → Roomy d s' map' → (run s map).0 ≡ (run s' map').0
    -- accepted: the same map
    pub same_map : (s s' : Scratch) (map map' : List ℕ) → (run s map).0.refusal ≡ 0 → (run s' map').0.refusal ≡ 0
        → take (area d) (run s map).1.0 ≡ take (area d) (run s' map').1.0
    -- nothing written past it
    pub kept_past : (s : Scratch) (map : List ℕ) → drop (area d) (run s map).1.0 ≡ drop (area d) map
    -- and the scratch zero, but for its entries past the picture, which are as they were
    pub wiped : (s : Scratch) (map : List ℕ) → (run s map).0.refusal ≡ 0 → (run s map).1.1 ≡ cleared_scratch d s
    -- the count is demand 3's N of the suppressed magnitudes: what any test that tells the joined pixels counts
    pub counted : (s : Scratch) (map : List ℕ) → (run s map).0.refusal ≡ 0
        → (J : ℕ → Bool) → Tells d hi lo J → (run s map).0.count ≡ tally J (area d)
    -- the map is 255 at the joined pixels
    pub map_on : (s : Scratch) (map : List ℕ) → (run s map).0.refusal ≡ 0 → (q : ℕ) → Joined d hi lo q → get_or (run s map).1.0 q 0 ≡ 255
    -- and 0 elsewhere
    pub map_off : (s : Scratch) (map : List ℕ) → (run s map).0.refusal ≡ 0
        → (q : ℕ) → q < area d → (Joined d hi lo q → ⊥) → get_or (run s map).1.0 q 0 ≡ 0
