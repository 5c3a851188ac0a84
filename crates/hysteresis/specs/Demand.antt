-- DEMAND 3, clause by clause, over the paths of rules/specs/Joined: what a caller holds after an accepted start and any calls that follow
-- it. Its proof is proofs/Demand.
use Rattle.std.specs.Prelude.{ℕ, ◌+◌, ◌≤◌, ◌<◌, min, ◌≡◌, ◌↔◌, Bool, false, cond, List, [], ◌∷◌, eqb, length, get_or, Float}
use Rattle.rules.specs.Picture.{area, tally}
use Rattle.rules.specs.Walk.{state, count, unusable, at_least}
use Rattle.rules.specs.Calls as Calls
use Rattle.rules.specs.Joined.{Joined, Tells}
use Rattle.rules.specs.declared.Size.{Size}
use Rattle.rules.specs.declared.Thresholds.{Thresholds}
use Rattle.rules.specs.declared.Walk.{Walk}

-- what a caller holds between two calls, written by nobody else (00.D3.1): the state and the lent marks and stack
pub record Held : Type 0 where
  pub walk : Walk
  pub marks : List ℕ
  pub stack : List ℕ

-- ---- a caller's calls after the start

-- slices with a budget, map requests with a lent output, and starts over the same marks and stack
pub data Call : Type 0 where
  slice : ℕ → Call
  map : List ℕ → Call
  start : Size → Thresholds → List Float → Call

-- what the caller holds after a call, accepted or refused; of a refused start's answer it keeps nothing, but goes on with the walk it has
abbrev pub after_call : Call → Held → Held
after_call (slice b) h =
    let a = Calls.slice h.walk b h.marks h.stack in
    record { walk = a.0.walk; marks = a.1.0; stack = a.1.1 }
after_call (map out) h =
    let a = Calls.map h.walk h.marks h.stack out in
    record { walk = a.0.walk; marks = h.marks; stack = h.stack }
after_call (start d t magnitudes) h =
    let a = Calls.start d t magnitudes h.marks h.stack in
    record { walk = h.walk; marks = a.1.0; stack = a.1.1 }

-- A start among them is a refused one: an accepted one begins another walk, of which this speaks anew.
abbrev pub GoesOn : Call → Held → Type 0
GoesOn (slice b) h = Unit
GoesOn (map out) h = Unit
GoesOn (start d t magnitudes) h = (Calls.start d t magnitudes h.marks h.stack).0.refusal ≡ 0 → ⊥

-- the budget that a call adds: an accepted slice's
abbrev pub spent_by : Call → Held → ℕ
spent_by (slice b) h = cond (eqb (Calls.slice h.walk b h.marks h.stack).0.refusal 0) b 0
spent_by (map out) h = 0
spent_by (start d t magnitudes) h = 0

-- the same for calls one after another
unfoldable pub after_all : List Call → Held → Held
after_all [] h = h
after_all (c ∷ cs) h = after_all cs (after_call c h)

unfoldable pub AllGoOn : List Call → Held → Type 0
AllGoOn [] h = Unit
AllGoOn (c ∷ cs) h = GoesOn c h × AllGoOn cs (after_call c h)

unfoldable pub spent : List Call → Held → ℕ
spent [] h = 0
spent (c ∷ cs) h = spent_by c h + spent cs (after_call c h)

-- ---- what holds after them

-- of what a caller holds after accepted slices whose budgets sum to b, where N pixels are joined
pub record Progress (d : Size) (hi lo : ℕ → Bool) (N b : ℕ) (h : Held) : Type 0 where
  -- exactly the smaller of N and the budgets' sum are finished
  pub finished : count 3 h.marks (area d) ≡ min N b
  -- all of them joined pixels
  pub all_joined : (q : ℕ) → q < area d → get_or h.marks q 0 ≡ 3 → Joined d hi lo q
  -- the walk has ended exactly when N are
  pub ended : (h.walk.pending ≡ 0) ↔ (count 3 h.marks (area d) ≡ N)
  -- the state is never refused 9, and a slice with a budget from 1 on is accepted
  pub usable : unusable d (state h.marks h.stack h.walk.pending) ≡ false
  pub next : (k : ℕ) → 0 < k → (Calls.slice h.walk k h.marks h.stack).0.refusal ≡ 0
  -- once it has ended, a map request with room is accepted
  pub map_given : h.walk.pending ≡ 0 → (out : List ℕ) → area d ≤ length out → (Calls.map h.walk h.marks h.stack out).0.refusal ≡ 0
  -- and the map is 255 at those pixels
  pub map_on : h.walk.pending ≡ 0 → (out : List ℕ) → area d ≤ length out
      → (q : ℕ) → Joined d hi lo q → get_or (Calls.map h.walk h.marks h.stack out).1 q 0 ≡ 255
  -- and 0 elsewhere
  pub map_off : h.walk.pending ≡ 0 → (out : List ℕ) → area d ≤ length out
      → (q : ℕ) → q < area d → (Joined d hi lo q → ⊥) → get_or (Calls.map h.walk h.marks h.stack out).1 q 0 ≡ 0

-- ---- DEMAND 3 of a start with any magnitudes and thresholds, and any buffers: it holds of every accepted one

module _ (d : Size) (t : Thresholds) (magnitudes : List Float) (marks stack : List ℕ) where
  -- at or above high, and at or above low
  abbrev pub hi : ℕ → Bool
  hi = at_least t.high magnitudes

  abbrev pub lo : ℕ → Bool
  lo = at_least t.low magnitudes

  -- what a caller holds after the start
  abbrev pub held_at_start : Held
  held_at_start = let a = Calls.start d t magnitudes marks stack in record { walk = a.0.walk; marks = a.1.0; stack = a.1.1 }

  pub record Demand3 : Type 0 where
    -- some test tells exactly the joined pixels
    pub told : (J : ℕ → Bool) × Tells d hi lo J
    -- and N is what any such test counts: after any calls the walk has come as far as it should
    pub progress : (Calls.start d t magnitudes marks stack).0.refusal ≡ 0 → (J : ℕ → Bool) → Tells d hi lo J
        → (calls : List Call) → AllGoOn calls held_at_start
        → Progress d hi lo (tally J (area d)) (spent calls held_at_start) (after_all calls held_at_start)
