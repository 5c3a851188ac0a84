-- What the walk's three calls answer, by what their refusal or their work gives. Assumes nothing.
use Prim.Native.Nat.{ℕ}
use mathlib.Core.Path.{◌≡◌}
use mathlib.Core.List.{List}
use lib.Ieee.{Float}
use borrow.Author.Tests.{ne_eqb}
use Rattle.std.specs.Prelude.{Result, Ok, Err}
use Rattle.rules.specs.Walk.{state, sliced, takes, mapped}
use Rattle.rules.specs.Picture.{area}
use Rattle.rules.specs.Refusals.{first, start_rows, slice_rows, map_rows}
use Rattle.rules.specs.Answers.{number_of, start_answer, slice_answer, map_answer}
use Rattle.rules.specs.Calls as Calls
use Rattle.rules.specs.Calls.{after_start, after_slice, slice_takes, sides_of, walk_of, lent}
use Rattle.rules.specs.declared.Size.{Size}
use Rattle.rules.specs.declared.Thresholds.{Thresholds}
use Rattle.rules.specs.declared.Walk.{Walk}
use Rattle.rules.specs.declared.Progress.{Progress}
use Rattle.rules.specs.declared.refusal.Refusal.{Refusal}
use Rattle.rules.proofs.Answers.{named}

-- ---- the start

module _ (d : Size) (t : Thresholds) (magnitudes : List Float) (marks stack : List ℕ) where
  pub start_refused : (r : Refusal) {a : Result Walk Refusal} → a ≡ Err r → number_of r ≡ first (start_rows d t magnitudes marks stack)
      → (start_answer a, (marks, stack)) ≡ Calls.start d t magnitudes marks stack
  unfolding Calls.start
  start_refused r e n = rw (e, ← n, ne_eqb (number_of r) 0 (named r))

  pub start_made : {m s : List ℕ} {p : ℕ} → 0 ≡ first (start_rows d t magnitudes marks stack) → state m s p ≡ after_start d t magnitudes marks stack
      → (start_answer (Ok (walk_of d p)), (m, s)) ≡ Calls.start d t magnitudes marks stack
  unfolding Calls.start
  start_made n e = rw (← n, ← e)

-- ---- a slice

module _ (w : Walk) (b : ℕ) (marks stack : List ℕ) {d : Size} (sides : d ≡ sides_of w) where
  pub slice_refused : (r : Refusal) {a : Result Progress Refusal} → a ≡ Err r → number_of r ≡ first (slice_rows d b (state marks stack w.pending))
      → (slice_answer w a, (marks, stack)) ≡ Calls.slice w b marks stack
  unfolding Calls.slice after_slice slice_takes
  slice_refused r e n = rw (e, ← (rw sides at n), ne_eqb (number_of r) 0 (named r))

  pub slice_made : {m s m' s' : List ℕ} {p k : ℕ} → 0 ≡ first (slice_rows d b (state marks stack w.pending))
      → state m' s' p ≡ sliced d b (state marks stack w.pending) → k ≡ takes d b (state marks stack w.pending) → m ≡ m' → s ≡ s'
      → (slice_answer w (Ok (record { takes = k; walk = record { width = w.width; height = w.height; pending = p } })), (m, s)) ≡ Calls.slice w b marks stack
  unfolding Calls.slice after_slice slice_takes
  slice_made n e f g h = rw (← (rw sides at n), ← (rw sides at e), rw sides at f, g, h)

-- ---- the map

module _ (w : Walk) (marks stack out : List ℕ) {d : Size} (sides : d ≡ sides_of w) where
  pub map_refused : (r : Refusal) {a : Result (Unit {0}) Refusal} → a ≡ Err r → number_of r ≡ first (map_rows d (state marks stack w.pending) out)
      → (map_answer w a, out) ≡ Calls.map w marks stack out
  unfolding Calls.map
  map_refused r e n = rw (e, ← (rw sides at n), ne_eqb (number_of r) 0 (named r))

  pub map_made : {o : List ℕ} → 0 ≡ first (map_rows d (state marks stack w.pending) out) → o ≡ mapped (area (sides_of w)) marks out
      → (map_answer {A = Unit {0}} w (Ok tt), o) ≡ Calls.map w marks stack out
  unfolding Calls.map
  map_made n e = rw (← (rw sides at n), e)
