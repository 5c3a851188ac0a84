-- What an accepted number says. Assumes nothing.
use Prim.Native.Nat.{ℕ, ◌+◌, ◌≤◌, ◌<◌}
use mathlib.Core.Path.{◌≡◌}
use mathlib.Core.Bool.{false}
use mathlib.Core.List.{List}
use lib.Dec.{leb, ltb}
use lib.ListN.{get_or}
use lib.Ieee.{Float, lt}
use borrow.Author.Tests.{ltb-false, leb-false, lt-leb, le-ltb}
use Rattle.rules.specs.Accepted.{Sides, Input, Room}
use Rattle.rules.specs.Picture.{area, any_below}
use Rattle.rules.specs.Walk.{State, mark, count, unusable}
use Rattle.rules.specs.Refusals.{first, bad_threshold, start_rows, slice_rows, map_rows}
use Rattle.rules.specs.declared.Size.{Size}
use Rattle.rules.specs.declared.Thresholds.{Thresholds}
use Rattle.rules.proofs.Bools.{neither}
use Rattle.rules.proofs.Tests.{any_none, none_any}
use Rattle.rules.proofs.Rows.{off, side_off, input_off, room_off}
use Rattle.hysteresis.specs.Fit.{Fit}

-- ---- row 9 as facts

pub record Usable (d : Size) (s : State) : Type 0 where
  pub pending : s.pending ≤ area d
  pub held : (i : ℕ) → i < s.pending → get_or s.stack i 0 < area d
  pub marks : (q : ℕ) → q < area d → mark s q ≤ 3
  pub room : s.pending + count 1 s.marks (area d) ≤ area d

usable_facts : (d : Size) (s : State) → unusable d s ≡ false → Usable d s
unfolding unusable
usable_facts d s e =
    let x = neither (ltb (area d) s.pending) _ e in
    let y = neither (any_below (λ i. leb (area d) (get_or s.stack i 0)) s.pending) _ x.1 in
    let z = neither (any_below (λ q. ltb 3 (get_or s.marks q 0)) (area d)) _ y.1 in
    record {
      pending = ltb-false _ _ x.0;
      held = λ i l. leb-false _ _ (any_none _ _ y.0 i l);
      marks = λ q l. ltb-false _ _ (any_none _ _ z.0 q l);
      room = ltb-false _ _ z.1;
    }

pub usable_of : (d : Size) (s : State) → Usable d s → unusable d s ≡ false
unfolding unusable
usable_of d s u =
    simp (
      le-ltb _ _ u.pending,
      none_any (λ i. leb (area d) (get_or s.stack i 0)) s.pending (λ i l. lt-leb _ _ (u.held i l)),
      none_any (λ q. ltb 3 (get_or s.marks q 0)) (area d) (λ q l. le-ltb _ _ (u.marks q l)),
      le-ltb _ _ u.room,
    )

-- ---- an accepted call

pub slice_fit : (d : Size) (b : ℕ) (s : State) → first (slice_rows d b s) ≡ 0 → Fit d s
slice_fit d b s e =
    let p = off (slice_rows d b s) tt e in
    let u = usable_facts d s p.1.1.1.1.0 in
    record {
      small = (side_off d p.0).small;
      marks_long = room_off d s.marks p.1.0;
      stack_long = room_off d s.stack p.1.1.0;
      room = u.room;
      held = u.held;
    }

pub record Mappable (d : Size) (s : State) (out : List ℕ) : Type 0 where
  pub sides : Sides d
  pub marks_long : Room d s.marks
  pub out_long : Room d out

pub mappable : (d : Size) (s : State) (out : List ℕ) → first (map_rows d s out) ≡ 0 → Mappable d s out
mappable d s out e =
    let p = off (map_rows d s out) tt e in
    record { sides = side_off d p.0; marks_long = room_off d s.marks p.1.0; out_long = room_off d out p.1.1.1.0 }

pub record Startable (d : Size) (t : Thresholds) (magnitudes : List Float) (marks stack : List ℕ) : Type 0 where
  pub sides : Sides d
  pub long : Input d magnitudes
  pub low : bad_threshold t.low ≡ false
  pub high : bad_threshold t.high ≡ false
  pub ordered : lt t.high t.low ≡ false
  pub marks_long : Room d marks
  pub stack_long : Room d stack

pub startable : (d : Size) (t : Thresholds) (magnitudes : List Float) (marks stack : List ℕ)
    → first (start_rows d t magnitudes marks stack) ≡ 0 → Startable d t magnitudes marks stack
startable d t magnitudes marks stack e =
    let p = off (start_rows d t magnitudes marks stack) tt e in
    let b = neither (bad_threshold t.low) _ p.1.1.0 in
    record {
      sides = side_off d p.0;
      long = input_off d magnitudes p.1.0;
      low = b.0;
      high = b.1;
      ordered = p.1.1.1.0;
      marks_long = room_off d marks p.1.1.1.1.0;
      stack_long = room_off d stack p.1.1.1.1.1.0;
    }
