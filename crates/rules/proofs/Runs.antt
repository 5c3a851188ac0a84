-- A whole run's table and room in every buffer: an accepted run has it (`Roomy`), and where it is, only the rows in front of those that ask
-- for it count. Assumes nothing.
use mathlib.Core.Path.{◌≡◌}
use mathlib.Core.List.{List, []}
use Prim.Native.Nat.{ℕ}
use lib.Ieee.{Float}
use borrow.Author.Tests.{le-ltb}
use Rattle.rules.specs.Refusals.{Rule, Scratch, first, run_front, run_rows}
use Rattle.rules.specs.Run.{Roomy}
use Rattle.rules.specs.declared.Size.{Size}
use Rattle.rules.specs.declared.Thresholds.{Thresholds}
use Rattle.rules.proofs.Rows.{off, room_off}

module _ (d : Size) (pixels : List ℕ) (taps : List Float) (t : Thresholds) where
  -- the rows that do not ask for room
  abbrev pub front : List Rule
  front = run_front d pixels taps t []

  pub roomy : (s : Scratch) (map : List ℕ) → Roomy d s map → first (run_rows d pixels taps t s map) ≡ first front
  roomy s map r =
      rw (
        le-ltb _ _ r.work,
        le-ltb _ _ r.magnitude,
        le-ltb _ _ r.gx,
        le-ltb _ _ r.gy,
        le-ltb _ _ r.blurred,
        le-ltb _ _ r.marks,
        le-ltb _ _ r.stack,
        le-ltb _ _ r.room,
      )

  -- buffers of just width * height entries are enough: an accepted run may have no more
  pub rooms : (s : Scratch) (map : List ℕ) → first (run_rows d pixels taps t s map) ≡ 0 → Roomy d s map
  rooms s map e =
      let q = (off (run_rows d pixels taps t s map) tt e).1.1.1.1.1.1 in
      record {
        work = room_off d s.work q.0;
        magnitude = room_off d s.magnitude q.1.0;
        gx = room_off d s.gx q.1.1.0;
        gy = room_off d s.gy q.1.1.1.0;
        blurred = room_off d s.blurred q.1.1.1.1.0;
        marks = room_off d s.marks q.1.1.1.1.1.0;
        stack = room_off d s.stack q.1.1.1.1.1.1.0;
        room = room_off d map q.1.1.1.1.1.1.1.0;
      }
