-- What a take needs and keeps, on every state that refusal 9 lets through.
use Rattle.std.specs.Prelude.{ℕ, ◌+◌, ◌≤◌, ◌<◌, length, get_or}
use Rattle.rules.specs.Limits.{max_area}
use Rattle.rules.specs.Picture.{area}
use Rattle.rules.specs.Walk.{State, count}
use Rattle.rules.specs.declared.Size.{Size}

-- the buffers hold the picture, pending indexes are in it, and there is room for each weak pixel
pub record Fit (d : Size) (s : State) : Type 0 where
  pub small : area d ≤ max_area
  pub marks_long : area d ≤ length s.marks
  pub stack_long : area d ≤ length s.stack
  pub room : s.pending + count 1 s.marks (area d) ≤ area d
  pub held : (i : ℕ) → i < s.pending → get_or s.stack i 0 < area d
