-- The walk under way over its lent buffers, as the takes hold it.
use Rattle.std.specs.Prelude.{◌≡◌}
use Rattle.rules.specs.Walk.{State, state}
use Rattle.hysteresis.specs.declared.takes.Takes.{Takes}

-- its state
abbrev pub held : Takes → State
held t = state t.marks.now t.stack.now t.pending

-- the same buffers and the same picture, whatever stands in them
abbrev pub Same : Takes → Takes → Type 0
Same t u =
    (u.marks.ghost_name ≡ t.marks.ghost_name) × (u.stack.ghost_name ≡ t.stack.ghost_name) × (u.size ≡ t.size)
