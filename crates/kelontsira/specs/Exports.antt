-- The exports in terms of the calls they wrap (rules/specs/Calls and Run): records become numbers, border modes have numbers, and an
-- answer of several numbers is written to lent ones, which a refusal leaves as they were.
use Rattle.std.specs.Prelude.{ℕ, cond, ltb, Float}
use Rattle.std.proofs.Math.Option.{Option, some, none}
use Rattle.rules.specs.Calls.{accepted}
use Rattle.rules.specs.declared.Size.{Size}
use Rattle.rules.specs.declared.Kernel.{Kernel}
use Rattle.rules.specs.declared.SeparableKernel.{SeparableKernel}
use Rattle.rules.specs.declared.Thresholds.{Thresholds}
use Rattle.rules.specs.declared.Walk.{Walk}
use Rattle.rules.specs.Answers.{Started, Sliced, Mapped, Counted}
use Rattle.rules.specs.declared.BorderMode.{BorderMode}
use Rattle.rules.specs.Border.{mode_of}

-- ---- numbers for records

abbrev pub sides : ℕ → ℕ → Size
sides w h = record { width = w; height = h }

abbrev pub kernel_of : ℕ → ℕ → Kernel
kernel_of w h = record { width = w; height = h }

abbrev pub taps_of : ℕ → ℕ → SeparableKernel
taps_of h v = record { horizontal = h; vertical = v }

abbrev pub between : Float → Float → Thresholds
between l h = record { low = l; high = h }

abbrev pub walk_of : ℕ → ℕ → ℕ → Walk
walk_of w h p = record { width = w; height = h; pending = p }

-- a walk's state as three lent numbers
abbrev pub numbers_of : Walk → ℕ × (ℕ × ℕ)
numbers_of w = (w.width, (w.height, w.pending))

-- ---- border modes by number

-- An unknown mode is refused with 255 before every row of the call's own, and leaves what is lent as it was.
unfoldable pub bordered {ℓ} : {A : Type ℓ} → ℕ → A → (BorderMode → ℕ × A) → ℕ × A
bordered border kept call = cond (ltb 2 border) (255, kept) (call (mode_of border))

-- ---- answers through lent numbers

-- the resolver: the place to read, or the side itself where there is none
unfoldable pub placed : ℕ → ℕ → ℕ × Option ℕ → ℕ × ℕ
placed side old (n, some i) = (n, i)
placed side old (n, none) = (n, accepted n side old)

-- a start: the state's numbers, then the marks and the stack
unfoldable pub start_says {ℓ} : {A : Type ℓ} → ℕ × (ℕ × ℕ) → Started × A → ℕ × ((ℕ × (ℕ × ℕ)) × A)
start_says old (s, lent) = (s.refusal, (accepted s.refusal (numbers_of s.walk) old, lent))

-- a slice: the takes, the state's numbers, then the marks and the stack
unfoldable pub slice_says {ℓ} : {A : Type ℓ} → ℕ → ℕ × (ℕ × ℕ) → Sliced × A → ℕ × ((ℕ × (ℕ × (ℕ × ℕ))) × A)
slice_says taken old (s, lent) =
    (s.refusal, (accepted s.refusal (s.takes, numbers_of s.walk) (taken, old), lent))

-- a map request: the state is not lent, so only the output can change
unfoldable pub map_says {ℓ} : {A : Type ℓ} → Mapped × A → ℕ × A
map_says (m, out) = (m.refusal, out)

-- a whole run: the count, then the map and the scratch
abbrev pub count_says : ℕ → Counted → ℕ × ℕ
count_says old r = (r.refusal, accepted r.refusal r.count old)

unfoldable pub run_says {ℓ} : {A : Type ℓ} → ℕ → Counted × A → ℕ × (ℕ × A)
run_says old (r, lent) = ((count_says old r).0, ((count_says old r).1, lent))
