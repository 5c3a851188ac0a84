-- DEMAND 1 of each public call, over one list of them (00.D1.1, 00.D1.2): its number is the first that applies in its table, and a refusal
-- changes no lent entry. And over the same list: a picture with a side of 0 changes nothing, and its count is 0 (01.Take.7). Both are proved
-- in proofs/Demand. What demand 1 says of the whole run alone stands in crate canny, specs/Demand.
use Rattle.std.specs.Prelude.{ℕ, ◌≡◌, List, [], ◌∷◌, ℤ, Float}
use Rattle.std.proofs.Math.Option.{Option, none}
use Rattle.rules.specs.Picture.{area}
use Rattle.rules.specs.Walk.{state}
use Rattle.rules.specs.Refusals.{Rule, first, Scratch, coord_rows, kernel_rows, separable_rows, blur_rows, box_rows, plain_rows, median_rows}
use Rattle.rules.specs.Refusals.{gradient_rows, magnitude_rows, suppression_rows, start_rows, slice_rows, map_rows, run_rows}
use Rattle.rules.specs.Calls as Calls
use Rattle.rules.specs.Calls.{sides_of}
use Rattle.rules.specs.Run.{canny}
use Rattle.rules.specs.declared.Size.{Size}
use Rattle.rules.specs.declared.Kernel.{Kernel}
use Rattle.rules.specs.declared.SeparableKernel.{SeparableKernel}
use Rattle.rules.specs.declared.BorderMode.{BorderMode}
use Rattle.rules.specs.declared.Thresholds.{Thresholds}
use Rattle.rules.specs.declared.Walk.{Walk}

-- a public call, as these statements see it
pub record PublicCall : Type 1 where
  -- what it is given, what it is lent to write to, and what it answers beside the number
  pub Given : Type 0
  pub Lent : Type 0
  pub Answer : Type 0
  -- its table
  pub rows : Given → Lent → List Rule
  -- its number, the rest of its answer, and what was lent, afterwards
  pub call : Given → Lent → ℕ × (Answer × Lent)
  -- the rest of a refused answer: zeros, but for a slice and a map request, which hand the walk's state back (01.Refusal.14)
  pub nothing : Given → Answer
  -- the sides of its picture, and the count in its answer, where it has one
  pub sides : Given → Size
  pub count : Answer → ℕ

-- a call that answers with its number alone
abbrev pub plain : (Given Lent : Type 0) → (Given → Size) → (Given → Lent → List Rule) → (Given → Lent → ℕ × Lent) → PublicCall
plain Given Lent sides rows call = record {
  Given = Given;
  Lent = Lent;
  Answer = Unit;
  rows = rows;
  call = λ g l. let a = call g l in (a.0, (tt, a.1));
  nothing = λ g. tt;
  sides = sides;
  count = λ a. 0;
}

-- ---- the calls

-- one coordinate: its side is no picture's, and a side of 0 is refused
abbrev pub coord_call : PublicCall
coord_call = record {
  Given = ℤ × ℕ × BorderMode;
  Lent = Unit;
  Answer = Option ℕ;
  rows = λ g l. coord_rows g.1;
  call = λ g l. let a = Calls.resolve_coord g.0 g.1 g.2 in (a.0, (a.1, l));
  nothing = λ g. none;
  sides = λ g. record { width = g.1; height = g.1 };
  count = λ a. 0;
}

abbrev pub kernel_call : PublicCall
kernel_call =
    plain (Size × Kernel × BorderMode × List ℕ × List Float) (List ℕ) (λ g. g.0)
    (λ g out. kernel_rows g.0 g.1 g.3 g.4 out)
    (λ g out. Calls.apply_kernel g.0 g.1 g.2 g.3 g.4 out)

abbrev pub separable_call : PublicCall
separable_call =
    plain (Size × SeparableKernel × BorderMode × List ℕ × List Float × List Float) (List Float × List ℕ) (λ g. g.0)
    (λ g l. separable_rows g.0 g.1 g.3 g.4 g.5 l.0 l.1)
    (λ g l. Calls.apply_separable_kernel g.0 g.1 g.2 g.3 g.4 g.5 l.0 l.1)

abbrev pub blur_call : PublicCall
blur_call =
    plain (Size × BorderMode × List ℕ × List Float) (List Float × List ℕ) (λ g. g.0)
    (λ g l. blur_rows g.0 g.2 g.3 l.0 l.1)
    (λ g l. Calls.gaussian_blur g.0 g.1 g.2 g.3 l.0 l.1)

abbrev pub box_call : PublicCall
box_call =
    plain (Size × BorderMode × List ℕ) (List Float × List ℕ) (λ g. g.0)
    (λ g l. box_rows g.0 g.2 l.0 l.1)
    (λ g l. Calls.box_blur g.0 g.1 g.2 l.0 l.1)

abbrev pub sharpen_call : PublicCall
sharpen_call =
    plain (Size × BorderMode × List ℕ) (List ℕ) (λ g. g.0)
    (λ g out. plain_rows g.0 g.2 out)
    (λ g out. Calls.sharpen g.0 g.1 g.2 out)

abbrev pub median_call : PublicCall
median_call =
    plain (Size × ℕ × BorderMode × List ℕ) (List ℕ) (λ g. g.0)
    (λ g out. median_rows g.0 g.1 g.3 out)
    (λ g out. Calls.median g.0 g.1 g.2 g.3 out)

abbrev pub gradient_call : PublicCall
gradient_call =
    plain (Size × BorderMode × List ℕ) (List ℤ × List ℤ) (λ g. g.0)
    (λ g l. gradient_rows g.0 g.2 l.0 l.1)
    (λ g l. Calls.sobel_gradients g.0 g.1 g.2 l.0 l.1)

abbrev pub sobel_call : PublicCall
sobel_call =
    plain (Size × BorderMode × List ℕ) (List ℕ) (λ g. g.0)
    (λ g out. plain_rows g.0 g.2 out)
    (λ g out. Calls.sobel g.0 g.1 g.2 out)

abbrev pub magnitude_call : PublicCall
magnitude_call =
    plain (Size × List ℤ × List ℤ) (List Float) (λ g. g.0)
    (λ g out. magnitude_rows g.0 g.1 g.2 out)
    (λ g out. Calls.gradient_magnitude g.0 g.1 g.2 out)

abbrev pub suppression_call : PublicCall
suppression_call =
    plain (Size × List Float × List ℤ × List ℤ) (List Float) (λ g. g.0)
    (λ g out. suppression_rows g.0 g.1 g.2 g.3 out)
    (λ g out. Calls.non_maximum_suppression g.0 g.1 g.2 g.3 out)

-- marks and stack are lent
abbrev pub start_call : PublicCall
start_call = record {
  Given = Size × Thresholds × List Float;
  Lent = List ℕ × List ℕ;
  Answer = Walk;
  rows = λ g l. start_rows g.0 g.1 g.2 l.0 l.1;
  call = λ g l. let a = Calls.start g.0 g.1 g.2 l.0 l.1 in (a.0.refusal, (a.0.walk, a.1));
  nothing = λ g. record { width = 0; height = 0; pending = 0 };
  sides = λ g. g.0;
  count = λ a. a.pending;
}

-- the state and the budget; the takes and the state
abbrev pub slice_call : PublicCall
slice_call = record {
  Given = Walk × ℕ;
  Lent = List ℕ × List ℕ;
  Answer = ℕ × Walk;
  rows = λ g l. slice_rows (sides_of g.0) g.1 (state l.0 l.1 g.0.pending);
  call = λ g l. let a = Calls.slice g.0 g.1 l.0 l.1 in (a.0.refusal, ((a.0.takes, a.0.walk), a.1));
  nothing = λ g. (0, g.0);
  sides = λ g. sides_of g.0;
  count = λ a. a.0;
}

-- the state with marks and stack, which are only read; the output is lent
abbrev pub map_call : PublicCall
map_call = record {
  Given = Walk × List ℕ × List ℕ;
  Lent = List ℕ;
  Answer = Walk;
  rows = λ g out. map_rows (sides_of g.0) (state g.1 g.2 g.0.pending) out;
  call = λ g out. let a = Calls.map g.0 g.1 g.2 out in (a.0.refusal, (a.0.walk, a.1));
  nothing = λ g. g.0;
  sides = λ g. sides_of g.0;
  count = λ a. 0;
}

-- the whole run: the map and the scratch are lent
abbrev pub run_call : PublicCall
run_call = record {
  Given = Size × List ℕ × List Float × Thresholds;
  Lent = List ℕ × Scratch;
  Answer = ℕ;
  rows = λ g l. run_rows g.0 g.1 g.2 g.3 l.1 l.0;
  call = λ g l. let a = canny g.0 g.1 g.2 g.3 l.1 l.0 in (a.0.refusal, (a.0.count, a.1));
  nothing = λ g. 0;
  sides = λ g. g.0;
  count = λ a. a;
}

-- THE LIST, on one line, so that an edit that loses a call is refused
abbrev pub public_calls : List PublicCall
public_calls = coord_call ∷ kernel_call ∷ separable_call ∷ blur_call ∷ box_call ∷ sharpen_call ∷ median_call ∷ gradient_call ∷ sobel_call ∷ magnitude_call ∷ suppression_call ∷ start_call ∷ slice_call ∷ map_call ∷ run_call ∷ []

-- what holds of each call of a list
abbrev pub Each : (PublicCall → Type 0) → List PublicCall → Type 0
Each P [] = Unit
Each P (c ∷ cs) = P c × Each P cs

-- ---- DEMAND 1 of each

pub record Kept (c : PublicCall) : Type 0 where
  -- the number is the first that applies in its table
  pub number : (g : c.Given) (l : c.Lent) → (c.call g l).0 ≡ first (c.rows g l)
  -- refused: nothing is answered, and every lent entry is as it was
  pub refused : (g : c.Given) (l : c.Lent) → ((c.call g l).0 ≡ 0 → ⊥) → (c.call g l).1 ≡ (c.nothing g, l)
  -- a side of 0, accepted or refused: every lent entry is as it was, and the count is 0
  pub unchanged : (g : c.Given) (l : c.Lent) → area (c.sides g) ≡ 0 → (c.call g l).1.1 ≡ l
  pub uncounted : (g : c.Given) (l : c.Lent) → area (c.sides g) ≡ 0 → c.count (c.call g l).1.0 ≡ 0

abbrev pub Demand1OfEach : Type 0
Demand1OfEach = Each Kept public_calls
