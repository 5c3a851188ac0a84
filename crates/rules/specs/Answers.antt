-- What each answer of a call stands for: the number of every refusal, 0 for what is accepted, and what the other fields of a refusal hold:
-- zero, or the walk's state as it was (01.Refusal.1 to 01.Refusal.12, 01.Refusal.14, 01.Shape.15). Calls and Run speak of these numbers and records.
use Rattle.std.specs.Prelude.{ℕ, Result, Ok, Err}
use Rattle.rules.specs.declared.Walk.{Walk}
use Rattle.rules.specs.declared.Progress.{Progress}
use Rattle.rules.specs.declared.refusal.Refusal.{Refusal}
use Rattle.rules.specs.declared.refusal.Refusal.TheVariants.{Side, Input, Count, Weight, Threshold, Order, Room, Budget, State, Pending, Layout}

abbrev pub number_of : Refusal → ℕ
number_of Side = 1
number_of Input = 2
number_of Count = 3
number_of Weight = 4
number_of Threshold = 5
number_of Order = 6
number_of Room = 7
number_of Budget = 8
number_of State = 9
number_of Pending = 10
number_of Layout = 11

-- the number of any answer
abbrev pub number : {A : Type 0} → Result A Refusal → ℕ
number (Ok a) = 0
number (Err refusal) = number_of refusal

-- ---- the walk's three calls and the whole run

pub record Started : Type 0 where
  pub refusal : ℕ
  pub walk : Walk

-- a refused start's state is all zero
abbrev pub start_answer : Result Walk Refusal → Started
start_answer (Ok walk) = record { refusal = 0; walk = walk }
start_answer (Err refusal) =
    record { refusal = number_of refusal; walk = record { width = 0; height = 0; pending = 0 } }

pub record Sliced : Type 0 where
  pub refusal : ℕ
  pub takes : ℕ
  pub walk : Walk

-- a refused slice has no takes, and the state stays as it was
abbrev pub slice_answer : Walk → Result Progress Refusal → Sliced
slice_answer walk (Ok made) = record { refusal = 0; takes = made.takes; walk = made.walk }
slice_answer walk (Err refusal) = record { refusal = number_of refusal; takes = 0; walk = walk }

pub record Mapped : Type 0 where
  pub refusal : ℕ
  pub walk : Walk

-- a map request leaves the state as it was, refused or not
abbrev pub map_answer : {A : Type 0} → Walk → Result A Refusal → Mapped
map_answer walk answer = record { refusal = number answer; walk = walk }

pub record Counted : Type 0 where
  pub refusal : ℕ
  pub count : ℕ

-- a refused run counts 0
abbrev pub run_answer : Result ℕ Refusal → Counted
run_answer (Ok count) = record { refusal = 0; count = count }
run_answer (Err refusal) = record { refusal = number_of refusal; count = 0 }
