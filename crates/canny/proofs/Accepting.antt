-- An answer with the number of acceptance is an `Ok`. Assumes nothing.
use mathlib.Core.Path.{◌≡◌, refl}
use Rattle.std.specs.Prelude.{Result, Ok, Err}
use Rattle.std.specs.Result.{IsOk}
use Rattle.rules.specs.Answers.{number, start_answer, slice_answer}
use Rattle.rules.specs.declared.Walk.{Walk}
use Rattle.rules.specs.declared.Progress.{Progress}
use Rattle.rules.specs.declared.refusal.Refusal.{Refusal}
use Rattle.rules.proofs.Answers.{named}

pub is_ok : {A : Type 0} (a : Result A Refusal) → number a ≡ 0 → IsOk a
is_ok (Ok x) e = refl
is_ok (Err r) e = absurd (named r e)

pub start_ok : (a : Result Walk Refusal) → (start_answer a).refusal ≡ 0 → IsOk a
start_ok (Ok x) e = refl
start_ok (Err r) e = absurd (named r e)

pub slice_ok : (w : Walk) (a : Result Progress Refusal) → (slice_answer w a).refusal ≡ 0 → IsOk a
slice_ok w (Ok x) e = refl
slice_ok w (Err r) e = absurd (named r e)
