-- `walk` meets its contract: the start, one slice and the map request, each accepted, composed. Assumes nothing.
use mathlib.Core.Path.{ap}
use Rattle.std.specs.Prelude.{Result}
use Rattle.rules.specs.Answers.{start_answer, slice_answer}
use Rattle.rules.specs.declared.Walk.{Walk}
use Rattle.rules.specs.declared.Progress.{Progress}
use Rattle.rules.specs.declared.refusal.Refusal.{Refusal}
use Rattle.canny.proofs.Accepting.{is_ok, start_ok, slice_ok}
use Rattle.canny.proofs.Walking.{start_done, slice_done, map_done, walked}
use Rattle.canny.proofs.stages.walk.Goals as goal

pub unwrap-begun-requires : goal.unwrap-begun-requires
unwrap-begun-requires c = start_ok _ (start_done c.requires c.start.ensures)

pub unwrap-ended-requires : goal.unwrap-ended-requires
unwrap-ended-requires c =
    let k = ap (λ (a : Result Walk Refusal). (start_answer a).walk) c.unwrap-begun.ensures in
    slice_ok _ _ (slice_done c.requires c.start.ensures k c.slice.ensures)

pub unwrap-requires : goal.unwrap-requires
unwrap-requires c =
    let k = ap (λ (a : Result Walk Refusal). (start_answer a).walk) c.unwrap-begun.ensures in
    let l = ap (λ (a : Result Progress Refusal). (slice_answer c.unwrap-begun.result a).walk) c.unwrap-ended.ensures in
    is_ok _ (map_done c.requires c.start.ensures k c.slice.ensures l c.map.ensures)

pub returns : goal.returns
returns c =
    let k = ap (λ (a : Result Walk Refusal). (start_answer a).walk) c.unwrap-begun.ensures in
    let l = ap (λ (a : Result Progress Refusal). (slice_answer c.unwrap-begun.result a).walk) c.unwrap-ended.ensures in
    walked c.requires c.start.ensures k c.slice.ensures l c.map.ensures
