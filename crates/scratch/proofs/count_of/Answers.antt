-- `count_of` meets its contract, block by block: what it has found, and what is left to count, are the whole count. Assumes nothing.
use native.Mathlib.Omega.{arith}
use mathlib.Core.Path.{◌≡◌, ap, ◌∙◌}
use mathlib.Core.List.{List, ◌++◌}
use Prim.Native.Nat.{ℕ, zero, suc, ◌+◌, ◌≤◌}
use native.Mathlib.Nat.{zero-add, add-zero, add-suc}
use Rattle.std.proofs.Common.{Bool, length, take, length-append}
use Rattle.std.proofs.lemmas.List.{get_or-append-add}
use Rattle.std.specs.Slice.Iter.{chunks_rest, chunks_size}
use lib.Dec.{eqb}
use lib.ListN.{get_or-append}
use lib.Seq.{length-take-le, get_or-take}
use Rattle.rules.specs.Picture.{tally}
use Rattle.rules.specs.Walk.{has, count}
use Rattle.rules.proofs.Tallies.{tally_all, tally_eq}
use Rattle.scratch.proofs.count_of.Goals as goal

-- the first n, and then the m after them
tally_add : (f : ℕ → Bool) (n m : ℕ) → tally f (n + m) ≡ tally f n + tally (λ q. f (n + q)) m
unfolding tally
tally_add f n zero = rw add-zero (omega arith)
tally_add f n (suc m) = let ih = tally_add f n m in rw add-suc (omega arith)

-- a list in two parts
count_append : (v : ℕ) (all a b : List ℕ) → all ≡ a ++ b → count v all (length all) ≡ count v a (length a) + count v b (length b)
count_append v all a b e =
    let n : length all ≡ length a + length b = ap length e ∙ length-append a b in
    let f = has v (a ++ b) in
    let s = tally_add f (length a) (length b) in
    let p : tally f (length a) ≡ count v a (length a) = tally_eq f (has v a) (length a) (λ q l. ap (λ (x : ℕ). eqb x v) (get_or-append a b 0 q l)) in
    let r : tally (λ q. f (length a + q)) (length b) ≡ count v b (length b) =
    tally_eq (λ q. f (length a + q)) (has v b) (length b) (λ q l. ap (λ (x : ℕ). eqb x v) (get_or-append-add a b q 0)) in
    rw (n, e) (omega arith)

-- as the code takes the first n
count_take : (v n : ℕ) (all : List ℕ) → n ≤ length all → count v (take n all) (length (take n all)) ≡ count v all n
count_take v n all h = rw (length-take-le n all h) (tally_eq (has v (take n all)) (has v all) n (λ q l. ap (λ (x : ℕ). eqb x v) (get_or-take n all q 0 l)))

-- what is counted is no more than there is
counted : (v f n : ℕ) (all rest : List ℕ) → f + count v rest (length rest) ≡ count v all n → f ≤ n
counted v f n all rest e = omega (arith, tally_all (has v all) n)

pub loop-block-init : goal.loop-block-init
loop-block-init c =
    let given = c.into_iter-block-iterator.ensures.into_iter_gives in
    let r : chunks_rest c.into_iter-block-iterator.result ≡ take c.min-most.result c.args.bytes.now = ap chunks_rest given ∙ c.chunks-block-items.ensures.rest in
    (ap chunks_size given ∙ c.chunks-block-items.ensures.size, rw (zero-add, r) (count_take c.args.v c.min-most.result c.args.bytes.now (omega arith)))

pub overflow_add-found : goal.overflow_add-found
overflow_add-found c =
    let steps = c.in-Some.ensures.steps in
    let k = count_append c.args.v (chunks_rest c.loop-block.block-iterator) c.in-Some.block.now (chunks_rest c.next.new.self) steps.1.0 in
    let m = tally_all (has c.args.v c.args.bytes.now) c.min-most.result in
    omega (arith, c.loop-block.invariant.1, c.count_block.ensures)

pub loop-block-preserved : goal.loop-block-preserved
loop-block-preserved c =
    let steps = c.in-Some.ensures.steps in
    let k = count_append c.args.v (chunks_rest c.loop-block.block-iterator) c.in-Some.block.now (chunks_rest c.next.new.self) steps.1.0 in
    (steps.0 ∙ c.loop-block.invariant.0, omega (arith, c.loop-block.invariant.1, c.count_block.ensures))

pub returns : goal.returns
unfolding tally
returns c =
    let none : length (chunks_rest c.loop-block.block-iterator) ≡ 0 = c.in-None.ensures.steps.1.0 in
    let all : c.loop-block.found ≡ count c.args.v c.args.bytes.now c.min-most.result = rw (none, add-zero) at c.loop-block.invariant.1 in
    (omega (arith, tally_all (has c.args.v c.args.bytes.now) c.min-most.result, c.min-most.ensures), all ∙ ap (tally _) c.min-most.ensures)
