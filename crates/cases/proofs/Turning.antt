-- A loop that turns the entries of a list, at its end. Assumes nothing.
use mathlib.Core.Path.{◌≡◌}
use mathlib.Core.List.{List}
use Prim.Native.Nat.{ℕ, ◌≤◌, min}
use native.Mathlib.Omega.{arith}
use lib.ListN.{length, get_or}
use Rattle.rules.proofs.Fill.{Filling, filling_end}
use Rattle.cases.specs.Lists.{Turned}

pub turned : {A : Type 0} {f : ℕ → A} {list : List ℕ} {old new : List A} {most i : ℕ}
    → most ≡ min (length list) (length old) → Filling most i (λ k. f (get_or list k 0)) old new → most ≤ i → Turned f list old new most
turned e p h = record { counted = e; within = omega (arith, p.same); is = filling_end p h }
