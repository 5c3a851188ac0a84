-- What a program's tests say of a buffer: that every entry passes, floats by their bits.
use Rattle.std.specs.Prelude.{ℕ, zero, suc, Bool, true, cond, ◌&&◌, List, eqb, length, get_or, Float}
use Rattle.std.specs.Float.{binary32}
use Rattle.std.specs.Float.Ieee.{eq, to_bits}

-- whether the test passes at each place below n
unfoldable pub every : (ℕ → Bool) → ℕ → Bool
every p zero = true
every p (suc n) = every p n && p n

-- two lists of one length whose entries are the same by a test
unfoldable pub alike : {A : Type 0} → (A → A → Bool) → A → List A → List A → Bool
alike same z a b = eqb (length a) (length b) && every (λ i. same (get_or a i z) (get_or b i z)) (length a)

-- a float's bits; a NaN, which alone is not equal to itself, is shown as one pattern
abbrev pub shown_bits : Float → ℕ
shown_bits x = cond (eq x x) (to_bits binary32 x) 2143289344
