-- Tests joined by `and`, `or` and `not`, taken apart. Assumes nothing.
use mathlib.Core.Path.{◌≡◌, refl, sym, subst}
use mathlib.Core.Bool.{Bool, true, false, ◌&&◌, ◌||◌}
use mathlib.Core.Logic.{◌⊎◌, inl, inr}
use lib.Dec.{T}

pub true_is : (b : Bool) → T b → b ≡ true
true_is true t = refl
true_is false t = absurd t

pub is_true : {b : Bool} → b ≡ true → T b
is_true e = subst T (sym e) tt

pub clash : {b : Bool} → b ≡ true → b ≡ false → ⊥
clash p q = subst T q (is_true p)

pub both : (a b : Bool) → (a && b) ≡ true → (a ≡ true) × (b ≡ true)
both true b e = (refl, e)
both false b e = absurd (clash e refl)

pub neither : (a b : Bool) → (a || b) ≡ false → (a ≡ false) × (b ≡ false)
neither true b e = absurd (clash refl e)
neither false b e = (refl, e)

pub either : (a b : Bool) → (a || b) ≡ true → (a ≡ true) ⊎ (b ≡ true)
either true b e = inl refl
either false b e = inr e
