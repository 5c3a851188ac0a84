-- Sobel's gradient: whole numbers, the tables applied without flipping (01.Gradient.1 to 01.Gradient.3).
use Rattle.std.specs.Prelude.{ℕ, zero, suc, ◌+◌, ◌*◌, ◌/◌, ◌%◌, List, [], ◌∷◌, get_or, ℤ, pos, negsuc, nat_abs, ◌+ℤ◌, ◌*ℤ◌}
use Rattle.rules.specs.Border.{byte_sample, under}
use Rattle.rules.specs.declared.Size.{Size}
use Rattle.rules.specs.declared.BorderMode.{BorderMode}

-- the two tables of signed weights, in row order
abbrev pub gx_table : List ℤ
gx_table =
    let o = pos 0 in
    negsuc 0 ∷ o ∷ pos 1
    ∷ negsuc 1 ∷ o ∷ pos 2
    ∷ negsuc 0 ∷ o ∷ pos 1 ∷ []

abbrev pub gy_table : List ℤ
gy_table =
    let o = pos 0 in
    negsuc 0 ∷ negsuc 1 ∷ negsuc 0
    ∷ o ∷ o ∷ o
    ∷ pos 1 ∷ pos 2 ∷ pos 1 ∷ []

-- t 0 + .. + t (n - 1)
unfoldable pub sum_z : (ℕ → ℤ) → ℕ → ℤ
sum_z t zero = pos 0
sum_z t (suc k) = sum_z t k +ℤ t k

-- a component at (x, y): the nine bytes about it, weighted
unfoldable pub gradient_term : List ℤ → Size → BorderMode → List ℕ → ℕ → ℕ → ℕ → ℤ
gradient_term table d mode pixels x y j =
    get_or table j (pos 0) *ℤ pos (byte_sample pixels d mode (under x 3 (j % 3)) (under y 3 (j / 3)))

unfoldable pub gradient_at : List ℤ → Size → BorderMode → List ℕ → ℕ → ℕ → ℤ
gradient_at table d mode pixels x y = sum_z (gradient_term table d mode pixels x y) 9

-- S = gx² + gy²
abbrev pub energy : ℤ → ℤ → ℕ
energy gx gy = nat_abs gx * nat_abs gx + nat_abs gy * nat_abs gy
