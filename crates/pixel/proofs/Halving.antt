-- Sobel's byte by halving: the end before the upper half of the bytes that it may be tells which half it is in. The table of ends, and
-- S in 16 bits. Assumes nothing.
use Rattle.std.proofs.Common.{◌≡◌, ℕ, ◌+◌, ◌-◌, ◌<◌, ◌≤◌, Bool, true, false, cond, ltb, List, length, get_or, sym, refl, ap, ◌∙◌, lt_irrefl, arith, ltb-false}
use Rattle.rules.specs.Root.{upper_end, sobel_byte}
use Rattle.rules.proofs.Fill.{length_tabulate, get_d_tabulate}
use Rattle.rules.proofs.Roots.{ends_rise, byte_is, byte_over}
use Rattle.pixel.specs.Halving.{upper_ends, Ends, Among, Halving, held}

-- it is one of the 256 bytes
pub at_first : (s : ℕ) → Among s 0 256
at_first s = let m = (byte_is s).most in record { bytes = omega arith; from = omega arith; below = omega arith }

module _ {s n b : ℕ} (h : Halving s n b) where
  -- the half that it is in
  pub upper : upper_end (n + b - 1) < s → Among s (n + b) b
  upper u = let f = past in record { bytes = omega arith; from = omega arith; below = omega arith }
    where
      past : sobel_byte s < n + b → ⊥
      past l =
          let k : sobel_byte s ≤ n + b - 1 = omega arith in
          lt_irrefl s (omega (arith, ends_rise k, (byte_is s).reached (omega (arith, h.some, h.among.bytes))))

  pub lower : s ≤ upper_end (n + b - 1) → Among s n b
  lower u =
      let f : sobel_byte s ≤ n + b - 1 = (byte_is s).least (n + b - 1) (omega arith) u in
      record { bytes = omega arith; from = omega arith; below = omega arith }

-- ---- the table

pub ends_are : {t : List ℕ} → t ≡ upper_ends → Ends t
unfolding upper_ends
ends_are e =
    record { count = ap length e ∙ length_tabulate 255 _; each = λ n h. ap (λ (l : List ℕ). get_or l n 0) e ∙ get_d_tabulate 255 _ 0 n h }

-- ---- S in 16 bits

module _ (s : ℕ) where
  go : (b : Bool) → ltb s 64771 ≡ b → sobel_byte (cond b s 64771) ≡ sobel_byte s
  go true e = refl
  go false e = sym (byte_over 64771 (omega arith)) ∙ byte_over s (omega (arith, ltb-false s 64771 e))

  -- has the same byte
  pub held_byte : sobel_byte (held s) ≡ sobel_byte s
  unfolding held
  held_byte = go _ refl
