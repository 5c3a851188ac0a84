-- An accepted convolution: what its table grants the passes, and what the passes leave together. Assumes nothing.
use mathlib.Core.Path.{◌≡◌, refl, sym, ap, ap₂, ◌∙◌, fun_ext}
use mathlib.Core.List.{List}
use Prim.Native.Nat.{ℕ, ◌+◌, ◌*◌, ◌<◌, ◌≤◌}
use native.Mathlib.Nat.{mul-one, one-mul, min-eq_left}
use native.Mathlib.Omega.{arith}
use lib.ListN.{length}
use lib.Ieee.{Float, nan}
use Rattle.rules.specs.Limits.{max_kernel, max_taps}
use Rattle.rules.specs.Accepted.{Room}
use Rattle.rules.specs.Picture.{area}
use Rattle.rules.specs.Border.{resolved, entry_at, sample_at}
use Rattle.rules.specs.Sums.{plus_zero, to_byte}
use Rattle.rules.specs.Filters.{of_bytes, of_floats, sampler, row_kernel, column_kernel, horizontal_at, vertical_at, separable_at}
use Rattle.rules.specs.Refusals.{first, kernel_rows, separable_rows}
use Rattle.rules.specs.Calls.{painted, separated}
use Rattle.rules.specs.declared.Size.{Size}
use Rattle.rules.specs.declared.Kernel.{Kernel}
use Rattle.rules.specs.declared.SeparableKernel.{SeparableKernel}
use Rattle.rules.specs.declared.BorderMode.{BorderMode}
use Rattle.rules.specs.declared.Coord.{Coord}
use Rattle.rules.specs.declared.Coord.TheVariants.{At, Nothing, Refused}
use Rattle.rules.proofs.Fill.{recount, refill, filled_at, length_filled}
use Rattle.rules.proofs.Rows.{off, side_off, input_off, count_off, match_off, room_off}
use Rattle.rules.proofs.Grid.{column_in, row_below, row_in_lem}
use Rattle.rules.proofs.Border.{Within, resolved_within}
use Rattle.scratch.specs.Cleared.{cleared_to}
use Rattle.filters.specs.Blocks.{Kernelled}

-- ---- what a table grants

-- a kernel: one pass
pub record Single (d : Size) (k : Kernel) (pixels : List ℕ) (weights : List Float) (out : List ℕ) : Type 0 where
  pub pass : Kernelled d k pixels weights
  pub room : Room d out

pub single : {d : Size} {k : Kernel} {pixels : List ℕ} {weights : List Float} {out : List ℕ} → first (kernel_rows d k pixels weights out) ≡ 0
    → Single d k pixels weights out
single {d} {k} {pixels} {weights} {out} e =
    let p = off (kernel_rows d k pixels weights out) tt e in
    let q = p.1.1 in
    let w = count_off max_kernel k.width q.0 in
    let h = count_off max_kernel k.height q.1.0 in
    record {
      pass = record {
        sides = side_off d p.0;
        long = omega (arith, input_off d pixels p.1.0);
        kernel_wide = w.some;
        kernel_high = h.some;
        kernel_width = omega (arith, w.few);
        kernel_height = omega (arith, h.few);
        count = match_off (k.width * k.height) weights q.1.1.0;
      };
      room = room_off d out q.1.1.1.1.0;
    }

-- taps: the two passes, the second over what the first leaves in `work`
pub record Taps (d : Size) (k : SeparableKernel) (pixels : List ℕ) (horizontal vertical work : List Float) (out : List ℕ) : Type 0 where
  pub across : length horizontal ≡ k.horizontal
  pub down : length vertical ≡ k.vertical
  pub row_pass : Kernelled d (row_kernel (length horizontal)) pixels horizontal
  pub column_pass : Kernelled d (column_kernel (length vertical)) work vertical
  pub room : Room d out

pub taps : {d : Size} {k : SeparableKernel} {pixels : List ℕ} {horizontal vertical work : List Float} {out : List ℕ}
    → first (separable_rows d k pixels horizontal vertical work out) ≡ 0 → Taps d k pixels horizontal vertical work out
taps {d} {k} {pixels} {horizontal} {vertical} {work} {out} e =
    let p = off (separable_rows d k pixels horizontal vertical work out) tt e in
    let q = p.1.1 in
    let r = q.1.1 in
    let s = side_off d p.0 in
    let h = count_off max_taps k.horizontal q.0 in
    let v = count_off max_taps k.vertical q.1.0 in
    let across = match_off k.horizontal horizontal r.0 in
    let down = match_off k.vertical vertical r.1.0 in
    record {
      across = across;
      down = down;
      row_pass = record {
        sides = s;
        long = omega (arith, input_off d pixels p.1.0);
        kernel_wide = omega (arith, h.some);
        kernel_high = omega arith;
        kernel_width = omega (arith, h.few);
        kernel_height = omega arith;
        count = sym (mul-one (length horizontal));
      };
      column_pass = record {
        sides = s;
        long = room_off d work r.1.1.1.1.0;
        kernel_wide = omega arith;
        kernel_high = omega (arith, v.some);
        kernel_width = omega arith;
        kernel_height = omega (arith, v.few);
        count = sym (one-mul (length vertical));
      };
      room = room_off d out r.1.1.1.1.1.0;
    }

-- a picture of f32 that has been written over is as long as it was
pub still_kernelled : {A : Type 0} {d : Size} {k : Kernel} {l m : List A} {weights : List Float} → Kernelled d k l weights → length m ≡ length l → Kernelled d k m weights
still_kernelled K e =
    record {
      sides = K.sides;
      long = omega (arith, K.long);
      kernel_wide = K.kernel_wide;
      kernel_high = K.kernel_high;
      kernel_width = K.kernel_width;
      kernel_height = K.kernel_height;
      count = K.count;
    }

-- ---- samples look at the picture's own entries only

module _ (d : Size) (at bt : ℕ → Float) (same : (i : ℕ) → i < area d → at i ≡ bt i) where
  entry_same : (c r : Coord) → Within d.width c → Within d.height r → entry_at plus_zero at d.width c r ≡ entry_at plus_zero bt d.width c r
  entry_same (At x) (At y) p q = same (y * d.width + x) (omega (arith, row_in_lem y d.width d.height q))
  entry_same (At x) Nothing p q = refl
  entry_same (At x) Refused p q = refl
  entry_same Nothing r p q = refl
  entry_same Refused r p q = refl

  sampler_same : (mode : BorderMode) → 0 < d.width → 0 < d.height → sampler at d mode ≡ sampler bt d mode
  unfolding sample_at
  sampler_same mode w h =
      fun_ext (λ cx. fun_ext (λ cy.
      entry_same (resolved mode cx d.width) (resolved mode cy d.height) (resolved_within mode cx d.width w) (resolved_within mode cy d.height h)))

-- ---- both passes: the f32 sums between them are what the definition names, and the work buffer is cleared over them

pub both_passes : {d : Size} {k : SeparableKernel} {pixels : List ℕ} {horizontal vertical work mid work' : List Float} {out out' : List ℕ} (mode : BorderMode)
    → Taps d k pixels horizontal vertical work out
    → mid ≡ painted d (horizontal_at d (length horizontal) mode horizontal (of_bytes pixels)) work
    → out' ≡ painted d (λ x y. to_byte (vertical_at d (length vertical) mode vertical (of_floats mid) x y)) out
    → work' ≡ cleared_to (area d) plus_zero mid → (work', out') ≡ separated d k mode pixels horizontal vertical work out
unfolding separable_at
both_passes {d} {k} {pixels} {horizontal} {vertical} {work} {mid} {work'} {out} {out'} mode t m o c =
    ap₂ (λ x y. (x, y)) (refill (area d) _ _ _ work mid work' m (rw (min-eq_left room) at c) (λ i l. refl))
    (recount (area d) _ _ out out' o (λ i l.
    let w : 0 < d.width = omega (arith, column_in d i l) in
    let h : 0 < d.height = omega (arith, row_below d i l) in
    rw (sampler_same d (of_floats mid) _ (λ i l. filled_at (area d) _ work mid nan i m l) mode w h, t.down, t.across)))
  where
    room : area d ≤ length mid
    room = let h = t.column_pass.long in omega (arith, ap length m ∙ length_filled (area d) _ work h)
