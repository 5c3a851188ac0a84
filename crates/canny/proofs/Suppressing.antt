-- The stages up to suppression, one after another over parts of the scratch: what they leave is the definition's. Assumes nothing.
use mathlib.Core.Path.{◌≡◌, sym, ap, ap₂, ◌∙◌}
use mathlib.Core.List.{List}
use Prim.Native.Nat.{ℕ, ◌≤◌}
use native.Mathlib.Omega.{arith}
use lib.ListN.{length, take}
use lib.IntN.{ℤ}
use lib.Ieee.{Float, nan}
use Rattle.rules.specs.Picture.{area, tabulate, filled, cleared}
use Rattle.rules.specs.Sums.{plus_zero}
use Rattle.rules.specs.Filters.{separable_at, both_ways}
use Rattle.rules.specs.Gradient.{gx_table, gy_table, gradient_at}
use Rattle.rules.specs.Suppression.{suppressed_at}
use Rattle.rules.specs.Refusals.{first, blur_rows, gradient_rows, magnitude_rows, suppression_rows}
use Rattle.rules.specs.Calls.{painted, gaussian_blur, sobel_gradients, gradient_magnitude, non_maximum_suppression, magnitude_at}
use Rattle.rules.specs.Run.{blurred_of, component_of, magnitudes_of, suppressed_under}
use Rattle.rules.specs.declared.Size.{Size}
use Rattle.rules.specs.declared.BorderMode.TheVariants.{Clamp}
use Rattle.rules.proofs.Fill.{length_tabulate, length_filled, get_d_tabulate, take_filled, drop_filled, refill}
use Rattle.rules.proofs.Answers.{left_is}
use Rattle.rules.proofs.Rows.{rows}
use Rattle.canny.specs.Lent.{Run, Suppressed}

-- the first entries of a buffer, as they are lent
abbrev lent : {A : Type 0} → Size → List A → List A
lent d l = take (area d) l

lent_filled : {A : Type 0} (d : Size) (f : ℕ → A) (o l : List A) → l ≡ filled (area d) f o → lent d l ≡ tabulate (area d) f
lent_filled d f o l p = take_filled (area d) f o l p

long : {A : Type 0} (d : Size) (f : ℕ → A) (l : List A) → l ≡ tabulate (area d) f → length l ≡ area d
long d f l p = ap length p ∙ length_tabulate (area d) f

-- the pictures between the stages
module _ (d : Size) (pixels : List ℕ) (taps : List Float) where
  abbrev B : List ℕ
  B = blurred_of d pixels taps

  abbrev X : List ℤ
  X = component_of gx_table d B

  abbrev Y : List ℤ
  Y = component_of gy_table d B

  abbrev M : List Float
  M = magnitudes_of d X Y

module _ {d : Size} {pixels : List ℕ} {taps work magnitude : List Float} {gx gy : List ℤ} {blurred : List ℕ}
    (h : Run d pixels taps work magnitude gx gy blurred) where
  -- ---- blur

  blur_accepted : first (blur_rows d pixels taps work blurred) ≡ 0
  blur_accepted = sym (search rows depth 9)

  module _ {r : ℕ} {work' : List Float} {blurred' : List ℕ} (e : (r, (work', blurred')) ≡ gaussian_blur d Clamp pixels taps work blurred) where
    pub blur_done : r ≡ 0
    unfolding gaussian_blur
    blur_done = ap (λ (p : ℕ × (List Float × List ℕ)). p.0) e ∙ blur_accepted

    both : ◌≡◌ {A = List Float × List ℕ} (work', blurred')
        (cleared (area d) plus_zero work, painted d (separable_at d (both_ways (length taps)) Clamp pixels taps taps) blurred)
    unfolding gaussian_blur
    both = left_is _ _ _ _ _ blur_accepted e

    work_is : work' ≡ cleared (area d) plus_zero work
    work_is = ap (λ (p : List Float × List ℕ). p.0) both

    blurred_is : blurred' ≡ painted d (separable_at d (both_ways (length taps)) Clamp pixels taps taps) blurred
    blurred_is = ap (λ (p : List Float × List ℕ). p.1) both

    blurred_lent : lent d blurred' ≡ B d pixels taps
    unfolding blurred_of
    blurred_lent = lent_filled d _ blurred blurred' blurred_is

    -- ---- gradient

    gradient_accepted : first (gradient_rows d (lent d blurred') gx gy) ≡ 0
    unfolding blurred_of
    gradient_accepted = let l = long d _ (lent d blurred') blurred_lent in sym (search rows depth 9)

    module _ {r₂ : ℕ} {gx' gy' : List ℤ} (e₂ : (r₂, (gx', gy')) ≡ sobel_gradients d Clamp (lent d blurred') gx gy) where
      pub gradient_done : r₂ ≡ 0
      unfolding sobel_gradients
      gradient_done = ap (λ (p : ℕ × (List ℤ × List ℤ)). p.0) e₂ ∙ gradient_accepted

      components : ◌≡◌ {A = List ℤ × List ℤ} (gx', gy') (painted d (gradient_at gx_table d Clamp (B d pixels taps)) gx, painted d (gradient_at gy_table d Clamp (B d pixels taps)) gy)
      unfolding sobel_gradients
      components =
          left_is _ _ _ _ _ gradient_accepted e₂
          ∙ ap (λ (b : List ℕ). (painted d (gradient_at gx_table d Clamp b) gx, painted d (gradient_at gy_table d Clamp b) gy)) blurred_lent

      gx_is : gx' ≡ painted d (gradient_at gx_table d Clamp (B d pixels taps)) gx
      gx_is = ap (λ (p : List ℤ × List ℤ). p.0) components

      gy_is : gy' ≡ painted d (gradient_at gy_table d Clamp (B d pixels taps)) gy
      gy_is = ap (λ (p : List ℤ × List ℤ). p.1) components

      gx_lent : lent d gx' ≡ X d pixels taps
      unfolding component_of
      gx_lent = lent_filled d _ gx gx' gx_is

      gy_lent : lent d gy' ≡ Y d pixels taps
      unfolding component_of
      gy_lent = lent_filled d _ gy gy' gy_is

      x_long : length (lent d gx') ≡ area d
      unfolding component_of
      x_long = long d _ (lent d gx') gx_lent

      y_long : length (lent d gy') ≡ area d
      unfolding component_of
      y_long = long d _ (lent d gy') gy_lent

      -- ---- magnitude

      module _ {r₃ : ℕ} {magnitude' : List Float} (e₃ : (r₃, magnitude') ≡ gradient_magnitude d (lent d gx') (lent d gy') magnitude) where
        magnitude_accepted : first (magnitude_rows d (lent d gx') (lent d gy') magnitude) ≡ 0
        magnitude_accepted = let x = x_long in let y = y_long in sym (search rows depth 9)

        pub magnitude_done : r₃ ≡ 0
        unfolding gradient_magnitude
        magnitude_done = ap (λ (p : ℕ × List Float). p.0) e₃ ∙ magnitude_accepted

        magnitude_is : magnitude' ≡ filled (area d) (magnitude_at (X d pixels taps) (Y d pixels taps)) magnitude
        unfolding gradient_magnitude
        magnitude_is =
            left_is _ _ _ _ _ magnitude_accepted e₃
            ∙ ap₂ (λ x y. filled (area d) (magnitude_at x y) magnitude) gx_lent gy_lent

        magnitude_lent : lent d magnitude' ≡ M d pixels taps
        unfolding magnitudes_of
        magnitude_lent = lent_filled d _ magnitude magnitude' magnitude_is

        m_long : length (lent d magnitude') ≡ area d
        unfolding magnitudes_of
        m_long = long d _ (lent d magnitude') magnitude_lent

        -- ---- suppression, over the work buffer that the blur cleared

        module _ {r₄ : ℕ} {work'' : List Float} (e₄ : (r₄, work'') ≡ non_maximum_suppression d (lent d magnitude') (lent d gx') (lent d gy') work') where
          room : area d ≤ length work'
          room = omega (arith, ap length work_is ∙ length_filled (area d) (λ i. plus_zero) work h.work_room, h.work_room)

          suppression_accepted : first (suppression_rows d (lent d magnitude') (lent d gx') (lent d gy') work') ≡ 0
          suppression_accepted = let m = m_long in let x = x_long in let y = y_long in let l = room in sym (search rows depth 9)

          pub suppression_done : r₄ ≡ 0
          unfolding non_maximum_suppression
          suppression_done = ap (λ (p : ℕ × List Float). p.0) e₄ ∙ suppression_accepted

          suppressed_is : work'' ≡ painted d (suppressed_at d (M d pixels taps) (X d pixels taps) (Y d pixels taps)) work'
          unfolding non_maximum_suppression
          suppressed_is =
              left_is _ _ _ _ _ suppression_accepted e₄
              ∙ ap (λ (m : List Float). painted d (suppressed_at d m (lent d gx') (lent d gy')) work') magnitude_lent
              ∙ ap₂ (λ x y. painted d (suppressed_at d (M d pixels taps) x y) work') gx_lent gy_lent

          pub all_stages : Suppressed d pixels taps work magnitude gx gy blurred work'' magnitude' gx' gy' blurred'
          unfolding suppressed_under suppressed_at
          all_stages =
              record {
                is = refill (area d) _ _ _ work work' work'' work_is suppressed_is (λ i l. sym (get_d_tabulate (area d) _ nan i l));
                magnitude_kept = drop_filled (area d) _ magnitude magnitude' magnitude_is;
                gx_kept = drop_filled (area d) _ gx gx' gx_is;
                gy_kept = drop_filled (area d) _ gy gy' gy_is;
                blurred_kept = drop_filled (area d) _ blurred blurred' blurred_is;
              }
