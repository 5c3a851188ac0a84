-- A block of Sobel's bytes, and of their sums. Assumes nothing.
use mathlib.Core.Path.{◌≡◌, refl, ap, ◌∙◌}
use mathlib.Core.List.{List, ◌++◌, append-nil}
use Prim.Native.Nat.{ℕ, ◌≤◌}
use native.Mathlib.Omega.{arith}
use lib.ListN.{length, take, drop, drop_of_length-le}
use lib.Seq.{length-take-le}
use Rattle.rules.specs.Picture.{filled}
use Rattle.rules.specs.Root.{sobel_byte}
use Rattle.rules.proofs.Fill.{filled_at, filled_by, recount}
use Rattle.gradient.specs.Bytes.{byte_by}
use Rattle.gradient.specs.Entries.{AllBelow}

-- ---- a buffer that is filled whole: what stood there before does not show

pub whole : {A : Type 0} (f : ℕ → A) (o l : List A) {r : List A} → length l ≡ length o → r ≡ filled (length l) f l → r ≡ filled (length o) f o
whole f o l e p =
    let a : length l ≤ length l = omega arith in
    let b : length o ≤ length o = omega arith in
    p ∙ rw (drop_of_length-le l a, drop_of_length-le o b, e)

pub all_right : {A : Type 0} (none : A) (f : ℕ → A) (o l : List A) → length l ≡ length o → AllBelow none (length l) f l → l ≡ filled (length o) f o
all_right none f o l e h = whole f o l e (filled_by (length l) f l l none (omega arith) h refl)

-- ---- a block of sums gives its bytes

pub block_bytes : (f : ℕ → ℕ) (s : List ℕ) {sums : List ℕ} (o : List ℕ) {r : List ℕ} → sums ≡ filled (length s) f s → length s ≡ length o
    → r ≡ filled (length o) (byte_by sums) o → r ≡ filled (length o) (λ k. sobel_byte (f k)) o
block_bytes f s {sums} o e l p = recount (length o) _ _ o _ p (λ i h. ap sobel_byte (filled_at (length s) f s sums 0 i e (omega arith)))

-- ---- the first n entries of a buffer, lent and filled whole

pub first_filled : {A : Type 0} (n : ℕ) (f : ℕ → A) (o : List A) {r : List A} → n ≤ length o → r ≡ filled (length (take n o)) f (take n o) → r ++ drop n o ≡ filled n f o
first_filled n f o h p =
    let e : length (take n o) ≡ n = length-take-le n o h in
    let s : length (take n o) ≤ n = omega arith in
    rw (rw e at p, drop_of_length-le (take n o) s, append-nil)
