-- The counts of a row's windows: a column more on the right, a column less on the left, and the median that they select. Assumes nothing.
use mathlib.Core.Path.{◌≡◌, refl, sym, ap, ◌∙◌}
use mathlib.Core.Bool.{Bool, true}
use mathlib.Core.List.{List}
use Prim.Native.Nat.{ℕ, zero, suc, ◌+◌, ◌-◌, ◌*◌, ◌/◌, ◌%◌, ◌<◌, ◌≤◌}
use native.Mathlib.Nat.{mul-le-mul, suc-mul}
use native.Mathlib.Omega.{arith}
use borrow.Author.Tests.{lt-ltb}
use lib.Dec.{eqb}
use lib.ListN.{length, get_or, take, replicate, length-replicate}
use Rattle.rules.specs.Limits.{max_side, max_window}
use Rattle.rules.specs.Picture.{tally, tabulate, filled}
use Rattle.rules.specs.Border.{byte_sample, under}
use Rattle.rules.specs.Median.{window_at, median_at}
use Rattle.rules.specs.declared.Size.{Size}
use Rattle.rules.specs.declared.BorderMode.{BorderMode}
use Rattle.rules.proofs.Fill.{length_tabulate, get_d_tabulate, take_filled}
use Rattle.rules.proofs.Grid.{column_of_lem, row_of_lem}
use Rattle.rules.proofs.Tallies.{tally_all, tally_eq}
use Rattle.rules.proofs.Sorting.{fewer, selected}
use Rattle.rules.proofs.Gradients.{sample_byte}
use Rattle.median.specs.Counts.{median_of, row_place, column_place, column_at, column_of, in_columns, sum_of, equals, belows, counted_below, put_all, take_all}
use Rattle.median.specs.Counts.{Counts, Counted, Middle, Selected, Holds, Rows, About}
use Rattle.border.proofs.Reading.{read_byte, read_is}
use Rattle.median.proofs.Counting.{sum_cong, sum_more, sum_first, sum_equals, change_length, put_at, put_below, take_at, take_below, by_columns}
use Rattle.median.proofs.Counting.{occurrences_tabulate, below_is}

sum_most : (g : ℕ → ℕ) (n b : ℕ) → ((i : ℕ) → g i ≤ b) → sum_of g n ≤ n * b
unfolding sum_of
sum_most g zero b h = omega arith
sum_most g (suc n) b h = omega (arith, sum_most g n b h, h n, suc-mul n b)

tally_full : (q : ℕ → Bool) (n : ℕ) → ((j : ℕ) → q j ≡ true) → tally q n ≡ n
unfolding tally
tally_full q zero h = refl
tally_full q (suc n) h = rw (h n) (omega (arith, tally_full q n h))

-- no column is counted yet
zeros_at : (n v : ℕ) → ◌≡◌ {A = ℕ} (get_or (replicate n 0) v 0) 0
zeros_at zero v = refl
zeros_at (suc n) zero = refl
zeros_at (suc n) (suc v) = zeros_at n v

pub none_below : {counts : List ℕ} → Middle counts 0 0
unfolding sum_of
none_below = record { byte = omega arith; lower = refl }

module _ {pixels : List ℕ} {d : Size} {mode : BorderMode} {rows : List ℕ} where
  pub no_columns : {x : ℕ} → Holds pixels d mode rows x 0 (replicate 256 0)
  unfolding sum_of
  no_columns = record { count = length-replicate {A = ℕ} 256 0; each = zeros_at 256 }

  -- ---- the counts of n columns

  -- no value stands more often than there are samples
  pub counts_of : {x n : ℕ} {l : List ℕ} → Rows d pixels rows → n ≤ length rows → Holds pixels d mode rows x n l → Counts l max_side
  counts_of {x} {n} r h p =
      let k : n ≤ max_window = omega (arith, r.few) in
      let most : (v : ℕ) → in_columns pixels d mode rows x n v ≤ n * length rows = λ v. sum_most _ n (length rows) (λ i. tally_all _ (length rows)) in
      record { count = p.count; small = λ v. omega (arith, p.each v, most v, mul-le-mul k r.few) }

  module _ {x n : ℕ} {l : List ℕ} (byte : (i : ℕ) → get_or pixels i 0 < 256) (p : Holds pixels d mode rows x n l) where
    -- a column's samples are counted
    column_in : (c j : ℕ) → column_at pixels d rows c j < length l
    column_in c j = rw p.count (read_byte d pixels byte c (get_or rows j 0))

    -- one more column, at place c
    pub put_holds : {c : ℕ} {o : List ℕ} → c ≡ column_place d (length rows) mode (x + n) → o ≡ put_all l (column_at pixels d rows c) (length rows)
        → Holds pixels d mode rows x (n + 1) o
    put_holds {c} q e =
        let f = column_of pixels d mode rows in
        record {
          count = ap length e ∙ change_length (column_at pixels d rows c) l _ (length rows) ∙ p.count;
          each = λ v.
              rw (e, q)
              (omega (arith, p.each v, put_at (f (x + n)) l (column_in _) (length rows) v, sum_more (λ i. equals (f (x + i)) (length rows) v) n));
        }

  -- ---- from the window at column x to the next: its first column, at place `left`, out, and the one after its last, at place `right`, in

  module _ (r : Rows d pixels rows) (byte : (i : ℕ) → get_or pixels i 0 < 256) {x left right value below : ℕ} {l : List ℕ}
      (p : Holds pixels d mode rows x (length rows) l) (ql : left ≡ column_place d (length rows) mode x)
      (qr : right ≡ column_place d (length rows) mode (x + length rows)) (e : Middle l value below) where
    -- the first column apart
    first : (v : ℕ) → get_or l v 0 ≡ equals (column_at pixels d rows left) (length rows) v + in_columns pixels d mode rows (x + 1) (length rows - 1) v
    first v =
        let g : ℕ → ℕ = λ t. equals (column_of pixels d mode rows t) (length rows) v in
        let z : length rows - 1 + 1 ≡ length rows = omega (arith, r.some) in
        let a : x + 0 ≡ x = omega arith in
        let s = sum_cong (λ i. g (x + (i + 1))) (λ i. g (x + 1 + i)) (length rows - 1) (λ i h. ap g (omega arith)) in
        rw ql (omega (arith, p.each v, rw z at (sum_first (λ i. g (x + i)) (length rows - 1)), ap g a))

    first_each : (v : ℕ) → equals (column_at pixels d rows left) (length rows) v ≤ get_or l v 0
    first_each v = omega (arith, first v)

    -- the ones below a value go with their column
    first_below : counted_below (take_all l (column_at pixels d rows left) (length rows)) value + belows (column_at pixels d rows left) (length rows) value
        ≡ counted_below l value
    first_below = take_below (column_at pixels d rows left) l (column_in byte p left) (length rows) value first_each

    pub left_counted : Counted l (column_at pixels d rows left) (length rows) value below
    left_counted = record { each = first_each; lower = omega (arith, first_below, e.lower) }

    module _ {m : List ℕ} (h : m ≡ take_all l (column_at pixels d rows left) (length rows)) where
      less : Holds pixels d mode rows (x + 1) (length rows - 1) m
      less =
          record {
            count = ap length h ∙ change_length (column_at pixels d rows left) l _ (length rows) ∙ p.count;
            each = λ v. rw h (omega (arith, first v, take_at (column_at pixels d rows left) l (column_in byte p left) (length rows) v));
          }

      pub less_counts : Counts m max_side
      less_counts = counts_of r (omega arith) less

      pub moved : {o : List ℕ} {n b u v : ℕ} → (u ≡ value) × (n ≡ below - belows (column_at pixels d rows left) (length rows) value)
          → (o ≡ put_all m (column_at pixels d rows right) (length rows)) × (v ≡ u) × (b ≡ n + belows (column_at pixels d rows right) (length rows) u)
          → Holds pixels d mode rows (x + 1) (length rows) o × Middle o v b
      moved {b = b} f g =
          let z : length rows - 1 + 1 ≡ length rows = omega (arith, r.some) in
          let y : x + length rows ≡ x + 1 + (length rows - 1) = omega (arith, r.some) in
          let same = g.1 ∙ f.0 in
          let q = rw f.0 at g.2 in
          let u = first_below in
          let w = put_below (column_at pixels d rows right) m (column_in byte less right) (length rows) value in
          let s = ap (λ (t : List ℕ). counted_below t value) h in
          let k = put_holds byte less (qr ∙ ap (column_place d (length rows) mode) y) g.0 in
          (rw z at k, rw same (record { byte = e.byte; lower = rw g.0 (omega (arith, e.lower, f.1, q)) }))

  -- ---- the median that the counts select

  module _ (r : Rows d pixels rows) {x y : ℕ} {counts : List ℕ} (about : About d mode y rows) (p : Holds pixels d mode rows x (length rows) counts) where
    -- the window's samples, by columns and in row order
    abbrev sample : ℕ → ℕ → ℕ
    sample i j = byte_sample pixels d mode (under x (length rows) i) (under y (length rows) j)

    abbrev samples : ℕ → ℕ
    samples j = sample (j % length rows) (j / length rows)

    abbrev area : ℕ
    area = length rows * length rows

    column_is : (i j : ℕ) → j < length rows → column_of pixels d mode rows (x + i) j ≡ sample i j
    column_is i j h = rw (about.each j h) (read_is d pixels r.picture mode _ _ r.wide (omega (arith, about.row)))

    counted : (v : ℕ) → get_or counts v 0 ≡ equals samples area v
    counted v =
        p.each v
        ∙ sum_cong _ _ (length rows) (λ i h. tally_eq _ _ (length rows) (λ j l. ap (λ (t : ℕ). eqb t v) (column_is i j l)))
        ∙ sym (by_columns (λ i j. eqb (sample i j) v) (length rows) (length rows) r.some)

    -- every sample is below 256, so that all are counted
    pub all_counted : ((i : ℕ) → get_or pixels i 0 < 256) → counted_below counts 256 ≡ area
    all_counted byte =
        let small : (i j : ℕ) → sample i j ≤ 255 = λ i j. sample_byte d mode pixels byte (under x (length rows) i) (under y (length rows) j) in
        sum_cong _ _ 256 (λ v h. counted v)
        ∙ sum_equals samples area 256
        ∙ tally_full _ area (λ j. lt-ltb (samples j) 256 (omega (arith, small (j % length rows) (j / length rows))))

    -- as it stands at the pixel's index
    pub median_at_lem : {value below : ℕ} → x < d.width → Selected counts (area / 2) value below
        → value ≡ median_of d (length rows) mode pixels (y * d.width + x)
    unfolding median_at window_at
    median_at_lem {value} l s =
        let w = tabulate area samples in
        let e : (m : ℕ) → counted_below counts m ≡ fewer m w = λ m. below_is w counts m (λ v h. counted v ∙ sym (occurrences_tabulate area samples v)) in
        let u = s.middle.lower in
        let a = e value in
        let b = e (value + 1) in
        let t = sum_more (λ v. get_or counts v 0) value in
        rw (column_of_lem y l, row_of_lem y l) (sym (selected w value (area / 2) (omega (arith, s.from)) (omega (arith, s.to))))

-- ---- the places of a window's rows, lent as a part of what `place_rows` filled

module _ (d : Size) (mode : BorderMode) (window y : ℕ) (l : List ℕ) {r : List ℕ} (e : r ≡ filled window (row_place d window mode y) l) where
  part_is : take window r ≡ tabulate window (row_place d window mode y)
  part_is = take_filled window (row_place d window mode y) l r e

  pub part_count : length (take window r) ≡ window
  part_count = ap length part_is ∙ length_tabulate window (row_place d window mode y)

  pub part_about : y < d.height → About d mode y (take window r)
  part_about h = record { row = h; each = λ j k. rw (part_count, part_is) (get_d_tabulate window (row_place d window mode y) 0 j (rw part_count at k)) }
