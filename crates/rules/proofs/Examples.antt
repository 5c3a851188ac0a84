-- The examples hold: of the starred list, and of each list of slips. The checker computes both sides; assumes nothing.
use Rattle.std.specs.Prelude.{refl}
use Rattle.std.specs.Float.Ieee.{add, mul, of_int, of_bits, to_bits, odd, le, lt}
use Rattle.rules.specs.Picture.{tabulate, any_below, tally}
use Rattle.rules.specs.Border.{sample_at}
use Rattle.rules.specs.Sums.{ordered_sum, to_byte}
use Rattle.rules.specs.Filters.{convolved_at, separable_at, kernel_sum, kernel_term}
use Rattle.rules.specs.Median.{median_at, window_at, sorted, insert, occurrences}
use Rattle.rules.specs.Gradient.{gradient_at, gradient_term, sum_z}
use Rattle.rules.specs.Root.{magnitude_of, root_of, near_root, whole_root, sobel_byte, least_from}
use Rattle.rules.specs.Sector.{sector_of, neighbours}
use Rattle.rules.specs.Suppression.{suppressed_by, suppressed_at}
use Rattle.rules.specs.Walk.{started, classed, class, sliced, takes, taken, pop, looks, visit, look, unusable}
use Rattle.rules.specs.Calls.{resolve_coord, after_start, apply_kernel, apply_separable_kernel, gaussian_blur, box_blur, sharpen, median, sobel_gradients}
use Rattle.rules.specs.Calls.{sobel_at, sobel, magnitude_at, gradient_magnitude, non_maximum_suppression, after_slice, slice_takes}
use Rattle.rules.specs.Joined.{joined_count, told, closed, grown}
use Rattle.rules.specs.Run.{blurred_of, component_of, magnitudes_of, suppressed_under, edges_of, end_of, count_of, run_edges, canny}
use Rattle.rules.specs.Diagonals.{vendor_neighbours, any_diagonal, any_diagonal_in}
use Rattle.rules.specs.Frame.{breach, frame_taps, frame_pixels, decimal_by, decimal, refused_text, edges_text, rows_text, run_text, printout}
use Rattle.rules.specs.Calls as Calls
use Rattle.rules.specs.Examples.{Hold, Every, starred, slips, borders, sums, filters, gradients, suppressed, walks, tests, tables, runs, diagonals, frames, answers}

pub starred_hold : Hold starred
unfolding starred resolve_coord tabulate separable_at kernel_sum kernel_term sample_at ordered_sum to_byte add mul of_int of_bits magnitude_of root_of near_root whole_root odd sobel_byte least_from sector_of joined_count told closed grown any_below tally le edges_of end_of after_start started classed class sliced taken pop looks visit look
starred_hold = refl

borders_hold : Hold borders
unfolding resolve_coord
borders_hold = refl

sums_hold : Hold sums
unfolding convolved_at separable_at kernel_sum kernel_term sample_at ordered_sum to_byte add mul of_int of_bits tabulate
sums_hold = refl

filters_hold : Hold filters
unfolding apply_kernel apply_separable_kernel gaussian_blur box_blur sharpen median convolved_at separable_at median_at window_at sorted insert occurrences kernel_sum kernel_term sample_at ordered_sum to_byte add mul of_int of_bits to_bits any_below tabulate
filters_hold = refl

gradients_hold : Hold gradients
unfolding sobel_gradients gradient_at gradient_term sum_z sample_at sobel sobel_at sobel_byte least_from gradient_magnitude magnitude_at magnitude_of root_of near_root whole_root sector_of odd of_int of_bits to_bits tabulate
gradients_hold = refl

suppressed_hold : Hold suppressed
unfolding non_maximum_suppression suppressed_at suppressed_by sector_of neighbours le of_int of_bits to_bits tabulate
suppressed_hold = refl

walks_hold : Hold walks
unfolding Calls.start Calls.slice Calls.map after_start after_slice slice_takes started classed class sliced takes taken pop looks visit look unusable any_below tally le lt of_int of_bits tabulate
walks_hold = refl

tests_hold : Hold tests
unfolding any_below lt of_int of_bits tabulate
tests_hold = refl

tables_hold : Hold tables
unfolding unusable any_below tally lt of_int of_bits tabulate
tables_hold = refl

runs_hold : Hold runs
unfolding blurred_of component_of magnitudes_of suppressed_under suppressed_by edges_of end_of count_of run_edges canny separable_at kernel_sum kernel_term sample_at ordered_sum to_byte add mul of_int of_bits gradient_at gradient_term sum_z magnitude_at magnitude_of root_of near_root whole_root odd sector_of neighbours after_start started classed class sliced taken pop looks visit look le lt any_below tally tabulate to_bits
runs_hold = refl

diagonals_hold : Hold diagonals
unfolding neighbours vendor_neighbours any_diagonal any_diagonal_in sector_of blurred_of component_of separable_at kernel_sum kernel_term sample_at ordered_sum to_byte add mul of_int of_bits gradient_at gradient_term sum_z odd le lt any_below tabulate
diagonals_hold = refl

frames_hold : Hold frames
unfolding blurred_of component_of magnitudes_of suppressed_under suppressed_by edges_of end_of count_of run_edges canny separable_at kernel_sum kernel_term sample_at ordered_sum to_byte add mul of_int of_bits gradient_at gradient_term sum_z magnitude_at magnitude_of root_of near_root whole_root odd sector_of neighbours after_start started classed class sliced taken pop looks visit look le lt any_below tally tabulate breach frame_taps frame_pixels decimal_by decimal refused_text edges_text rows_text run_text printout
frames_hold = refl

answers_hold : Hold answers
answers_hold = refl

pub slips_hold : Every slips
unfolding slips
slips_hold = (
  borders_hold,
  (sums_hold, (filters_hold, (gradients_hold, (suppressed_hold, (walks_hold, (tests_hold, (tables_hold, (runs_hold, (diagonals_hold, (frames_hold, (answers_hold, tt))))))))))),
)
