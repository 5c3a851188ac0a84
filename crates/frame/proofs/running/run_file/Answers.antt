-- `run_file` meets its contract: what is lent to the run are the file's own values. Assumes nothing.
use Rattle.std.proofs.Common.{arith}
use Rattle.frame.proofs.Breaches.{laid}
use Rattle.frame.proofs.Printouts.{pixels_part, taps_part}
use Rattle.frame.proofs.running.run_file.Goals as goal

-- what the layout grants (`laid`)
pub decode_taps-requires : goal.decode_taps-requires
decode_taps-requires c = (omega (arith, laid _ c.requires.keeps, c.requires.counted), c.requires.few)

pub slice_bounds-run-count : goal.slice_bounds-run-count
slice_bounds-run-count c = omega (arith, laid _ c.requires.keeps, c.requires.counted)

pub slice_bounds-run-start : goal.slice_bounds-run-start
slice_bounds-run-start c = omega (arith, laid _ c.requires.keeps, c.requires.counted)

pub size_of-requires : goal.size_of-requires
size_of-requires c = (laid _ c.requires.keeps).header

pub thresholds_of-requires : goal.thresholds_of-requires
thresholds_of-requires c = (laid _ c.requires.keeps).header

pub run-requires : goal.run-requires
run-requires c = record { small = rw c.size_of.ensures (laid _ c.requires.keeps).small; room = c.requires.room }

pub returns : goal.returns
returns c =
    let pixels = pixels_part c.args.file.now c.requires.counted (laid _ c.requires.keeps) in
    let taps = taps_part c.args.file.now c.requires.counted _ _ c.decode_taps.ensures in
    rw (c.size_of.ensures, pixels, taps, c.thresholds_of.ensures) at c.run.ensures
