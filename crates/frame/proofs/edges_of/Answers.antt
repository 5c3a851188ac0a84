-- `edges_of` meets its contract: what the run answers. Assumes nothing.
use Rattle.std.proofs.Common.{◌≤◌, length, arith}
use Rattle.rules.specs.Picture.{area}
use Rattle.rules.specs.Frame.{frame_size}
use Rattle.frame.proofs.Breaches.{laid}
use Rattle.frame.proofs.Printouts.{ended}
use Rattle.frame.proofs.edges_of.Goals as goal

pub returns : goal.returns
returns c =
    let keeps = c.requires.keeps in
    let l = laid _ keeps in
    let room : area (frame_size c.args.file.now) ≤ length c.args.map.now = omega (arith, l.small, c.requires.room) in
    ended _ c.args.map.now _ keeps l room c.run_file.auto.map c.run_file.ensures
