-- `print_run` meets its contract: what `edges_of` says of the printout is written. Assumes nothing.
use Rattle.std.proofs.Common.{rules}
use Rattle.frame.specs.Running.{Edges}
use Rattle.frame.proofs.Printouts.{written}
use Rattle.frame.proofs.print_run.Goals as goal

pub size_of-requires : goal.size_of-requires
size_of-requires c = let said : Edges c.args.file.now c.edges_of.new.map c.in-Ok.count = c.in-Ok.ensures in said.header

pub put_edges-requires : goal.put_edges-requires
put_edges-requires c =
    let said : Edges c.args.file.now c.edges_of.new.map c.in-Ok.count = c.in-Ok.ensures in
    rw c.size_of.ensures (record { small = said.small; whole = said.whole; room = search rules })

pub returns-in-Ok : goal.returns-in-Ok
returns-in-Ok c =
    let said : Edges c.args.file.now c.edges_of.new.map c.in-Ok.count = c.in-Ok.ensures in
    written _ _ _ (rw c.size_of.ensures at c.put_edges.ensures) said.is

pub returns-in-Err : goal.returns-in-Err
returns-in-Err c = written _ _ _ c.put_refused.ensures c.in-Err.ensures
