-- `any_beyond` is the test of each index. Assumes nothing.
use lib.Dec.{leb}
use borrow.Author.Rules.{rules}
use borrow.Author.Tests.{tests}
use Rattle.std.proofs.lemmas.Iterator.{YieldsList-from_slice}
use Rattle.std.proofs.lemmas.Iterator.Search.{any_from_yields_List}
use Rattle.refusals.proofs.walk.any_beyond.Goals as goal

pub returns : goal.returns
returns c = any_from_yields_List (leb c.args.n) _ _ _ c.any.ensures.ran (YieldsList-from_slice c.args.indexes.now cc) (λ x b q k. search (rules, tests))
