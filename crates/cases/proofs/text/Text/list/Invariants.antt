-- the text stays, and what comes next stands no earlier
use Rattle.std.proofs.Common.{◌≡◌, ◌≤◌}
use Rattle.cases.proofs.text.Text.list.Given as goal

abbrev pub invariant-loop-entry : goal.invariant-loop-entry
invariant-loop-entry g l = (l.fn.self.at ≤ l.self.at) × (l.self.all.now ≡ l.fn.self.all.now)
