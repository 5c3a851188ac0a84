-- A text's cases, one after another.
use Rattle.std.specs.Prelude.{◌≡◌, ◌<◌, ◌≤◌, Option, MatchOption, length}
use Rattle.cases.specs.declared.text.Text.{Text}
use Rattle.cases.specs.declared.cases.Cases.{Cases}

-- One call of the same text. Where it is over nothing comes, and its place stays. Else what comes is the text at its place, and the next place
-- is a later one.
abbrev pub GivesCase : Cases → Option Text → Cases → Type 0
GivesCase s r t = (t.rest.all.now ≡ s.rest.all.now) × MatchOption r
    ((length s.rest.all.now ≤ s.rest.at) × (t.rest.at ≡ s.rest.at))
    (λ case. (case ≡ s.rest) × (s.rest.at < length s.rest.all.now) × (s.rest.at < t.rest.at))
