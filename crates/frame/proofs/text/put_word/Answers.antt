-- `put_word` meets its contract: the copied part is the word. Assumes nothing.
use Rattle.std.proofs.Common.{◌≡◌, ◌+◌, ◌-◌, refl, length, arith}
use Rattle.std.proofs.lemmas.List.Edits.{sets-eq}
use Rattle.std.proofs.lemmas.List.{append_assoc, drop-drop}
use Rattle.frame.proofs.text.put_word.Goals as goal

pub returns : goal.returns
returns c =
    let word = c.args.word.now in
    let n : c.args.at + length word - c.args.at ≡ length word = omega arith in
    (refl, rw (sets-eq word c.args.text.now c.args.at c.requires, c.copy_from_slice.ensures.after, n, append_assoc, drop-drop (length word) c.args.at c.args.text.now) refl)
