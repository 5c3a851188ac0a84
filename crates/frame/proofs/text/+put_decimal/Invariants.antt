-- the measure of `put_decimal` is the number, which falls to its tenth
use Rattle.frame.proofs.text.+put_decimal.Given as goal

abbrev pub decreases-put_decimal : goal.decreases-put_decimal
decreases-put_decimal l = l.n
