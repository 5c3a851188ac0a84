-- `bytes_of` meets its contract: the guesses, if they pass, or else each by itself. Assumes nothing.
use Rattle.std.proofs.Common.{rules, arith}
use Rattle.rules.proofs.Fill.{filled_at}
use Rattle.gradient.specs.Bytes.{byte_by}
use Rattle.gradient.proofs.Bytes.{all_right}
use Rattle.gradient.proofs.sobel.bytes_of.Goals as goal

pub are_bytes-requires : goal.are_bytes-requires
are_bytes-requires c =
    record { enough_sums = search rules; enough_ends = search rules; each = λ i h. filled_at _ _ _ _ 0 i c.ends_of.ensures (omega arith) }

pub returns-else-not-are_bytes : goal.returns-else-not-are_bytes
returns-else-not-are_bytes c = all_right 0 (byte_by c.args.sums.now) c.args.out.now _ c.guesses.auto.out (c.are_bytes.ensures (search rules))
