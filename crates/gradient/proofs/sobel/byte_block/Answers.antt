-- `byte_block` meets its contract: the bytes of the block's sums. Assumes nothing.
use Rattle.pixel.specs.Components.{nine_energy}
use Rattle.pixel.specs.Halving.{held}
use Rattle.gradient.proofs.Bytes.{block_bytes}
use Rattle.gradient.proofs.sobel.byte_block.Goals as goal

pub returns : goal.returns
returns c =
    block_bytes _ c.args.sums.now c.args.out.now (c.fill_by_nines.ensures (λ n. held (nine_energy n)) (λ nine r e. e)) c.requires.1 c.bytes_of.ensures
