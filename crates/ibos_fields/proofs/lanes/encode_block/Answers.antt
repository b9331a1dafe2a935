use Rattle.std.proofs.lemmas.Simd.{length-chunk}
use lib.Lanes.{chunk}
use Rattle.ibos_fields.proofs.EncodedDigits.{block-digits}
use Rattle.ibos_fields.proofs.lanes.encode_block.Goals as goal

pub returns : goal.returns
returns c =
    block-digits (chunk 0 16 c.args.bytes.now) c.high_digits.result c.low_digits.result (length-chunk 0 16 c.args.bytes.now c.requires) c.high_digits.ensures c.low_digits.ensures
