use Rattle.std.proofs.Common.{arith}
use Rattle.ibos_fields.proofs.HexDigits.{joined_step, joined_done}
use Rattle.ibos_fields.proofs.hexadecimal.decode_few.Goals as goal

pub pairs-preserved : goal.pairs-preserved
pairs-preserved c =
    rw (c.digit_code-high.ensures, c.digit_code-low.ensures)
    (joined_step c.args.word.now c.pairs.bytes c.pairs.codes c.pairs.i (omega (arith, c.pairs-test.true, c.requires)) (omega (arith, c.pairs-test.true, c.pairs.auto.bytes)) c.pairs.invariant)

pub returns : goal.returns
returns c =
    joined_done c.args.word.now c.pairs.bytes c.pairs.codes c.pairs.i (omega (arith, c.pairs-test.false, c.pairs.auto.bytes)) (omega (arith, c.pairs-test.false, c.requires)) c.pairs.invariant
