use Rattle.std.proofs.Common.{◌-◌, length, sym, ◌∙◌, arith}
use Rattle.ibos_fields.specs.Printable.{is_printable}
use Rattle.ibos_fields.proofs.PrintableBlocks.{passed_more, fails_at, last_decides}
use Rattle.ibos_fields.proofs.printable.are_printable.Goals as goal

pub returns-then-not-is_printable_block : goal.returns-then-not-is_printable_block
returns-then-not-is_printable_block c =
    sym (fails_at is_printable c.args.text.now c.loop-at.at (sym c.is_printable_block.ensures ∙ c.if-not-is_printable_block.true))

pub loop-at-preserved : goal.loop-at-preserved
loop-at-preserved c = record {
  within = omega (arith, c.loop-at-test.true, c.loop-at.invariant.within);
  passed = passed_more is_printable c.args.text.now c.loop-at.at c.loop-at.invariant.passed (sym c.is_printable_block.ensures ∙ c.if-not-is_printable_block.false);
}

pub returns : goal.returns
returns c =
    let k = length c.args.text.now - 16 in
    c.is_printable_block-2.ensures
    ∙ last_decides is_printable c.args.text.now c.loop-at.at k (omega (arith, c.loop-at-test.false)) (omega (arith, c.if-text-lt16.false)) c.loop-at.invariant.passed
