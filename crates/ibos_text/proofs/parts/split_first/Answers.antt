use Rattle.std.proofs.Common.{arith}
use Rattle.ibos_text.proofs.WordCuts.{parts_of-whole, parts_of-cut}
use Rattle.ibos_text.proofs.parts.split_first.Goals as goal

pub returns-then-len-text : goal.returns-then-len-text
returns-then-len-text c = parts_of-cut c.args.byte c.args.text.now c.len_before-len.result c.len_before-len.ensures.value c.if-len-text.true

pub returns-else-len-text : goal.returns-else-len-text
returns-else-len-text c = parts_of-whole c.args.byte c.args.text.now (omega (arith, c.len_before-len.ensures.value))
