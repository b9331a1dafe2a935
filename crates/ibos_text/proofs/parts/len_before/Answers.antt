use Rattle.std.proofs.Common.{arith}
use Rattle.std.proofs.lemmas.List.{length-take-le}
use Rattle.ibos_text.proofs.PartLengths.{found_behind, none_behind}
use Rattle.ibos_text.proofs.parts.len_before.Goals as goal

pub returns-in-Some-clause-value : goal.returns-in-Some-clause-value
returns-in-Some-clause-value c =
    let is = c.len_in_block-len.ensures.value in
    let long = length-take-le 16 c.args.text.now (omega (arith, c.if-text-lt-LANES.false)) in
    found_behind c.args.byte c.args.text.now 16 c.in-Some.more (omega (arith, c.if-text-lt-LANES.false)) (omega (arith, is, c.if-len-lt-LANES.false)) (omega (arith, is, c.len_in_block-len.ensures.within, long)) c.in-Some.ensures

pub returns-in-None-clause-value : goal.returns-in-None-clause-value
returns-in-None-clause-value c =
    let is = c.len_in_block-len.ensures.value in
    let long = length-take-le 16 c.args.text.now (omega (arith, c.if-text-lt-LANES.false)) in
    none_behind c.args.byte c.args.text.now 16 (omega (arith, c.if-text-lt-LANES.false)) (omega (arith, is, c.if-len-lt-LANES.false)) (omega (arith, is, c.len_in_block-len.ensures.within, long)) c.in-None.ensures
