use Rattle.std.proofs.Common.{◌≡◌, ◌+◌, ◌-◌, ◌*◌, ◌≤◌, ◌++◌, length, take, drop, ◌∙◌, ap, arith}
use Rattle.std.proofs.lemmas.List.{length-drop, length-take}
use Rattle.std.proofs.lemmas.Slice.{take-put_mid}
use Rattle.ibos_fields.proofs.HexDigits.{block-none, block_step, reaches}
use Rattle.ibos_fields.proofs.hexadecimal.decode_digits.Goals as goal

pub returns-in_default : goal.returns-in_default
returns-in_default c =
    let fits : 2 * c.loop-bytes.at + 32 ≤ length c.args.word.now = omega (arith, c.loop-bytes-test.true, c.loop-bytes.auto.bytes, c.requires) in
    block-none c.args.word.now (take c.loop-bytes.at c.loop-bytes.bytes) c.loop-bytes.at fits c.in_default.ensures c.loop-bytes.invariant.named

pub loop-bytes-preserved : goal.loop-bytes-preserved
loop-bytes-preserved c =
    let fits : 2 * c.loop-bytes.at + 32 ≤ length c.args.word.now = omega (arith, c.loop-bytes-test.true, c.loop-bytes.auto.bytes, c.requires) in
    let room = length-take (c.loop-bytes.at + 16 - c.loop-bytes.at) (drop c.loop-bytes.at c.loop-bytes.bytes) in
    let long : length c.copy_from_slice.new.self ≡ 16 = c.copy_from_slice.ensures.len ∙ room ∙ omega (arith, length-drop c.loop-bytes.at c.loop-bytes.bytes, c.loop-bytes-test.true) in
    let written = take-put_mid c.loop-bytes.at (c.loop-bytes.at + 16 - c.loop-bytes.at) c.loop-bytes.bytes c.copy_from_slice.new.self (c.loop-bytes.at + 16) (omega (arith, long)) (c.loop-bytes.invariant.within) in
    record {
      within = reaches (c.loop-bytes.at + 16) (take c.loop-bytes.at c.loop-bytes.bytes) c.copy_from_slice.new.self _ (omega (arith, long, length-take c.loop-bytes.at c.loop-bytes.bytes, c.loop-bytes.invariant.within)) written;
      named = block_step c.args.word.now c.loop-bytes.bytes _ c.in-Some.block c.loop-bytes.at fits (written ∙ ap (λ block. take c.loop-bytes.at c.loop-bytes.bytes ++ block) c.copy_from_slice.ensures.after) c.in-Some.ensures c.loop-bytes.invariant.named;
    }
