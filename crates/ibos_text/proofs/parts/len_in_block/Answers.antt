use Rattle.std.proofs.Common.{◌≡◌, ◌∙◌, ℕ, List, take, length, eqb, ap, w8, arith}
use Rattle.std.proofs.lemmas.Bool.Decides.{nat_tests}
use Rattle.std.proofs.lemmas.List.{length-take-le}
use Rattle.std.proofs.lemmas.Simd.{bitmask_splat, trailing_mask_l}
use Rattle.std.specs.Int.Count.{count_trailing_zeros}
use Rattle.ibos_text.proofs.PartLengths.{len_before-le}
use Rattle.ibos_text.proofs.parts.len_in_block.Goals as goal

-- the lowest bit that is set marks the first byte of that value
pub returns-else-marks-eq0-clause-value : goal.returns-else-marks-eq0-clause-value
returns-else-marks-eq0-clause-value c =
    let block : List ℕ = take 16 c.args.text.now in
    let long : length block ≡ 16 = length-take-le 16 c.args.text.now c.requires in
    let marks = bitmask_splat w8 eqb block 16 c.args.byte long (omega arith) in
    ap (count_trailing_zeros 64) marks
    ∙ trailing_mask_l (λ b. eqb b c.args.byte) 64 block (omega (arith, long)) (grind (arith, nat_tests, c.if-marks-eq0.false, marks))

pub returns-else-marks-eq0-clause-within : goal.returns-else-marks-eq0-clause-within
returns-else-marks-eq0-clause-within c =
    let is = returns-else-marks-eq0-clause-value c in
    omega (arith, is, len_before-le c.args.byte (take 16 c.args.text.now), length-take-le 16 c.args.text.now c.requires)
