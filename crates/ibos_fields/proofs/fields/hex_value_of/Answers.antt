use Rattle.std.proofs.Common.{◌≡◌, ◌+◌, ◌*◌, ◌<◌, ◌≤◌, true, get_or, refl, sym, ◌∙◌, arith}
use Rattle.std.specs.Prelude.{◌^◌}
use Rattle.std.specs.Char.{digit_value, is_digit}
use Rattle.std.proofs.Math.Arith.{digits_lt}
use Rattle.std.proofs.Math.Nat.{pow-le-pow_right}
use Rattle.std.proofs.lemmas.Bool.Decides.{nat_tests}
use Rattle.std.proofs.lemmas.Int.Digits.{digits_value_more}
use Rattle.std.proofs.lemmas.Grind.{pow_more}
use Rattle.std.proofs.lemmas.List.Folds.{list_all_more}
use Rattle.ibos_fields.proofs.fields.hex_value_of.Goals as goal

-- there are at most eight digits, so at most seven before this one
pub overflow_mul-value : goal.overflow_mul-value
overflow_mul-value c =
    let before : c.loop-b.b-index ≤ 7 = omega (arith, c.loop-b-test.true, c.requires.few) in
    let most : 16 ^ c.loop-b.b-index ≤ 16 ^ 7 = pow-le-pow_right (omega arith) before in
    omega (arith, most, c.loop-b.invariant.small)

pub overflow_add-value : goal.overflow_add-value
overflow_add-value c =
    let before : c.loop-b.b-index ≤ 7 = omega (arith, c.loop-b-test.true, c.requires.few) in
    let most : 16 ^ c.loop-b.b-index ≤ 16 ^ 7 = pow-le-pow_right (omega arith) before in
    let below : c.in_ok-value.field-0 < 16 = omega (arith, c.in_ok-value.ensures) in
    omega (arith, most, c.loop-b.invariant.small, below)

pub loop-b-preserved : goal.loop-b-preserved
loop-b-preserved c =
    let bs = c.args.digits.now in
    let i = c.loop-b.b-index in
    let digit = c.in_ok-value.ensures in
    let below : digit_value (get_or bs i 0) < 16 = digit.0 in
    let is : is_digit (get_or bs i 0) 16 ≡ true = grind (arith, nat_tests, below) in
    let small : c.loop-b.value * 16 + c.in_ok-value.field-0 < 16 ^ i * 16 = digits_lt c.loop-b.invariant.small (omega (arith, below, digit.1)) in
    record {
      digits = list_all_more (λ b. is_digit b 16) bs i 0 c.loop-b-test.true ∙ rw (c.loop-b.invariant.digits, is) refl;
      value = rw (c.loop-b.invariant.value, digit.1) (sym (digits_value_more 16 bs i c.loop-b-test.true));
      small = omega (arith, small, pow_more 16 i);
    }
