use Rattle.std.proofs.Common.{◌≡◌, true, false, refl, sym, ◌∙◌}
use Rattle.ibos_fields.proofs.HexDigits.{block-codes, all_small}
use Rattle.ibos_fields.proofs.lanes.decode_block.Goals.{then-not-are_digits-via-then-not-are_digits, then-not-are_digits-via-else-not-are_digits+then-not-are_digits-2}
use Rattle.ibos_fields.proofs.lanes.decode_block.Goals as goal

pub returns-then-not-are_digits : goal.returns-then-not-are_digits
returns-then-not-are_digits c =
    let named = block-codes c.args.word.now c.digit_codes-first.result c.digit_codes-second.result c.requires c.digit_codes-first.ensures c.digit_codes-second.ensures in
    elim c.then-not-are_digits.branch [
      | then-not-are_digits-via-then-not-are_digits w ↦
          let first : all_small c.digit_codes-first.result ≡ false = sym c.are_digits.ensures ∙ w.if-not-are_digits.true in
          sym (named ∙ rw first refl)
      | then-not-are_digits-via-else-not-are_digits+then-not-are_digits-2 w ↦
          let first : all_small c.digit_codes-first.result ≡ true = sym c.are_digits.ensures ∙ w.if-not-are_digits.false in
          let second : all_small c.digit_codes-second.result ≡ false = sym w.are_digits-else-not-are_digits.ensures ∙ w.if-not-are_digits-2.true in
          sym (named ∙ rw (first, second) refl)
    ]

pub returns : goal.returns
returns c =
    let first : all_small c.digit_codes-first.result ≡ true = sym c.if-not-are_digits.ensures in
    let second : all_small c.digit_codes-second.result ≡ true = sym c.are_digits-else-not-are_digits.ensures ∙ c.if-not-are_digits-2.false in
    sym (block-codes c.args.word.now c.digit_codes-first.result c.digit_codes-second.result c.requires c.digit_codes-first.ensures c.digit_codes-second.ensures ∙ rw (first, second) refl)
