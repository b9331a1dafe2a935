use Rattle.std.proofs.Common.{◌-◌, ℕ, List, ◌++◌, length, take, drop, sym, ◌∙◌, ap, subst, refl, arith}
use Rattle.hex.specs.Hex.{encode_lower}
use Rattle.std.proofs.lemmas.List.{append-nil}
use Rattle.std.proofs.lemmas.Result.{err_from_is_err_and}
use Rattle.ibos_outcome.specs.Printed.{Appends}
use Rattle.ibos_outcome.proofs.CutTexts.{Appends-second}
use Rattle.ibos_outcome.proofs.HexTexts.{encode_lower-none, encode_lower-rest, written-more, IsCutShort-block}
use Rattle.ibos_outcome.proofs.printed.push_digits.Goals as goal

pub loop-at-init : goal.loop-at-init
loop-at-init c = record {
  within = omega arith;
  written = sym (ap (λ digits. c.args.text.now ++ digits) encode_lower-none ∙ append-nil c.args.text.now);
}

pub returns-in_err-push_wide : goal.returns-in_err-push_wide
returns-in_err-push_wide c =
    let p = err_from_is_err_and c.from_residual.result c.from_residual.ensures.1 in rw p.1
    (IsCutShort-block 64 c.args.bytes.now c.loop-at.at c.args.text.now c.loop-at.text c.push_wide.new.text
    (encode_lower (take 64 (take (length c.args.bytes.now - c.loop-at.at) (drop c.loop-at.at c.args.bytes.now)))) c.loop-at.invariant.written refl c.in_err-push_wide.ensures)

pub loop-at-preserved : goal.loop-at-preserved
loop-at-preserved c = record {
  within = omega (arith, c.loop-at.invariant.within, c.loop-at-test.true);
  written = written-more 64 c.args.bytes.now c.loop-at.at c.args.text.now c.loop-at.text c.push_wide.new.text
      (encode_lower (take 64 (take (length c.args.bytes.now - c.loop-at.at) (drop c.loop-at.at c.args.bytes.now)))) c.loop-at.invariant.written refl c.in_ok-push_wide.ensures;
}

pub returns : goal.returns
returns c =
    let P : List ℕ → Type 0 = λ x. Appends c.push_blocks.result c.args.text.now c.push_blocks.new.text x in
    subst P (encode_lower-rest c.args.bytes.now c.loop-at.at)
    (Appends-second c.push_blocks.result c.args.text.now c.loop-at.text c.push_blocks.new.text (encode_lower (take c.loop-at.at c.args.bytes.now))
    (encode_lower (take (length c.args.bytes.now - c.loop-at.at) (drop c.loop-at.at c.args.bytes.now))) c.loop-at.invariant.written c.push_blocks.ensures)
