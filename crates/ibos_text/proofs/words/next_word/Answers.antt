use Rattle.std.proofs.Common.{◌≡◌, ◌<◌, ◌∙◌, length, arith, ap, sym, refl}
use Rattle.std.proofs.lemmas.Bool.Decides.{nat_tests}
use Rattle.std.proofs.lemmas.Bool.{cases_lt}
use Rattle.ibos_text.specs.Words.{words_of, first_word, after_word}
use Rattle.ibos_text.proofs.WordCuts.{words_of-after_spaces, words_of-front, front_of-after_spaces, words_of-none, has_word-after_spaces, no_word}
use Rattle.ibos_text.proofs.words.next_word.Goals as goal

pub returns : goal.returns
unfolding first_word after_word
returns c =
    let text = c.skip_spaces-text.result.now in
    let some : 0 < length text = grind (arith, nat_tests, c.if-is_empty.false, c.is_empty.ensures) in
    let front = rw (← c.skip_spaces-text.ensures.rest) at (front_of-after_spaces c.args.line.now) in
    let pass = words_of-after_spaces c.args.line.now ∙ ap words_of (sym c.skip_spaces-text.ensures.rest) in
    let words = words_of-front text c.len_before.result c.len_before.ensures.value (omega (arith, front some)) (cases_lt c.len_before.result (length text)) in
    record {
      words = rw (c.split_at.ensures.front, c.split_at.ensures.back) (pass ∙ words);
      found = has_word-after_spaces c.args.line.now ∙ rw (← c.skip_spaces-text.ensures.rest) (grind (arith, nat_tests, some));
      first = c.split_at.ensures.front ∙ rw (c.len_before.ensures.value, c.skip_spaces-text.ensures.rest) refl;
      rest = c.split_at.ensures.back ∙ rw (c.len_before.ensures.value, c.skip_spaces-text.ensures.rest) refl;
    }

pub returns-then-is_empty : goal.returns-then-is_empty
returns-then-is_empty c =
    let text = c.skip_spaces-text.result.now in
    let none : length text ≡ 0 = grind (arith, nat_tests, c.if-is_empty.true, c.is_empty.ensures) in
    let spaces = no_word c.args.line.now (rw (← c.skip_spaces-text.ensures.rest) none) in
    record {
      words = words_of-after_spaces c.args.line.now ∙ ap words_of (sym c.skip_spaces-text.ensures.rest) ∙ words_of-none text none;
      found = spaces.0;
      first = spaces.1;
      rest = spaces.2;
    }
