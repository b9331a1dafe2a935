use Rattle.std.proofs.Common.{◌≡◌, ◌∙◌, ◌++◌, sym, ap, subst, Some, None, decimal}
use Rattle.ibos_outcome.specs.Printed.{line_text, head_text}
use Rattle.ibos_outcome.specs.Canonical.{IsFront}
use Rattle.ibos_outcome.specs.Readings.{word_of, rest_of, head_in}
use Rattle.ibos_outcome.proofs.ReadLines.{head_words, some_of}
use Rattle.ibos_outcome.proofs.read.read_head.Goals as goal

pub returns-in_default-clause-none : goal.returns-in_default-clause-none
returns-in_default-clause-none c = λ n head small front.
    let words = head_words n head c.args.text.now small front in
    let digits = c.cut-2.ensures.word ∙ ap (word_of 32) c.cut.ensures.word ∙ words.0 in
    let none : None ≡ Some n = sym c.in_default.is ∙ c.read_decimal.ensures n small digits in
    cc

pub returns-in_default-head_of-clause-none : goal.returns-in_default-head_of-clause-none
returns-in_default-head_of-clause-none c = λ n head small front.
    let words = head_words n head c.args.text.now small front in
    let said = c.cut-2.ensures.rest ∙ ap (rest_of 32) c.cut.ensures.word in
    let none : None ≡ Some head = sym c.in_default-head_of.is ∙ c.head_of.ensures ∙ ap head_in said ∙ words.1 in
    cc

pub returns-else-begins_with-clause-none : goal.returns-else-begins_with-clause-none
returns-else-begins_with-clause-none c = λ n head small front.
    let words = head_words n head c.args.text.now small front in
    let digits = c.cut-2.ensures.word ∙ ap (word_of 32) c.cut.ensures.word ∙ words.0 in
    let said = c.cut-2.ensures.rest ∙ ap (rest_of 32) c.cut.ensures.word in
    let numbers : n ≡ c.in-Some.number = some_of _ _ (sym (c.read_decimal.ensures n small digits) ∙ c.in-Some.is) in
    let heads : head ≡ c.in-Some-head_of.head = some_of _ _ (sym (c.head_of.ensures ∙ ap head_in said ∙ words.1) ∙ c.in-Some-head_of.is) in
    let line : line_text (decimal n) (head_text head) ≡ c.as_slice.result.now =
    ap (λ m. line_text (decimal m) (head_text head)) numbers ∙ ap (λ h. line_text (decimal c.in-Some.number) (head_text h)) heads
    ∙ ap (λ d. line_text d (head_text c.in-Some-head_of.head)) (sym (c.as_bytes-printed.ensures.value ∙ c.format.ensures.text))
    ∙ sym (c.as_slice.ensures ∙ c.in_ok-write_head.ensures ∙ ap (λ t. t ++ line_text c.as_bytes-printed.result.now (head_text c.in-Some-head_of.head)) c.clear.ensures) in
    let begins = c.begins_with.ensures.1 (subst (λ l. IsFront l c.args.text.now) line front) in
    cc
