use Rattle.std.proofs.Common.{◌≡◌, ◌∙◌, ◌++◌, sym, ap, subst, Some, None}
use Rattle.ibos_outcome.specs.Printed.{line_text, item_text}
use Rattle.ibos_outcome.specs.Canonical.{IsFront}
use Rattle.ibos_outcome.specs.Readings.{item_in}
use Rattle.ibos_outcome.proofs.ReadLines.{said_tells, some_of}
use Rattle.ibos_outcome.proofs.read.read_line.Goals as goal

pub returns-in_default-clause-none : goal.returns-in_default-clause-none
returns-in_default-clause-none c = λ item is front.
    let found : item_in c.said_in-said.result.now ≡ Some item = ap item_in c.said_in-said.ensures ∙ said_tells c.args.digits.now c.args.text.now item c.requires.digits is front in
    let none : None ≡ Some item = sym c.in_default.is ∙ c.in_ok-item.ensures.item ∙ found in
    cc

pub returns-else-begins_with-clause-none : goal.returns-else-begins_with-clause-none
returns-else-begins_with-clause-none c = λ item is front.
    let found : item_in c.said_in-said.result.now ≡ Some item = ap item_in c.said_in-said.ensures ∙ said_tells c.args.digits.now c.args.text.now item c.requires.digits is front in
    let same : item ≡ c.in-Some.item = some_of item c.in-Some.item (sym found ∙ sym c.in_ok-item.ensures.item ∙ c.in-Some.is) in
    let line : line_text c.args.digits.now (item_text item) ≡ c.as_slice.result.now =
    ap (λ i. line_text c.args.digits.now (item_text i)) same
    ∙ sym (c.as_slice.ensures ∙ c.in_ok-write_item.ensures ∙ ap (λ t. t ++ line_text c.args.digits.now (item_text c.in-Some.item)) c.clear.ensures) in
    let begins = c.begins_with.ensures.1 (subst (λ l. IsFront l c.args.text.now) line front) in
    cc
