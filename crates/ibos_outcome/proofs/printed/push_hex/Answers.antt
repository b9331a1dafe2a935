use Rattle.std.proofs.Common.{◌∙◌, sym, ℕ, List, subst}
use Rattle.ibos_outcome.specs.Printed.{Appends}
use Rattle.ibos_outcome.proofs.ToldLines.{dash_spelled, digits_spelled}
use Rattle.ibos_outcome.proofs.printed.push_hex.Goals as goal

pub returns-then-is_empty : goal.returns-then-is_empty
returns-then-is_empty c =
    let P : List ℕ → Type 0 = λ x. Appends c.push_two.result c.args.text.now c.push_two.new.text x in
    subst P (dash_spelled c.args.bytes.now (sym c.is_empty.ensures ∙ c.if-is_empty.true)) c.push_two.ensures

pub returns : goal.returns
returns c =
    let P : List ℕ → Type 0 = λ x. Appends c.push_digits.result c.args.text.now c.push_digits.new.text x in
    subst P (digits_spelled c.args.bytes.now (sym c.is_empty.ensures ∙ c.if-is_empty.false)) c.push_digits.ensures
