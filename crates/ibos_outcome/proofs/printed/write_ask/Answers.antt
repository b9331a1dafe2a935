use Rattle.std.proofs.Common.{◌∙◌, ℕ, List, subst}
use Rattle.ibos_outcome.specs.Printed.{Appends}
use Rattle.ibos_outcome.proofs.ToldLines.{ask_spelled}
use Rattle.ibos_outcome.proofs.printed.write_ask.Goals as goal

pub returns : goal.returns
returns c =
    let P : List ℕ → Type 0 = λ x. Appends c.push_named.result c.args.text.now c.push_named.new.text x in
    subst P (ask_spelled c.args.digits.now _ c.args.origin.now c.args.key.now c.args.who c.args.request
    (c.as_bytes-request.ensures.value ∙ c.format.ensures.text)) c.push_named.ensures
