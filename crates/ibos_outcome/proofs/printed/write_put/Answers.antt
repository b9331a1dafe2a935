use Rattle.std.proofs.Common.{◌∙◌, ℕ, List, subst}
use Rattle.ibos_outcome.specs.Printed.{Appends}
use Rattle.ibos_outcome.proofs.ToldLines.{put_spelled}
use Rattle.ibos_outcome.proofs.printed.write_put.Goals as goal

pub returns : goal.returns
returns c =
    let P : List ℕ → Type 0 = λ x. Appends c.push_twelve.result c.args.text.now c.push_twelve.new.text x in
    subst P (put_spelled c.args.digits.now c.args.origin.now c.args.key.now _ _ c.args.version c.args.len
    (c.as_bytes-version.ensures.value ∙ c.format.ensures.text) (c.as_bytes-len.ensures.value ∙ c.format-2.ensures.text)) c.push_twelve.ensures
