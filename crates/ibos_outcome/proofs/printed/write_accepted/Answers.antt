use Rattle.std.proofs.Common.{◌∙◌, ℕ, List, ◌++◌, subst}
use Rattle.std.specs.Prelude.{codes}
use Rattle.std.proofs.lemmas.Result.{err_from_is_err_and}
use Rattle.ibos_outcome.specs.Printed.{IsCutShort, Appends, hex_text}
use Rattle.ibos_outcome.proofs.CutTexts.{IsCutShort-first, Appends-second}
use Rattle.ibos_outcome.proofs.ToldLines.{accepted_spelled}
use Rattle.ibos_outcome.proofs.printed.write_accepted.Goals as goal

pub returns-in_err-push_eight : goal.returns-in_err-push_eight
returns-in_err-push_eight c =
    let p = err_from_is_err_and c.from_residual.result c.from_residual.ensures.1 in
    let line = accepted_spelled c.args.digits.now _ _ _ (hex_text c.args.bytes.now) c.args.who c.args.send
    (c.as_bytes-tab.ensures.value ∙ c.format-2.ensures.text) (c.as_bytes-ord.ensures.value ∙ c.format-3.ensures.text) (c.as_bytes-send.ensures.value ∙ c.format.ensures.text) in
    let P : List ℕ → Type 0 = λ x. IsCutShort c.args.text.now c.push_eight.new.text x in
    rw p.1 (subst P line (IsCutShort-first c.args.text.now c.push_eight.new.text _ (hex_text c.args.bytes.now ++ codes "\n") c.in_err-push_eight.ensures))

pub returns : goal.returns
returns c =
    let line = accepted_spelled c.args.digits.now _ _ _ (hex_text c.args.bytes.now) c.args.who c.args.send
    (c.as_bytes-tab.ensures.value ∙ c.format-2.ensures.text) (c.as_bytes-ord.ensures.value ∙ c.format-3.ensures.text) (c.as_bytes-send.ensures.value ∙ c.format.ensures.text) in
    let P : List ℕ → Type 0 = λ x. Appends c.write_hex.result c.args.text.now c.write_hex.new.text x in
    subst P line (Appends-second c.write_hex.result c.args.text.now c.push_eight.new.text c.write_hex.new.text _ (hex_text c.args.bytes.now ++ codes "\n") c.in_ok-push_eight.ensures c.write_hex.ensures)
