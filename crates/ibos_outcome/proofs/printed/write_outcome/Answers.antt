use Rattle.std.proofs.Common.{◌≡◌, ℕ, List, ◌++◌, ◌∙◌, subst}
use Rattle.std.specs.Prelude.{decimal}
use Rattle.std.proofs.lemmas.Result.{err_from_is_err_and}
use Rattle.ibos_outcome.specs.Printed.{IsCutShort, outcome_text, line_text, head_text, items_text}
use Rattle.ibos_outcome.proofs.CutTexts.{IsCutShort-second}
use Rattle.ibos_outcome.proofs.printed.write_outcome.Goals as goal

pub returns-in_err-write_items-clause-err : goal.returns-in_err-write_items-clause-err
unfolding outcome_text
returns-in_err-write_items-clause-err c =
    let p = err_from_is_err_and c.from_residual-in_err-write_items.result c.from_residual-in_err-write_items.ensures.1 in
    let head = c.args.outcome.now.head in
    let digits : c.as_bytes-digits.result.now ≡ decimal c.args.number = c.as_bytes-digits.ensures.value ∙ c.format.ensures.text in
    let cut = IsCutShort-second c.args.text.now c.write_head.new.text c.write_items.new.text (line_text c.as_bytes-digits.result.now (head_text head)) _ c.in_ok-write_head.ensures c.in_err-write_items.ensures in
    let P : List ℕ → Type 0 = λ d. IsCutShort c.args.text.now c.write_items.new.text (line_text d (head_text head) ++ items_text d c.args.outcome.now.items) in
    rw p.1 (subst P digits (rw c.as_slice.ensures at cut))
