use Rattle.std.specs.Prelude.{codes}
use Rattle.std.proofs.lemmas.Result.{err_from_is_err_and}
use Rattle.ibos_outcome.specs.Printed.{hex_text}
use Rattle.ibos_outcome.proofs.CutTexts.{IsCutShort-first, Appends-second}
use Rattle.ibos_outcome.proofs.printed.write_hex.Goals as goal

pub returns-in_err-push_hex : goal.returns-in_err-push_hex
returns-in_err-push_hex c =
    let p = err_from_is_err_and c.from_residual.result c.from_residual.ensures.1 in rw p.1
    (IsCutShort-first c.args.text.now c.push_hex.new.text (hex_text c.args.bytes.now) (codes "\n") c.in_err-push_hex.ensures)

pub returns : goal.returns
returns c =
    Appends-second c.push_two.result c.args.text.now c.push_hex.new.text c.push_two.new.text (hex_text c.args.bytes.now) (codes "\n") c.in_ok-push_hex.ensures c.push_two.ensures
