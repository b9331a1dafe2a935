use Rattle.std.proofs.Common.{◌++◌}
use Rattle.std.specs.Prelude.{codes}
use Rattle.std.proofs.lemmas.Result.{err_from_is_err_and}
use Rattle.ibos_outcome.specs.Printed.{instance_text}
use Rattle.ibos_outcome.proofs.CutTexts.{IsCutShort-first, Appends-second}
use Rattle.ibos_outcome.proofs.printed.push_front.Goals as goal

pub returns-in_err-push_two : goal.returns-in_err-push_two
returns-in_err-push_two c =
    let p = err_from_is_err_and c.from_residual.result c.from_residual.ensures.1 in rw p.1
    (IsCutShort-first c.args.text.now c.push_two.new.text (c.args.digits.now ++ c.args.said.now) (codes " " ++ instance_text c.args.who) c.in_err-push_two.ensures)

pub returns : goal.returns
returns c =
    Appends-second c.push_instance.result c.args.text.now c.push_two.new.text c.push_instance.new.text (c.args.digits.now ++ c.args.said.now)
    (codes " " ++ instance_text c.args.who) c.in_ok-push_two.ensures c.push_instance.ensures
