use Rattle.ibos_model.proofs.QuietActs.{logged_alone}
use Rattle.ibos_model.proofs.the_wire_alone_is_logged.Goals as goal

pub returns : goal.returns
returns c = logged_alone
