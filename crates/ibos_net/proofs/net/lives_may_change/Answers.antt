use Rattle.ibos_net.proofs.BuffersStay.{lives-change}
use Rattle.ibos_net.proofs.net.lives_may_change.Goals as goal

pub returns : goal.returns
returns c = lives-change
