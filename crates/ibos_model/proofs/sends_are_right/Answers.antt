use Rattle.ibos_model.proofs.AwayBuffers.{away_fixed}
use Rattle.ibos_model.proofs.PostedSends.{posted_once}
use Rattle.ibos_model.proofs.RightSends.{all_right, sent_rightly}
use Rattle.ibos_model.proofs.sends_are_right.Goals as goal

pub returns-clause-posted : goal.returns-clause-posted
returns-clause-posted c = posted_once

pub returns-clause-right : goal.returns-clause-right
returns-clause-right c = all_right

pub returns-clause-sent : goal.returns-clause-sent
returns-clause-sent c = sent_rightly

pub returns-clause-fixed : goal.returns-clause-fixed
returns-clause-fixed c = away_fixed
