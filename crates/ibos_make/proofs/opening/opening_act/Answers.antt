use Rattle.std.proofs.Common.{◌∙◌, arith}
use Rattle.ibos_make.proofs.DrillSteps.{ring_in, post_in, open_in}
use Rattle.ibos_make.proofs.opening.opening_act.Goals as goal

pub returns-then-place-lt-RINGS-clause-act : goal.returns-then-place-lt-RINGS-clause-act
returns-then-place-lt-RINGS-clause-act c = ring_in c.args.place (omega arith) ∙ c.ring_act.ensures.act

pub returns-then-place-clause-act : goal.returns-then-place-clause-act
returns-then-place-clause-act c = post_in c.args.place (omega arith) (omega arith) ∙ c.post_act.ensures.act

pub returns-clause-act : goal.returns-clause-act
returns-clause-act c = open_in c.args.place (omega arith) ∙ c.in_ok-act.ensures.act
