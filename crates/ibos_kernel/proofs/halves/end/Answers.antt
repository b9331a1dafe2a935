use Rattle.ibos_kernel.proofs.PageActs.{ended_stands}
use Rattle.ibos_kernel.proofs.halves.end.Goals as goal

pub returns-in-Some-clause-stands : goal.returns-in-Some-clause-stands
returns-in-Some-clause-stands c = λ life remotes n stands.
    ended_stands c.args.ended c.in-Some.who c.in-Some.is life remotes n c.end.new.self (c.end.ensures.stands life remotes n stands)
