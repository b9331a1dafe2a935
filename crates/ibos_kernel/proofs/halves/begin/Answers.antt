use Rattle.ibos_kernel.proofs.PageActs.{begun_stands}
use Rattle.ibos_kernel.proofs.halves.begin.Goals as goal

pub returns-in_ok-begin-clause-stands : goal.returns-in_ok-begin-clause-stands
returns-in_ok-begin-clause-stands c = λ life remotes n stands fresh.
    begun_stands c.args.opened c.in-Some.who c.in-Some.is c.args.tabs.now c.endpoint.result life remotes n c.begin.new.self c.requires.lives c.endpoint.ensures fresh (c.in_ok-begin.ensures.stands life remotes n stands)
