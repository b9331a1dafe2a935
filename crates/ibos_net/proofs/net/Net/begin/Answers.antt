use Rattle.std.proofs.Common.{sym, subst}
use Rattle.ibos_net.proofs.Words.{NetStands, NetState}
use Rattle.ibos_net.proofs.net.Net.begin.Goals as goal

pub returns-clause-stands : goal.returns-clause-stands
returns-clause-stands c = λ life remotes n s unborn bare. c.in_ok-begin.ensures.stands life remotes n (subst (λ (t : NetState). NetStands life remotes n t) (sym c.self.view_is) s) unborn bare
