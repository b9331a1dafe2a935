use Rattle.ibos_nic.proofs.RuleLemmas.{read-is, receive-is, slot-is, write-is}
use Rattle.ibos_nic.proofs.laws.rules_are_exact.Goals as goal

pub returns-clause-write : goal.returns-clause-write
returns-clause-write c = write-is

pub returns-clause-read : goal.returns-clause-read
returns-clause-read c = read-is

pub returns-clause-slot : goal.returns-clause-slot
returns-clause-slot c = slot-is

pub returns-clause-receive : goal.returns-clause-receive
returns-clause-receive c = receive-is
