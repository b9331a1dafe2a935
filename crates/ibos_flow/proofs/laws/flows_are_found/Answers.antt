use Rattle.ibos_flow.proofs.FoundLemmas.{are_found, are_missed, are_foreign, are_checked}
use Rattle.ibos_flow.proofs.laws.flows_are_found.Goals as goal

pub returns-clause-found : goal.returns-clause-found
returns-clause-found c = are_found c.ports_are_apart.ensures.owned c.ports_are_apart.ensures.owners

pub returns-clause-missed : goal.returns-clause-missed
returns-clause-missed c = are_missed c.ports_are_apart.ensures.owned c.ports_are_apart.ensures.owners

pub returns-clause-foreign : goal.returns-clause-foreign
returns-clause-foreign c = are_foreign c.ports_are_apart.ensures.owned c.ports_are_apart.ensures.owners

pub returns-clause-checked : goal.returns-clause-checked
returns-clause-checked c = are_checked
