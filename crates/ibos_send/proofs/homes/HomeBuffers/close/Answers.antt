use Rattle.ibos_send.proofs.homes.HomeBuffers.close.Goals as goal

pub returns-clause-whole : goal.returns-clause-whole
returns-clause-whole c = rw (← c.self.view_is) c.give_all.ensures.whole
