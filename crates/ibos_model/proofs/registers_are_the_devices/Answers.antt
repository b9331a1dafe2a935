use Rattle.ibos_model.proofs.DeviceRegisters.{first_are, entries_are, sent_by_the_device, verdict_is}
use Rattle.ibos_model.proofs.registers_are_the_devices.Goals as goal

pub returns-clause-first : goal.returns-clause-first
returns-clause-first c = first_are

pub returns-clause-after : goal.returns-clause-after
returns-clause-after c = entries_are (λ values reg value is. (c.rules_are_exact.ensures.write values reg value).0 is)
    c.slots_go_around.ensures.reached c.slots_go_around.ensures.next c.rings_are_ordered.ensures

pub returns-clause-verdict : goal.returns-clause-verdict
returns-clause-verdict c = verdict_is c.rings_are_ordered.ensures

pub returns-clause-sent : goal.returns-clause-sent
returns-clause-sent c = sent_by_the_device c.rings_are_ordered.ensures
