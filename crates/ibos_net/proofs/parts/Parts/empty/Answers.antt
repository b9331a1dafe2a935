use Rattle.std.proofs.Common.{sym, ◌∙◌, arith}
use Rattle.ibos_net.proofs.Words.{IsInMemory, NetState, ◌≡◌, ◌≤◌, ◌<◌, length, max_areas}
use Rattle.ibos_net.proofs.Beginning.{empty-safe, empty-stands, none-unsent}
use Rattle.ibos_net.proofs.parts.Parts.empty.Goals as goal

pub returns-in-Ok-new-clause-stands : goal.returns-in-Ok-new-clause-stands
returns-in-Ok-new-clause-stands c = λ life remote unborn.
    let t : NetState = record { med = c.in-Ok-new.med; mem = c.in_ok-mem.mem; names = c.in_ok-pool.pool; flows = c.in_ok-flows.flows; inboxes = c.in_ok-inboxes.inboxes; sends = c.in-Ok.sends } in
    let one : length t.mem ≡ 1 = c.in_ok-mem.ensures.areas in
    let few : length t.mem ≤ max_areas = omega (arith, one) in
    let med = c.in-Ok-new.ensures in
    let sends = c.in-Ok.ensures in
    let memory : IsInMemory t.med t.mem = c.relation_begins.ensures.memory t.med t.mem med.receive med.transmit few in
    empty-stands t life remote memory med.receive med.transmit med.turns (c.bells_end.ensures.arrivals t.mem t.med) (c.frames_are_counted.ensures.bytes t.mem t.med)
    c.in_ok-flows.ensures c.in_ok-inboxes.ensures.none (c.in_ok-pool.ensures.areas ∙ sym one) unborn sends.none sends.waiting sends.posts sends.told (none-unsent t memory med.transmit c.frames_are_counted.ensures.unsent)

pub returns-in-Ok-new-clause-safe : goal.returns-in-Ok-new-clause-safe
returns-in-Ok-new-clause-safe c =
    let t : NetState = record { med = c.in-Ok-new.med; mem = c.in_ok-mem.mem; names = c.in_ok-pool.pool; flows = c.in_ok-flows.flows; inboxes = c.in_ok-inboxes.inboxes; sends = c.in-Ok.sends } in
    let one : length t.mem ≡ 1 = c.in_ok-mem.ensures.areas in
    let pooled : length t.names ≡ 1 = c.in_ok-pool.ensures.areas in
    let few : length t.mem ≤ max_areas = omega (arith, one) in
    let some : 0 < length t.names = omega (arith, pooled) in
    let begins = c.relation_begins.ensures in
    let receive = c.in-Ok-new.ensures.receive in
    let transmit = c.in-Ok-new.ensures.transmit in
    let sends = c.in-Ok.ensures in
    empty-safe t (begins.memory t.med t.mem receive transmit few) (begins.owned t.med t.names) receive transmit
    (begins.unheld t.med t.mem t.names c.in_ok-pool.ensures.one_to_one (one ∙ sym pooled) some c.in_ok-pool.ensures.free c.in_ok-mem.ensures.kept) c.in_ok-inboxes.ensures.held c.in_ok-flows.ensures
    sends.held sends.posts sends.returned sends.told
