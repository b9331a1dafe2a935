use Rattle.std.proofs.Common.{refl, sym, subst, ◌∙◌}
use Rattle.ibos_net.proofs.Words.{IsSafe, NetState, NetStands, [], held_in, held_to_send, homes_by, inbox_by}
use Rattle.ibos_net.proofs.AreasGrown.{ended-beside, ended-stands, mediates, regs-for, safe-from, same-posts}
use Rattle.ibos_net.proofs.parts.Parts.end.Goals as goal

pub end-requires-2-clause-hands : goal.end-requires-2-clause-hands
end-requires-2-clause-hands c =
    let p = c.self.inside in
    let t : NetState = record { med = p.med; mem = p.mem; names = p.pool; flows = p.flows; inboxes = p.inboxes; sends = p.sends } in
    let safe : IsSafe t = subst IsSafe (sym c.self.view_is) c.requires.safe in
    (t.mem, c.hands_are_parted.ensures.front t.names t.mem (held_in t.inboxes) (held_to_send t.sends) safe.hands)

pub end-requires-3-clause-hands : goal.end-requires-3-clause-hands
end-requires-3-clause-hands c =
    let p = c.self.inside in
    let t : NetState = record { med = p.med; mem = p.mem; names = p.pool; flows = p.flows; inboxes = p.inboxes; sends = p.sends } in
    let safe : IsSafe t = subst IsSafe (sym c.self.view_is) c.requires.safe in
    (t.mem, c.hands_are_parted.ensures.back c.end-2.new.pool t.mem (held_in c.end-2.new.self) (held_to_send t.sends) (c.end-2.ensures.hands t.mem (held_to_send t.sends) safe.hands))

pub returns-clause-safe : goal.returns-clause-safe
returns-clause-safe c =
    let p = c.self.inside in
    let t : NetState = record { med = p.med; mem = p.mem; names = p.pool; flows = p.flows; inboxes = p.inboxes; sends = p.sends } in
    let t' : NetState = record { med = p.med; mem = p.mem; names = c.end-3.new.pool; flows = c.end.new.self; inboxes = c.end-2.new.self; sends = c.end-3.new.self } in
    let safe : IsSafe t = subst IsSafe (sym c.self.view_is) c.requires.safe in
    let parted = c.hands_are_parted.ensures in
    let ended = c.end-2.ensures in
    let sent = c.end-3.ensures in
    let names = c.end-2.new.pool in
    let hands = ended.hands t.mem (held_to_send t.sends) safe.hands in
    safe-from t' (regs-for t.med t.mem)
    (sent.whole t.med t.mem (regs-for t.med t.mem) [] (parted.back names t.mem (held_in t'.inboxes) (held_to_send t.sends) hands)
    (ended.whole t.med t.mem (regs-for t.med t.mem) [] (parted.front t.names t.mem (held_in t.inboxes) (held_to_send t.sends) safe.hands) (mediates t safe)))
    (parted.swapped t'.names t.mem (held_to_send t'.sends) (held_in t'.inboxes) (sent.hands t.mem (held_in t'.inboxes) (parted.swapped names t.mem (held_in t'.inboxes) (held_to_send t.sends) hands)))
    (ended-beside t.flows t'.flows (inbox_by t.inboxes) (inbox_by t'.inboxes) c.args.who safe.beside c.end.ensures.own c.end.ensures.others ended.others)
    (ended-beside t.flows t'.flows (homes_by t.sends) (homes_by t'.sends) c.args.who safe.sending c.end.ensures.own c.end.ensures.others sent.others)
    (same-posts t.med t.sends t'.sends sent.sends safe.posts) (sent.sends.told ∙ safe.told)

pub returns-clause-stands : goal.returns-clause-stands
returns-clause-stands c = λ life remotes n s.
    let p = c.self.inside in
    let t : NetState = record { med = p.med; mem = p.mem; names = p.pool; flows = p.flows; inboxes = p.inboxes; sends = p.sends } in
    let t' : NetState = record { med = p.med; mem = p.mem; names = c.end-3.new.pool; flows = c.end.new.self; inboxes = c.end-2.new.self; sends = c.end-3.new.self } in
    ended-stands life remotes n t t' c.args.who (subst (λ (x : NetState). NetStands life remotes n x) (sym c.self.view_is) s) refl refl (c.end-3.ensures.returned.areas ∙ c.end-2.ensures.returned.areas)
    c.end.ensures.own c.end.ensures.others c.end-2.ensures.own c.end-2.ensures.others c.end-3.ensures.own c.end-3.ensures.others c.end-3.ensures.sends
