use Rattle.std.proofs.Common.{sym, subst}
use Rattle.ibos_net.proofs.Words.{IsSafe, NetState, held_in, held_to_send, hands_of}
use Rattle.ibos_net.proofs.parts.Parts.close.Goals as goal

pub close-requires-2 : goal.close-requires-2
close-requires-2 c =
    let p = c.self.inside in
    let t : NetState = record { med = p.med; mem = p.mem; names = p.pool; flows = p.flows; inboxes = p.inboxes; sends = p.sends } in
    let safe : IsSafe t = subst IsSafe (sym c.self.view_is) c.requires in
    (c.close.new.mem, c.hands_are_parted.ensures.front c.close.new.pool c.close.new.mem (held_in t.inboxes) (held_to_send t.sends) (c.close.ensures.hands (hands_of t) safe.hands))

pub close-requires-3 : goal.close-requires-3
close-requires-3 c =
    let p = c.self.inside in
    let t : NetState = record { med = p.med; mem = p.mem; names = p.pool; flows = p.flows; inboxes = p.inboxes; sends = p.sends } in
    let safe : IsSafe t = subst IsSafe (sym c.self.view_is) c.requires in
    (c.close.new.mem, c.close-2.ensures.hands c.close.new.mem (held_to_send t.sends) (c.close.ensures.hands (hands_of t) safe.hands))
