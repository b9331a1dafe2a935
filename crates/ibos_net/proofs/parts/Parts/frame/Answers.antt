use Rattle.std.proofs.Common.{sym, subst}
use Rattle.ibos_net.proofs.Words.{IsSafe, NetState, held_in, held_to_send}
use Rattle.ibos_net.proofs.parts.Parts.frame.Goals as goal

pub frame-requires-clause-hands : goal.frame-requires-clause-hands
frame-requires-clause-hands c =
    let p = c.self.inside in
    let t : NetState = record { med = p.med; mem = p.mem; names = p.pool; flows = p.flows; inboxes = p.inboxes; sends = p.sends } in
    let safe : IsSafe t = subst IsSafe (sym c.self.view_is) c.requires.safe in
    (t.names, c.hands_are_parted.ensures.front t.names t.mem (held_in t.inboxes) (held_to_send t.sends) safe.hands)
