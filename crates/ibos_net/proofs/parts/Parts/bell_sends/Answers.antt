use Rattle.std.proofs.Common.{refl, sym, subst, ap, ◌∙◌}
use Rattle.ibos_kinds.specs.declared.act.Act.TheVariants.{TxBell}
use Rattle.ibos_mediate.specs.Frames.{returns}
use Rattle.ibos_net.proofs.Words.{AreAtHand, Fine, IsSafe, Item, List, NetState, held_in, held_to_send, length, numbers_of, posted_in, returned_items, take, ◌++◌, []}
use Rattle.ibos_net.proofs.Outcomes.{outcome-of, served-now}
use Rattle.ibos_net.proofs.SendsBelled.{IsBelled, after-sends, sends-safe, sends-serve}
use Rattle.ibos_net.proofs.parts.Parts.bell_sends.Goals as goal

pub returns-in_err-serve-clause-safe : goal.returns-in_err-serve-clause-safe
returns-in_err-serve-clause-safe c =
    let p = c.self.inside in
    let t : NetState = record { med = p.med; mem = p.mem; names = p.pool; flows = p.flows; inboxes = p.inboxes; sends = p.sends } in
    let safe : IsSafe t = subst IsSafe (sym c.self.view_is) c.requires.safe in
    let e = c.serve.ensures in
    let new = c.serve.new in
    let hands : AreAtHand new.pool new.mem (held_in t.inboxes ++ held_to_send new.self) = c.hands_are_parted.ensures.swapped new.pool new.mem (held_to_send new.self) (held_in t.inboxes)
    (e.hands (held_in t.inboxes) (c.hands_are_parted.ensures.swapped t.names t.mem (held_in t.inboxes) (held_to_send t.sends) safe.hands)) in
    let belled : IsBelled t new.med new.mem new.pool new.self = record {
      opened = e.open;
      waiting = e.waiting;
      posts = e.posts;
      told = e.told;
      done = e.done;
      receive = e.receive;
      turns = e.turns;
      unsent = e.unsent;
      received = e.received;
      ring = e.ring;
      memory = e.memory;
      device = e.device;
      owned = e.owned;
      unheld = e.unheld [] safe.unheld;
      hands = hands;
      buffers = e.served.buffers;
      names_areas = e.served.pool_areas;
      areas = e.served.areas;
    } in
    sends-safe t new.med new.mem new.pool new.self safe belled

pub returns-clause-safe : goal.returns-clause-safe
returns-clause-safe c =
    let p = c.self.inside in
    let t : NetState = record { med = p.med; mem = p.mem; names = p.pool; flows = p.flows; inboxes = p.inboxes; sends = p.sends } in
    let safe : IsSafe t = subst IsSafe (sym c.self.view_is) c.requires.safe in
    let e = c.serve.ensures in
    let new = c.serve.new in
    let hands : AreAtHand new.pool new.mem (held_in t.inboxes ++ held_to_send new.self) = c.hands_are_parted.ensures.swapped new.pool new.mem (held_to_send new.self) (held_in t.inboxes)
    (e.hands (held_in t.inboxes) (c.hands_are_parted.ensures.swapped t.names t.mem (held_in t.inboxes) (held_to_send t.sends) safe.hands)) in
    let belled : IsBelled t new.med new.mem new.pool new.self = record {
      opened = e.open;
      waiting = e.waiting;
      posts = e.posts;
      told = e.told;
      done = e.done;
      receive = e.receive;
      turns = e.turns;
      unsent = e.unsent;
      received = e.received;
      ring = e.ring;
      memory = e.memory;
      device = e.device;
      owned = e.owned;
      unheld = e.unheld [] safe.unheld;
      hands = hands;
      buffers = e.served.buffers;
      names_areas = e.served.pool_areas;
      areas = e.served.areas;
    } in
    sends-safe t new.med new.mem new.pool new.self safe belled

pub returns-clause-serves : goal.returns-clause-serves
returns-clause-serves c = λ local regs log.
    let p = c.self.inside in
    let t : NetState = record { med = p.med; mem = p.mem; names = p.pool; flows = p.flows; inboxes = p.inboxes; sends = p.sends } in
    let safe : IsSafe t = subst IsSafe (sym c.self.view_is) c.requires.safe in
    let e = c.serve.ensures in
    let done = c.in_ok-serve.ensures in
    let new = c.serve.new in
    let hands : AreAtHand new.pool new.mem (held_in t.inboxes ++ held_to_send new.self) = c.hands_are_parted.ensures.swapped new.pool new.mem (held_to_send new.self) (held_in t.inboxes)
    (e.hands (held_in t.inboxes) (c.hands_are_parted.ensures.swapped t.names t.mem (held_in t.inboxes) (held_to_send t.sends) safe.hands)) in
    let belled : IsBelled t new.med new.mem new.pool new.self = record {
      opened = e.open;
      waiting = e.waiting;
      posts = e.posts;
      told = e.told;
      done = e.done;
      receive = e.receive;
      turns = e.turns;
      unsent = e.unsent;
      received = e.received;
      ring = e.ring;
      memory = e.memory;
      device = e.device;
      owned = e.owned;
      unheld = e.unheld [] safe.unheld;
      hands = hands;
      buffers = e.served.buffers;
      names_areas = e.served.pool_areas;
      areas = e.served.areas;
    } in
    let front = c.hands_are_parted.ensures.front t.names t.mem (held_in t.inboxes) (held_to_send t.sends) safe.hands in
    let back = c.hands_are_parted.ensures.back t.names t.mem (held_in t.inboxes) (held_to_send t.sends) safe.hands in
    let items : List Item = new.out.items in
    served-now local TxBell _ _ t _ (after-sends t new.med new.mem new.pool new.self) _ regs regs log log (outcome-of new.out Fine items (e.head ∙ c.requires.head) refl) c.self.view_is refl
    (λ life remote n s each lives. sends-serve local life remote n t new.med new.mem new.pool new.self regs log items safe s each belled
    (λ q there. c.hands_are_parted.ensures.kept t.names t.mem (held_to_send t.sends) q back there)
    (c.inboxes_keep_their_frames.ensures.same t.mem new.mem t.inboxes (λ q there. e.served.buffers q (c.hands_are_parted.ensures.kept t.names t.mem (held_in t.inboxes) q front there).place))
    (c.frames_are_counted.ensures.returns t.mem t.med.transmit) done.state done.bell
    (λ ended sends all. done.items ended sends all ∙ ap (λ (xs : List Item). xs ++ returned_items ended sends (take (length (returns t.mem t.med.transmit)) (numbers_of (posted_in t.sends)))) c.requires.items))
