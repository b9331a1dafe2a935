use Rattle.std.proofs.Common.{refl, sym, subst}
use Rattle.ibos_kinds.specs.declared.act.Act.TheVariants.{TxPost}
use Rattle.ibos_mediate.specs.Frames.{unsent_frames}
use Rattle.ibos_nic.specs.Rules.{transmit_rule}
use Rattle.ibos_net.proofs.Words.{Denied, Fine, IfSome, IsSafe, Mediated, Memory, NetState, None, Option, Outgoing, Posts, Transmit, Waiting, [], ◌++◌, ◌∷◌, ◌≡◌, changed, frame_in, held_in, held_to_send, is_waiting}
use Rattle.ibos_net.proofs.Outcomes.{outcome-of, served-now}
use Rattle.ibos_net.proofs.PostMade.{frames-stay}
use Rattle.ibos_net.proofs.SendPosted.{SendMade, broken-by, none-broken, post-safe, post-serves, refused-send, send-made, waits-then}
use Rattle.ibos_net.proofs.parts.Parts.post_send.Goals as goal

pub post-requires-clause-hands : goal.post-requires-clause-hands
post-requires-clause-hands c =
    let p = c.self.inside in
    let t : NetState = record { med = p.med; mem = p.mem; names = p.pool; flows = p.flows; inboxes = p.inboxes; sends = p.sends } in
    let safe : IsSafe t = subst IsSafe (sym c.self.view_is) c.requires.safe in
    (t.names, c.hands_are_parted.ensures.back t.names t.mem (held_in t.inboxes) (held_to_send t.sends) safe.hands)

pub returns-in-Err-clause-serves : goal.returns-in-Err-clause-serves
returns-in-Err-clause-serves c = λ local regs log.
    let p = c.self.inside in
    let t : NetState = record { med = p.med; mem = p.mem; names = p.pool; flows = p.flows; inboxes = p.inboxes; sends = p.sends } in
    let told = c.in-Err.ensures in
    served-now local (TxPost c.args.slot c.args.send) _ _ t _ (send-made t c.post.new.med c.post.new.mem c.post.new.self) _ regs regs log log
    (outcome-of _ (Denied c.in-Err.rule) [] refl c.requires.items) c.self.view_is refl
    (rw (told.err, told.err_mediator, told.err_memory) (λ life remote n s each lives. refused-send local life remote n t regs log c.args.slot c.args.send c.in-Err.rule s each (broken-by _ c.in-Err.rule told.answer)))

pub returns-clause-serves : goal.returns-clause-serves
returns-clause-serves c = λ local regs log.
    let p = c.self.inside in
    let t : NetState = record { med = p.med; mem = p.mem; names = p.pool; flows = p.flows; inboxes = p.inboxes; sends = p.sends } in
    let safe : IsSafe t = subst IsSafe (sym c.self.view_is) c.requires.safe in
    let done = c.in-Ok.ensures in
    let send = c.args.send in
    let m' : Mediated = c.post.new.med in
    let mem' : Memory = c.post.new.mem in
    let s' : Outgoing = c.post.new.self in
    let none : transmit_rule t.med.transmit.values (is_waiting t.sends send) c.args.slot ≡ None = none-broken _ _ done.answer in
    let found = waits-then t.med.transmit.values t.sends send c.args.slot none in
    let w : Waiting = found.0 in
    let made : SendMade t.sends s' t.med m' t.mem mem' send w = record {
      homes = done.homes;
      waiting = done.waiting;
      posts = subst (λ (o : Option Waiting). IfSome o (λ w. s'.posts ≡ t.sends.posts ++ record { number = send; who = w.who; buffer = w.buffer } ∷ [])) found.1 done.posts;
      returned = done.returned;
      told = done.told;
      posted = subst (λ (o : Option Waiting). IfSome o (λ w. m' ≡ changed Transmit (Posts w.loan) t.med)) found.1 done.posted;
      unsent = subst (λ (o : Option Waiting). IfSome o (λ w. unsent_frames mem' m'.transmit ≡ unsent_frames t.mem t.med.transmit ++ frame_in t.mem w ∷ [])) found.1 done.unsent;
      received = done.received;
      done = done.done;
      buffers = done.buffers;
      areas = done.areas;
      memory = done.memory;
      device = done.device;
    } in
    let front = c.hands_are_parted.ensures.front t.names t.mem (held_in t.inboxes) (held_to_send t.sends) safe.hands in
    let back = c.hands_are_parted.ensures.back t.names t.mem (held_in t.inboxes) (held_to_send t.sends) safe.hands in
    let stay = frames-stay c.inboxes_keep_their_frames.ensures.hands t.names t.mem mem' t.inboxes front (λ q kept. done.buffers q kept.place) in
    served-now local (TxPost c.args.slot send) _ _ t _ (send-made t m' mem' s') _ regs regs log log (outcome-of c.args.out.now Fine [] c.requires.head c.requires.items) c.self.view_is refl
    (λ life remote n s each lives. post-serves local life remote n t m' mem' s' regs log c.args.slot send w made found.1 none
    (λ q there. c.hands_are_parted.ensures.kept t.names t.mem (held_to_send t.sends) q back there) stay safe s each)

pub returns-clause-safe : goal.returns-clause-safe
returns-clause-safe c =
    let p = c.self.inside in
    let t : NetState = record { med = p.med; mem = p.mem; names = p.pool; flows = p.flows; inboxes = p.inboxes; sends = p.sends } in
    let safe : IsSafe t = subst IsSafe (sym c.self.view_is) c.requires.safe in
    let done = c.in-Ok.ensures in
    let parted = c.hands_are_parted.ensures in
    let one = c.areas-areas.ensures.one_to_one in
    let mem' : Memory = c.post.new.mem in
    let s' : Outgoing = c.post.new.self in
    let back = parted.back t.names t.mem (held_in t.inboxes) (held_to_send t.sends) safe.hands in
    let hands = parted.swapped t.names mem' (held_to_send s') (held_in t.inboxes) (done.hands t.names (held_in t.inboxes) (parted.swapped t.names t.mem (held_in t.inboxes) (held_to_send t.sends) safe.hands)) in
    post-safe t c.post.new.med mem' s' safe done.memory (λ ring. done.owned t.names one back ring (safe.owned ring)) (done.unheld t.names [] one back safe.unheld) hands done.homes done.ring done.told (done.done Transmit)
