use Rattle.std.proofs.Common.{arith, refl, sym, subst, ap}
use Rattle.ibos_kinds.specs.declared.act.Act.TheVariants.{Fill}
use Rattle.ibos_send.specs.Returns.{AreFilled}
use Rattle.ibos_net.proofs.Words.{Denied, Fine, IsSafe, Memory, NetState, Outgoing, Receive, Transmit, [], fill_rule, held_in, held_of, held_to_send, home_by, is_away, length, ◌≡◌}
use Rattle.ibos_net.proofs.Arrivals.{with_mem}
use Rattle.ibos_net.proofs.FillsMade.{AreParted, FillLaws, answered, filled-safe, filled-serves, lent-stays, refused, refused-serves, still-lent, unsent-stays}
use Rattle.ibos_net.proofs.Outcomes.{outcome-of, served-now}
use Rattle.ibos_net.proofs.parts.Parts.fill.Goals as goal

pub fill-requires-clause-hands : goal.fill-requires-clause-hands
fill-requires-clause-hands c =
    let p = c.self.inside in
    let t : NetState = record { med = p.med; mem = p.mem; names = p.pool; flows = p.flows; inboxes = p.inboxes; sends = p.sends } in
    let safe : IsSafe t = subst IsSafe (sym c.self.view_is) c.requires.safe in
    (t.names, c.hands_are_parted.ensures.back t.names t.mem (held_in t.inboxes) (held_to_send t.sends) safe.hands)

pub returns-in-Err-clause-serves : goal.returns-in-Err-clause-serves
returns-in-Err-clause-serves c = λ local regs log.
    let p = c.self.inside in
    let t : NetState = record { med = p.med; mem = p.mem; names = p.pool; flows = p.flows; inboxes = p.inboxes; sends = p.sends } in
    let told = c.in-Err.ensures in
    let breaks : fill_rule (is_away t.sends c.args.who c.args.buffer) c.args.place (length c.args.bytes.now) ≡ _ = refused _ c.in-Err.rule told.answer in
    served-now local (Fill c.args.who c.args.buffer c.args.place c.args.bytes.now) _ _ t _ (record { med = t.med; mem = c.fill.new.mem; names = t.names; flows = t.flows; inboxes = t.inboxes; sends = c.fill.new.self }) _ regs regs log log
    (outcome-of _ (Denied c.in-Err.rule) [] refl c.requires.items) c.self.view_is refl
    (rw (told.same, told.err) (λ life remote n s each lives. refused-serves local life remote n t regs log c.args.who c.args.buffer c.args.place c.args.bytes.now c.in-Err.rule s each lives c.requires.buffer breaks))

pub returns-clause-serves : goal.returns-clause-serves
returns-clause-serves c = λ local regs log.
    let p = c.self.inside in
    let t : NetState = record { med = p.med; mem = p.mem; names = p.pool; flows = p.flows; inboxes = p.inboxes; sends = p.sends } in
    let safe : IsSafe t = subst IsSafe (sym c.self.view_is) c.requires.safe in
    let done = c.in-Ok.ensures in
    let mem' : Memory = c.fill.new.mem in
    let hands = c.hands_are_parted.ensures.back t.names t.mem (held_in t.inboxes) (held_to_send t.sends) safe.hands in
    let parted : AreParted t.names t.mem = record { front = c.hands_are_parted.ensures.front t.names t.mem; back = c.hands_are_parted.ensures.back t.names t.mem; apart = c.hands_are_parted.ensures.apart t.names t.mem; kept = c.hands_are_parted.ensures.kept t.names t.mem } in
    let filled : AreFilled (held_of (home_by t.sends c.args.who c.args.buffer)) t.mem mem' = done.filled in
    let lent = lent-stays t.names t.mem mem' t.sends c.args.who c.args.buffer parted hands filled in
    let laws : FillLaws t.med t.mem mem' t.inboxes t.names = record {
      memory = c.other_changes_keep_the_relation.ensures.memory t.med t.mem mem' safe.memory (rw filled.areas safe.memory.areas) filled.rings (still-lent t.mem mem' _ filled);
      unheld = c.other_changes_keep_the_relation.ensures.unheld t.med t.mem mem' t.names [] safe.unheld (rw filled.areas (omega arith)) filled.lent;
      received = c.other_changes_keep_the_frames.ensures.received t.med t.mem mem' safe.memory filled.rings lent;
      unsent = c.other_changes_keep_the_frames.ensures.unsent t.med t.mem mem' safe.memory filled.rings lent;
      heard = c.other_changes_keep_the_frames.ensures.completed t.mem mem' Receive t.med.receive filled.rings;
      sent = c.other_changes_keep_the_frames.ensures.completed t.mem mem' Transmit t.med.transmit filled.rings;
      frames = c.inboxes_keep_their_frames.ensures.hands t.names t.mem mem' t.inboxes (held_to_send t.sends) safe.hands (unsent-stays t.mem mem' t.sends c.args.who c.args.buffer filled);
    } in
    served-now local (Fill c.args.who c.args.buffer c.args.place c.args.bytes.now) _ _ t _ (with_mem mem' t) _ regs regs log log (outcome-of c.args.out.now Fine [] c.requires.head c.requires.items) c.self.view_is (ap (λ (s : Outgoing). record { med = t.med; mem = mem'; names = t.names; flows = t.flows; inboxes = t.inboxes; sends = s }) (sym done.same))
    (λ life remote n s each lives. filled-serves local life remote n t mem' regs log c.args.who c.args.buffer c.args.place c.args.bytes.now safe s each lives c.requires.buffer (answered _ done.answer) parted hands done.own filled laws)

pub returns-clause-safe : goal.returns-clause-safe
returns-clause-safe c =
    let p = c.self.inside in
    let t : NetState = record { med = p.med; mem = p.mem; names = p.pool; flows = p.flows; inboxes = p.inboxes; sends = p.sends } in
    let safe : IsSafe t = subst IsSafe (sym c.self.view_is) c.requires.safe in
    let done = c.in-Ok.ensures in
    let mem' : Memory = c.fill.new.mem in
    let hands = c.hands_are_parted.ensures.back t.names t.mem (held_in t.inboxes) (held_to_send t.sends) safe.hands in
    let parted : AreParted t.names t.mem = record { front = c.hands_are_parted.ensures.front t.names t.mem; back = c.hands_are_parted.ensures.back t.names t.mem; apart = c.hands_are_parted.ensures.apart t.names t.mem; kept = c.hands_are_parted.ensures.kept t.names t.mem } in
    let filled : AreFilled (held_of (home_by t.sends c.args.who c.args.buffer)) t.mem mem' = done.filled in
    let lent = lent-stays t.names t.mem mem' t.sends c.args.who c.args.buffer parted hands filled in
    let laws : FillLaws t.med t.mem mem' t.inboxes t.names = record {
      memory = c.other_changes_keep_the_relation.ensures.memory t.med t.mem mem' safe.memory (rw filled.areas safe.memory.areas) filled.rings (still-lent t.mem mem' _ filled);
      unheld = c.other_changes_keep_the_relation.ensures.unheld t.med t.mem mem' t.names [] safe.unheld (rw filled.areas (omega arith)) filled.lent;
      received = c.other_changes_keep_the_frames.ensures.received t.med t.mem mem' safe.memory filled.rings lent;
      unsent = c.other_changes_keep_the_frames.ensures.unsent t.med t.mem mem' safe.memory filled.rings lent;
      heard = c.other_changes_keep_the_frames.ensures.completed t.mem mem' Receive t.med.receive filled.rings;
      sent = c.other_changes_keep_the_frames.ensures.completed t.mem mem' Transmit t.med.transmit filled.rings;
      frames = c.inboxes_keep_their_frames.ensures.hands t.names t.mem mem' t.inboxes (held_to_send t.sends) safe.hands (unsent-stays t.mem mem' t.sends c.args.who c.args.buffer filled);
    } in
    let safe' : IsSafe (with_mem mem' t) = filled-safe t mem' c.args.who c.args.buffer safe filled laws in
    let P : Outgoing → Type 0 = λ s. IsSafe (record { med = t.med; mem = mem'; names = t.names; flows = t.flows; inboxes = t.inboxes; sends = s }) in
    subst P (sym done.same) safe'
