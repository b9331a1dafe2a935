use Rattle.std.proofs.Common.{refl, sym, subst, ap, ◌∙◌, arith}
use Rattle.ibos_send.specs.Buffers.{AreFreshIn as AreSendFreshIn}
use Rattle.ibos_net.proofs.Words.{AreFreshIn, Inboxes, IsSafe, Memory, Names, NetStands, NetState, Outgoing, Receive, Transmit, ◌≡◌, ◌<◌, ◌≤◌, areas_of, completed, held_in, held_to_send, length}
use Rattle.ibos_net.proofs.AreasBegun.{inbox-safe, send-fresh, send-kept, send-zero, sends-safe}
use Rattle.ibos_net.proofs.AreasGrown.{IsGrown, begun-stands, grown-safe, has-inbox, some-is}
use Rattle.ibos_net.proofs.parts.Parts.begin.Goals as goal

pub begin-requires-2-clause-fresh : goal.begin-requires-2-clause-fresh
begin-requires-2-clause-fresh c =
    let p = c.self.inside in
    let t : NetState = record { med = p.med; mem = p.mem; names = p.pool; flows = p.flows; inboxes = p.inboxes; sends = p.sends } in
    let some : 0 < length t.names = subst (λ k. 0 < k) c.areas-areas.ensures.areas c.areas-areas.ensures.some in
    send-fresh t.names c.grow_instance-2.new.self c.begin.new.pool c.areas-areas.result c.areas-areas.ensures.areas some c.in_ok-grow_instance-2.ensures.areas c.in_ok-grow_instance-2.ensures.free c.in_ok-begin.ensures.names c.begin.ensures.areas

pub returns-in_err-grow_instance-2-clause-safe : goal.returns-in_err-grow_instance-2-clause-safe
returns-in_err-grow_instance-2-clause-safe c =
    let p = c.self.inside in
    let t : NetState = record { med = p.med; mem = p.mem; names = p.pool; flows = p.flows; inboxes = p.inboxes; sends = p.sends } in
    let safe : IsSafe t = subst IsSafe (sym c.self.view_is) c.requires.safe in
    let room : length t.mem < 2049 = subst (λ (x : NetState). areas_of x < 2049) (sym c.self.view_is) c.requires.room in
    let mem : Memory = c.grow_instance.new.self in
    let names : Names = c.grow_instance-2.new.self in
    let some : 0 < length t.names = subst (λ k. 0 < k) c.areas-areas.ensures.areas c.areas-areas.ensures.some in
    let more : length t.names ≤ length names = let same : length names ≡ length t.names = ap length c.in_err-grow_instance-2.ensures.err in omega (arith, same) in
    let grown : IsGrown t.names names t.mem mem = record {
      some = some;
      more = more;
      taken = c.grow_instance-2.ensures.taken;
      places = c.grow_instance-2.ensures.places;
      bytes = c.grow_instance.ensures.bytes;
      lent = c.grow_instance.ensures.lent;
      areas = omega (arith, c.in_ok-grow_instance.ensures.areas);
      most = omega (arith, c.in_ok-grow_instance.ensures.areas, room);
    } in
    let growth = c.other_names_keep_the_relation.ensures.whole_added in
    let hands = c.hands_are_kept.ensures.grown in
    let done : completed Transmit mem t.med.transmit ≡ completed Transmit t.mem t.med.transmit = c.other_changes_keep_the_frames.ensures.completed t.mem mem Transmit t.med.transmit (λ ring slot below. c.grow_instance.ensures.bytes _ _) in
    grown-safe growth hands t mem names safe grown done

pub returns-in_err-begin-clause-safe : goal.returns-in_err-begin-clause-safe
returns-in_err-begin-clause-safe c =
    let p = c.self.inside in
    let t : NetState = record { med = p.med; mem = p.mem; names = p.pool; flows = p.flows; inboxes = p.inboxes; sends = p.sends } in
    let safe : IsSafe t = subst IsSafe (sym c.self.view_is) c.requires.safe in
    let room : length t.mem < 2049 = subst (λ (x : NetState). areas_of x < 2049) (sym c.self.view_is) c.requires.room in
    let mem : Memory = c.grow_instance.new.self in
    let names : Names = c.grow_instance-2.new.self in
    let some : 0 < length t.names = subst (λ k. 0 < k) c.areas-areas.ensures.areas c.areas-areas.ensures.some in
    let more : length t.names ≤ length names = omega (arith, c.in_ok-grow_instance-2.ensures.areas) in
    let grown : IsGrown t.names names t.mem mem = record {
      some = some;
      more = more;
      taken = c.grow_instance-2.ensures.taken;
      places = c.grow_instance-2.ensures.places;
      bytes = c.grow_instance.ensures.bytes;
      lent = c.grow_instance.ensures.lent;
      areas = omega (arith, c.in_ok-grow_instance.ensures.areas);
      most = omega (arith, c.in_ok-grow_instance.ensures.areas, room);
    } in
    let growth = c.other_names_keep_the_relation.ensures.whole_added in
    let hands = c.hands_are_kept.ensures.grown in
    let done : completed Transmit mem t.med.transmit ≡ completed Transmit t.mem t.med.transmit = c.other_changes_keep_the_frames.ensures.completed t.mem mem Transmit t.med.transmit (λ ring slot below. c.grow_instance.ensures.bytes _ _) in
    let before : IsSafe (record { med = t.med; mem = mem; names = names; flows = t.flows; inboxes = t.inboxes; sends = t.sends }) = grown-safe growth hands t mem names safe grown done in
    let same_pool : c.begin.new.pool ≡ names = c.in_err-begin.ensures.err_pool in
    let same_inboxes : c.begin.new.self ≡ t.inboxes = c.in_err-begin.ensures.err in
    subst (λ (x : Names). IsSafe (record { med = t.med; mem = mem; names = x; flows = t.flows; inboxes = c.begin.new.self; sends = t.sends })) (sym same_pool)
    (subst (λ (x : Inboxes). IsSafe (record { med = t.med; mem = mem; names = names; flows = t.flows; inboxes = x; sends = t.sends })) (sym same_inboxes) before)

pub returns-in_err-begin-2-clause-safe : goal.returns-in_err-begin-2-clause-safe
returns-in_err-begin-2-clause-safe c =
    let p = c.self.inside in
    let t : NetState = record { med = p.med; mem = p.mem; names = p.pool; flows = p.flows; inboxes = p.inboxes; sends = p.sends } in
    let safe : IsSafe t = subst IsSafe (sym c.self.view_is) c.requires.safe in
    let room : length t.mem < 2049 = subst (λ (x : NetState). areas_of x < 2049) (sym c.self.view_is) c.requires.room in
    let mem : Memory = c.grow_instance.new.self in
    let names : Names = c.grow_instance-2.new.self in
    let some : 0 < length t.names = subst (λ k. 0 < k) c.areas-areas.ensures.areas c.areas-areas.ensures.some in
    let more : length t.names ≤ length names = omega (arith, c.in_ok-grow_instance-2.ensures.areas) in
    let grown : IsGrown t.names names t.mem mem = record {
      some = some;
      more = more;
      taken = c.grow_instance-2.ensures.taken;
      places = c.grow_instance-2.ensures.places;
      bytes = c.grow_instance.ensures.bytes;
      lent = c.grow_instance.ensures.lent;
      areas = omega (arith, c.in_ok-grow_instance.ensures.areas);
      most = omega (arith, c.in_ok-grow_instance.ensures.areas, room);
    } in
    let growth = c.other_names_keep_the_relation.ensures.whole_added in
    let hands = c.hands_are_kept.ensures.grown in
    let done : completed Transmit mem t.med.transmit ≡ completed Transmit t.mem t.med.transmit = c.other_changes_keep_the_frames.ensures.completed t.mem mem Transmit t.med.transmit (λ ring slot below. c.grow_instance.ensures.bytes _ _) in
    let same : length t.mem ≡ length t.names = subst (λ (x : NetState). length x.mem ≡ length x.names) (sym c.self.view_is) (sym c.requires.names) in
    let area : c.areas-areas.result ≡ length t.names = c.areas-areas.ensures.areas in
    let fresh : AreFreshIn mem names c.areas-areas.result = subst (λ k. AreFreshIn mem names k) (sym c.areas-areas.ensures.areas)
    (c.fresh_areas.ensures.memory t.names names t.mem mem (omega (arith, some, same)) same c.in_ok-grow_instance-2.ensures.areas c.in_ok-grow_instance.ensures.areas c.in_ok-grow_instance-2.ensures.home c.grow_instance.ensures.lent) in
    let begun = c.in_ok-begin.ensures in
    let t1 : NetState = record { med = t.med; mem = mem; names = c.begin.new.pool; flows = t.flows; inboxes = c.begin.new.self; sends = t.sends } in
    let own = has-inbox t1.inboxes c.args.who names c.areas-areas.result begun.own in
    let safe1 : IsSafe t1 = inbox-safe growth hands t mem names c.begin.new.pool c.begin.new.self c.args.who safe grown done c.begin.ensures.whole (begun.hands mem (held_to_send t.sends) fresh) own begun.others in
    let same_pool : c.begin-2.new.pool ≡ c.begin.new.pool = c.in_err-begin-2.ensures.err_pool in
    let same_sends : c.begin-2.new.self ≡ t.sends = c.in_err-begin-2.ensures.err in
    subst (λ (x : Names). IsSafe (record { med = t.med; mem = mem; names = x; flows = t.flows; inboxes = c.begin.new.self; sends = c.begin-2.new.self })) (sym same_pool)
    (subst (λ (x : Outgoing). IsSafe (record { med = t.med; mem = mem; names = c.begin.new.pool; flows = t.flows; inboxes = c.begin.new.self; sends = x })) (sym same_sends) safe1)

pub returns-in_err-begin-3-clause-safe : goal.returns-in_err-begin-3-clause-safe
returns-in_err-begin-3-clause-safe c =
    let p = c.self.inside in
    let t : NetState = record { med = p.med; mem = p.mem; names = p.pool; flows = p.flows; inboxes = p.inboxes; sends = p.sends } in
    let safe : IsSafe t = subst IsSafe (sym c.self.view_is) c.requires.safe in
    let room : length t.mem < 2049 = subst (λ (x : NetState). areas_of x < 2049) (sym c.self.view_is) c.requires.room in
    let mem : Memory = c.grow_instance.new.self in
    let names : Names = c.grow_instance-2.new.self in
    let some : 0 < length t.names = subst (λ k. 0 < k) c.areas-areas.ensures.areas c.areas-areas.ensures.some in
    let more : length t.names ≤ length names = omega (arith, c.in_ok-grow_instance-2.ensures.areas) in
    let grown : IsGrown t.names names t.mem mem = record {
      some = some;
      more = more;
      taken = c.grow_instance-2.ensures.taken;
      places = c.grow_instance-2.ensures.places;
      bytes = c.grow_instance.ensures.bytes;
      lent = c.grow_instance.ensures.lent;
      areas = omega (arith, c.in_ok-grow_instance.ensures.areas);
      most = omega (arith, c.in_ok-grow_instance.ensures.areas, room);
    } in
    let growth = c.other_names_keep_the_relation.ensures.whole_added in
    let hands = c.hands_are_kept.ensures.grown in
    let done : completed Transmit mem t.med.transmit ≡ completed Transmit t.mem t.med.transmit = c.other_changes_keep_the_frames.ensures.completed t.mem mem Transmit t.med.transmit (λ ring slot below. c.grow_instance.ensures.bytes _ _) in
    let same : length t.mem ≡ length t.names = subst (λ (x : NetState). length x.mem ≡ length x.names) (sym c.self.view_is) (sym c.requires.names) in
    let area : c.areas-areas.result ≡ length t.names = c.areas-areas.ensures.areas in
    let fresh : AreFreshIn mem names c.areas-areas.result = subst (λ k. AreFreshIn mem names k) (sym c.areas-areas.ensures.areas)
    (c.fresh_areas.ensures.memory t.names names t.mem mem (omega (arith, some, same)) same c.in_ok-grow_instance-2.ensures.areas c.in_ok-grow_instance.ensures.areas c.in_ok-grow_instance-2.ensures.home c.grow_instance.ensures.lent) in
    let begun = c.in_ok-begin.ensures in
    let t1 : NetState = record { med = t.med; mem = mem; names = c.begin.new.pool; flows = t.flows; inboxes = c.begin.new.self; sends = t.sends } in
    let own = has-inbox t1.inboxes c.args.who names c.areas-areas.result begun.own in
    let safe1 : IsSafe t1 = inbox-safe growth hands t mem names c.begin.new.pool c.begin.new.self c.args.who safe grown done c.begin.ensures.whole (begun.hands mem (held_to_send t.sends) fresh) own begun.others in
    let kept : AreSendFreshIn mem c.begin.new.pool c.areas-areas.result =
    send-kept t.names names c.begin.new.pool t.mem mem c.areas-areas.result area some same c.in_ok-grow_instance-2.ensures.areas c.in_ok-grow_instance.ensures.areas c.in_ok-grow_instance-2.ensures.home c.begin.ensures.places c.grow_instance.ensures.lent in
    let sent = c.in_ok-begin-2.ensures in
    sends-safe c.hands_are_parted.ensures.swapped t1 c.begin-2.new.pool c.begin-3.new.self c.begin-2.new.self c.args.who safe1 c.begin-2.ensures.whole (sent.hands mem (held_in t1.inboxes) kept) own
    (some-is _ _ sent.own) c.begin-3.ensures.others c.begin-2.ensures.others c.begin-2.ensures.sends

pub returns-clause-safe : goal.returns-clause-safe
returns-clause-safe c =
    let p = c.self.inside in
    let t : NetState = record { med = p.med; mem = p.mem; names = p.pool; flows = p.flows; inboxes = p.inboxes; sends = p.sends } in
    let safe : IsSafe t = subst IsSafe (sym c.self.view_is) c.requires.safe in
    let room : length t.mem < 2049 = subst (λ (x : NetState). areas_of x < 2049) (sym c.self.view_is) c.requires.room in
    let mem : Memory = c.grow_instance.new.self in
    let names : Names = c.grow_instance-2.new.self in
    let some : 0 < length t.names = subst (λ k. 0 < k) c.areas-areas.ensures.areas c.areas-areas.ensures.some in
    let more : length t.names ≤ length names = omega (arith, c.in_ok-grow_instance-2.ensures.areas) in
    let grown : IsGrown t.names names t.mem mem = record {
      some = some;
      more = more;
      taken = c.grow_instance-2.ensures.taken;
      places = c.grow_instance-2.ensures.places;
      bytes = c.grow_instance.ensures.bytes;
      lent = c.grow_instance.ensures.lent;
      areas = omega (arith, c.in_ok-grow_instance.ensures.areas);
      most = omega (arith, c.in_ok-grow_instance.ensures.areas, room);
    } in
    let growth = c.other_names_keep_the_relation.ensures.whole_added in
    let hands = c.hands_are_kept.ensures.grown in
    let done : completed Transmit mem t.med.transmit ≡ completed Transmit t.mem t.med.transmit = c.other_changes_keep_the_frames.ensures.completed t.mem mem Transmit t.med.transmit (λ ring slot below. c.grow_instance.ensures.bytes _ _) in
    let same : length t.mem ≡ length t.names = subst (λ (x : NetState). length x.mem ≡ length x.names) (sym c.self.view_is) (sym c.requires.names) in
    let area : c.areas-areas.result ≡ length t.names = c.areas-areas.ensures.areas in
    let fresh : AreFreshIn mem names c.areas-areas.result = subst (λ k. AreFreshIn mem names k) (sym c.areas-areas.ensures.areas)
    (c.fresh_areas.ensures.memory t.names names t.mem mem (omega (arith, some, same)) same c.in_ok-grow_instance-2.ensures.areas c.in_ok-grow_instance.ensures.areas c.in_ok-grow_instance-2.ensures.home c.grow_instance.ensures.lent) in
    let begun = c.in_ok-begin.ensures in
    let t1 : NetState = record { med = t.med; mem = mem; names = c.begin.new.pool; flows = t.flows; inboxes = c.begin.new.self; sends = t.sends } in
    let own = has-inbox t1.inboxes c.args.who names c.areas-areas.result begun.own in
    let safe1 : IsSafe t1 = inbox-safe growth hands t mem names c.begin.new.pool c.begin.new.self c.args.who safe grown done c.begin.ensures.whole (begun.hands mem (held_to_send t.sends) fresh) own begun.others in
    let kept : AreSendFreshIn mem c.begin.new.pool c.areas-areas.result =
    send-kept t.names names c.begin.new.pool t.mem mem c.areas-areas.result area some same c.in_ok-grow_instance-2.ensures.areas c.in_ok-grow_instance.ensures.areas c.in_ok-grow_instance-2.ensures.home c.begin.ensures.places c.grow_instance.ensures.lent in
    let sent = c.in_ok-begin-2.ensures in
    sends-safe c.hands_are_parted.ensures.swapped t1 c.begin-2.new.pool c.begin-3.new.self c.begin-2.new.self c.args.who safe1 c.begin-2.ensures.whole (sent.hands mem (held_in t1.inboxes) kept) own
    (some-is _ _ sent.own) c.begin-3.ensures.others c.begin-2.ensures.others c.begin-2.ensures.sends

pub returns-clause-stands : goal.returns-clause-stands
returns-clause-stands c = λ life remotes n s unborn bare.
    let p = c.self.inside in
    let t : NetState = record { med = p.med; mem = p.mem; names = p.pool; flows = p.flows; inboxes = p.inboxes; sends = p.sends } in
    let safe : IsSafe t = subst IsSafe (sym c.self.view_is) c.requires.safe in
    let mem : Memory = c.grow_instance.new.self in
    let names : Names = c.grow_instance-2.new.self in
    let some : 0 < length t.names = subst (λ k. 0 < k) c.areas-areas.ensures.areas c.areas-areas.ensures.some in
    let same : length t.mem ≡ length t.names = subst (λ (x : NetState). length x.mem ≡ length x.names) (sym c.self.view_is) (sym c.requires.names) in
    let begun = c.in_ok-begin.ensures in
    let sent = c.in_ok-begin-2.ensures in
    let t' : NetState = record { med = t.med; mem = mem; names = c.begin-2.new.pool; flows = c.begin-3.new.self; inboxes = c.begin.new.self; sends = c.begin-2.new.self } in
    let frames = c.other_changes_keep_the_frames.ensures in
    begun-stands life remotes n t t' c.args.who c.args.remote names c.areas-areas.result (subst (λ (x : NetState). NetStands life remotes n x) (sym c.self.view_is) s) unborn bare refl
    (frames.completed t.mem mem Receive t.med.receive (λ ring slot below. c.grow_instance.ensures.bytes _ _))
    (frames.received t.med t.mem mem safe.memory (λ ring slot below. c.grow_instance.ensures.bytes _ _) (λ q lent. c.grow_instance.ensures.bytes _ _))
    (frames.completed t.mem mem Transmit t.med.transmit (λ ring slot below. c.grow_instance.ensures.bytes _ _))
    (frames.unsent t.med t.mem mem safe.memory (λ ring slot below. c.grow_instance.ensures.bytes _ _) (λ q lent. c.grow_instance.ensures.bytes _ _))
    c.in_ok-begin-3.ensures.own c.begin-3.ensures.others begun.own begun.others
    c.begin.new.pool sent.own c.begin-2.ensures.others c.begin-2.ensures.sends
    (send-zero t.names names c.begin.new.pool t.mem mem c.areas-areas.result c.areas-areas.ensures.areas some same c.in_ok-grow_instance-2.ensures.areas c.in_ok-grow_instance-2.ensures.home c.begin.ensures.places c.in_ok-grow_instance.ensures.zeroed)
    (λ q. c.grow_instance.ensures.bytes _ _)
    (c.inboxes_keep_their_frames.ensures.same t.mem mem t.inboxes (λ q there. c.grow_instance.ensures.bytes _ _))
    (c.begin-2.ensures.areas ∙ c.begin.ensures.areas ∙ c.in_ok-grow_instance-2.ensures.areas) c.in_ok-grow_instance.ensures.areas
