use Rattle.std.proofs.Common.{List, [], ◌∷◌, ◌++◌, length, refl, sym, ◌∙◌, ap, arith}
use Rattle.std.proofs.lemmas.Result.{err_from_is_err_and}
use Rattle.ibos_kinds.specs.Bells.{aim_of}
use Rattle.ibos_mediate.specs.Frames.{Arrival}
use Rattle.ibos_flow.specs.Flows.{bound_by}
use Rattle.ibos_recv.proofs.BellItems.{item_of, still-step, told-frames, told-items, told-step}
use Rattle.ibos_recv.proofs.BellSteps.{IsStep, Laws, State, serving-step, step-of}
use Rattle.ibos_recv.proofs.Hearings.{frames_for}
use Rattle.ibos_recv.proofs.Spendings.{placed-same}
use Rattle.ibos_recv.proofs.TableFrames.{frames-same}
use Rattle.ibos_recv.proofs.Words.{Receive, address_of, buffer_bytes, bytes_at, held_in, landing, unread_of}
use Rattle.ibos_recv.proofs.serving.serve.Goals as goal

pub rx_take-requires-clause-owned : goal.rx_take-requires-clause-owned
rx_take-requires-clause-owned c = c.served.invariant.serving.owned Receive

pub tell-requires-clause-hands : goal.tell-requires-clause-hands
tell-requires-clause-hands c = c.in-Some.ensures.hands (held_in c.served.inboxes) c.served.invariant.serving.at_hand

pub served-smaller : goal.served-smaller
served-smaller c =
    let arrived = ap (λ (rs : List Arrival). length rs) c.in-Some.ensures.arrival in
    omega (arith, arrived)

pub served-preserved : goal.served-preserved
served-preserved c =
    let laws : Laws = record {
      gifts = record {
        given_owned = c.gifts_keep_the_relation.ensures.owned;
        given_unheld = c.gifts_keep_the_relation.ensures.unheld;
        exchanged_owned = c.gifts_keep_the_relation.ensures.exchanged_owned;
        exchanged_unheld = c.gifts_keep_the_relation.ensures.exchanged_unheld;
      };
      counted = c.frames_are_counted.ensures.arrivals;
      completed = c.other_changes_keep_the_frames.ensures.completed;
      taken_unsent = c.takes_end_a_frame.ensures.receive_unsent;
    } in
    let first : State = record { med = c.args.med.now; pool = c.args.pool.now; mem = c.args.mem.now; inboxes = c.args.inboxes.now } in
    let now : State = record { med = c.served.med; pool = c.served.pool; mem = c.served.mem; inboxes = c.served.inboxes } in
    let next : State = record { med = c.rx_take.new.self; pool = c.tell.new.pool; mem = c.rx_take.new.mem; inboxes = c.tell.new.inboxes } in
    let a : Arrival = record { handle = c.in-Some.handle; bytes = bytes_at c.rx_take.new.mem (address_of c.in-Some.loan.place) c.in-Some.len } in
    let taken = c.in-Some.ensures in
    let lands = landing (bound_by c.args.flows.now) (unread_of c.served.inboxes) (aim_of c.args.local.now a.bytes) in
    let step : IsStep lands c.in-Some.loan a now next = step-of lands now c.in-Some.loan a c.rx_take.new.self c.rx_take.new.pool c.tell.new.pool c.rx_take.new.mem c.tell.new.inboxes
    taken.taken taken.kept taken.marked taken.arrival taken.bell taken.is_pools taken.hands taken.keeps taken.same_pool c.tell.ensures.open c.tell.ensures.spent in
    let told = c.in_ok-tell.ensures in
    let still = frames-same c.served.mem c.rx_take.new.mem c.served.inboxes (λ p is. taken.marked.bytes (address_of p) buffer_bytes) in
    record {
      serving = serving-step laws lands c.in-Some.loan a first now next c.served.invariant.serving step;
      told = told-step c.args.local.now (bound_by c.args.flows.now) (λ u v same. c.bells_agree.ensures c.args.local.now (bound_by c.args.flows.now) (bound_by c.args.flows.now) u v (λ p. refl) same) first now next c.args.out.now.items c.served.out.items c.tell.new.out.items a taken.arrival told.items told.unread
          (λ p. told.frames p ∙ ap (λ fs. fs ++ frames_for p (item_of c.args.local.now (bound_by c.args.flows.now) (unread_of c.served.inboxes) a ∷ [])) (still p)) c.served.invariant.told;
      still = still-step c.args.local.now (bound_by c.args.flows.now) (λ u v same. c.bells_agree.ensures c.args.local.now (bound_by c.args.flows.now) (bound_by c.args.flows.now) u v (λ p. refl) same) first now next c.in-Some.loan a taken.arrival told.unread step.spent c.served.invariant.still;
      head = told.head ∙ c.served.invariant.head;
    }

-- out of memory: what holds all along
pub returns-in_err-tell : goal.returns-in_err-tell
returns-in_err-tell c =
    let laws : Laws = record {
      gifts = record {
        given_owned = c.gifts_keep_the_relation.ensures.owned;
        given_unheld = c.gifts_keep_the_relation.ensures.unheld;
        exchanged_owned = c.gifts_keep_the_relation.ensures.exchanged_owned;
        exchanged_unheld = c.gifts_keep_the_relation.ensures.exchanged_unheld;
      };
      counted = c.frames_are_counted.ensures.arrivals;
      completed = c.other_changes_keep_the_frames.ensures.completed;
      taken_unsent = c.takes_end_a_frame.ensures.receive_unsent;
    } in
    let first : State = record { med = c.args.med.now; pool = c.args.pool.now; mem = c.args.mem.now; inboxes = c.args.inboxes.now } in
    let now : State = record { med = c.served.med; pool = c.served.pool; mem = c.served.mem; inboxes = c.served.inboxes } in
    let next : State = record { med = c.rx_take.new.self; pool = c.tell.new.pool; mem = c.rx_take.new.mem; inboxes = c.tell.new.inboxes } in
    let a : Arrival = record { handle = c.in-Some.handle; bytes = bytes_at c.rx_take.new.mem (address_of c.in-Some.loan.place) c.in-Some.len } in
    let taken = c.in-Some.ensures in
    let lands = landing (bound_by c.args.flows.now) (unread_of c.served.inboxes) (aim_of c.args.local.now a.bytes) in
    let step : IsStep lands c.in-Some.loan a now next = step-of lands now c.in-Some.loan a c.rx_take.new.self c.rx_take.new.pool c.tell.new.pool c.rx_take.new.mem c.tell.new.inboxes
    taken.taken taken.kept taken.marked taken.arrival taken.bell taken.is_pools taken.hands taken.keeps taken.same_pool c.tell.ensures.open c.tell.ensures.spent in
    let serving = serving-step laws lands c.in-Some.loan a first now next c.served.invariant.serving step in
    let out = err_from_is_err_and c.from_residual.result c.from_residual.ensures.1 in
    record {
      head = c.in_err-tell.ensures.head ∙ c.served.invariant.head;
      items = rw out.1 tt;
      frames = rw out.1 tt;
      dropped = rw out.1 tt;
      bell = rw out.1 tt;
      arrivals = rw out.1 tt;
      done = serving.done;
      transmit = serving.transmit;
      unsent = serving.unsent;
      «open» = serving.opened;
      held = placed-same c.tell.new.pool c.rx_take.new.mem (held_in c.args.inboxes.now) (held_in c.tell.new.inboxes) serving.at_hand serving.names;
      memory = serving.memory;
      device = serving.device;
      owned = serving.owned;
      unheld = serving.unheld;
      hands = serving.hands;
      served = serving.served;
    }

pub returns-clause-items : goal.returns-clause-items
returns-clause-items c =
    let first : State = record { med = c.args.med.now; pool = c.args.pool.now; mem = c.args.mem.now; inboxes = c.args.inboxes.now } in
    let now : State = record { med = c.served.med; pool = c.served.pool; mem = c.served.mem; inboxes = c.served.inboxes } in
    let none = c.bells_end.ensures.arrivals c.served.mem c.served.med (c.in_default.ensures.none.0 refl) in
    told-items c.args.local.now (bound_by c.args.flows.now) first now c.args.out.now.items c.served.out.items none c.served.invariant.told

pub returns-clause-frames : goal.returns-clause-frames
returns-clause-frames c p =
    let first : State = record { med = c.args.med.now; pool = c.args.pool.now; mem = c.args.mem.now; inboxes = c.args.inboxes.now } in
    let now : State = record { med = c.served.med; pool = c.served.pool; mem = c.served.mem; inboxes = c.served.inboxes } in
    let none = c.bells_end.ensures.arrivals c.served.mem c.served.med (c.in_default.ensures.none.0 refl) in
    rw c.in_default.ensures.same_memory (told-frames c.args.local.now (bound_by c.args.flows.now) first now c.args.out.now.items c.served.out.items none c.served.invariant.told p)

pub returns-clause-bell : goal.returns-clause-bell
returns-clause-bell c = c.in_default.ensures.same ∙ sym (c.bells_end.ensures.ends Receive c.served.mem c.served.med (c.in_default.ensures.none.0 refl)) ∙ c.served.invariant.serving.bell

pub returns-clause-device : goal.returns-clause-device
returns-clause-device c regs is = rw (c.in_default.ensures.same, c.in_default.ensures.same_memory) (c.served.invariant.serving.device regs is)

pub returns-clause-held : goal.returns-clause-held
returns-clause-held c =
    let serving = c.served.invariant.serving in
    rw c.in_default.ensures.same_pool (placed-same c.served.pool c.served.mem (held_in c.args.inboxes.now) (held_in c.served.inboxes) serving.at_hand serving.names)

pub returns-clause-dropped : goal.returns-clause-dropped
returns-clause-dropped c none name = rw c.in_default.ensures.same_pool ((c.served.invariant.still none).1 name)
