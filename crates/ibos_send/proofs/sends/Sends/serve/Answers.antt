use Rattle.std.proofs.Common.{refl, sym, ◌∙◌, ap, List}
use Rattle.std.proofs.lemmas.Result.{err_from_is_err_and}
use Rattle.ibos_mediate.specs.Frames.{returns}
use Rattle.ibos_send.proofs.ReturnSteps.{IsStep, Laws, State, all-next, fewer, lent-back, names-given, names-stay, sends-back, serving-begins, serving-step, some-posted, told-all, told-step}
use Rattle.ibos_send.proofs.Words.{Held, Transmit, after_returns, held_in}
use Rattle.ibos_send.proofs.sends.Sends.serve.Goals as goal

pub served-init : goal.served-init
served-init c = record {
  serving = serving-begins (record { sends = c.args.self.now; med = c.args.med.now; pool = c.args.pool.now; mem = c.args.mem.now }) c.requires.memory c.requires.owned c.requires.hands c.requires.ring;
  told = λ ended sends all. (all, refl);
  head = refl;
}

pub tx_take-requires : goal.tx_take-requires
tx_take-requires c = record { memory = c.served.invariant.serving.memory }

pub bring_back-told-requires-clause-posts : goal.bring_back-told-requires-clause-posts
bring_back-told-requires-clause-posts c =
    let laws : Laws = record {
      counted = c.frames_are_counted.ensures.returns;
      still = c.other_changes_keep_the_frames.ensures.completed;
      unsent = c.takes_end_a_frame.ensures.transmit_unsent;
      received = c.takes_end_a_frame.ensures.transmit_received;
      arrived = c.takes_end_a_frame.ensures.transmit_arrivals;
    } in
    let now : State = record { sends = c.served.self; med = c.served.med; pool = c.served.pool; mem = c.served.mem } in
    some-posted laws now c.in-Some.loan (returns c.tx_take.new.mem c.tx_take.new.self.transmit) c.served.invariant.serving.memory c.served.invariant.serving.ring c.in-Some.ensures.returns

pub bring_back-told-requires-clause-hands : goal.bring_back-told-requires-clause-hands
bring_back-told-requires-clause-hands c = (c.tx_take.new.mem, c.in-Some.ensures.hands c.served.pool (held_in c.served.self) (c.served.invariant.serving.owned Transmit) c.served.invariant.serving.at_hand)

pub served-smaller : goal.served-smaller
served-smaller c =
    let laws : Laws = record {
      counted = c.frames_are_counted.ensures.returns;
      still = c.other_changes_keep_the_frames.ensures.completed;
      unsent = c.takes_end_a_frame.ensures.transmit_unsent;
      received = c.takes_end_a_frame.ensures.transmit_received;
      arrived = c.takes_end_a_frame.ensures.transmit_arrivals;
    } in
    let first : State = record { sends = c.args.self.now; med = c.args.med.now; pool = c.args.pool.now; mem = c.args.mem.now } in
    let now : State = record { sends = c.served.self; med = c.served.med; pool = c.served.pool; mem = c.served.mem } in
    let next : State = record { sends = c.bring_back-told.new.self; med = c.tx_take.new.self; pool = c.bring_back-told.new.pool; mem = c.tx_take.new.mem } in
    let taken = c.in-Some.ensures in
    let back = c.bring_back-told.ensures in
    let step : IsStep c.in-Some.loan now next = record {
      taken = taken.taken;
      marked = taken.marked;
      returned = taken.returns;
      bell = taken.bell;
      hands = λ held hands. taken.hands c.served.pool held (c.served.invariant.serving.owned Transmit) hands;
      keeps = taken.keeps;
      state = back.state;
      opened = back.«open»;
      pooled = back.given;
      given = back.hands;
      given_owned = back.owned;
      given_unheld = back.unheld;
    } in
    fewer laws c.in-Some.loan first now next c.served.invariant.serving step

pub served-preserved : goal.served-preserved
served-preserved c =
    let laws : Laws = record {
      counted = c.frames_are_counted.ensures.returns;
      still = c.other_changes_keep_the_frames.ensures.completed;
      unsent = c.takes_end_a_frame.ensures.transmit_unsent;
      received = c.takes_end_a_frame.ensures.transmit_received;
      arrived = c.takes_end_a_frame.ensures.transmit_arrivals;
    } in
    let first : State = record { sends = c.args.self.now; med = c.args.med.now; pool = c.args.pool.now; mem = c.args.mem.now } in
    let now : State = record { sends = c.served.self; med = c.served.med; pool = c.served.pool; mem = c.served.mem } in
    let next : State = record { sends = c.bring_back-told.new.self; med = c.tx_take.new.self; pool = c.bring_back-told.new.pool; mem = c.tx_take.new.mem } in
    let taken = c.in-Some.ensures in
    let back = c.bring_back-told.ensures in
    let step : IsStep c.in-Some.loan now next = record {
      taken = taken.taken;
      marked = taken.marked;
      returned = taken.returns;
      bell = taken.bell;
      hands = λ held hands. taken.hands c.served.pool held (c.served.invariant.serving.owned Transmit) hands;
      keeps = taken.keeps;
      state = back.state;
      opened = back.«open»;
      pooled = back.given;
      given = back.hands;
      given_owned = back.owned;
      given_unheld = back.unheld;
    } in
    let serving = serving-step laws c.in-Some.loan first now next c.served.invariant.serving step in
    record {
      serving = serving;
      told = λ ended sends all.
          let before = c.served.invariant.told ended sends all in (
            all-next laws c.in-Some.loan first now next c.served.invariant.serving step ended sends before.0,
            told-step laws c.in-Some.loan first now next c.served.invariant.serving step ended sends _ c.served.out.items c.bring_back-told.new.out.items before.0 c.in_ok-told.ensures.items before.1,
          );
      head = back.head ∙ c.served.invariant.head;
    }

-- out of memory: what holds all along
pub returns-in_err-told : goal.returns-in_err-told
returns-in_err-told c =
    let laws : Laws = record {
      counted = c.frames_are_counted.ensures.returns;
      still = c.other_changes_keep_the_frames.ensures.completed;
      unsent = c.takes_end_a_frame.ensures.transmit_unsent;
      received = c.takes_end_a_frame.ensures.transmit_received;
      arrived = c.takes_end_a_frame.ensures.transmit_arrivals;
    } in
    let first : State = record { sends = c.args.self.now; med = c.args.med.now; pool = c.args.pool.now; mem = c.args.mem.now } in
    let now : State = record { sends = c.served.self; med = c.served.med; pool = c.served.pool; mem = c.served.mem } in
    let next : State = record { sends = c.bring_back-told.new.self; med = c.tx_take.new.self; pool = c.bring_back-told.new.pool; mem = c.tx_take.new.mem } in
    let taken = c.in-Some.ensures in
    let back = c.bring_back-told.ensures in
    let step : IsStep c.in-Some.loan now next = record {
      taken = taken.taken;
      marked = taken.marked;
      returned = taken.returns;
      bell = taken.bell;
      hands = λ held hands. taken.hands c.served.pool held (c.served.invariant.serving.owned Transmit) hands;
      keeps = taken.keeps;
      state = back.state;
      opened = back.«open»;
      pooled = back.given;
      given = back.hands;
      given_owned = back.owned;
      given_unheld = back.unheld;
    } in
    let serving = serving-step laws c.in-Some.loan first now next c.served.invariant.serving step in
    let out = err_from_is_err_and c.from_residual.result c.from_residual.ensures.1 in
    record {
      head = back.head ∙ c.served.invariant.head;
      items = rw out.1 tt;
      state = rw out.1 tt;
      bell = rw out.1 tt;
      returns = rw out.1 tt;
      back = sends-back first next serving;
      given = names-given first next serving;
      names = names-stay first next serving;
      lent = lent-back first next serving;
      «open» = serving.opened;
      waiting = serving.waiting;
      posts = serving.posts;
      told = serving.told;
      done = serving.done;
      receive = serving.receive;
      turns = serving.turns;
      unsent = serving.unsent;
      received = serving.received;
      arrivals = serving.arrived;
      ring = serving.ring;
      memory = serving.memory;
      device = serving.device;
      owned = serving.owned;
      unheld = serving.unheld;
      hands = serving.hands;
      served = serving.served;
    }

pub returns-clause-items : goal.returns-clause-items
returns-clause-items c =
    let first : State = record { sends = c.args.self.now; med = c.args.med.now; pool = c.args.pool.now; mem = c.args.mem.now } in
    let now : State = record { sends = c.served.self; med = c.served.med; pool = c.served.pool; mem = c.served.mem } in
    let none = c.bells_end.ensures.returns c.served.mem c.served.med.transmit (c.in_default.ensures.none.0 refl) in
    told-all first now c.args.out.now.items c.served.out.items c.served.invariant.told none

pub returns-clause-state : goal.returns-clause-state
returns-clause-state c =
    let none = c.bells_end.ensures.returns c.served.mem c.served.med.transmit (c.in_default.ensures.none.0 refl) in
    sym (ap (λ (hs : List Held). after_returns c.served.self hs) none) ∙ c.served.invariant.serving.state

pub returns-clause-bell : goal.returns-clause-bell
returns-clause-bell c = c.in_default.ensures.same ∙ sym (c.bells_end.ensures.ends Transmit c.served.mem c.served.med (c.in_default.ensures.none.0 refl)) ∙ c.served.invariant.serving.bell

pub returns-clause-back : goal.returns-clause-back
returns-clause-back c =
    let first : State = record { sends = c.args.self.now; med = c.args.med.now; pool = c.args.pool.now; mem = c.args.mem.now } in
    let now : State = record { sends = c.served.self; med = c.served.med; pool = c.served.pool; mem = c.served.mem } in
    sends-back first now c.served.invariant.serving

pub returns-clause-given : goal.returns-clause-given
returns-clause-given c =
    let first : State = record { sends = c.args.self.now; med = c.args.med.now; pool = c.args.pool.now; mem = c.args.mem.now } in
    let now : State = record { sends = c.served.self; med = c.served.med; pool = c.served.pool; mem = c.served.mem } in
    names-given first now c.served.invariant.serving

pub returns-clause-names : goal.returns-clause-names
returns-clause-names c =
    let first : State = record { sends = c.args.self.now; med = c.args.med.now; pool = c.args.pool.now; mem = c.args.mem.now } in
    let now : State = record { sends = c.served.self; med = c.served.med; pool = c.served.pool; mem = c.served.mem } in
    names-stay first now c.served.invariant.serving

pub returns-clause-lent : goal.returns-clause-lent
returns-clause-lent c p =
    let first : State = record { sends = c.args.self.now; med = c.args.med.now; pool = c.args.pool.now; mem = c.args.mem.now } in
    let now : State = record { sends = c.served.self; med = c.served.med; pool = c.served.pool; mem = c.served.mem } in
    rw c.in_default.ensures.same_memory (lent-back first now c.served.invariant.serving p)

pub returns-clause-device : goal.returns-clause-device
returns-clause-device c regs is = rw (c.in_default.ensures.same, c.in_default.ensures.same_memory) (c.served.invariant.serving.device regs is)

pub returns-clause-unheld : goal.returns-clause-unheld
returns-clause-unheld c more are = rw (c.in_default.ensures.same, c.in_default.ensures.same_memory) (c.served.invariant.serving.unheld more are)
