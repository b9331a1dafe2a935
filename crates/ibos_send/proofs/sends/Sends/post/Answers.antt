use Rattle.std.proofs.Common.{◌≡◌, ◌≤◌, ◌++◌, ◌∷◌, [], Some, IfSome, refl, sym, ◌∙◌, ap, subst, arith}
use Rattle.std.specs.Prelude.{take}
use Rattle.ibos_nic.specs.Rings.{Posts}
use Rattle.ibos_mediate.specs.Changes.{changed}
use Rattle.ibos_mediate.specs.Frames.{unsent_frames}
use Rattle.ibos_mediate.specs.Mediated.{Mediated, ring_of}
use Rattle.ibos_mediate.specs.Relation.{IsInMemory, completed}
use Rattle.ibos_send.proofs.PartedHands.{grouped, regrouped, rotated, swapped}
use Rattle.ibos_send.proofs.PostSteps.{posted-done}
use Rattle.ibos_send.proofs.Words.{Held, Outgoing, Transmit, address_of, buffer_at, buffer_bytes, bytes_at, gathered, held_at_home, held_waiting}
use Rattle.ibos_send.specs.Sends.{frame_in, waiting_at}
use Rattle.ibos_send.proofs.sends.Sends.post.Goals as goal

pub tx_post-requires-clause-kept : goal.tx_post-requires-clause-kept
tx_post-requires-clause-kept c =
    let are = c.requires.hands in
    let hands = are.1 in
    let hands' = rw (← c.self.view_is) at hands in
    let own = c.in-Some.ensures.hands are.0 c.args.mem.now (held_at_home c.self.inside.homes) (swapped are.0 c.args.mem.now (held_at_home c.self.inside.homes) (gathered held_waiting c.self.inside.list.waiting) hands') in
    own.1

pub returns-clause-unsent : goal.returns-clause-unsent
returns-clause-unsent c =
    let are = c.requires.hands in
    let hands = are.1 in
    let hands' = rw (← c.self.view_is) at hands in
    let own = c.in-Some.ensures.hands are.0 c.args.mem.now (held_at_home c.self.inside.homes) (swapped are.0 c.args.mem.now (held_at_home c.self.inside.homes) (gathered held_waiting c.self.inside.list.waiting) hands') in
    let m : Mediated = c.args.med.now in
    let h : Held = c.in-Some.loan in
    let memory : IsInMemory (changed Transmit (Posts h) m) c.tx_post.new.mem = subst (λ (x : Mediated). IsInMemory x c.tx_post.new.mem) c.tx_post.ensures.posted c.tx_post.ensures.keeps.memory in
    let high = c.in-Some.ensures.most in
    let small : c.in-Some.len ≤ buffer_bytes = omega (arith, high) in
    let unsent = c.posts_add_a_frame.ensures.transmit_unsent m c.args.mem.now c.tx_post.new.mem h c.in-Some.len c.requires.memory memory own.1 small c.tx_post.ensures.written in
    let some = c.in-Some.ensures.some in
    let w = some.0 in
    let at : waiting_at c.args.self.now c.args.send ≡ Some w = ap (λ (s : Outgoing). waiting_at s c.args.send) (sym c.self.view_is) ∙ some.1 in
    let frame : bytes_at c.args.mem.now (address_of h.place) c.in-Some.len ≡ frame_in c.args.mem.now w =
    sym (c.ranges_are_lists.ensures.fronts c.args.mem.now (address_of h.place) buffer_bytes c.in-Some.len small) ∙ ap (λ n. take n (buffer_at c.args.mem.now h.place)) some.3
    ∙ ap (λ (x : Held). take w.len (buffer_at c.args.mem.now x.place)) some.2 in
    subst (λ o. IfSome o (λ x. unsent_frames c.tx_post.new.mem c.tx_post.new.self.transmit ≡ unsent_frames c.args.mem.now c.args.med.now.transmit ++ frame_in c.args.mem.now x ∷ [])) (sym at)
    (ap (λ (x : Mediated). unsent_frames c.tx_post.new.mem x.transmit) c.tx_post.ensures.posted ∙ unsent ∙ ap (λ f. unsent_frames c.args.mem.now m.transmit ++ f ∷ []) frame)

pub returns-clause-done : goal.returns-clause-done
returns-clause-done c ring =
    let are = c.requires.hands in
    let hands = are.1 in
    let hands' = rw (← c.self.view_is) at hands in
    let own = c.in-Some.ensures.hands are.0 c.args.mem.now (held_at_home c.self.inside.homes) (swapped are.0 c.args.mem.now (held_at_home c.self.inside.homes) (gathered held_waiting c.self.inside.list.waiting) hands') in
    let m : Mediated = c.args.med.now in
    let h : Held = c.in-Some.loan in
    let memory : IsInMemory (changed Transmit (Posts h) m) c.tx_post.new.mem = subst (λ (x : Mediated). IsInMemory x c.tx_post.new.mem) c.tx_post.ensures.posted c.tx_post.ensures.keeps.memory in
    let high = c.in-Some.ensures.most in
    let small : c.in-Some.len ≤ buffer_bytes = omega (arith, high) in
    let unsent = c.posts_add_a_frame.ensures.transmit_unsent m c.args.mem.now c.tx_post.new.mem h c.in-Some.len c.requires.memory memory own.1 small c.tx_post.ensures.written in
    let same = c.posts_add_a_frame.ensures.transmit_received m c.args.mem.now c.tx_post.new.mem h c.in-Some.len c.requires.memory memory c.tx_post.ensures.written in
    ap (λ (x : Mediated). completed ring c.tx_post.new.mem (ring_of x ring)) c.tx_post.ensures.posted
    ∙ posted-done c.frames_are_counted.ensures.received c.frames_are_counted.ensures.unsent m c.args.mem.now c.tx_post.new.mem h (bytes_at c.args.mem.now (address_of h.place) c.in-Some.len) c.requires.memory memory same unsent ring

pub returns-clause-device : goal.returns-clause-device
returns-clause-device c regs is = c.tx_post.ensures.keeps.device regs regs refl is

pub returns-clause-owned : goal.returns-clause-owned
returns-clause-owned c names one_to_one hands ring owned =
    let hands' = rw (← c.self.view_is) at hands in
    let own = c.in-Some.ensures.hands names c.args.mem.now (held_at_home c.self.inside.homes) (swapped names c.args.mem.now (held_at_home c.self.inside.homes) (gathered held_waiting c.self.inside.list.waiting) hands') in
    c.tx_post.ensures.keeps.owned names names (c.parts_keep_the_whole.ensures.claimed names c.in-Some.loan one_to_one own.0) ring owned

pub returns-clause-unheld : goal.returns-clause-unheld
returns-clause-unheld c names out one_to_one hands unheld =
    let hands' = rw (← c.self.view_is) at hands in
    let own = c.in-Some.ensures.hands names c.args.mem.now (held_at_home c.self.inside.homes) (swapped names c.args.mem.now (held_at_home c.self.inside.homes) (gathered held_waiting c.self.inside.list.waiting) hands') in
    c.tx_post.ensures.keeps.unheld names names (c.parts_keep_the_whole.ensures.claimed names c.in-Some.loan one_to_one own.0) out unheld

pub returns-clause-hands : goal.returns-clause-hands
returns-clause-hands c names more hands =
    let hands' = rw (← c.self.view_is) at hands in
    let one = rotated names c.args.mem.now (held_at_home c.self.inside.homes) (gathered held_waiting c.self.inside.list.waiting) more (regrouped names c.args.mem.now (held_at_home c.self.inside.homes) (gathered held_waiting c.self.inside.list.waiting) more hands') in
    let two = c.tx_post.ensures.hands names (gathered held_waiting c.post.new.self.waiting ++ ((held_at_home c.self.inside.homes) ++ more)) (c.in-Some.ensures.hands names c.args.mem.now ((held_at_home c.self.inside.homes) ++ more) one) in
    grouped names c.tx_post.new.mem (held_at_home c.self.inside.homes) (gathered held_waiting c.post.new.self.waiting) more (rotated names c.tx_post.new.mem (gathered held_waiting c.post.new.self.waiting) (held_at_home c.self.inside.homes) more two)
