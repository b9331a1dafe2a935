use Rattle.std.proofs.Common.{◌≡◌, ◌+◌, ◌<◌, ◌++◌, ◌∷◌, [], length, Some, None, sym, ◌∙◌, ap, subst, length-append}
use Rattle.ibos_recv.proofs.OpenPlaces.{open-hands, opened, passed-all, still-open}
use Rattle.ibos_recv.proofs.TablePlaces.{named_of}
use Rattle.ibos_recv.proofs.Words.{Inbox, address_of, bytes_at, frames_at, unread_at}
use Rattle.ibos_recv.proofs.inboxes.Inboxes.push.Goals as goal

pub place_of-requires : goal.place_of-requires
place_of-requires c = named_of c.args.self.now c.args.who c.requires.open

pub unreachable-requires : goal.unreachable-requires
unreachable-requires c =
    let open' = opened c.self.inside.places.items c.args.self.now c.args.who c.place_of.result None c.index_mut.result.now c.self.view_is c.self.invariant c.place_of.ensures.place (named_of c.args.self.now c.args.who c.requires.open) c.index_mut.ensures.value c.in-None.is in
    c.requires.open open'.was

pub push-requires-clause-room : goal.push-requires-clause-room
push-requires-clause-room c =
    let open' = opened c.self.inside.places.items c.args.self.now c.args.who c.place_of.result (Some c.in-Some.inbox) c.index_mut.result.now c.self.view_is c.self.invariant c.place_of.ensures.place (named_of c.args.self.now c.args.who c.requires.open) c.index_mut.ensures.value c.in-Some.is in
    subst (λ x. unread_at x < 16) open'.was c.requires.room

pub push-requires-clause-hands : goal.push-requires-clause-hands
push-requires-clause-hands c =
    let open' = opened c.self.inside.places.items c.args.self.now c.args.who c.place_of.result (Some c.in-Some.inbox) c.index_mut.result.now c.self.view_is c.self.invariant c.place_of.ensures.place (named_of c.args.self.now c.args.who c.requires.open) c.index_mut.ensures.value c.in-Some.is in
    let hands = c.requires.hands in
    (hands.0, open-hands c.self.inside.places.items c.args.self.now c.args.who c.place_of.result c.in-Some.inbox open' c.args.pool.now hands.0 hands.1)

pub returns-clause-own : goal.returns-clause-own
returns-clause-own c mem =
    let open' = opened c.self.inside.places.items c.args.self.now c.args.who c.place_of.result (Some c.in-Some.inbox) c.index_mut.result.now c.self.view_is c.self.invariant c.place_of.ensures.place (named_of c.args.self.now c.args.who c.requires.open) c.index_mut.ensures.value c.in-Some.is in
    ap (λ x. frames_at mem x) (open'.own (Some c.push.new.self)) ∙ c.push.ensures.frames mem ∙ sym (ap (λ x. frames_at mem x ++ bytes_at mem (address_of c.args.loan.place) c.args.len ∷ []) open'.was)

pub returns-clause-unread : goal.returns-clause-unread
returns-clause-unread c =
    let open' = opened c.self.inside.places.items c.args.self.now c.args.who c.place_of.result (Some c.in-Some.inbox) c.index_mut.result.now c.self.view_is c.self.invariant c.place_of.ensures.place (named_of c.args.self.now c.args.who c.requires.open) c.index_mut.ensures.value c.in-Some.is in
    let b : Inbox = c.in-Some.inbox in
    let more : length c.push.new.self.lens ≡ length b.lens + 1 = ap length c.push.ensures.lens ∙ length-append b.lens (c.args.len ∷ []) in
    ap (λ x. unread_at x) (open'.own (Some c.push.new.self)) ∙ more ∙ sym (ap (λ x. unread_at x + 1) open'.was)

pub returns-clause-others : goal.returns-clause-others
returns-clause-others c =
    let open' = opened c.self.inside.places.items c.args.self.now c.args.who c.place_of.result (Some c.in-Some.inbox) c.index_mut.result.now c.self.view_is c.self.invariant c.place_of.ensures.place (named_of c.args.self.now c.args.who c.requires.open) c.index_mut.ensures.value c.in-Some.is in
    open'.others (Some c.push.new.self)

pub returns-clause-open : goal.returns-clause-open
returns-clause-open c q =
    let open' = opened c.self.inside.places.items c.args.self.now c.args.who c.place_of.result (Some c.in-Some.inbox) c.index_mut.result.now c.self.view_is c.self.invariant c.place_of.ensures.place (named_of c.args.self.now c.args.who c.requires.open) c.index_mut.ensures.value c.in-Some.is in
    still-open c.self.inside.places.items c.args.self.now c.args.who c.place_of.result c.in-Some.inbox open' c.push.new.self q

pub returns-clause-passed : goal.returns-clause-passed
returns-clause-passed c =
    let open' = opened c.self.inside.places.items c.args.self.now c.args.who c.place_of.result (Some c.in-Some.inbox) c.index_mut.result.now c.self.view_is c.self.invariant c.place_of.ensures.place (named_of c.args.self.now c.args.who c.requires.open) c.index_mut.ensures.value c.in-Some.is in
    passed-all c.self.inside.places.items c.args.self.now c.args.who c.place_of.result c.in-Some.inbox open' c.push.new.self c.args.loan c.args.pool.now c.push.new.pool c.push.ensures.passed
