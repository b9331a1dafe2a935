use Rattle.std.proofs.Common.{◌<◌, [], Some, None, sym, ◌∙◌, ap, subst}
use Rattle.std.specs.Prelude.{slice_index_or}
use Rattle.ibos_recv.proofs.OpenPlaces.{open-hands, opened}
use Rattle.ibos_recv.proofs.TablePlaces.{named_of, open_of}
use Rattle.ibos_recv.proofs.Words.{frames_at, inbox_frames, unread_at}
use Rattle.ibos_recv.proofs.inboxes.Inboxes.frame.Goals as goal

pub place_of-requires : goal.place_of-requires
place_of-requires c = named_of c.args.self.now c.args.who (open_of c.args.self.now c.args.who c.args.k c.requires.k)

pub unreachable-requires : goal.unreachable-requires
unreachable-requires c =
    let open' = opened c.self.inside.places.items c.args.self.now c.args.who c.place_of.result None c.index.result.now c.self.view_is c.self.invariant c.place_of.ensures.place (named_of c.args.self.now c.args.who (open_of c.args.self.now c.args.who c.args.k c.requires.k)) c.index.ensures c.in-None.is in
    open_of c.args.self.now c.args.who c.args.k c.requires.k open'.was

pub frame-requires-clause-k : goal.frame-requires-clause-k
frame-requires-clause-k c =
    let open' = opened c.self.inside.places.items c.args.self.now c.args.who c.place_of.result (Some c.in-Some.inbox) c.index.result.now c.self.view_is c.self.invariant c.place_of.ensures.place (named_of c.args.self.now c.args.who (open_of c.args.self.now c.args.who c.args.k c.requires.k)) c.index.ensures c.in-Some.is in
    rw c.from.ensures (subst (λ x. c.args.k < unread_at x) open'.was c.requires.k)

pub frame-requires-clause-hands : goal.frame-requires-clause-hands
frame-requires-clause-hands c =
    let open' = opened c.self.inside.places.items c.args.self.now c.args.who c.place_of.result (Some c.in-Some.inbox) c.index.result.now c.self.view_is c.self.invariant c.place_of.ensures.place (named_of c.args.self.now c.args.who (open_of c.args.self.now c.args.who c.args.k c.requires.k)) c.index.ensures c.in-Some.is in
    let hands = c.requires.hands in
    (hands.0, open-hands c.self.inside.places.items c.args.self.now c.args.who c.place_of.result c.in-Some.inbox open' hands.0 c.args.mem.now hands.1)

pub returns : goal.returns
returns c =
    let open' = opened c.self.inside.places.items c.args.self.now c.args.who c.place_of.result (Some c.in-Some.inbox) c.index.result.now c.self.view_is c.self.invariant c.place_of.ensures.place (named_of c.args.self.now c.args.who (open_of c.args.self.now c.args.who c.args.k c.requires.k)) c.index.ensures c.in-Some.is in
    c.frame.ensures ∙ ap (λ k. slice_index_or (inbox_frames c.args.mem.now c.in-Some.inbox) k []) c.from.ensures ∙ sym (ap (λ x. slice_index_or (frames_at c.args.mem.now x) c.args.k []) open'.was)
