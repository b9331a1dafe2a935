use Rattle.std.proofs.Common.{◌≤◌, Some, None, sym, ◌∙◌, ap, subst}
use Rattle.ibos_recv.proofs.OpenPlaces.{opened}
use Rattle.ibos_recv.proofs.TablePlaces.{named_of}
use Rattle.ibos_recv.proofs.Words.{unread_at}
use Rattle.ibos_recv.proofs.inboxes.Inboxes.unread.Goals as goal

pub place_of-requires : goal.place_of-requires
place_of-requires c = named_of c.args.self.now c.args.who c.requires

pub unreachable-requires : goal.unreachable-requires
unreachable-requires c =
    let open' = opened c.self.inside.places.items c.args.self.now c.args.who c.place_of.result None c.index.result.now c.self.view_is c.self.invariant c.place_of.ensures.place (named_of c.args.self.now c.args.who c.requires) c.index.ensures c.in-None.is in
    c.requires open'.was

pub returns-clause-unread : goal.returns-clause-unread
returns-clause-unread c =
    let open' = opened c.self.inside.places.items c.args.self.now c.args.who c.place_of.result (Some c.in-Some.inbox) c.index.result.now c.self.view_is c.self.invariant c.place_of.ensures.place (named_of c.args.self.now c.args.who c.requires) c.index.ensures c.in-Some.is in
    c.unread.ensures.unread ∙ sym (ap (λ x. unread_at x) open'.was)

pub returns-clause-most : goal.returns-clause-most
returns-clause-most c =
    let open' = opened c.self.inside.places.items c.args.self.now c.args.who c.place_of.result (Some c.in-Some.inbox) c.index.result.now c.self.view_is c.self.invariant c.place_of.ensures.place (named_of c.args.self.now c.args.who c.requires) c.index.ensures c.in-Some.is in
    subst (λ x. unread_at x ≤ 16) (sym open'.was) c.unread.ensures.most
