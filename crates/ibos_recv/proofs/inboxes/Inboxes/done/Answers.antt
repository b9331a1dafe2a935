use Rattle.std.proofs.Common.{◌≡◌, ◌≢◌, ◌-◌, ℕ, drop, length, Option, Some, None, List, sym, ◌∙◌, ap, subst, length-drop}
use Rattle.ibos_recv.proofs.OpenPlaces.{opened, same-held}
use Rattle.ibos_recv.proofs.TablePlaces.{named_of}
use Rattle.ibos_recv.proofs.Words.{Inbox, frames_at, unread_at}
use Rattle.ibos_recv.specs.Inboxes.{done_answer}
use Rattle.ibos_recv.proofs.inboxes.Inboxes.done.Goals as goal

pub place_of-requires : goal.place_of-requires
place_of-requires c = named_of c.args.self.now c.args.who c.requires

pub unreachable-requires : goal.unreachable-requires
unreachable-requires c =
    let open' = opened c.self.inside.places.items c.args.self.now c.args.who c.place_of.result None c.index_mut.result.now c.self.view_is c.self.invariant c.place_of.ensures.place (named_of c.args.self.now c.args.who c.requires) c.index_mut.ensures.value c.in-None.is in
    c.requires open'.was

pub returns-clause-answer : goal.returns-clause-answer
returns-clause-answer c =
    let open' = opened c.self.inside.places.items c.args.self.now c.args.who c.place_of.result (Some c.in-Some.inbox) c.index_mut.result.now c.self.view_is c.self.invariant c.place_of.ensures.place (named_of c.args.self.now c.args.who c.requires) c.index_mut.ensures.value c.in-Some.is in
    c.done.ensures.answer ∙ sym (ap (λ x. done_answer (unread_at x)) open'.was)

pub returns-clause-unread : goal.returns-clause-unread
returns-clause-unread c =
    let open' = opened c.self.inside.places.items c.args.self.now c.args.who c.place_of.result (Some c.in-Some.inbox) c.index_mut.result.now c.self.view_is c.self.invariant c.place_of.ensures.place (named_of c.args.self.now c.args.who c.requires) c.index_mut.ensures.value c.in-Some.is in
    let b : Inbox = c.in-Some.inbox in
    let less : length c.done.new.self.lens ≡ length b.lens - 1 = ap (λ (ls : List ℕ). length ls) c.done.ensures.lens ∙ length-drop 1 b.lens in
    ap (λ x. unread_at x) (open'.own (Some c.done.new.self)) ∙ less ∙ sym (ap (λ x. unread_at x - 1) open'.was)

pub returns-clause-frames : goal.returns-clause-frames
returns-clause-frames c mem =
    let open' = opened c.self.inside.places.items c.args.self.now c.args.who c.place_of.result (Some c.in-Some.inbox) c.index_mut.result.now c.self.view_is c.self.invariant c.place_of.ensures.place (named_of c.args.self.now c.args.who c.requires) c.index_mut.ensures.value c.in-Some.is in
    ap (λ x. frames_at mem x) (open'.own (Some c.done.new.self)) ∙ c.done.ensures.frames mem ∙ sym (ap (λ x. drop 1 (frames_at mem x)) open'.was)

pub returns-clause-open : goal.returns-clause-open
returns-clause-open c =
    let open' = opened c.self.inside.places.items c.args.self.now c.args.who c.place_of.result (Some c.in-Some.inbox) c.index_mut.result.now c.self.view_is c.self.invariant c.place_of.ensures.place (named_of c.args.self.now c.args.who c.requires) c.index_mut.ensures.value c.in-Some.is in
    let P : Option Inbox → Type 0 = λ x. x ≢ None in
    subst P (sym (open'.own (Some c.done.new.self))) (λ e. cc)

pub returns-clause-others : goal.returns-clause-others
returns-clause-others c =
    let open' = opened c.self.inside.places.items c.args.self.now c.args.who c.place_of.result (Some c.in-Some.inbox) c.index_mut.result.now c.self.view_is c.self.invariant c.place_of.ensures.place (named_of c.args.self.now c.args.who c.requires) c.index_mut.ensures.value c.in-Some.is in
    open'.others (Some c.done.new.self)

pub returns-clause-held : goal.returns-clause-held
returns-clause-held c =
    let open' = opened c.self.inside.places.items c.args.self.now c.args.who c.place_of.result (Some c.in-Some.inbox) c.index_mut.result.now c.self.view_is c.self.invariant c.place_of.ensures.place (named_of c.args.self.now c.args.who c.requires) c.index_mut.ensures.value c.in-Some.is in
    same-held c.self.inside.places.items c.args.self.now c.args.who c.place_of.result c.in-Some.inbox open' c.done.new.self c.done.ensures.held
