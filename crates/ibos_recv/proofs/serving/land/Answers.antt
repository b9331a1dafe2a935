use Rattle.std.proofs.Common.{◌<◌, sym, ◌∙◌, arith}
use Rattle.std.proofs.lemmas.Result.{err_from_is_err_and}
use Rattle.ibos_flow.specs.Flows.{bound_by}
use Rattle.ibos_recv.proofs.Landings.{landing-broken, landing-full, landing-lost, landing-own}
use Rattle.ibos_recv.proofs.Words.{unread_of}
use Rattle.ibos_recv.proofs.serving.land.Goals as goal

pub returns-in_err-heading-clause-answer : goal.returns-in_err-heading-clause-answer
returns-in_err-heading-clause-answer c =
    let p = err_from_is_err_and c.from_residual.result c.from_residual.ensures.1 in
    rw (p.1, p.2) (landing-broken (bound_by c.args.flows.now) (unread_of c.args.inboxes.now) c.args.local.now c.args.frame.now c.in_err-heading.field-0.0 c.in_err-heading.ensures)

pub returns-in_err-who-clause-answer : goal.returns-in_err-who-clause-answer
returns-in_err-who-clause-answer c =
    let p = err_from_is_err_and c.from_residual-in_err-who.result c.from_residual-in_err-who.ensures.1 in
    rw (p.1, p.2) (landing-lost (bound_by c.args.flows.now) (unread_of c.args.inboxes.now) c.args.local.now c.args.frame.now c.in_ok-heading.heading c.in_err-who.field-0.0 c.in_ok-heading.ensures c.in_err-who.ensures)

pub returns-then-from-eq-BUFFERS-clause-answer : goal.returns-then-from-eq-BUFFERS-clause-answer
returns-then-from-eq-BUFFERS-clause-answer c =
    landing-full (bound_by c.args.flows.now) (unread_of c.args.inboxes.now) c.args.local.now c.args.frame.now c.in_ok-heading.heading (c.in_ok-who.who, c.in_ok-who.flow) c.in_ok-heading.ensures c.in_ok-who.ensures
    (sym c.unread.ensures.unread ∙ sym c.from.ensures ∙ c.if-from-eq-BUFFERS.true)

pub returns-clause-answer : goal.returns-clause-answer
returns-clause-answer c =
    let few : unread_of c.args.inboxes.now c.in_ok-who.who < 16 = omega (arith, c.unread.ensures.unread, c.unread.ensures.most, c.from.ensures, c.if-from-eq-BUFFERS.false) in
    landing-own (bound_by c.args.flows.now) (unread_of c.args.inboxes.now) c.args.local.now c.args.frame.now c.in_ok-heading.heading (c.in_ok-who.who, c.in_ok-who.flow) c.in_ok-heading.ensures c.in_ok-who.ensures few
