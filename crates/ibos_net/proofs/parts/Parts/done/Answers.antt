use Rattle.std.proofs.Common.{refl, sym, subst}
use Rattle.ibos_net.proofs.Words.{Denied, Done, Fine, NetState, None, [], bound_by, ◌≡◌, ◌≢◌}
use Rattle.ibos_net.proofs.FlowsMade.{done-refused, done-serves, with_inboxes}
use Rattle.ibos_net.proofs.Outcomes.{outcome-of, served-now}
use Rattle.ibos_net.proofs.parts.Parts.done.Goals as goal

pub returns-in-Err-clause-serves : goal.returns-in-Err-clause-serves
returns-in-Err-clause-serves c = λ local regs log.
    let p = c.self.inside in
    let t : NetState = record { med = p.med; mem = p.mem; names = p.pool; flows = p.flows; inboxes = p.inboxes; sends = p.sends } in
    let same : c.done.new.self ≡ p.inboxes = c.in-Err.ensures.err in
    served-now local (Done c.args.who) _ _ t _ (with_inboxes c.done.new.self t) _ regs regs log log (outcome-of _ (Denied c.in-Err.rule) [] refl c.requires.items) c.self.view_is refl
    (rw same (λ life remote n s each alive. done-refused local life remote n t regs log c.args.who c.in-Err.rule c.done.result s each alive c.in-Err.is c.done.ensures.answer (c.inboxes_keep_their_frames.ensures.count t.mem t.inboxes c.args.who)))

pub returns-clause-serves : goal.returns-clause-serves
returns-clause-serves c = λ local regs log.
    let p = c.self.inside in
    let t : NetState = record { med = p.med; mem = p.mem; names = p.pool; flows = p.flows; inboxes = p.inboxes; sends = p.sends } in
    let there : bound_by t.flows c.args.who ≢ None = subst (λ (x : NetState). bound_by x.flows c.args.who ≢ None) (sym c.self.view_is) c.requires.open in
    served-now local (Done c.args.who) _ _ t _ (with_inboxes c.done.new.self t) _ regs regs log log (outcome-of c.args.out.now Fine [] c.requires.head c.requires.items) c.self.view_is refl
    (λ life remote n s each alive. done-serves local life remote n t c.done.new.self regs log c.args.who c.done.result s each alive there c.in-Ok.is c.done.ensures.answer (c.inboxes_keep_their_frames.ensures.count t.mem t.inboxes c.args.who)
    (c.done.ensures.frames t.mem) c.done.ensures.others)
