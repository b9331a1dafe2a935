use Rattle.std.proofs.Common.{refl}
use Rattle.ibos_net.proofs.Words.{Denied, Fine, NetState, Unbind, [], ◌≡◌}
use Rattle.ibos_net.proofs.FlowsMade.{close-refused, closed-serves, with_table}
use Rattle.ibos_net.proofs.Outcomes.{outcome-of, served-now}
use Rattle.ibos_net.proofs.parts.Parts.unbind.Goals as goal

pub returns-in-Err-clause-serves : goal.returns-in-Err-clause-serves
returns-in-Err-clause-serves c = λ local regs log.
    let p = c.self.inside in
    let t : NetState = record { med = p.med; mem = p.mem; names = p.pool; flows = p.flows; inboxes = p.inboxes; sends = p.sends } in
    let same : c.close.new.self ≡ p.flows = c.in-Err.ensures.err in
    served-now local (Unbind c.args.who c.args.flow) _ _ t _ (with_table c.close.new.self t) _ regs regs log log (outcome-of _ (Denied c.in-Err.rule) [] refl c.requires.items) c.self.view_is refl
    (rw same (λ life remote n s each alive. close-refused local life remote n t regs log c.args.who c.args.flow c.in-Err.rule c.close.result s each alive c.in-Err.is c.close.ensures.answer))

pub returns-clause-serves : goal.returns-clause-serves
returns-clause-serves c = λ local regs log.
    let p = c.self.inside in
    let t : NetState = record { med = p.med; mem = p.mem; names = p.pool; flows = p.flows; inboxes = p.inboxes; sends = p.sends } in
    served-now local (Unbind c.args.who c.args.flow) _ _ t _ (with_table c.close.new.self t) _ regs regs log log (outcome-of c.args.out.now Fine [] c.requires.head c.requires.items) c.self.view_is refl
    (λ life remote n s each alive. closed-serves local life remote n t c.close.new.self regs log c.args.who c.args.flow c.close.result s each alive c.in-Ok.is c.close.ensures.answer c.in-Ok.ensures.own c.close.ensures.others)
