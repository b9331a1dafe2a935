use Rattle.std.proofs.Common.{refl, ap, ◌∙◌}
use Rattle.ibos_net.proofs.Words.{Bind, Denied, Fine, FlowIs, Item, NetState, [], ◌∷◌, ◌++◌, ◌≡◌}
use Rattle.ibos_net.proofs.FlowsMade.{bind-refused, bound-serves, on-ok, with_table}
use Rattle.ibos_net.proofs.Outcomes.{outcome-of, served-now}
use Rattle.ibos_net.proofs.parts.Parts.bind.Goals as goal
use Rattle.ibos_net.proofs.parts.Parts.bind.Goals.{in-Ok+in_ok-push-in-Ok, in-Err}

pub returns-clause-serves : goal.returns-clause-serves
returns-clause-serves c = on-ok c.match-bind.result (λ local regs log.
    let p = c.self.inside in
    let t : NetState = record { med = p.med; mem = p.mem; names = p.pool; flows = p.flows; inboxes = p.inboxes; sends = p.sends } in
    let act = Bind c.args.who c.args.proto in
    let t' : NetState = with_table c.bind.new.self t in
    elim c.match-bind.branch [
      | in-Ok+in_ok-push-in-Ok w ↦
          let item : Item = FlowIs c.args.who w.in-Ok.flow w.local_port-port.result c.remote-remote.result in
          let port = ap (λ k. record { head = Fine; items = FlowIs c.args.who w.in-Ok.flow k c.remote-remote.result ∷ [] }) w.local_port-port.ensures in
          let out = outcome-of w.push.new.self Fine (item ∷ []) (w.push.ensures.head ∙ c.requires.head) (w.in_ok-push-in-Ok.ensures.ok ∙ ap (λ xs. xs ++ item ∷ []) c.requires.items) in
          served-now local act _ c.match-bind.out t c.args.self.now t' t' regs regs log log (w.out-is ∙ out ∙ port) c.self.view_is refl
          (λ life remote n s each alive. bound-serves local life remote n t c.bind.new.self regs log c.args.who c.args.proto w.in-Ok.flow c.remote-remote.result c.bind.result s each alive w.in-Ok.is c.bind.ensures.answer c.remote-remote.ensures w.in-Ok.ensures.own c.bind.ensures.others)
      | in-Err w ↦
          let same : c.bind.new.self ≡ p.flows = w.in-Err.ensures.err in
          served-now local act _ c.match-bind.out t c.args.self.now t' t' regs regs log log (w.out-is ∙ outcome-of _ (Denied w.in-Err.rule) [] refl c.requires.items) c.self.view_is refl
          (rw same (λ life remote n s each alive. bind-refused local life remote n t regs log c.args.who c.args.proto w.in-Err.rule c.bind.result s each alive w.in-Err.is c.bind.ensures.answer))
    ])
