use Rattle.std.proofs.Common.{refl, ap, ◌∙◌}
use Rattle.ibos_net.proofs.Words.{Denied, Fine, Item, NetState, RegRead, ValueIs, [], ◌∷◌, ◌++◌, ◌≡◌}
use Rattle.ibos_net.proofs.FlowsMade.{read-refused, read-serves}
use Rattle.ibos_net.proofs.RegisterWritten.{with_med}
use Rattle.ibos_net.proofs.Outcomes.{outcome-of, served, served-now}
use Rattle.ibos_net.proofs.parts.Parts.read.Goals as goal
use Rattle.ibos_net.proofs.parts.Parts.read.Goals.{in-Ok+in_ok-push-in-Ok, in-Err}

pub returns-clause-serves : goal.returns-clause-serves
returns-clause-serves g c = λ local.
    let p = c.self.inside in
    let t : NetState = record { med = p.med; mem = p.mem; names = p.pool; flows = p.flows; inboxes = p.inboxes; sends = p.sends } in
    let t' : NetState = with_med c.read.new.self t in
    let act = RegRead c.args.offset in
    let regs = g.N.Nic.regs c.args.nic.now in
    let regs' = g.N.Nic.regs c.read.new.nic in
    let log = g.N.Nic.log c.args.nic.now in
    let log' = g.N.Nic.log c.read.new.nic in
    let same : c.read.new.self ≡ p.med = c.read.ensures.same in
    elim c.match-read.branch [
      | in-Ok+in_ok-push-in-Ok w ↦
          let item : Item = ValueIs w.in-Ok.value in
          let out = outcome-of w.push.new.self Fine (item ∷ []) (w.push.ensures.head ∙ c.requires.head) (w.in_ok-push-in-Ok.ensures.ok ∙ ap (λ xs. xs ++ item ∷ []) c.requires.items) in
          let told = w.in-Ok.ensures in
          served local act _ c.match-read.out t c.args.self.now t' t' regs regs' log log' (w.out-is ∙ out) c.self.view_is refl c.read.ensures.log
          (rw same (λ life remote n s each lives. read-serves local life remote n t regs regs' log c.args.offset w.in-Ok.value s each told.ok told.value told.registers))
      | in-Err w ↦
          let told = w.in-Err.ensures in
          let device : c.read.new.nic ≡ c.args.nic.now = told.same_device in
          served-now local act _ c.match-read.out t c.args.self.now t' t' regs regs' log log' (w.out-is ∙ outcome-of _ (Denied w.in-Err.rule) [] refl c.requires.items) c.self.view_is refl
          (rw (device, same) (λ life remote n s each lives. read-refused local life remote n t regs log c.args.offset w.in-Err.rule s each told.err))
    ]
