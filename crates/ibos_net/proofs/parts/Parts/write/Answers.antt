use Rattle.std.proofs.Common.{refl, sym, subst}
use Rattle.ibos_net.proofs.Words.{Fine, IsSafe, NetState, Denied, Serves, denied, ◌≡◌, RegWrite, [], reg_at}
use Rattle.ibos_net.proofs.Outcomes.{outcome-of, served, served-now}
use Rattle.ibos_net.proofs.RegisterWritten.{left-written, refused-serves, with_med, written-safe, written-serves}
use Rattle.ibos_net.proofs.parts.Parts.write.Goals as goal

pub returns-in-Err-clause-serves : goal.returns-in-Err-clause-serves
returns-in-Err-clause-serves g c = λ local.
    let p = c.self.inside in
    let t : NetState = record { med = p.med; mem = p.mem; names = p.pool; flows = p.flows; inboxes = p.inboxes; sends = p.sends } in
    let told = c.in-Err.ensures in
    let device : c.write.new.nic ≡ c.args.nic.now = told.same_device in
    let P : NetState → Type 0 = λ x. Serves local (RegWrite c.args.offset c.args.value) (denied c.in-Err.rule) t x (g.N.Nic.regs c.args.nic.now) (g.N.Nic.regs c.args.nic.now) (g.N.Nic.log c.args.nic.now) (g.N.Nic.log c.args.nic.now) in
    served-now local (RegWrite c.args.offset c.args.value) _ _ t _ (with_med c.write.new.self t) _ (g.N.Nic.regs c.args.nic.now) (g.N.Nic.regs c.write.new.nic) (g.N.Nic.log c.args.nic.now) (g.N.Nic.log c.write.new.nic) (outcome-of _ (Denied c.in-Err.rule) [] refl c.requires.items) c.self.view_is refl
    (rw (device, told.same) (λ life remote n s each lives. refused-serves local life remote n t (g.N.Nic.regs c.args.nic.now) (g.N.Nic.log c.args.nic.now) c.args.offset c.args.value c.in-Err.rule s each told.err))

pub returns-clause-serves : goal.returns-clause-serves
returns-clause-serves g c = λ local.
    let p = c.self.inside in
    let t : NetState = record { med = p.med; mem = p.mem; names = p.pool; flows = p.flows; inboxes = p.inboxes; sends = p.sends } in
    let safe = subst IsSafe (sym c.self.view_is) c.requires.safe in
    let done = c.in-Ok.ensures in
    served local (RegWrite c.args.offset c.args.value) _ _ t _ (with_med c.write.new.self t) _ (g.N.Nic.regs c.args.nic.now) (g.N.Nic.regs c.write.new.nic) (g.N.Nic.log c.args.nic.now) _ (outcome-of c.args.out.now Fine [] c.requires.head c.requires.items) c.self.view_is refl done.log
    (λ life remote n s each lives. written-serves local life remote n t c.write.new.self _ _ _ c.args.offset c.args.value safe s each done.ok done.written done.registers done.memory done.device
    (left-written c.args.offset c.args.value (reg_at c.args.offset) t.med c.write.new.self t.mem t.sends (λ mm x reg v. c.other_changes_keep_the_frames.ensures.written_unsent mm x reg v) done.ok done.written))

pub returns-clause-safe : goal.returns-clause-safe
returns-clause-safe g c =
    let p = c.self.inside in
    let t : NetState = record { med = p.med; mem = p.mem; names = p.pool; flows = p.flows; inboxes = p.inboxes; sends = p.sends } in
    let safe : IsSafe t = subst IsSafe (sym c.self.view_is) c.requires.safe in
    let done = c.in-Ok.ensures in
    written-safe t c.write.new.self safe done.memory (λ ring. done.owned t.names ring (safe.owned ring)) (done.unheld t.names [] safe.unheld)
    (left-written c.args.offset c.args.value (reg_at c.args.offset) t.med c.write.new.self t.mem t.sends (λ mm x reg v. c.other_changes_keep_the_frames.ensures.written_unsent mm x reg v) done.ok done.written)
