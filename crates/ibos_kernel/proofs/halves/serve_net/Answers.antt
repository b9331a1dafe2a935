use Rattle.std.proofs.Common.{List, sym, ◌∙◌, ap}
use Rattle.ibos_kinds.specs.declared.outcome.Head.TheVariants.{Denied}
use Rattle.ibos_kinds.specs.declared.outcome.Item.{Item}
use Rattle.ibos_page.specs.Tabs.{admitted_by}
use Rattle.ibos_route.specs.Parties.{admission_of}
use Rattle.ibos_model.specs.Journal.{Journal}
use Rattle.ibos_model.specs.Logs.{Loses}
use Rattle.ibos_model.specs.Network.{network, next_frame}
use Rattle.ibos_model.specs.Outcomes.{out}
use Rattle.ibos_kernel.specs.Tables.{Parts}
use Rattle.ibos_kernel.specs.Standing.{Agrees}
use Rattle.ibos_kernel.specs.Halves.{HalvesStand}
use Rattle.ibos_kernel.proofs.NetActs.{breaks_if, denied_goes, denied_log, free_if, on_err, serve_goes, serve_log, serve_loses}
use Rattle.ibos_kernel.proofs.halves.serve_net.Goals as goal

pub returns-in-Err-clause-goes : goal.returns-in-Err-clause-goes
returns-in-Err-clause-goes g c = λ J stand agrees.
    let broken = ap (λ (p : Parts). admitted_by (admission_of p.tabs c.args.act.now)) (sym c.pages.view_is) ∙ sym c.admit.ensures ∙ c.in-Err.is in
    denied_goes c.denials_change_nothing.ensures J c.args.pages.now c.args.net.now c.args.act.now (record { head = Denied c.in-Err.rule; items = c.args.out.now.items }) c.in-Err.rule
    (g.N.Nic.regs c.args.nic.now) (g.N.Nic.log c.args.nic.now) c.requires.net (breaks_if _ c.in-Err.rule broken)
    (ap (λ (items : List Item). record { head = Denied c.in-Err.rule; items = items }) c.requires.items) stand agrees

pub returns-in_err-serve-clause-loses : goal.returns-in_err-serve-clause-loses
returns-in_err-serve-clause-loses g c =
    let free = free_if (admission_of c.args.pages.now.tabs c.args.act.now) c.in_default.field-0 (ap (λ (p : Parts). admitted_by (admission_of p.tabs c.args.act.now)) (sym c.pages.view_is) ∙ sym c.admit.ensures ∙ c.in_default.is) in
    let local = c.local.ensures ∙ ap (λ (p : Parts). p.hosts.local) c.pages.view_is in
    let lost : (J : Journal) → HalvesStand J c.args.pages.now c.args.net.now → Agrees c.args.pages.now.hosts J (g.N.Nic.regs c.args.nic.now) (g.N.Nic.log c.args.nic.now)
    → Loses (out c.args.pages.now.hosts J c.args.act.now) c.args.act.now (next_frame (network J)) (g.N.Nic.log c.args.nic.now) (g.N.Nic.log c.serve.new.nic)
    = λ J stand agrees. serve_loses J c.args.pages.now c.args.net.now c.args.act.now (g.N.Nic.regs c.args.nic.now) (g.N.Nic.log c.args.nic.now) (g.N.Nic.log c.serve.new.nic)
    c.local.result local c.requires.net free stand agrees c.in_err-serve.ensures.loses in
    on_err c.from_residual.result _ lost

pub returns-clause-goes : goal.returns-clause-goes
returns-clause-goes g c = λ J stand agrees.
    let free = free_if (admission_of c.args.pages.now.tabs c.args.act.now) c.in_default.field-0 (ap (λ (p : Parts). admitted_by (admission_of p.tabs c.args.act.now)) (sym c.pages.view_is) ∙ sym c.admit.ensures ∙ c.in_default.is) in
    let local = c.local.ensures ∙ ap (λ (p : Parts). p.hosts.local) c.pages.view_is in
    serve_goes c.frames_are_sent_in_turn.ensures J c.args.pages.now c.args.net.now c.serve.new.self c.args.act.now c.serve.new.out (g.N.Nic.regs c.args.nic.now) (g.N.Nic.regs c.serve.new.nic) (g.N.Nic.log c.args.nic.now) (g.N.Nic.log c.serve.new.nic)
    c.local.result local c.requires.net free stand agrees c.in_ok-serve.ensures.makes

pub returns-clause-log : goal.returns-clause-log
returns-clause-log g c = λ J stand agrees.
    let free = free_if (admission_of c.args.pages.now.tabs c.args.act.now) c.in_default.field-0 (ap (λ (p : Parts). admitted_by (admission_of p.tabs c.args.act.now)) (sym c.pages.view_is) ∙ sym c.admit.ensures ∙ c.in_default.is) in
    let local = c.local.ensures ∙ ap (λ (p : Parts). p.hosts.local) c.pages.view_is in
    serve_log J c.args.pages.now c.args.net.now c.serve.new.self c.args.act.now c.serve.new.out (g.N.Nic.regs c.args.nic.now) (g.N.Nic.regs c.serve.new.nic) (g.N.Nic.log c.args.nic.now) (g.N.Nic.log c.serve.new.nic)
    c.local.result local free stand agrees c.in_ok-serve.ensures.makes

pub returns-in-Err-clause-log : goal.returns-in-Err-clause-log
returns-in-Err-clause-log g c = λ J stand agrees.
    denied_log (record { head = Denied c.in-Err.rule; items = c.args.out.now.items }) c.in-Err.rule _ _ _ (g.N.Nic.log c.args.nic.now)
    (ap (λ (items : List Item). record { head = Denied c.in-Err.rule; items = items }) c.requires.items)
