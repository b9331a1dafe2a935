use Rattle.std.proofs.Common.{◌≡◌, ◌+◌, arith, length, refl, subst}
use Rattle.ibos_kinds.specs.declared.outcome.Outcome.{Outcome}
use Rattle.ibos_outcome.specs.Printed.{IsCutShort, outcome_text}
use Rattle.ibos_model.specs.Journal.{Journal}
use Rattle.ibos_model.specs.Outcomes.{out}
use Rattle.ibos_kernel.specs.Standing.{Agrees, Stands}
use Rattle.ibos_run.specs.Session.{IsCut}
use Rattle.ibos_run.proofs.Sessions.{made_loses}
use Rattle.ibos_run.proofs.Taken.{front_cut_short, front_kept, on_err}
use Rattle.ibos_run.proofs.script.make_act.Goals as goal

pub returns-in_err-step-clause-cut : goal.returns-in_err-step-clause-cut
returns-in_err-step-clause-cut g c =
    let cut : (J : Journal) → Stands J c.args.kernel.now → Agrees c.args.kernel.now.hosts J (g.N.Nic.regs c.args.nic.now) (g.N.Nic.log c.args.nic.now)
    → IsCut c.args.kernel.now.hosts J c.args.act.now (g.K.Sink.taken c.args.sink.now) (g.K.Sink.taken c.args.sink.now) c.args.text.now c.args.text.now (g.N.Nic.log c.args.nic.now) (g.N.Nic.log c.step.new.nic)
    = λ J stands agrees. record { loses = c.in_err-step.ensures.loses J stands agrees; text = front_kept _ _ _ _ refl } in
    on_err _ _ cut

pub returns-in_err-write_outcome-clause-cut : goal.returns-in_err-write_outcome-clause-cut
returns-in_err-write_outcome-clause-cut g c =
    let cut : (J : Journal) → Stands J c.args.kernel.now → Agrees c.args.kernel.now.hosts J (g.N.Nic.regs c.args.nic.now) (g.N.Nic.log c.args.nic.now)
    → IsCut c.args.kernel.now.hosts J c.args.act.now (g.K.Sink.taken c.args.sink.now) (g.K.Sink.taken c.args.sink.now) c.args.text.now c.write_outcome.new.text (g.N.Nic.log c.args.nic.now) (g.N.Nic.log c.step.new.nic)
    = λ J stands agrees.
    let is = c.in_ok-step.ensures.outcome J stands agrees in
    let number : c.from.result ≡ length J + 1 = omega (arith, c.from.ensures, c.acts.ensures, c.in_ok-step.ensures.acts, stands.acts) in
    let of_number : IsCutShort c.args.text.now c.write_outcome.new.text (outcome_text (length J + 1) c.step.new.out) =
    subst (λ n. IsCutShort c.args.text.now c.write_outcome.new.text (outcome_text n c.step.new.out)) number c.in_err-write_outcome.ensures.err in
    let short : IsCutShort c.args.text.now c.write_outcome.new.text (outcome_text (length J + 1) (out c.args.kernel.now.hosts J c.args.act.now)) =
    subst (λ (o : Outcome). IsCutShort c.args.text.now c.write_outcome.new.text (outcome_text (length J + 1) o)) is of_number in
    record {
      loses = made_loses c.args.kernel.now.hosts J c.args.act.now _ _ _ _ _ is (c.in_ok-step.ensures.log J stands agrees);
      text = front_cut_short _ _ _ _ short;
    } in
    on_err _ _ cut
