use Rattle.std.proofs.Common.{List, ℕ}
use Rattle.std.specs.Prelude.{IfSome}
use Rattle.ibos_run.specs.Captured.{IsHeld, frames_left}
use Rattle.ibos_run.specs.Inputs.{script_with}
use Rattle.ibos_run.specs.Session.{IsBroken}
use Rattle.ibos_run.proofs.Ends.{untouched_if}
use Rattle.ibos_run.proofs.Taken.{on_err}
use Rattle.ibos_run.proofs.session.run_session.Goals as goal

pub returns-in_err-kernel-clause-broken : goal.returns-in_err-kernel-clause-broken
returns-in_err-kernel-clause-broken g c =
    let broken : (captured : List ℕ) → IsHeld (g.C.Cabinet.holds c.args.cabinet.now) captured c.args.capture.now
    → IfSome (script_with c.args.hosts (frames_left captured c.args.capture.now) (g.C.Cabinet.holds c.args.cabinet.now c.args.name.now))
    (λ i. IsBroken i (g.K.Sink.taken c.args.sink.now) (g.K.Sink.taken c.args.sink.now) c.args.text.now (g.N.Nic.log c.new.new.nic))
    = λ captured held. untouched_if _ _ _ _ c.requires.empty c.in_err-kernel.ensures.log in
    on_err _ _ broken
