use Rattle.std.proofs.Common.{◌≡◌, List, ℕ, ◌++◌, ◌∙◌, ap, subst, sym}
use Rattle.std.specs.Prelude.{IfSome}
use Rattle.ibos_run.specs.Captured.{IsHeld, frames_left}
use Rattle.ibos_run.specs.Faults.{ending, status_for}
use Rattle.ibos_run.specs.Inputs.{Input, Session, last_line, script_with}
use Rattle.ibos_run.specs.Readings.{reading_of, script_in}
use Rattle.ibos_run.specs.Script.{refusal_of}
use Rattle.ibos_run.specs.Session.{IsBroken, IsTold}
use Rattle.ibos_run.proofs.Ends.{stopped_broken, told, unhanded, with_last, without_last}
use Rattle.ibos_run.proofs.Scripts.{script_if}
use Rattle.ibos_run.proofs.Taken.{on_err}
use Rattle.ibos_run.proofs.session.run_script.Goals as goal

pub returns-in_err-end-clause-broken : goal.returns-in_err-end-clause-broken
returns-in_err-end-clause-broken g c =
    let Q : Input → Type 0 = λ i. IsBroken i (g.K.Sink.taken c.args.sink.now) (g.K.Sink.taken c.make_acts.new.sink) c.make_acts.new.text (g.N.Nic.log c.make_acts.new.nic) in
    let broken : (captured : List ℕ) → IsHeld (g.C.Cabinet.holds c.args.cabinet.now) captured c.args.capture.now → IfSome (script_with c.args.kernel.now.hosts (frames_left captured c.args.capture.now) (g.C.Cabinet.holds c.args.cabinet.now c.args.name.now)) Q = λ captured held. (script_if c.args.kernel.now.hosts (frames_left captured c.args.capture.now) _ _ Q
    (c.in_err-end.ensures.stopped captured held) (λ file stopped. stopped_broken _ _ _ _ _ _ stopped)) in
    on_err _ _ broken

pub returns-in_err-status-clause-broken : goal.returns-in_err-status-clause-broken
returns-in_err-status-clause-broken g c =
    let Q : Input → Type 0 = λ i. IsBroken i (g.K.Sink.taken c.args.sink.now) (g.K.Sink.taken c.make_acts.new.sink) c.push_last.new.text (g.N.Nic.log c.make_acts.new.nic) in
    let broken : (captured : List ℕ) → IsHeld (g.C.Cabinet.holds c.args.cabinet.now) captured c.args.capture.now → IfSome (script_with c.args.kernel.now.hosts (frames_left captured c.args.capture.now) (g.C.Cabinet.holds c.args.cabinet.now c.args.name.now)) Q = λ captured held. (script_if c.args.kernel.now.hosts (frames_left captured c.args.capture.now) _ _ Q
    (c.in_ok-end.ensures.over captured held) (λ file over. without_last c.args.kernel.now.hosts _ _ _ _ _ _ _ over.served c.in_err-status.ensures.err)) in
    on_err _ _ broken

pub returns-in_err-hand_over-clause-broken : goal.returns-in_err-hand_over-clause-broken
returns-in_err-hand_over-clause-broken g c =
    let Q : Input → Type 0 = λ i. IsBroken i (g.K.Sink.taken c.args.sink.now) (g.K.Sink.taken c.hand_over.new.sink) c.hand_over.new.text (g.N.Nic.log c.make_acts.new.nic) in
    let broken : (captured : List ℕ) → IsHeld (g.C.Cabinet.holds c.args.cabinet.now) captured c.args.capture.now → IfSome (script_with c.args.kernel.now.hosts (frames_left captured c.args.capture.now) (g.C.Cabinet.holds c.args.cabinet.now c.args.name.now)) Q = λ captured held. (script_if c.args.kernel.now.hosts (frames_left captured c.args.capture.now) _ _ Q (c.in_ok-end.ensures.over captured held)
    (λ file over.
    let P : List ℕ → Type 0 = λ t. IsBroken (Session c.args.kernel.now.hosts (reading_of (frames_left captured c.args.capture.now) (script_in file))) (g.K.Sink.taken c.args.sink.now) (g.K.Sink.taken c.hand_over.new.sink) t (g.N.Nic.log c.make_acts.new.nic) in
    subst P (sym c.in_err-hand_over.ensures.empty) (unhanded _ _ _ _ _ _ _ _ _ _ over.served (with_last _ _ _ _ _ _ _ _ _ _ over (c.in_ok-status.ensures.ok ∙ ap (λ n. c.make_acts.new.text ++ last_line n (refusal_of c.in_ok-end.end)) c.acts.ensures)) c.in_err-hand_over.ensures.front))) in
    on_err _ _ broken

pub returns-clause-told : goal.returns-clause-told
returns-clause-told g c =
    let Q : Input → Type 0 = λ i. IsTold i (g.K.Sink.taken c.args.sink.now) (g.K.Sink.taken c.hand_over.new.sink) (g.N.Nic.regs c.make_acts.new.nic) (g.N.Nic.log c.make_acts.new.nic) in
    λ captured held. script_if c.args.kernel.now.hosts (frames_left captured c.args.capture.now) _ _ Q (c.in_ok-end.ensures.over captured held)
    (λ file over. told _ _ _ _ _ _ _ _ _ over.served (with_last _ _ _ _ _ _ _ _ _ _ over (c.in_ok-status.ensures.ok ∙ ap (λ n. c.make_acts.new.text ++ last_line n (refusal_of c.in_ok-end.end)) c.acts.ensures)) c.in_ok-hand_over.ensures.all)

pub returns-clause-status : goal.returns-clause-status
returns-clause-status g c =
    let Q : Input → Type 0 = λ i. c.in_ok-status.status ≡ status_for i in
    λ captured held. script_if c.args.kernel.now.hosts (frames_left captured c.args.capture.now) _ _ Q (c.in_ok-end.ensures.over captured held)
    (λ file over. c.in_ok-status.ensures.status ∙ ap ending over.refuses)
