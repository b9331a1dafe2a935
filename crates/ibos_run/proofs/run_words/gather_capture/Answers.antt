use Rattle.std.proofs.Common.{rules, ◌≡◌, ℕ, List, [], ◌∷◌, Some, None, Err, ◌∙◌, ap, sym}
use Rattle.std.specs.Prelude.{IfErr}
use Rattle.std.specs.Option.{option_copied}
use Rattle.ibos_kinds.specs.Outside.{Rose}
use Rattle.ibos_run.specs.Faults.{IsCaused, status_for}
use Rattle.ibos_run.specs.Inputs.{Input}
use Rattle.ibos_run.specs.Session.{IsBroken, IsTold}
use Rattle.ibos_run.specs.declared.fault.Status.{Status}
use Rattle.ibos_run.proofs.Captures.{fault_told}
use Rattle.ibos_run.proofs.Causes.{if_caused, of_any, of_capture, rose_since}
use Rattle.ibos_run.proofs.Ends.{capture_broken, capture_told, untouched_if}
use Rattle.ibos_run.proofs.Files.{frames_told, left_ok, left_on_err, left_on_ok, name_told, none_ok, none_on_err, none_on_ok, with_fault}
use Rattle.ibos_run.proofs.Taken.{on_err}
use Rattle.ibos_run.proofs.run_words.gather_capture.Goals as goal

pub returns-in_default-clause-cause : goal.returns-in_default-clause-cause
returns-in_default-clause-cause g c =
    let Q : List ℕ → Type 0 = λ name. Rose (g.C.Cabinet.faults c.args.cabinet.now name) (g.C.Cabinet.faults c.run_session.new.cabinet name) in
    if_caused c.run_session.result _ _ _ _ (λ any. of_any Q Q None (option_copied c.args.capture) (c.args.script.now ∷ []) (sym (ap option_copied c.in_default.is)) (λ name rose. rose) any) (λ rose. rose) c.run_session.ensures.cause

pub returns-in_default-clause-status : goal.returns-in_default-clause-status
returns-in_default-clause-status g c =
    let Q : Status → Input → Type 0 = λ status i. status ≡ status_for i in
    none_ok _ _ _ _ _ Q (ap option_copied c.in_default.is) c.run_session.ensures.status

pub returns-in_default-clause-told : goal.returns-in_default-clause-told
returns-in_default-clause-told g c =
    let Q : Input → Type 0 = λ i. IsTold i (g.K.Sink.taken c.args.sink.now) (g.K.Sink.taken c.run_session.new.sink) (g.N.Nic.regs c.run_session.new.nic) (g.N.Nic.log c.run_session.new.nic) in
    none_on_ok _ _ _ _ _ Q (ap option_copied c.in_default.is) c.run_session.ensures.told

pub returns-in_default-clause-broken : goal.returns-in_default-clause-broken
returns-in_default-clause-broken g c =
    let Q : Input → Type 0 = λ i. IsBroken i (g.K.Sink.taken c.args.sink.now) (g.K.Sink.taken c.run_session.new.sink) c.run_session.new.text (g.N.Nic.log c.run_session.new.nic) in
    none_on_err _ _ _ _ _ Q (ap option_copied c.in_default.is) c.run_session.ensures.broken

pub returns-in_err-capture-clause-broken : goal.returns-in_err-capture-clause-broken
returns-in_err-capture-clause-broken g c = on_err _ _ (untouched_if _ _ _ _ c.requires.empty c.requires.reset.log)

pub returns-in_err-capture-clause-cause : goal.returns-in_err-capture-clause-cause
returns-in_err-capture-clause-cause g c =
    let Q : List ℕ → Type 0 = λ name. Rose (g.C.Cabinet.faults c.args.cabinet.now name) (g.C.Cabinet.faults c.read.new.cabinet name) in
    let cause : IfErr c.from_residual.result (λ fault. IsCaused fault (Q c.in-Some.name.now) ⊥) = Prim.search rules in
    if_caused c.from_residual.result _ _ _ _ (λ rose. of_capture Q (option_copied c.args.capture) c.in-Some.name.now c.args.script.now (ap option_copied c.in-Some.is) rose) (λ none. absurd none) cause

pub returns-in-Ok-clause-cause : goal.returns-in-Ok-clause-cause
returns-in-Ok-clause-cause g c =
    let P : List ℕ → Type 0 = λ name. Rose (g.C.Cabinet.faults c.read.new.cabinet name) (g.C.Cabinet.faults c.run_session-in-Ok.new.cabinet name) in
    let Q : List ℕ → Type 0 = λ name. Rose (g.C.Cabinet.faults c.args.cabinet.now name) (g.C.Cabinet.faults c.run_session-in-Ok.new.cabinet name) in
    let name : c.in-Ok.capture.name ≡ c.in-Some.name.now = name_told _ c.in-Ok.capture _ c.in-Ok.is c.in_ok-capture.ensures.name in
    if_caused c.run_session-in-Ok.result _ _ _ _
    (λ any. of_any P Q (Some c.in-Ok.capture.name) (option_copied c.args.capture) (c.args.script.now ∷ []) (ap Some name ∙ sym (ap option_copied c.in-Some.is))
    (λ n rose. rose_since _ _ _ (c.in_ok-capture.ensures.later n) rose) any)
    (λ rose. rose) c.run_session-in-Ok.ensures.cause

pub returns-in-Ok-clause-status : goal.returns-in-Ok-clause-status
returns-in-Ok-clause-status g c =
    let Q : Status → Input → Type 0 = λ status i. status ≡ status_for i in
    left_ok _ _ _ _ _ c.in-Some.name.now c.args.script.now c.in-Ok.capture Q (ap option_copied c.in-Some.is) (name_told _ c.in-Ok.capture _ c.in-Ok.is c.in_ok-capture.ensures.name) c.in_ok-capture.ensures.holds
    (frames_told _ _ c.in-Ok.capture c.in-Ok.is c.in_ok-capture.ensures.read) c.run_session-in-Ok.ensures.status

pub returns-in-Ok-clause-told : goal.returns-in-Ok-clause-told
returns-in-Ok-clause-told g c =
    let Q : Input → Type 0 = λ i. IsTold i (g.K.Sink.taken c.args.sink.now) (g.K.Sink.taken c.run_session-in-Ok.new.sink) (g.N.Nic.regs c.run_session-in-Ok.new.nic) (g.N.Nic.log c.run_session-in-Ok.new.nic) in
    left_on_ok _ _ _ _ _ c.in-Some.name.now c.args.script.now c.in-Ok.capture Q (ap option_copied c.in-Some.is) (name_told _ c.in-Ok.capture _ c.in-Ok.is c.in_ok-capture.ensures.name) c.in_ok-capture.ensures.holds
    (frames_told _ _ c.in-Ok.capture c.in-Ok.is c.in_ok-capture.ensures.read) c.run_session-in-Ok.ensures.told

pub returns-in-Ok-clause-broken : goal.returns-in-Ok-clause-broken
returns-in-Ok-clause-broken g c =
    let Q : Input → Type 0 = λ i. IsBroken i (g.K.Sink.taken c.args.sink.now) (g.K.Sink.taken c.run_session-in-Ok.new.sink) c.run_session-in-Ok.new.text (g.N.Nic.log c.run_session-in-Ok.new.nic) in
    left_on_err _ _ _ _ _ c.in-Some.name.now c.args.script.now c.in-Ok.capture Q (ap option_copied c.in-Some.is) (name_told _ c.in-Ok.capture _ c.in-Ok.is c.in_ok-capture.ensures.name) c.in_ok-capture.ensures.holds
    (frames_told _ _ c.in-Ok.capture c.in-Ok.is c.in_ok-capture.ensures.read) c.run_session-in-Ok.ensures.broken

pub returns-in_err-status-in-Err-At-clause-broken : goal.returns-in_err-status-in-Err-At-clause-broken
returns-in_err-status-in-Err-At-clause-broken g c =
    let Q : Input → Type 0 = λ i. IsBroken i (g.K.Sink.taken c.args.sink.now) (g.K.Sink.taken c.refuse_capture.new.sink) c.refuse_capture.new.text (g.N.Nic.log c.args.nic.now) in
    on_err _ _ (with_fault _ _ _ _ _ (c.in-Err-At.entry, c.in-Err-At.fault) Q (ap option_copied c.in-Some.is) (fault_told _ _ _ _ (c.in-Err-At.is ∙ ap Err c.in-Err-At.field-0-is) c.in_ok-capture.ensures.read)
    (capture_broken _ _ _ _ _ _ c.requires.reset.log c.in_err-status-in-Err-At.ensures.front))

pub returns-in-Err-At-clause-told : goal.returns-in-Err-At-clause-told
returns-in-Err-At-clause-told g c =
    let Q : Input → Type 0 = λ i. IsTold i (g.K.Sink.taken c.args.sink.now) (g.K.Sink.taken c.refuse_capture.new.sink) (g.N.Nic.regs c.args.nic.now) (g.N.Nic.log c.args.nic.now) in
    with_fault _ _ _ _ _ (c.in-Err-At.entry, c.in-Err-At.fault) Q (ap option_copied c.in-Some.is) (fault_told _ _ _ _ (c.in-Err-At.is ∙ ap Err c.in-Err-At.field-0-is) c.in_ok-capture.ensures.read)
    (capture_told _ _ _ _ _ _ c.requires.reset.log c.in_ok-status-in-Err-At.ensures.text)

pub returns-clause-broken : goal.returns-clause-broken
returns-clause-broken g c = untouched_if _ _ _ _ c.requires.empty c.requires.reset.log
