use Rattle.std.proofs.Common.{rules, ◌≡◌, ◌≢◌, ◌∙◌, refl, List, ℕ, Bool, ap, sym, Some, None, Ok, Err, Option, Result, subst, arith}
use Rattle.std.specs.Prelude.{IfOk, OnErr}
use Rattle.ibos_script.specs.declared.fault.LineFault.{LineFault}
use Rattle.ibos_script.specs.declared.fault.LineFault.TheVariants.{Long, Byte, Word, Count, Number, Hex, Memory}
use Rattle.ibos_script.specs.Faults.{GivesInto}
use Rattle.ibos_script.specs.declared.lines.Line.{Line}
use Rattle.ibos_script.specs.Lines.{line_in}
use Rattle.ibos_run.specs.Captured.{IsHeld, frames_left}
use Rattle.ibos_run.specs.Readings.{Reading, reading_by}
use Rattle.ibos_run.specs.Script.{behind_end}
use Rattle.ibos_run.specs.Session.{Serves, Stops}
use Rattle.ibos_run.proofs.Served.{none_serves, none_stops}
use Rattle.ibos_run.proofs.Taken.{on_err}
use Rattle.ibos_run.proofs.script.serve_line.Goals as goal

pub returns-in-Ok-true-clause-served : goal.returns-in-Ok-true-clause-served
returns-in-Ok-true-clause-served g c =
    let G : Result Bool LineFault → Type 0 = λ r. GivesInto r c.read_line_into.new.made (line_in c.args.line.now) in
    let read : line_in c.args.line.now ≡ Ok (Some c.read_line_into.new.made) = subst G (c.in-Ok-true.is ∙ ap Ok c.in-Ok-true.field-0-test) c.read_line_into.ensures.line in
    let P : Result (Option Line) LineFault → Type 0 = λ r. IfOk c.serve_made.result (λ end. (file : List ℕ) → IsHeld (g.C.Cabinet.holds c.args.cabinet.now) file c.args.capture.now → (behind : List (List ℕ) → Reading) → Serves (reading_by c.args.number r (frames_left file c.args.capture.now) behind) (behind_end end (behind (frames_left file c.serve_made.new.capture)))
    (g.K.Sink.taken c.args.sink.now) (g.K.Sink.taken c.serve_made.new.sink) c.args.text.now c.serve_made.new.text c.args.kernel.now c.serve_made.new.kernel
    (g.N.Nic.regs c.args.nic.now) (g.N.Nic.regs c.serve_made.new.nic) (g.N.Nic.log c.args.nic.now) (g.N.Nic.log c.serve_made.new.nic)) in
    subst P (sym read) c.serve_made.ensures.served

pub returns-in-Ok-true-clause-stopped : goal.returns-in-Ok-true-clause-stopped
returns-in-Ok-true-clause-stopped g c =
    let G : Result Bool LineFault → Type 0 = λ r. GivesInto r c.read_line_into.new.made (line_in c.args.line.now) in
    let read : line_in c.args.line.now ≡ Ok (Some c.read_line_into.new.made) = subst G (c.in-Ok-true.is ∙ ap Ok c.in-Ok-true.field-0-test) c.read_line_into.ensures.line in
    let P : Result (Option Line) LineFault → Type 0 = λ r. OnErr c.serve_made.result ((file : List ℕ) → IsHeld (g.C.Cabinet.holds c.args.cabinet.now) file c.args.capture.now → (behind : List (List ℕ) → Reading) → Stops (reading_by c.args.number r (frames_left file c.args.capture.now) behind)
    (g.K.Sink.taken c.args.sink.now) (g.K.Sink.taken c.serve_made.new.sink) c.args.text.now c.serve_made.new.text c.args.kernel.now
    (g.N.Nic.regs c.args.nic.now) (g.N.Nic.log c.args.nic.now) (g.N.Nic.log c.serve_made.new.nic)) in
    subst P (sym read) c.serve_made.ensures.stopped

pub returns-in-Ok-false-clause-served : goal.returns-in-Ok-false-clause-served
returns-in-Ok-false-clause-served g c =
    let G : Result Bool LineFault → Type 0 = λ r. GivesInto r c.read_line_into.new.made (line_in c.args.line.now) in
    let read : line_in c.args.line.now ≡ Ok None = subst G (c.in-Ok-false.is ∙ ap Ok c.in-Ok-false.field-0-test) c.read_line_into.ensures.line in
    λ file held behind. none_serves _ _ _ _ _ _ _ (ap (λ (r : Result (Option Line) LineFault). reading_by c.args.number r (frames_left file c.args.capture.now) behind) read)

refusal : (fault : LineFault) (made : Line) (wanted : Result (Option Line) LineFault) → fault ≢ Memory → GivesInto (Err fault) made wanted → wanted ≡ Err fault
refusal Memory made wanted other gives = absurd (other refl)
refusal Long made wanted other gives = gives
refusal Byte made wanted other gives = gives
refusal Word made wanted other gives = gives
refusal Number made wanted other gives = gives
refusal Hex made wanted other gives = gives
refusal Count made wanted other gives = gives

pub returns-in_err-end-in-Err-clause-stopped : goal.returns-in_err-end-in-Err-clause-stopped
returns-in_err-end-in-Err-clause-stopped g c =
    let stops : (file : List ℕ) → IsHeld (g.C.Cabinet.holds c.args.cabinet.now) file c.args.capture.now → (behind : List (List ℕ) → Reading) → Stops (reading_by c.args.number (line_in c.args.line.now) (frames_left file c.args.capture.now) behind) (g.K.Sink.taken c.args.sink.now) (g.K.Sink.taken c.args.sink.now) c.args.text.now c.args.text.now c.args.kernel.now
    (g.N.Nic.regs c.args.nic.now) (g.N.Nic.log c.args.nic.now) (g.N.Nic.log c.args.nic.now)
    = λ file held behind. none_stops c.texts_are_fronts.ensures c.frames_are_fronts.ensures c.sent_frames_are_fronts.ensures _ _ _ _ _ _ in
    on_err _ _ stops

pub returns-in_ok-end-in-Err : goal.returns-in_ok-end-in-Err
returns-in_ok-end-in-Err g c =
    let refused = c.in_ok-end-in-Err.ensures.refused in
    let G : Result Bool LineFault → Type 0 = λ r. GivesInto r c.read_line_into.new.made (line_in c.args.line.now) in
    let read : line_in c.args.line.now ≡ Err c.in-Err.fault = refusal c.in-Err.fault c.read_line_into.new.made _ refused.1 (subst G c.in-Err.is c.read_line_into.ensures.line) in
    rw refused.0 (record {
      served = λ file held behind. none_serves _ _ _ _ _ _ _ (ap (λ (r : Result (Option Line) LineFault). reading_by c.args.number r (frames_left file c.args.capture.now) behind) read);
      stopped = tt;
      held = λ file held. held;
      name = refl;
      of_script = search rules;
      device = c.requires.device;
      usable = c.requires.usable;
      acts = omega arith;
      holds = λ name. refl;
      files_later = λ name. omega arith;
      later = omega arith;
      cause = tt;
    })
