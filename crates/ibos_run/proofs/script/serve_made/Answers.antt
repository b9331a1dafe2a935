use Rattle.std.proofs.Common.{List, ℕ, ap, sym, Some, Ok, subst}
use Rattle.std.specs.Prelude.{IfOk, OnErr}
use Rattle.ibos_script.specs.declared.lines.Line.{Line}
use Rattle.ibos_run.specs.Captured.{IsHeld, frames_left}
use Rattle.ibos_run.specs.Readings.{Reading, reading_by}
use Rattle.ibos_run.specs.Script.{behind_end}
use Rattle.ibos_run.specs.Session.{Serves, Stops}
use Rattle.ibos_run.proofs.Served.{cut_stops, made_serves}
use Rattle.ibos_run.proofs.Taken.{on_err}
use Rattle.ibos_run.proofs.script.serve_made.Goals as goal

pub returns-in_ok-make_act-in-Act-clause-served : goal.returns-in_ok-make_act-in-Act-clause-served
returns-in_ok-make_act-in-Act-clause-served g c =
    λ file held behind. made_serves c.runs_go_on.ensures _ _ _ _ _ _ _ _ _ _ _ _ _ (ap (λ (m : Line). reading_by c.args.number (Ok (Some m)) (frames_left file c.args.capture.now) behind) c.in-Act.is)
    c.in_ok-make_act-in-Act.ensures.made c.in_ok-make_act-in-Act.ensures.hosts

pub returns-in_err-make_act-in-Act-clause-stopped : goal.returns-in_err-make_act-in-Act-clause-stopped
returns-in_err-make_act-in-Act-clause-stopped g c =
    let stops : (file : List ℕ) → IsHeld (g.C.Cabinet.holds c.args.cabinet.now) file c.args.capture.now → (behind : List (List ℕ) → Reading) → Stops (reading_by c.args.number (Ok (Some c.args.made.now)) (frames_left file c.args.capture.now) behind) (g.K.Sink.taken c.args.sink.now) (g.K.Sink.taken c.make_act.new.sink) c.args.text.now c.make_act.new.text c.args.kernel.now
    (g.N.Nic.regs c.args.nic.now) (g.N.Nic.log c.args.nic.now) (g.N.Nic.log c.make_act.new.nic)
    = λ file held behind. cut_stops c.texts_are_fronts.ensures c.frames_are_fronts.ensures c.sent_frames_are_fronts.ensures c.frames_are_sent_in_turn.ensures _ _ _ _ _ _ _ _ _ _ _
    (ap (λ (m : Line). reading_by c.args.number (Ok (Some m)) (frames_left file c.args.capture.now) behind) c.in-Act.is) c.in_err-make_act-in-Act.ensures.cut in
    on_err _ _ stops

pub returns-in-NextFrame-clause-served : goal.returns-in-NextFrame-clause-served
returns-in-NextFrame-clause-served g c =
    let P : Line → Type 0 = λ m. IfOk c.serve_frame.result (λ end. (file : List ℕ) → IsHeld (g.C.Cabinet.holds c.args.cabinet.now) file c.args.capture.now → (behind : List (List ℕ) → Reading) → Serves (reading_by c.args.number (Ok (Some m)) (frames_left file c.args.capture.now) behind) (behind_end end (behind (frames_left file c.serve_frame.new.capture)))
    (g.K.Sink.taken c.args.sink.now) (g.K.Sink.taken c.serve_frame.new.sink) c.args.text.now c.serve_frame.new.text c.args.kernel.now c.serve_frame.new.kernel
    (g.N.Nic.regs c.args.nic.now) (g.N.Nic.regs c.serve_frame.new.nic) (g.N.Nic.log c.args.nic.now) (g.N.Nic.log c.serve_frame.new.nic)) in
    subst P (sym c.in-NextFrame.is) c.serve_frame.ensures.served

pub returns-in-NextFrame-clause-stopped : goal.returns-in-NextFrame-clause-stopped
returns-in-NextFrame-clause-stopped g c =
    let P : Line → Type 0 = λ m. OnErr c.serve_frame.result ((file : List ℕ) → IsHeld (g.C.Cabinet.holds c.args.cabinet.now) file c.args.capture.now → (behind : List (List ℕ) → Reading) → Stops (reading_by c.args.number (Ok (Some m)) (frames_left file c.args.capture.now) behind)
    (g.K.Sink.taken c.args.sink.now) (g.K.Sink.taken c.serve_frame.new.sink) c.args.text.now c.serve_frame.new.text c.args.kernel.now
    (g.N.Nic.regs c.args.nic.now) (g.N.Nic.log c.args.nic.now) (g.N.Nic.log c.serve_frame.new.nic)) in
    subst P (sym c.in-NextFrame.is) c.serve_frame.ensures.stopped
