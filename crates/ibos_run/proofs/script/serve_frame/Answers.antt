use Rattle.std.proofs.Common.{◌≡◌, ◌∷◌, List, ℕ, Option, ap, subst}
use Rattle.ibos_kinds.specs.declared.act.Act.TheVariants.{WireIn}
use Rattle.ibos_run.specs.Captured.{IsHeld, Takes, frames_left}
use Rattle.ibos_run.specs.Readings.{Reading, onto_acts, reading_next}
use Rattle.ibos_run.specs.Session.{Stops}
use Rattle.ibos_run.proofs.Served.{cut_stops, made_serves, none_stops}
use Rattle.ibos_run.proofs.Taken.{on_err}
use Rattle.ibos_run.proofs.script.serve_frame.Goals as goal

pub returns-in_err-frame-clause-stopped : goal.returns-in_err-frame-clause-stopped
returns-in_err-frame-clause-stopped g c =
    let stops : (file : List ℕ) → IsHeld (g.C.Cabinet.holds c.args.cabinet.now) file c.args.capture.now → (behind : List (List ℕ) → Reading)
    → Stops (reading_next c.args.number (frames_left file c.args.capture.now) behind) (g.K.Sink.taken c.args.sink.now) (g.K.Sink.taken c.args.sink.now) c.args.text.now c.args.text.now c.args.kernel.now
    (g.N.Nic.regs c.args.nic.now) (g.N.Nic.log c.args.nic.now) (g.N.Nic.log c.args.nic.now)
    = λ file held behind. none_stops c.texts_are_fronts.ensures c.frames_are_fronts.ensures c.sent_frames_are_fronts.ensures _ _ _ _ _ _ in
    on_err _ _ stops

pub returns-in_err-make_act-in-Some-clause-stopped : goal.returns-in_err-make_act-in-Some-clause-stopped
returns-in_err-make_act-in-Some-clause-stopped g c =
    let taken : (file : List ℕ) → IsHeld (g.C.Cabinet.holds c.args.cabinet.now) file c.args.capture.now → frames_left file c.args.capture.now ≡ c.in-Some.frame ∷ frames_left file c.next_frame.new.capture
    = λ file held.
    let P : Option (List ℕ) → Type 0 = λ o. Takes o (frames_left file c.args.capture.now) (frames_left file c.next_frame.new.capture) in
    subst P c.in-Some.is (c.in_ok-frame.ensures.next file held) in
    let split : (file : List ℕ) → IsHeld (g.C.Cabinet.holds c.args.cabinet.now) file c.args.capture.now → (behind : List (List ℕ) → Reading)
    → reading_next c.args.number (frames_left file c.args.capture.now) behind ≡ onto_acts (WireIn c.in-Some.frame) (behind (frames_left file c.next_frame.new.capture))
    = λ file held behind. ap (λ (fs : List (List ℕ)). reading_next c.args.number fs behind) (taken file held) in
    let stops : (file : List ℕ) → IsHeld (g.C.Cabinet.holds c.args.cabinet.now) file c.args.capture.now → (behind : List (List ℕ) → Reading)
    → Stops (reading_next c.args.number (frames_left file c.args.capture.now) behind) (g.K.Sink.taken c.args.sink.now) (g.K.Sink.taken c.make_act.new.sink) c.args.text.now c.make_act.new.text c.args.kernel.now
    (g.N.Nic.regs c.args.nic.now) (g.N.Nic.log c.args.nic.now) (g.N.Nic.log c.make_act.new.nic)
    = λ file held behind. cut_stops c.texts_are_fronts.ensures c.frames_are_fronts.ensures c.sent_frames_are_fronts.ensures c.frames_are_sent_in_turn.ensures _ _ _ _ _ _ _ _ _ _ _ (split file held behind) c.in_err-make_act-in-Some.ensures.cut in
    on_err _ _ stops

pub returns-in_ok-make_act-in-Some-clause-served : goal.returns-in_ok-make_act-in-Some-clause-served
returns-in_ok-make_act-in-Some-clause-served g c =
    let taken : (file : List ℕ) → IsHeld (g.C.Cabinet.holds c.args.cabinet.now) file c.args.capture.now → frames_left file c.args.capture.now ≡ c.in-Some.frame ∷ frames_left file c.next_frame.new.capture
    = λ file held.
    let P : Option (List ℕ) → Type 0 = λ o. Takes o (frames_left file c.args.capture.now) (frames_left file c.next_frame.new.capture) in
    subst P c.in-Some.is (c.in_ok-frame.ensures.next file held) in
    let split : (file : List ℕ) → IsHeld (g.C.Cabinet.holds c.args.cabinet.now) file c.args.capture.now → (behind : List (List ℕ) → Reading)
    → reading_next c.args.number (frames_left file c.args.capture.now) behind ≡ onto_acts (WireIn c.in-Some.frame) (behind (frames_left file c.next_frame.new.capture))
    = λ file held behind. ap (λ (fs : List (List ℕ)). reading_next c.args.number fs behind) (taken file held) in
    λ file held behind. made_serves c.runs_go_on.ensures _ _ _ _ _ _ _ _ _ _ _ _ _ (split file held behind) c.in_ok-make_act-in-Some.ensures.made c.in_ok-make_act-in-Some.ensures.hosts
