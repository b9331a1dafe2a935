use Rattle.std.proofs.Common.{rules, ◌≤◌, ◌∙◌, ◌+◌, ℕ, List, [], Option, refl, arith, ap, length, length-drop, subst, sym}
use Rattle.std.specs.Prelude.{IfErr, IfSome, IsSomeAnd}
use Rattle.ibos_kinds.specs.Outside.{Rose}
use Rattle.ibos_run.specs.Captured.{IsHeld, frames_left, named}
use Rattle.ibos_run.specs.Faults.{IsCaused}
use Rattle.ibos_run.specs.Readings.{reading_of, script_in}
use Rattle.ibos_run.specs.Session.{IsStopped}
use Rattle.ibos_run.specs.Sources.{IsFound, Unread, nothing_read}
use Rattle.ibos_run.proofs.Captures.{held_same}
use Rattle.ibos_run.proofs.Causes.{if_caused, of_frames, of_script, rose_since}
use Rattle.ibos_run.proofs.Scripts.{IsSoFar, so_far_cut, so_far_end, so_far_line, so_far_none, so_far_past, so_far_paused, so_far_read, so_far_start}
use Rattle.ibos_run.proofs.Taken.{on_err}
use Rattle.ibos_run.proofs.session.make_acts.Goals as goal

pub returns-in_err-source-clause-stopped : goal.returns-in_err-source-clause-stopped
returns-in_err-source-clause-stopped g c =
    let stops : (captured : List ℕ) → IsHeld (g.C.Cabinet.holds c.args.cabinet.now) captured c.args.capture.now → IfSome (g.C.Cabinet.holds c.args.cabinet.now c.args.name.now) (λ file. IsStopped c.args.kernel.now.hosts (reading_of (frames_left captured c.args.capture.now) (script_in file)) (g.K.Sink.taken c.args.sink.now) (g.K.Sink.taken c.args.sink.now) c.args.text.now (g.N.Nic.log c.args.nic.now))
    = λ captured held.
    so_far_paused c.texts_are_fronts.ensures c.frames_are_fronts.ensures c.sent_frames_are_fronts.ensures _ _ (frames_left captured c.args.capture.now) _ _ _ _ _ _ _ _ _
    (so_far_start _ (frames_left captured c.args.capture.now) nothing_read _ _ _ _ _ refl c.requires.stands c.requires.agrees c.requires.log c.requires.empty) in
    on_err _ _ stops

pub lines-init : goal.lines-init
lines-init g c =
    let none = ap (λ (u : Unread). length u.bytes) c.in_ok-source.ensures in
    let at = ap (λ (u : Unread). u.place) c.in_ok-source.ensures in
    record {
      so_far = λ captured held. so_far_start _ _ _ _ _ _ _ _ c.in_ok-source.ensures c.requires.stands c.requires.agrees c.requires.log c.requires.empty;
      held = λ captured held. held;
      same = refl;
      together = ([], c.requires.stands, c.requires.agrees);
      usable = c.requires.usable;
      acts = omega (arith, c.requires.acts);
      within = omega (arith, none, at);
      limit = omega (arith, at);
      holds = λ name. refl;
      files_later = λ name. omega arith;
      later = omega arith;
    }

pub returns-in_err-len-clause-stopped : goal.returns-in_err-len-clause-stopped
returns-in_err-len-clause-stopped g c =
    let stops : (captured : List ℕ) → IsHeld (g.C.Cabinet.holds c.args.cabinet.now) captured c.args.capture.now → IfSome (g.C.Cabinet.holds c.args.cabinet.now c.args.name.now) (λ file. IsStopped c.args.kernel.now.hosts (reading_of (frames_left captured c.args.capture.now) (script_in file)) (g.K.Sink.taken c.args.sink.now) (g.K.Sink.taken c.lines.sink) c.lines.text (g.N.Nic.log c.lines.nic))
    = λ captured held.
    so_far_paused c.texts_are_fronts.ensures c.frames_are_fronts.ensures c.sent_frames_are_fronts.ensures _ _ _ _ _ _ _ _ _ _ _ _ (c.lines.invariant.so_far captured held) in
    on_err _ _ stops

pub returns-in_err-len-clause-cause : goal.returns-in_err-len-clause-cause
returns-in_err-len-clause-cause g c =
    let P : Type 0 = Rose (g.C.Cabinet.faults c.lines.cabinet c.args.name.now) (g.C.Cabinet.faults c.find_line.new.cabinet c.args.name.now) in
    let Q : List ℕ → Type 0 = λ name. Rose (g.C.Cabinet.faults c.args.cabinet.now name) (g.C.Cabinet.faults c.find_line.new.cabinet name) in
    let cause : IfErr c.from_residual-in_err-len.result (λ fault. IsCaused fault P ⊥) = Prim.search rules in
    if_caused c.from_residual-in_err-len.result _ _ _ _ (λ rose. of_script Q (named c.args.capture.now) c.args.name.now (rose_since _ _ _ (c.lines.invariant.files_later c.args.name.now) rose)) (λ none. absurd none) cause

pub returns-clause-over : goal.returns-clause-over
returns-clause-over g c = λ captured held.
    let so_far = so_far_read _ _ _ _ _ _ _ _ _ _ _ _ _ _ (c.lines.invariant.holds c.args.name.now) (c.lines.invariant.so_far captured held) c.in_ok-len.ensures.text in
    let found = subst (λ (o : Option ℕ). IsFound o c.find_line.new.self) c.in_default.is c.in_ok-len.ensures.found in
    so_far_none _ _ _ _ _ _ _ _ _ _ _ _ so_far found.0 found.1

pub returns-then-is_past-clause-over : goal.returns-then-is_past-clause-over
returns-then-is_past-clause-over g c = λ captured held.
    let so_far = so_far_read _ _ _ _ _ _ _ _ _ _ _ _ _ _ (c.lines.invariant.holds c.args.name.now) (c.lines.invariant.so_far captured held) c.in_ok-len.ensures.text in
    let found = subst (λ (o : Option ℕ). IsFound o c.find_line.new.self) c.in-Some.is c.in_ok-len.ensures.found in
    so_far_past _ _ _ _ _ _ _ _ _ _ _ _ _ so_far found (sym c.is_past.ensures ∙ c.if-is_past.true)

pub returns-in_err-served-clause-stopped : goal.returns-in_err-served-clause-stopped
returns-in_err-served-clause-stopped g c =
    let stops : (captured : List ℕ) → IsHeld (g.C.Cabinet.holds c.args.cabinet.now) captured c.args.capture.now → IfSome (g.C.Cabinet.holds c.args.cabinet.now c.args.name.now) (λ file. IsStopped c.args.kernel.now.hosts (reading_of (frames_left captured c.args.capture.now) (script_in file)) (g.K.Sink.taken c.args.sink.now) (g.K.Sink.taken c.serve_line.new.sink) c.serve_line.new.text (g.N.Nic.log c.serve_line.new.nic))
    = λ captured held.
    let so_far = so_far_read _ _ _ _ _ _ _ _ _ _ _ _ _ _ (c.lines.invariant.holds c.args.name.now) (c.lines.invariant.so_far captured held) c.in_ok-len.ensures.text in
    let found = subst (λ (o : Option ℕ). IsFound o c.find_line.new.self) c.in-Some.is c.in_ok-len.ensures.found in
    let there = held_same _ _ captured _ (λ name. c.find_line.ensures.holds name ∙ c.lines.invariant.holds name) (c.lines.invariant.held captured held) in
    so_far_cut _ _ _ _ _ _ _ _ _ _ _ _ _ _ _ _ _ so_far
    (record { found = found; cut = c.line-line.ensures; here = sym c.is_past.ensures ∙ c.if-is_past.false }) (c.in_err-served.ensures.stopped captured there) in
    on_err _ _ stops

pub returns-in_err-served-clause-cause : goal.returns-in_err-served-clause-cause
returns-in_err-served-clause-cause g c =
    let P : List ℕ → Type 0 = λ name. Rose (g.C.Cabinet.faults c.find_line.new.cabinet name) (g.C.Cabinet.faults c.serve_line.new.cabinet name) in
    let Q : List ℕ → Type 0 = λ name. Rose (g.C.Cabinet.faults c.args.cabinet.now name) (g.C.Cabinet.faults c.serve_line.new.cabinet name) in
    let R : Type 0 = Rose (g.K.Sink.faults c.lines.sink) (g.K.Sink.faults c.serve_line.new.sink) in
    let earlier : (name : List ℕ) → g.C.Cabinet.faults c.args.cabinet.now name ≤ g.C.Cabinet.faults c.find_line.new.cabinet name
    = λ name. omega (arith, c.find_line.ensures.later name, c.lines.invariant.files_later name) in
    let cause : IfErr c.from_residual-in_err-served.result (λ fault. IsCaused fault (IsSomeAnd (named c.lines.capture) P) R) = Prim.search rules in
    if_caused c.from_residual-in_err-served.result _ _ _ _ (λ rose. of_frames P Q _ _ c.args.name.now c.lines.invariant.same (λ name risen. rose_since _ _ _ (earlier name) risen) rose)
    (λ rose. rose_since _ _ _ c.lines.invariant.later rose) cause

pub returns-in-Some-served-clause-over : goal.returns-in-Some-served-clause-over
returns-in-Some-served-clause-over g c = λ captured held.
    let so_far = so_far_read _ _ _ _ _ _ _ _ _ _ _ _ _ _ (c.lines.invariant.holds c.args.name.now) (c.lines.invariant.so_far captured held) c.in_ok-len.ensures.text in
    let found = subst (λ (o : Option ℕ). IsFound o c.find_line.new.self) c.in-Some.is c.in_ok-len.ensures.found in
    let there = held_same _ _ captured _ (λ name. c.find_line.ensures.holds name ∙ c.lines.invariant.holds name) (c.lines.invariant.held captured held) in
    so_far_end _ _ _ _ _ _ _ _ _ _ _ _ _ _ _ _ _ _ _ _ _ _ so_far
    (record { found = found; cut = c.line-line.ensures; here = sym c.is_past.ensures ∙ c.if-is_past.false }) c.in-Some-served.is (c.in_ok-served.ensures.served captured there)

pub lines-preserved : goal.lines-preserved
lines-preserved g c =
    let found = subst (λ (o : Option ℕ). IsFound o c.find_line.new.self) c.in-Some.is c.in_ok-len.ensures.found in
    let after = c.in_ok-served.ensures in
    let bytes = ap (λ (u : Unread). length u.bytes) c.pass.ensures in
    let at = ap (λ (u : Unread). u.place) c.pass.ensures in
    record {
      so_far = λ captured held.
          let so_far = so_far_read _ _ _ _ _ _ _ _ _ _ _ _ _ _ (c.lines.invariant.holds c.args.name.now) (c.lines.invariant.so_far captured held) c.in_ok-len.ensures.text in
          let there = held_same _ _ captured _ (λ name. c.find_line.ensures.holds name ∙ c.lines.invariant.holds name) (c.lines.invariant.held captured held) in
          let P : Unread → Type 0 = λ u. IfSome (g.C.Cabinet.holds c.args.cabinet.now c.args.name.now) (λ file. IsSoFar c.args.kernel.now.hosts (frames_left captured c.args.capture.now) file u (c.lines.lines + 1) (frames_left captured c.serve_line.new.capture) (g.K.Sink.taken c.args.sink.now) (g.K.Sink.taken c.serve_line.new.sink) c.serve_line.new.text c.serve_line.new.kernel (g.N.Nic.regs c.serve_line.new.nic) (g.N.Nic.log c.serve_line.new.nic)) in
          subst P (sym c.pass.ensures) (so_far_line _ _ _ _ _ _ _ _ _ _ _ _ _ _ _ _ _ _ _ _ _ so_far
          (record { found = found; cut = c.line-line.ensures; here = sym c.is_past.ensures ∙ c.if-is_past.false }) c.in_default-served.is (after.served captured there));
      held = λ captured held.
          let there = held_same _ _ captured _ (λ name. c.find_line.ensures.holds name ∙ c.lines.invariant.holds name) (c.lines.invariant.held captured held) in
          held_same _ _ captured _ (λ name. sym (c.find_line.ensures.holds name ∙ c.lines.invariant.holds name)) (after.held captured there);
      same = after.name ∙ c.lines.invariant.same;
      together = after.device;
      usable = after.usable;
      acts = omega (arith, after.acts, c.lines.invariant.acts);
      within = omega (arith, bytes, at, length-drop (c.in-Some.len + 1) c.find_line.new.self.bytes, found.some, c.in_ok-len.ensures.more, c.lines.invariant.within);
      limit = omega (arith, at, c.in_ok-len.ensures.limit);
      holds = λ name. after.holds name ∙ c.find_line.ensures.holds name ∙ c.lines.invariant.holds name;
      files_later = λ name. omega (arith, after.files_later name, c.find_line.ensures.later name, c.lines.invariant.files_later name);
      later = omega (arith, after.later, c.lines.invariant.later);
    }
