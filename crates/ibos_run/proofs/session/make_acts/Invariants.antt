use Rattle.std.proofs.Common.{◌≡◌, ◌+◌, ◌-◌, ◌≤◌, ℕ, List, true, length}
use Rattle.std.specs.Prelude.{IfSome}
use Rattle.ibos_kernel.specs.Standing.{AreTogether}
use Rattle.ibos_run.specs.Captured.{IsHeld, frames_left, named}
use Rattle.ibos_run.proofs.Scripts.{IsSoFar}
use Rattle.ibos_run.proofs.session.make_acts.Given as goal

-- each act is a line, and each line at least a byte
abbrev pub invariant-lines : goal.invariant-lines
invariant-lines g l = record {
  so_far : (captured : List ℕ) → IsHeld (g.C.Cabinet.holds l.fn.cabinet) captured l.fn.capture → IfSome (g.C.Cabinet.holds l.fn.cabinet l.name) (λ file. IsSoFar l.fn.kernel.hosts (frames_left captured l.fn.capture) file l.source l.lines (frames_left captured l.capture) (g.K.Sink.taken l.fn.sink) (g.K.Sink.taken l.sink) l.text l.kernel (g.N.Nic.regs l.nic) (g.N.Nic.log l.nic));
  held : (captured : List ℕ) → IsHeld (g.C.Cabinet.holds l.fn.cabinet) captured l.fn.capture → IsHeld (g.C.Cabinet.holds l.fn.cabinet) captured l.capture;
  same : named l.capture ≡ named l.fn.capture;
  together : AreTogether l.kernel (g.N.Nic.regs l.nic) (g.N.Nic.log l.nic);
  usable : l.kernel.usable ≡ true;
  acts : l.kernel.acts ≤ l.lines;
  within : l.lines + length l.source.bytes ≤ l.source.place;
  limit : l.source.place ≤ 67108865;
  holds : (name : List ℕ) → g.C.Cabinet.holds l.cabinet name ≡ g.C.Cabinet.holds l.fn.cabinet name;
  files_later : (name : List ℕ) → g.C.Cabinet.faults l.fn.cabinet name ≤ g.C.Cabinet.faults l.cabinet name;
  later : g.K.Sink.faults l.fn.sink ≤ g.K.Sink.faults l.sink;
}

abbrev pub decreases-lines : goal.decreases-lines
decreases-lines g l = 67108865 - l.lines
