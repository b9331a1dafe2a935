use Rattle.std.proofs.Common.{◌≡◌, ◌+◌, ◌<◌, ◌^◌, true, length}
use Rattle.ibos_make.specs.Drill.{left}
use Rattle.ibos_model.specs.Journal.{Journal}
use Rattle.ibos_run.proofs.Drills.{IsDrilling}
use Rattle.ibos_run.proofs.drill.make_drill.Given as goal

abbrev pub invariant-acts : goal.invariant-acts
invariant-acts g l = record {
  drilling : (J : Journal) × IsDrilling l.fn.kernel.hosts (left l.fn.drill) (left l.drill) l.tally l.kernel (g.N.Nic.regs l.nic) (g.N.Nic.log l.nic) J;
  usable : l.kernel.usable ≡ true;
  few : l.kernel.acts + length (left l.drill) < 2 ^ 31;
}

abbrev pub decreases-acts : goal.decreases-acts
decreases-acts g l = length (left l.drill)
