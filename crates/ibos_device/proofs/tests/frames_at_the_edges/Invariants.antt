use Rattle.ibos_pool.specs.Memory.{IsLent}
use Rattle.ibos_device.proofs.tests.frames_at_the_edges.Given as goal

abbrev pub invariant-loop-len : goal.invariant-loop-len
invariant-loop-len g l = IsLent l.mem l.away.place

abbrev pub invariant-loop : goal.invariant-loop
invariant-loop g l = IsLent l.mem l.away.place
