use Rattle.std.proofs.Common.{◌≡◌, length}
use Rattle.ibos_mediate.specs.Frames.{returns}
use Rattle.ibos_send.proofs.ReturnSteps.{IsServing, IsTold}
use Rattle.ibos_send.proofs.sends.Sends.serve.Given as goal

abbrev pub invariant-served : goal.invariant-served
invariant-served l = record {
  serving : IsServing (record { sends = l.fn.self; med = l.fn.med; pool = l.fn.pool; mem = l.fn.mem }) (record { sends = l.self; med = l.med; pool = l.pool; mem = l.mem });
  told : IsTold (record { sends = l.fn.self; med = l.fn.med; pool = l.fn.pool; mem = l.fn.mem }) (record { sends = l.self; med = l.med; pool = l.pool; mem = l.mem }) l.fn.out.items l.out.items;
  head : l.out.head ≡ l.fn.out.head;
}

abbrev pub decreases-served : goal.decreases-served
decreases-served l = length (returns l.mem l.med.transmit)
