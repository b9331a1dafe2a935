use Rattle.std.proofs.Common.{◌≡◌, length}
use Rattle.ibos_mediate.specs.Frames.{arrivals}
use Rattle.ibos_flow.specs.Flows.{bound_by}
use Rattle.ibos_recv.proofs.BellItems.{IsStill, IsTold}
use Rattle.ibos_recv.proofs.BellSteps.{IsServing}
use Rattle.ibos_recv.proofs.serving.serve.Given as goal

abbrev pub invariant-served : goal.invariant-served
invariant-served l = record {
  serving : IsServing (record { med = l.fn.med; pool = l.fn.pool; mem = l.fn.mem; inboxes = l.fn.inboxes }) (record { med = l.med; pool = l.pool; mem = l.mem; inboxes = l.inboxes });
  told : IsTold l.local (bound_by l.flows) (record { med = l.fn.med; pool = l.fn.pool; mem = l.fn.mem; inboxes = l.fn.inboxes }) (record { med = l.med; pool = l.pool; mem = l.mem; inboxes = l.inboxes }) l.fn.out.items l.out.items;
  still : IsStill l.local (bound_by l.flows) (record { med = l.fn.med; pool = l.fn.pool; mem = l.fn.mem; inboxes = l.fn.inboxes }) (record { med = l.med; pool = l.pool; mem = l.mem; inboxes = l.inboxes });
  head : l.out.head ≡ l.fn.out.head;
}

abbrev pub decreases-served : goal.decreases-served
decreases-served l = length (arrivals l.mem l.med)
