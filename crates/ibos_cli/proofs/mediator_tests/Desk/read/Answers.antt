use Rattle.std.proofs.Common.{[], subst, sym}
use Rattle.ibos_pool.specs.declared.name.Ring.{Ring}
use Rattle.ibos_mediate.specs.Mediated.{Mediated, ring_of}
use Rattle.ibos_mediate.specs.Relation.{AreOwned, AreUnheldBut, IsInMemory}
use Rattle.ibos_cli.proofs.mediator_tests.Desk.read.Goals as goal

pub invariant_of-self : goal.invariant_of-self
invariant_of-self c =
    let was = c.self.invariant in
    let same = sym c.read.ensures.same in
    record {
      memory = subst (λ m. IsInMemory m c.self.inside.mem) same was.memory;
      device = c.read.ensures.device _ was.device;
      owned = subst (λ (m : Mediated). (ring : Ring) → AreOwned ring (ring_of m ring) c.self.inside.pool) same was.owned;
      unheld = subst (λ m. AreUnheldBut [] m c.self.inside.pool c.self.inside.mem) same was.unheld;
    }
