use Rattle.std.proofs.Common.{◌≡◌, ◌+◌, Result, Ok, length, subst, sym, ◌∙◌, ap, inl, inr, refl, arith}
use Rattle.std.specs.Prelude.{IfOk}
use Rattle.ibos_kinds.specs.declared.bytes.Memory.{Memory as NoMemory}
use Rattle.ibos_pool.specs.declared.name.Ring.{Ring}
use Rattle.ibos_pool.specs.declared.name.Ring.TheVariants.{Receive, Transmit}
use Rattle.ibos_mediate.specs.Mediated.{Mediated, ring_of}
use Rattle.ibos_mediate.specs.States.{no_ring}
use Rattle.ibos_cli.proofs.mediator_tests.Desk.new.Goals as goal

at_ok : (o : Result Mediated NoMemory) (m : Mediated) (P : Mediated → Type 0) → o ≡ Ok m → IfOk o P → P m
at_ok o m P is all = let Q : Result Mediated NoMemory → Type 0 = λ o. IfOk o P in subst Q is all

either : (m : Mediated) → m.receive ≡ no_ring → m.transmit ≡ no_ring → (ring : Ring) → ring_of m ring ≡ no_ring
either m receive transmit Receive = receive
either m receive transmit Transmit = transmit

pub invariant_of-result : goal.invariant_of-result
invariant_of-result g c =
    let m = c.expect-mediator.result in
    let receive : m.receive ≡ no_ring = at_ok c.new-3.result m (λ x. x.receive ≡ no_ring) c.expect-mediator.ensures c.new-3.ensures.receive in
    let transmit : m.transmit ≡ no_ring = at_ok c.new-3.result m (λ x. x.transmit ≡ no_ring) c.expect-mediator.ensures c.new-3.ensures.transmit in
    let begins = c.relation_begins.ensures in
    let other = c.other_changes_keep_the_relation.ensures in
    let pool_areas : length c.grow_instance.new.self ≡ 2 = c.in_ok-grow_instance.ensures.areas ∙ ap (λ n. n + 1) c.in_ok-pool.ensures.areas in
    let mem_areas : length c.grow_instance-2.new.self ≡ 2 = c.in_ok-grow_instance-2.ensures.areas ∙ ap (λ n. n + 1) c.in_ok-mem.ensures.areas in
    let names = c.grow_instance.ensures in
    record {
      memory = begins.memory m _ receive transmit (omega arith);
      device = other.address m _ _ _ _ _ (inr refl)
          (other.address m _ _ _ _ _ (inl refl) (begins.device m _ _ receive transmit (λ r ral rah. c.new-nic.ensures.registers r)) c.write.ensures.registers)
          c.write-2.ensures.registers;
      owned = λ ring. begins.owned m _ ring (either m receive transmit ring);
      unheld = begins.unheld m _ _ names.one_to_one (mem_areas ∙ sym pool_areas) (omega arith) (λ name. names.taken name ∙ c.in_ok-pool.ensures.free name) (λ p. c.grow_instance-2.ensures.lent p ∙ c.in_ok-mem.ensures.kept p);
    }
