use Rattle.std.proofs.Common.{◌≡◌, [], Result, Ok, Err, subst, sym}
use Rattle.std.specs.Prelude.{OnErr, OnOk}
use Rattle.ibos_kinds.specs.declared.rule.Rule.{Rule}
use Rattle.ibos_pool.specs.declared.name.Ring.TheVariants.{Receive}
use Rattle.ibos_pool.specs.Memory.{Memory}
use Rattle.ibos_pool.specs.Names.{Held, Names}
use Rattle.ibos_nic.specs.Registers.{Registers}
use Rattle.ibos_mediate.specs.Keeps.{IsClaimedFor, Keeps, SameRegisters}
use Rattle.ibos_mediate.specs.Mediated.{Mediated}
use Rattle.ibos_mediate.specs.Relation.{Mediates}
use Rattle.ibos_cli.proofs.mediator_tests.Desk.post.Goals as goal

either : (r : Result (Unit {0}) Rule) (m m' : Mediated) (mem mem' : Memory) (regs : Registers) (names names' : Names) (h : Held)
    → (Keeps [] m m' mem mem' SameRegisters (IsClaimedFor Receive h) → IsClaimedFor Receive h names names' → Mediates m mem regs names → Mediates m' mem' regs names')
    → OnOk r (Keeps [] m m' mem mem' SameRegisters (IsClaimedFor Receive h)) → OnOk r (IsClaimedFor Receive h names names')
    → OnErr r (m' ≡ m) → OnErr r (mem' ≡ mem) → OnErr r (names' ≡ names) → Mediates m mem regs names → Mediates m' mem' regs names'
either (Ok x) m m' mem mem' regs names names' h law keeps claimed a b d was = law keeps claimed was
either (Err e) m m' mem mem' regs names names' h law keeps claimed a b d was =
    subst (λ x. Mediates x mem' regs names') (sym a) (subst (λ x. Mediates m x regs names') (sym b) (subst (λ x. Mediates m mem regs x) (sym d) was))

pub rx_post-requires-clause-owned : goal.rx_post-requires-clause-owned
rx_post-requires-clause-owned g c = let was = c.self.invariant in was.owned Receive

pub invariant_of-self : goal.invariant_of-self
invariant_of-self g c =
    let done = c.rx_post.ensures in
    either c.rx_post.result _ _ _ _ _ _ _ _ (λ keeps claimed. c.parts_keep_the_whole.ensures.posted _ _ _ _ _ _ keeps [] _ _ _ claimed) done.keeps done.claimed done.same done.same_memory done.same_pool c.self.invariant
