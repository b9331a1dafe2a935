use Rattle.std.proofs.Common.{◌≡◌, ◌≢◌, [], Option, Some, subst, ℕ, refl, arith}
use Rattle.std.specs.Prelude.{IfSome}
use Rattle.ibos_device.specs.Cards.{regs_of}
use Rattle.ibos_pool.specs.declared.name.Ring.TheVariants.{Transmit}
use Rattle.ibos_pool.specs.Names.{Held, IsLoanOf}
use Rattle.ibos_cli.proofs.mediator_tests.Desk.send.Goals as goal

at_some : (o : Option Held) (h : Held) (P : Held → Type 0) → o ≡ Some h → IfSome o P → P h
at_some o h P is all = let Q : Option Held → Type 0 = λ o. IfSome o P in subst Q is all

one_not_zero : (n : ℕ) → n ≡ 1 → n ≢ 0
one_not_zero n is none = omega arith

pub invariant_of-self : goal.invariant_of-self
invariant_of-self g c =
    let done = c.tx_post.ensures in
    let parts = c.parts_keep_the_whole.ensures in
    let loan : IsLoanOf c.take.new.self c.expect-loan.result = at_some c.take.result c.expect-loan.result (IsLoanOf c.take.new.self) c.expect-loan.ensures c.take.ensures.loan in
    let taken = c.other_names_keep_the_relation.ensures.whole_taken _ _ (regs_of c.self.inside.nic) c.self.inside.pool c.take.new.self _ [] (one_not_zero 1 refl) c.take.ensures.claimed c.self.invariant in
    parts.posted Transmit _ _ _ _ _ done.keeps [] (regs_of c.self.inside.nic) c.take.new.self c.take.new.self (parts.claimed c.take.new.self _ c.take.ensures.one_to_one loan) taken
