-- Registers by their offsets, and by the parts of the rings that they are.
use Rattle.std.proofs.Common.{◌≡◌, ℕ, ◌==◌, ◌⊎◌, List, [], ◌∷◌, Bool, true, false, Option, None, Some, refl, sym, ◌∙◌, ap, inl, inr, ⊎_elim, subst, arith}
use Rattle.std.proofs.lemmas.Bool.Decides.{nat_tests}
use Rattle.std.specs.Prelude.{IfSome, find}
use Rattle.ibos_pool.specs.declared.name.Ring.{Ring}
use Rattle.ibos_pool.specs.declared.name.Ring.TheVariants.{Receive, Transmit}
use Rattle.ibos_nic.specs.declared.part.Part.{Part}
use Rattle.ibos_nic.specs.declared.part.Part.TheVariants.{Base, High, Length, Head, Tail, Control}
use Rattle.ibos_nic.specs.declared.part.RingPart.{RingPart}
use Rattle.ibos_nic.specs.declared.reg.Reg.{Reg}
use Rattle.ibos_nic.specs.declared.reg.Reg.TheVariants.{Ctrl, Status, Icr, Ims, Imc, Rctl, Tctl, Rdbal, Rdbah, Rdlen, Rdh, Rdt, Tdbal, Tdbah, Tdlen, Tdh, Tdt, Mpc, Ral0, Rah0}
use Rattle.ibos_nic.specs.Parts.{all_regs, part_of, reg_at, reg_of}
use Rattle.ibos_nic.specs.Registers.{Registers, after_write, offset_of, same_reg, with_reg}

-- each register lies at its offset
pub reg_at-offset_of : (reg : Reg) → reg_at (offset_of reg) ≡ Some reg
unfolding reg_at
reg_at-offset_of Ctrl = refl
reg_at-offset_of Status = refl
reg_at-offset_of Icr = refl
reg_at-offset_of Ims = refl
reg_at-offset_of Imc = refl
reg_at-offset_of Rctl = refl
reg_at-offset_of Tctl = refl
reg_at-offset_of Rdbal = refl
reg_at-offset_of Rdbah = refl
reg_at-offset_of Rdlen = refl
reg_at-offset_of Rdh = refl
reg_at-offset_of Rdt = refl
reg_at-offset_of Tdbal = refl
reg_at-offset_of Tdbah = refl
reg_at-offset_of Tdlen = refl
reg_at-offset_of Tdh = refl
reg_at-offset_of Tdt = refl
reg_at-offset_of Mpc = refl
reg_at-offset_of Ral0 = refl
reg_at-offset_of Rah0 = refl

find-none : (test : Reg → Bool) (regs : List Reg) → ((reg : Reg) → test reg ≡ false) → find test regs ≡ None
find-none test [] fails = refl
find-none test (reg ∷ regs) fails = rw (fails reg) (find-none test regs fails)

not_at : (a b : ℕ) → (a ≡ b → ⊥) → (a == b) ≡ false
not_at a b differ = grind (arith, nat_tests, differ)

pub reg_at-is : (offset : ℕ) (found : Option Reg) → IfSome found (λ reg. offset_of reg ≡ offset) → ((reg : Reg) → offset_of reg ≡ offset → found ≡ Some reg)
    → found ≡ reg_at offset
unfolding reg_at
reg_at-is offset None some every = sym (find-none (λ reg. offset_of reg == offset) all_regs (λ reg. not_at _ _ (λ e. let clash = every reg e in cc)))
reg_at-is offset (Some reg) some every = subst (λ (at : ℕ). Some reg ≡ reg_at at) some (sym (reg_at-offset_of reg))

-- no two registers lie at one place
pub exact_reg : (one other : Reg) → same_reg one other ≡ true → one ≡ other
exact_reg one other same =
    let at : offset_of one ≡ offset_of other = offsets (offset_of one) (offset_of other) same in
    let e : Some one ≡ Some other = sym (reg_at-offset_of one) ∙ ap reg_at at ∙ reg_at-offset_of other in
    cc
  where
    offsets : (a b : ℕ) → (a == b) ≡ true → a ≡ b
    offsets a b test = grind (arith, nat_tests)

-- the register of a part, and the parts of registers
pub part_of-reg_of : (ring : Ring) (part : Part) → part_of (reg_of ring part) ≡ Some (record { ring = ring; part = part })
part_of-reg_of Receive Base = refl
part_of-reg_of Receive High = refl
part_of-reg_of Receive Length = refl
part_of-reg_of Receive Head = refl
part_of-reg_of Receive Tail = refl
part_of-reg_of Receive Control = refl
part_of-reg_of Transmit Base = refl
part_of-reg_of Transmit High = refl
part_of-reg_of Transmit Length = refl
part_of-reg_of Transmit Head = refl
part_of-reg_of Transmit Tail = refl
part_of-reg_of Transmit Control = refl

pub write_is : (ring : Ring) (part : Part) (value : ℕ) (regs : Registers) (r : Reg) → after_write (reg_of ring part) value regs r ≡ with_reg (reg_of ring part) value regs r
write_is Receive Base value regs r = refl
write_is Receive High value regs r = refl
write_is Receive Length value regs r = refl
write_is Receive Head value regs r = refl
write_is Receive Tail value regs r = refl
write_is Receive Control value regs r = refl
write_is Transmit Base value regs r = refl
write_is Transmit High value regs r = refl
write_is Transmit Length value regs r = refl
write_is Transmit Head value regs r = refl
write_is Transmit Tail value regs r = refl
write_is Transmit Control value regs r = refl

-- one register of a ring's part is one part of one ring
pub one_part : (ring one : Ring) (part p : Part) → same_reg (reg_of ring part) (reg_of one p) ≡ true → (ring ≡ one) × (part ≡ p)
one_part ring one part p same =
    let e : Some (record { ring = ring; part = part }) ≡ Some (record { ring = one; part = p }) = sym (part_of-reg_of ring part) ∙ ap part_of (exact_reg _ _ same) ∙ part_of-reg_of one p in
    let e' : record { ring = ring; part = part } ≡ record { ring = one; part = p } = cc in
    (ap (λ (x : RingPart). x.ring) e', ap (λ (x : RingPart). x.part) e')

pub bool_cases : (b : Bool) → (b ≡ true) ⊎ (b ≡ false)
bool_cases true = inl refl
bool_cases false = inr refl

-- a register is a part of a ring, or of none
pub by_part : (P : Reg → Type 0) → ((ring : Ring) (part : Part) → P (reg_of ring part)) → ((reg : Reg) → part_of reg ≡ None → P reg) → (reg : Reg) → P reg
by_part P parts others Rctl = parts Receive Control
by_part P parts others Rdbal = parts Receive Base
by_part P parts others Rdbah = parts Receive High
by_part P parts others Rdlen = parts Receive Length
by_part P parts others Rdh = parts Receive Head
by_part P parts others Rdt = parts Receive Tail
by_part P parts others Tctl = parts Transmit Control
by_part P parts others Tdbal = parts Transmit Base
by_part P parts others Tdbah = parts Transmit High
by_part P parts others Tdlen = parts Transmit Length
by_part P parts others Tdh = parts Transmit Head
by_part P parts others Tdt = parts Transmit Tail
by_part P parts others other = others other refl

-- a register that is part of no ring is not that of a part
pub no_part : (reg : Reg) → part_of reg ≡ None → (ring : Ring) (part : Part) → same_reg reg (reg_of ring part) ≡ false
no_part reg none ring part = ⊎_elim
    (λ (same : same_reg reg (reg_of ring part) ≡ true).
    let clash : None ≡ Some (record { ring = ring; part = part }) = sym none ∙ ap part_of (exact_reg _ _ same) ∙ part_of-reg_of ring part in
    absurd (cc))
    (λ (other : same_reg reg (reg_of ring part) ≡ false). other)
    (bool_cases (same_reg reg (reg_of ring part)))
