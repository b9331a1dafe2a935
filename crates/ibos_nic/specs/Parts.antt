-- Which register is which part of which ring, and which registers there are (Intel 8254x, chapter
-- 13).
use Rattle.std.specs.Prelude.{ℕ, ◌==◌, List, [], ◌∷◌, Option, None, Some, find}
use Rattle.ibos_pool.specs.declared.name.Ring.{Ring}
use Rattle.ibos_pool.specs.declared.name.Ring.TheVariants.{Receive, Transmit}
use Rattle.ibos_nic.specs.declared.part.Part.{Part}
use Rattle.ibos_nic.specs.declared.part.Part.TheVariants.{Base, High, Length, Head, Tail, Control}
use Rattle.ibos_nic.specs.declared.part.RingPart.{RingPart}
use Rattle.ibos_nic.specs.declared.reg.Reg.{Reg}
use Rattle.ibos_nic.specs.declared.reg.Reg.TheVariants.{Ctrl, Status, Icr, Ims, Imc, Rctl, Tctl}
use Rattle.ibos_nic.specs.declared.reg.Reg.TheVariants.{Rdbal, Rdbah, Rdlen, Rdh, Rdt, Tdbal, Tdbah}
use Rattle.ibos_nic.specs.declared.reg.Reg.TheVariants.{Tdlen, Tdh, Tdt, Mpc, Ral0, Rah0}
use Rattle.ibos_nic.specs.Registers.{offset_of}

abbrev pub all_regs : List Reg
all_regs = Ctrl ∷ Status ∷ Icr ∷ Ims ∷ Imc ∷ Rctl ∷ Tctl ∷ Rdbal ∷ Rdbah ∷ Rdlen ∷ Rdh ∷ Rdt ∷ Tdbal
    ∷ Tdbah ∷ Tdlen ∷ Tdh ∷ Tdt ∷ Mpc ∷ Ral0 ∷ Rah0 ∷ []

-- the register that lies at an offset
unfoldable pub reg_at : ℕ → Option Reg
reg_at offset = find (λ reg. offset_of reg == offset) all_regs

-- the part of a ring that a register is
abbrev pub part_of : Reg → Option RingPart
part_of Rctl = Some (record { ring = Receive; part = Control })
part_of Rdbal = Some (record { ring = Receive; part = Base })
part_of Rdbah = Some (record { ring = Receive; part = High })
part_of Rdlen = Some (record { ring = Receive; part = Length })
part_of Rdh = Some (record { ring = Receive; part = Head })
part_of Rdt = Some (record { ring = Receive; part = Tail })
part_of Tctl = Some (record { ring = Transmit; part = Control })
part_of Tdbal = Some (record { ring = Transmit; part = Base })
part_of Tdbah = Some (record { ring = Transmit; part = High })
part_of Tdlen = Some (record { ring = Transmit; part = Length })
part_of Tdh = Some (record { ring = Transmit; part = Head })
part_of Tdt = Some (record { ring = Transmit; part = Tail })
part_of other = None

-- the register that a part of a ring is
abbrev pub reg_of : Ring → Part → Reg
reg_of Receive Base = Rdbal
reg_of Receive High = Rdbah
reg_of Receive Length = Rdlen
reg_of Receive Head = Rdh
reg_of Receive Tail = Rdt
reg_of Receive Control = Rctl
reg_of Transmit Base = Tdbal
reg_of Transmit High = Tdbah
reg_of Transmit Length = Tdlen
reg_of Transmit Head = Tdh
reg_of Transmit Tail = Tdt
reg_of Transmit Control = Tctl
