-- The registers, as a device that keeps them would have them after each act (Intel 8254x, chapter
-- 13). The registers of journals are counted from acts; laws say that these are the same.
use Rattle.std.specs.Prelude.{ℕ, List, ◌∷◌, Bool, Option, Some, None, if◌then◌else◌}
use Rattle.ibos_kinds.specs.declared.names.Local.{Local}
use Rattle.ibos_kinds.specs.declared.names.Verdict.{Verdict}
use Rattle.ibos_kinds.specs.declared.names.Verdict.TheVariants.{Filtered, Missed, Heard}
use Rattle.ibos_kinds.specs.declared.act.Act.{Act}
use Rattle.ibos_kinds.specs.declared.act.Act.TheVariants.{RegRead, RegWrite, WireIn, WireOut}
use Rattle.ibos_kinds.specs.declared.outcome.Item.{Item}
use Rattle.ibos_kinds.specs.declared.outcome.Item.TheVariants.{SentIs}
use Rattle.ibos_nic.specs.declared.reg.Reg.{Reg}
use Rattle.ibos_nic.specs.declared.reg.Reg.TheVariants.{Ral0, Rah0}
use Rattle.ibos_nic.specs.Parts.{reg_at}
use Rattle.ibos_nic.specs.Registers.{Registers, after_heard, after_missed, after_read, after_sent}
use Rattle.ibos_nic.specs.Registers.{after_write, reset}
use Rattle.ibos_origin.specs.Hosts.{HostTable}
use Rattle.ibos_model.specs.Journal.{Journal}
use Rattle.ibos_model.specs.Network.{network}
use Rattle.ibos_model.specs.Rings.{address_high, address_low, register, verdict_in}

-- the registers after a journal
abbrev pub registers_of : HostTable → Journal → Registers
registers_of H J reg = register H.local (network J).rings reg

-- a reset, and the own address is written
abbrev pub first_registers : Local → Registers
first_registers local = after_write Rah0 (address_high local.mac)
    (after_write Ral0 (address_low local.mac) reset)

abbrev pub read_at : Option Reg → Registers → Registers
read_at None regs = regs
read_at (Some reg) regs = after_read reg regs

abbrev pub written_at : Option Reg → ℕ → Registers → Registers
written_at None value regs = regs
written_at (Some reg) value regs = after_write reg value regs

abbrev pub arrived_at : Verdict → Registers → Registers
arrived_at Filtered regs = regs
arrived_at Missed regs = after_missed regs
arrived_at Heard regs = after_heard regs

abbrev pub sent_at : List Item → Registers → Registers
sent_at (SentIs send ∷ items) regs = after_sent regs
sent_at other regs = regs

-- what the device makes of its registers at an act
abbrev pub registers_by : Bool → Act → List Item → Registers → Registers
registers_by ok (RegRead offset) items regs = if ok then read_at (reg_at offset) regs else regs
registers_by ok (RegWrite offset value) items regs = if ok
    then written_at (reg_at offset) value regs else regs
registers_by ok (WireIn frame) items regs = if ok then arrived_at (verdict_in items) regs else regs
registers_by ok WireOut items regs = if ok then sent_at items regs else regs
registers_by ok other items regs = regs
