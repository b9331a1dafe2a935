-- The registers of the journal are those of the rings, and eight others.
use Rattle.std.proofs.Common.{sym, ◌∙◌, ap}
use Rattle.ibos_net.proofs.Words.{ℕ, ◌≡◌, ◌%◌, List, IsInMemory, IsAtDevice, Local, Mediated, Memory, Rings, RingsStand, Registers, Receive, Transmit, Base, High, Length, HeadPart, Tail, Control, Reg, Ctrl, Icr, Imc, Ims, Mpc, Rah0, Ral0, Rctl, Rdbah, Rdbal, Rdh, Rdlen, Rdt, Status, Tctl, Tdbah, Tdbal, Tdh, Tdlen, Tdt, register, RingValues, address_high, address_low}

-- the registers that are part of no ring
pub record AreOthers (local : Local) (rings : Rings) (regs : Registers) : Type 0 where
  pub ctrl : regs Ctrl ≡ 0
  pub status : regs Status ≡ 0x00000003
  pub icr : regs Icr ≡ rings.causes
  pub ims : regs Ims ≡ rings.mask
  pub imc : regs Imc ≡ 0
  pub mpc : regs Mpc ≡ rings.missed
  pub ral0 : regs Ral0 ≡ address_low local.mac
  pub rah0 : regs Rah0 ≡ address_high local.mac

pub others-of : (local : Local) (rings : Rings) (regs : Registers) → ((r : Reg) → regs r ≡ register local rings r) → AreOthers local rings regs
others-of local rings regs is = record { ctrl = is Ctrl; status = is Status; icr = is Icr; ims = is Ims; imc = is Imc; mpc = is Mpc; ral0 = is Ral0; rah0 = is Rah0 }

pub at-device : (local : Local) (rings : Rings) (frames : List (List ℕ)) (m : Mediated) (mem : Memory) (regs : Registers) → RingsStand rings frames m mem → IsInMemory m mem
    → ((r : Reg) → regs r ≡ register local rings r) → IsAtDevice m mem regs
at-device local rings frames m mem regs s memory is Receive Base = is Rdbal ∙ ap (λ (v : RingValues). v.base) s.receive
at-device local rings frames m mem regs s memory is Receive High = is Rdbah
at-device local rings frames m mem regs s memory is Receive Length = is Rdlen ∙ ap (λ (v : RingValues). v.len) s.receive
at-device local rings frames m mem regs s memory is Receive HeadPart = is Rdh ∙ ap (λ n. n % 64) s.heard
at-device local rings frames m mem regs s memory is Receive Tail = is Rdt ∙ ap (λ (v : RingValues). v.rung % 64) s.receive
at-device local rings frames m mem regs s memory is Receive Control = is Rctl ∙ ap (λ (v : RingValues). v.control) s.receive
at-device local rings frames m mem regs s memory is Transmit Base = is Tdbal ∙ ap (λ (v : RingValues). v.base) s.transmit
at-device local rings frames m mem regs s memory is Transmit High = is Tdbah
at-device local rings frames m mem regs s memory is Transmit Length = is Tdlen ∙ ap (λ (v : RingValues). v.len) s.transmit
at-device local rings frames m mem regs s memory is Transmit HeadPart = is Tdh ∙ ap (λ n. n % 64) s.sent
at-device local rings frames m mem regs s memory is Transmit Tail = is Tdt ∙ ap (λ (v : RingValues). v.rung % 64) s.transmit
at-device local rings frames m mem regs s memory is Transmit Control = is Tctl ∙ ap (λ (v : RingValues). v.control) s.transmit

-- and the way back
pub from-device : (local : Local) (rings : Rings) (frames : List (List ℕ)) (m : Mediated) (mem : Memory) (regs : Registers) → RingsStand rings frames m mem → IsInMemory m mem
    → IsAtDevice m mem regs → AreOthers local rings regs → (r : Reg) → regs r ≡ register local rings r
from-device local rings frames m mem regs s memory at o Ctrl = o.ctrl
from-device local rings frames m mem regs s memory at o Status = o.status
from-device local rings frames m mem regs s memory at o Icr = o.icr
from-device local rings frames m mem regs s memory at o Ims = o.ims
from-device local rings frames m mem regs s memory at o Imc = o.imc
from-device local rings frames m mem regs s memory at o Rctl = at Receive Control ∙ sym (ap (λ (v : RingValues). v.control) s.receive)
from-device local rings frames m mem regs s memory at o Tctl = at Transmit Control ∙ sym (ap (λ (v : RingValues). v.control) s.transmit)
from-device local rings frames m mem regs s memory at o Rdbal = at Receive Base ∙ sym (ap (λ (v : RingValues). v.base) s.receive)
from-device local rings frames m mem regs s memory at o Rdbah = at Receive High
from-device local rings frames m mem regs s memory at o Rdlen = at Receive Length ∙ sym (ap (λ (v : RingValues). v.len) s.receive)
from-device local rings frames m mem regs s memory at o Rdh = at Receive HeadPart ∙ sym (ap (λ n. n % 64) s.heard)
from-device local rings frames m mem regs s memory at o Rdt = at Receive Tail ∙ sym (ap (λ (v : RingValues). v.rung % 64) s.receive)
from-device local rings frames m mem regs s memory at o Tdbal = at Transmit Base ∙ sym (ap (λ (v : RingValues). v.base) s.transmit)
from-device local rings frames m mem regs s memory at o Tdbah = at Transmit High
from-device local rings frames m mem regs s memory at o Tdlen = at Transmit Length ∙ sym (ap (λ (v : RingValues). v.len) s.transmit)
from-device local rings frames m mem regs s memory at o Tdh = at Transmit HeadPart ∙ sym (ap (λ n. n % 64) s.sent)
from-device local rings frames m mem regs s memory at o Tdt = at Transmit Tail ∙ sym (ap (λ (v : RingValues). v.rung % 64) s.transmit)
from-device local rings frames m mem regs s memory at o Mpc = o.mpc
from-device local rings frames m mem regs s memory at o Ral0 = o.ral0
from-device local rings frames m mem regs s memory at o Rah0 = o.rah0
