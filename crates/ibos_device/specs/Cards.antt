-- What a device keeps: the values of its registers, and its log.
use Rattle.std.specs.Prelude.{◌≡◌, ℕ, List, [], ◌∷◌, slice_index}
use Rattle.ibos_nic.specs.declared.log.LogEntry.TheVariants.{In, Out}
use Rattle.ibos_nic.specs.declared.reg.Reg.{Reg}
use Rattle.ibos_nic.specs.declared.reg.Reg.TheVariants.{Ctrl, Status, Icr, Ims, Imc, Rctl, Tctl}
use Rattle.ibos_nic.specs.declared.reg.Reg.TheVariants.{Rdbal, Rdbah, Rdlen, Rdh, Rdt, Tdbal, Tdbah}
use Rattle.ibos_nic.specs.declared.reg.Reg.TheVariants.{Tdlen, Tdh, Tdt, Mpc, Ral0, Rah0}
use Rattle.ibos_nic.specs.declared.log.LogEntry.{LogEntry}
use Rattle.ibos_nic.specs.Registers.{Registers, status}

-- the newest entry of the log is the first
pub record State : Type 0 where
  pub values : List ℕ
  pub log : List LogEntry

-- where the value of a register is kept. CTRL and STATUS have no value of their own
abbrev pub index_of : Reg → ℕ
index_of Ctrl = 0
index_of Status = 0
index_of Icr = 0
index_of Ims = 1
index_of Imc = 2
index_of Rctl = 3
index_of Tctl = 4
index_of Rdbal = 5
index_of Rdbah = 6
index_of Rdlen = 7
index_of Rdh = 8
index_of Rdt = 9
index_of Tdbal = 10
index_of Tdbah = 11
index_of Tdlen = 12
index_of Tdh = 13
index_of Tdt = 14
index_of Mpc = 15
index_of Ral0 = 16
index_of Rah0 = 17

abbrev pub value_at : List ℕ → Registers
value_at values Ctrl = 0
value_at values Status = status
value_at values reg = slice_index values (index_of reg)

-- the registers of a device
abbrev pub regs_of : State → Registers
regs_of s reg = value_at s.values reg

-- what was written for each frame is that frame
abbrev pub AreFaithful : List LogEntry → Type 0
AreFaithful [] = Unit {0}
AreFaithful (In frame written ∷ log) = (written ≡ frame) × AreFaithful log
AreFaithful (Out sent ∷ log) = AreFaithful log

-- the same, with the bytes that a device writes for every frame
pub record NoisyState : Type 0 where
  pub state : State
  pub noise : List ℕ
