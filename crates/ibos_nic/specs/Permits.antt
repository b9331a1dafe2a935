-- What the driver may do, said of the values themselves and not as a chain of tests.
use Rattle.std.specs.Prelude.{◌≡◌, ◌≢◌, ℕ, ◌-◌, ◌^◌, ◌%◌, ◌<◌, ◌≤◌, ◌⊎◌, List, Option, None, Some}
use Rattle.std.specs.Prelude.{bit_and, false, slice_index, IsFalse}
use Rattle.std.specs.List.{list_any}
use Rattle.ibos_kinds.specs.declared.names.Handle.{Handle}
use Rattle.ibos_pool.specs.declared.name.Name.{Name}
use Rattle.ibos_pool.specs.declared.name.Ring.{Ring}
use Rattle.ibos_pool.specs.declared.name.Ring.TheVariants.{Receive, Transmit}
use Rattle.ibos_pool.specs.Names.{same_name}
use Rattle.ibos_pool.specs.Places.{ring_base}
use Rattle.ibos_pool.specs.Sizes.{receive_buffers}
use Rattle.ibos_nic.specs.declared.part.Part.{Part}
use Rattle.ibos_nic.specs.declared.part.Part.TheVariants.{Base, High, Length, Head, Tail, Control}
use Rattle.ibos_nic.specs.declared.part.RingPart.{RingPart}
use Rattle.ibos_nic.specs.declared.reg.Reg.{Reg}
use Rattle.ibos_nic.specs.declared.reg.Reg.TheVariants.{Ims, Imc}
use Rattle.ibos_nic.specs.Bits.{cause_bits, receive_control, transmit_control, transmit_fixed}
use Rattle.ibos_nic.specs.Parts.{part_of}
use Rattle.ibos_nic.specs.Registers.{is_enabled, ring_length, ring_size}
use Rattle.ibos_nic.specs.Rings.{RingValues, rung_count}
use Rattle.ibos_nic.specs.Rules.{receive_name}

-- the driver gave the ring its place and its length
pub record IsConfigured (ring : Ring) (v : RingValues) : Type 0 where
  pub base : v.base ≡ ring_base ring
  pub len : v.len ≡ ring_length

-- the ring is not enabled
abbrev pub IsDisabled : RingValues → Type 0
IsDisabled v = IsFalse (is_enabled v.control)

-- the value enables a ring: RCTL has one such value, and of TCTL CT and COLD are free
abbrev pub IsEnabling : Ring → ℕ → Type 0
IsEnabling Receive value = value ≡ receive_control
IsEnabling Transmit value = bit_and value transmit_fixed ≡ transmit_control

-- the tail may go on to that slot: no further than what was posted
abbrev pub MayRing : RingValues → ℕ → Type 0
MayRing v slot = rung_count v slot ≤ v.posted

-- the driver may write that value to that part of a ring
abbrev pub MayWritePart : Ring → RingValues → Part → ℕ → Type 0
MayWritePart ring v Base value = (value ≡ ring_base ring) × IsDisabled v
MayWritePart ring v High value = (value ≡ 0) × IsDisabled v
MayWritePart ring v Length value = (value ≡ ring_length) × IsDisabled v
MayWritePart ring v Head value = (value ≡ 0) × IsDisabled v
MayWritePart ring v Tail value = (value < ring_size) × IsConfigured ring v × MayRing v value
MayWritePart ring v Control value = ((value ≡ 0) × IsDisabled v) ⊎ (IsEnabling ring value
    × IsConfigured ring v)

-- and to a register that is part of no ring
abbrev pub MayWriteMask : Reg → ℕ → Type 0
MayWriteMask Ims value = value < 2 ^ cause_bits
MayWriteMask Imc value = value < 2 ^ cause_bits
MayWriteMask other value = ⊥

abbrev pub MayWriteIn : (Ring → RingValues) → Reg → Option RingPart → ℕ → Type 0
MayWriteIn values reg None value = MayWriteMask reg value
MayWriteIn values reg (Some p) value = MayWritePart p.ring (values p.ring) p.part value

-- the driver may write that value to that register
abbrev pub MayWrite : (Ring → RingValues) → Reg → ℕ → Type 0
MayWrite values reg value = MayWriteIn values reg (part_of reg) value

-- a descriptor may be posted at that slot: the next one of a ring that is configured and not full
pub record MayPost (ring : Ring) (v : RingValues) (slot : ℕ) : Type 0 where
  pub configured : IsConfigured ring v
  pub room : v.posted - v.taken ≢ ring_size - 1
  pub next : slot ≡ v.posted % ring_size

-- the receive buffer of a handle may be posted there: the handle is the newest, and the buffer is
-- not in the ring
pub record MayPostReceive (v : RingValues) (names : List Name) (turns : List ℕ) (slot : ℕ)
    (handle : Handle) : Type 0 where
  pub post : MayPost Receive v slot
  pub name : handle.name < receive_buffers
  pub newest : handle.turn ≡ slice_index turns handle.name
  pub outside : list_any (same_name (receive_name handle.name)) names ≡ false
