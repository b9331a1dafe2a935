-- What the driver and the device made of the two rings, and of the other registers (Intel 8254x,
-- chapter 13). It is counts and names: there is no memory, descriptor or buffer in it.
use Rattle.std.specs.Prelude.{ℕ, ◌+◌, ◌-◌, ◌*◌, ◌/◌, ◌%◌, ◌^◌, ◌==◌, ◌&&◌, ◌||◌, List, [], ◌∷◌}
use Rattle.std.specs.Prelude.{◌++◌}
use Rattle.std.specs.Prelude.{Bool, not, bit_and, bit_or, min, map, take, drop, replicate}
use Rattle.std.specs.Prelude.{slice_index}
use Rattle.std.specs.Prelude.{Option, Some, None, if◌then◌else◌}
use Rattle.std.specs.Int.{w32, bit_not, bytes_high_first}
use Rattle.ibos_kinds.specs.declared.names.Handle.{Handle}
use Rattle.ibos_kinds.specs.declared.names.Local.{Local}
use Rattle.ibos_kinds.specs.declared.names.Verdict.{Verdict}
use Rattle.ibos_kinds.specs.declared.names.Verdict.TheVariants.{Filtered, Missed, Heard}
use Rattle.ibos_kinds.specs.declared.act.Act.{Act}
use Rattle.ibos_kinds.specs.declared.act.Act.TheVariants.{RegRead, RegWrite, RxPost, RxBell, WireIn}
use Rattle.ibos_kinds.specs.declared.act.Act.TheVariants.{TxPost, TxBell, WireOut}
use Rattle.ibos_kinds.specs.declared.outcome.Item.{Item}
use Rattle.ibos_kinds.specs.declared.outcome.Item.TheVariants.{SentIs, VerdictIs}
use Rattle.ibos_pool.specs.declared.name.Name.{Name}
use Rattle.ibos_pool.specs.declared.name.Ring.{Ring}
use Rattle.ibos_pool.specs.declared.name.Ring.TheVariants.{Receive, Transmit}
use Rattle.ibos_nic.specs.declared.part.RingPart.{RingPart}
use Rattle.ibos_nic.specs.declared.reg.Reg.{Reg}
use Rattle.ibos_nic.specs.declared.reg.Reg.TheVariants.{Ctrl, Status, Icr, Ims, Imc, Rctl, Tctl}
use Rattle.ibos_nic.specs.declared.reg.Reg.TheVariants.{Rdbal, Rdbah, Rdlen, Rdh, Rdt, Tdbal, Tdbah}
use Rattle.ibos_nic.specs.declared.reg.Reg.TheVariants.{Tdlen, Tdh, Tdt, Mpc, Ral0, Rah0}
use Rattle.ibos_nic.specs.Bits.{overrun_cause, received_cause, transmitted_cause}
use Rattle.ibos_nic.specs.Device.{is_let_in}
use Rattle.ibos_nic.specs.Parts.{part_of, reg_at}
use Rattle.ibos_nic.specs.Registers.{is_enabled}
use Rattle.ibos_nic.specs.Rings.{RingValues, values_written}
use Rattle.ibos_nic.specs.Rules.{receive_name, with_turn}

pub record Rings : Type 0 where
  pub receive : RingValues
  pub transmit : RingValues
  -- the receive buffers that are posted and were not taken back, the oldest first
  pub names : List Name
  -- how often the buffer of each receive name was taken back
  pub turns : List ℕ
  -- how many frames the device heard
  pub heard : ℕ
  -- the numbers of the sends that were posted, in the order of their posts
  pub posts : List ℕ
  -- how many frames the device sent
  pub sent : ℕ
  -- the causes that are unmasked, those that rose since they were read, and the frames that were
  -- missed since that was read
  pub mask : ℕ
  pub causes : ℕ
  pub missed : ℕ

abbrev pub no_values : RingValues
no_values = record { base = 0; len = 0; control = 0; posted = 0; rung = 0; taken = 0 }

abbrev pub no_rings : Rings
no_rings = record {
  receive = no_values;
  transmit = no_values;
  names = [];
  turns = replicate 64 0;
  heard = 0;
  posts = [];
  sent = 0;
  mask = 0;
  causes = 0;
  missed = 0;
}

abbrev pub values_in : Rings → Ring → RingValues
values_in r Receive = r.receive
values_in r Transmit = r.transmit

abbrev pub with_values : Ring → RingValues → Rings → Rings
with_values Receive v r = record r { receive = v }
with_values Transmit v r = record r { transmit = v }

-- ---- registers are read and written

-- IMS sets bits of the mask, and IMC clears them
abbrev pub mask_after : Reg → ℕ → ℕ → ℕ
mask_after Ims value mask = bit_or mask value
mask_after Imc value mask = bit_and mask (bit_not w32 value)
mask_after other value mask = mask

abbrev pub written_to : Reg → Option RingPart → ℕ → Rings → Rings
written_to reg None value r = record r { mask = mask_after reg value r.mask }
written_to reg (Some p) value r = with_values p.ring (values_written p.part value
    (values_in r p.ring)) r

-- a read of the causes or of the missed frames clears them
abbrev pub read_from : Reg → Rings → Rings
read_from Icr r = record r { causes = 0 }
read_from Mpc r = record r { missed = 0 }
read_from other r = r

-- a change by the register that there may be
abbrev pub of_reg : Option Reg → (Reg → Rings) → Rings → Rings
of_reg None change r = r
of_reg (Some reg) change r = change reg

-- ---- buffers are posted and taken back

abbrev pub posted : Handle → Rings → Rings
posted handle r = record r {
  receive = record r.receive { posted = r.receive.posted + 1 };
  names = r.names ++ receive_name handle.name ∷ [];
}

-- the handle of a buffer once it is taken back: its turn is one higher
abbrev pub handle_after : List ℕ → Name → Handle
handle_after turns name = record {
  name = name.index;
  turn = slice_index turns name.index + 1;
}

-- the handles under which the posted buffers will be the driver's again
abbrev pub handles_after : Rings → List Handle
handles_after r = map (handle_after r.turns) r.names

abbrev pub turns_after : List Name → List ℕ → List ℕ
turns_after [] turns = turns
turns_after (name ∷ names) turns = turns_after names (with_turn turns name.index)

-- a bell takes a buffer back for each frame that was heard
abbrev pub belled_by : ℕ → Rings → Rings
belled_by count r = record r {
  receive = record r.receive { taken = r.receive.taken + count };
  names = drop count r.names;
  turns = turns_after (take count r.names) r.turns;
}

abbrev pub belled : Rings → Rings
belled r = belled_by (r.heard - r.receive.taken) r

-- ---- sends are posted, sent and taken back

abbrev pub send_posted : ℕ → Rings → Rings
send_posted send r = record r {
  transmit = record r.transmit { posted = r.transmit.posted + 1 };
  posts = r.posts ++ send ∷ [];
}

-- there is a frame to send: transmitting is enabled, and not all that was rung is sent
abbrev pub can_send : Rings → Bool
can_send r = is_enabled r.transmit.control && not (r.sent == r.transmit.rung)

-- the device sends the frames in the order of their posts
abbrev pub next_send : Rings → ℕ
next_send r = slice_index r.posts r.sent

abbrev pub sent_one : Rings → Rings
sent_one r = record r { causes = bit_or r.causes transmitted_cause; sent = r.sent + 1 }

abbrev pub sent_by : List Item → Rings → Rings
sent_by (SentIs send ∷ items) r = sent_one r
sent_by other r = r

-- the sends whose frames went out, and whose buffers are not taken back
abbrev pub outbound : Rings → List ℕ
outbound r = take (r.sent - r.transmit.taken) (drop r.transmit.taken r.posts)

-- a transmit bell takes back the buffers of all frames that were sent
abbrev pub returned_by : ℕ → Rings → Rings
returned_by count r = record r {
  transmit = record r.transmit { taken = r.transmit.taken + count };
}

abbrev pub returned : Rings → Rings
returned r = returned_by (r.sent - r.transmit.taken) r

-- ---- frames arrive

-- what becomes of a frame: it passes the filter for the own address or not, and there is a buffer
-- for it or not
unfoldable pub verdict_at : Local → Rings → List ℕ → Verdict
verdict_at local r frame =
    if not (is_let_in (bytes_high_first 6 local.mac) frame) then Filtered
    else if not (is_enabled r.receive.control) || (r.heard == r.receive.rung) then Missed
    else Heard

abbrev pub arrived : Verdict → Rings → Rings
arrived Filtered r = r
arrived Missed r = if is_enabled r.receive.control then record r {
  causes = bit_or r.causes overrun_cause;
  missed = min (r.missed + 1) (2 ^ 32 - 1);
} else r
arrived Heard r = record r { causes = bit_or r.causes received_cause; heard = r.heard + 1 }

abbrev pub verdict_in : List Item → Verdict
verdict_in (VerdictIs verdict ∷ items) = verdict
verdict_in other = Filtered

-- ---- one act

abbrev pub rings_by : Bool → Act → List Item → Rings → Rings
rings_by ok (RegRead offset) items r = if ok then of_reg (reg_at offset) (λ reg. read_from reg r) r
    else r
rings_by ok (RegWrite offset value) items r = if ok
    then of_reg (reg_at offset) (λ reg. written_to reg (part_of reg) value r) r else r
rings_by ok (RxPost slot handle) items r = if ok then posted handle r else r
rings_by ok RxBell items r = if ok then belled r else r
rings_by ok (WireIn frame) items r = if ok then arrived (verdict_in items) r else r
rings_by ok (TxPost slot send) items r = if ok then send_posted send r else r
rings_by ok TxBell items r = if ok then returned r else r
rings_by ok WireOut items r = if ok then sent_by items r else r
rings_by ok other items r = r

-- ---- what the registers are

-- a byte of a MAC address, the first on the wire being byte 0
abbrev pub mac_byte : ℕ → ℕ → ℕ
mac_byte mac i = mac / 256 ^ (5 - i) % 256

-- the first four bytes of the own address, the first of them the lowest
abbrev pub address_low : ℕ → ℕ
address_low mac = mac_byte mac 0 + 256 * mac_byte mac 1 + 256 ^ 2 * mac_byte mac 2
    + 256 ^ 3 * mac_byte mac 3

-- the last two likewise, and the bit that makes the address valid
abbrev pub address_high : ℕ → ℕ
address_high mac = mac_byte mac 4 + 256 * mac_byte mac 5 + 2 ^ 31

abbrev pub register : Local → Rings → Reg → ℕ
register local r Ctrl = 0
register local r Status = 0x00000003
register local r Icr = r.causes
register local r Ims = r.mask
register local r Imc = 0
register local r Rctl = r.receive.control
register local r Tctl = r.transmit.control
register local r Rdbal = r.receive.base
register local r Rdbah = 0
register local r Rdlen = r.receive.len
register local r Rdh = r.heard % 64
register local r Rdt = r.receive.rung % 64
register local r Tdbal = r.transmit.base
register local r Tdbah = 0
register local r Tdlen = r.transmit.len
register local r Tdh = r.sent % 64
register local r Tdt = r.transmit.rung % 64
register local r Mpc = r.missed
register local r Ral0 = address_low local.mac
register local r Rah0 = address_high local.mac
