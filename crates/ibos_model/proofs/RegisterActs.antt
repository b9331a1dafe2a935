-- Reads and writes of registers, and frames that are missed, leave posts, frames and buffers as they were.
use Rattle.std.proofs.Common.{ℕ, List, Bool, true, false, Option, Some, None}
use Rattle.std.specs.Prelude.{if◌then◌else◌}
use Rattle.ibos_pool.specs.declared.name.Name.{Name}
use Rattle.ibos_pool.specs.declared.name.Ring.{Ring}
use Rattle.ibos_pool.specs.declared.name.Ring.TheVariants.{Receive, Transmit}
use Rattle.ibos_nic.specs.declared.part.Part.{Part}
use Rattle.ibos_nic.specs.declared.part.Part.TheVariants.{Tail}
use Rattle.ibos_nic.specs.declared.part.RingPart.{RingPart}
use Rattle.ibos_nic.specs.declared.reg.Reg.{Reg}
use Rattle.ibos_nic.specs.declared.reg.Reg.TheVariants.{Icr}
use Rattle.ibos_nic.specs.Parts.{part_of}
use Rattle.ibos_nic.specs.Rings.{values_written}
use Rattle.ibos_model.specs.Rings.{Rings, of_reg, read_from, values_in, with_values, written_to}

-- a statement of what these acts leave: how many were heard, posted and taken back, the names and their turns, and the sends that were
-- posted, with how many of them were sent
abbrev pub Claim : Type 1
Claim = ℕ → ℕ → ℕ → List Name → List ℕ → List ℕ → ℕ → Type 0

abbrev pub Holds : Claim → Rings → Type 0
Holds P r = P r.heard r.receive.posted r.receive.taken r.names r.turns r.posts r.sent

part_leaves : (P : Claim) (r : Rings) (value : ℕ) (ring : Ring) (part : Part) → Holds P r → Holds P (with_values ring (values_written part value (values_in r ring)) r)
part_leaves P r value Receive Tail is = is
part_leaves P r value Receive other is = is
part_leaves P r value Transmit other is = is

write_leaves : (P : Claim) (r : Rings) (reg : Reg) (value : ℕ) (p : Option RingPart) → Holds P r → Holds P (written_to reg p value r)
write_leaves P r reg value None is = is
write_leaves P r reg value (Some p) is = part_leaves P r value p.ring p.part is

pub writes_leave : (P : Claim) (r : Rings) (value : ℕ) (o : Option Reg) (ok : Bool) → Holds P r → Holds P (if ok then of_reg o (λ reg. written_to reg (part_of reg) value r) r else r)
writes_leave P r value o false is = is
writes_leave P r value None true is = is
writes_leave P r value (Some reg) true is = write_leaves P r reg value (part_of reg) is

pub reads_leave : (P : Claim) (r : Rings) (o : Option Reg) (ok : Bool) → Holds P r → Holds P (if ok then of_reg o (λ reg. read_from reg r) r else r)
reads_leave P r o false is = is
reads_leave P r None true is = is
reads_leave P r (Some Icr) true is = is
reads_leave P r (Some other) true is = is

pub missed_leaves : (P : Claim) (r : Rings) (enabled : Bool) (causes missed : ℕ) → Holds P r → Holds P (if enabled then record r { causes = causes; missed = missed } else r)
missed_leaves P r true causes missed is = is
missed_leaves P r false causes missed is = is
