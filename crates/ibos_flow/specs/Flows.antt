-- The flows of all instances, one table.
use Rattle.std.specs.Prelude.{ℕ, ◌≡◌, ◌+◌, ◌*◌, ◌<◌, ◌↔◌, List, ◌&&◌, Bool, nat_lt, Option, Some}
use Rattle.std.specs.Prelude.{None, Result, Ok, Err, IfSome, if◌then◌else◌}
use Rattle.std.specs.List.{slice_index_or}
use Rattle.ibos_kinds.specs.declared.names.Instance.{Instance}
use Rattle.ibos_kinds.specs.declared.names.Proto.{Proto}
use Rattle.ibos_kinds.specs.declared.names.Endpoint.{Endpoint}
use Rattle.ibos_kinds.specs.declared.names.Heading.{Heading}
use Rattle.ibos_kinds.specs.declared.rule.Rule.{Rule}
use Rattle.ibos_kinds.specs.declared.rule.Rule.TheVariants.{F12, F13}
use Rattle.ibos_kinds.specs.Flows.{Bound, found_by, proto_at}
use Rattle.ibos_kinds.specs.Limits.{IsNamed}
use Rattle.ibos_kinds.specs.Ports.{owner_of, port_of}
use Rattle.ibos_kinds.specs.Sends.{checked_by}

-- one place for each instance, of those that were added and not ended
abbrev pub Table : Type 0
Table = List (Option Bound)

-- the place of an instance
abbrev pub place_of : Instance → ℕ
place_of who = 32 * who.tab + who.ord

abbrev pub is_named : Instance → Bool
is_named who = nat_lt who.tab 64 && nat_lt who.ord 32

unfoldable pub bound_by : Table → Instance → Option Bound
bound_by table who = if is_named who then slice_index_or table (place_of who) None else None

-- the flow of all that has the heading's port, protocol and other end
abbrev pub found : Table → Heading → Result (Instance × ℕ) Rule
found table heading = found_by (bound_by table) (owner_of heading.port) heading

-- the flow of that instance that has them
abbrev pub checked : Table → Instance → Heading → Result ℕ Rule
checked table who heading = checked_by who (bound_by table who) (owner_of heading.port) heading

-- ---- the same without the way that a port is taken apart

-- the instance's flow with that number is open, over that protocol
abbrev pub IsOpen : Table → Instance → ℕ → Proto → Type 0
IsOpen table who flow proto =
    (bound : Bound) × (bound_by table who ≡ Some bound) × (proto_at bound flow ≡ Some proto)

-- an open flow has the heading's port and protocol
pub record Suits (table : Table) (heading : Heading) (who : Instance) (flow : ℕ) : Type 0 where
  pub named : IsNamed who
  pub few : flow < 16
  pub port : port_of who flow ≡ heading.port
  pub is_open : IsOpen table who flow heading.proto

-- the instance's other end is that
abbrev pub HasEnd : Table → Instance → Endpoint → Type 0
HasEnd table who end = IfSome (bound_by table who) (λ bound. bound.remote ≡ end)

-- THE LAW. A frame belongs to the open flow that has its port and protocol, if the other end is
-- that of the flow's instance.
abbrev pub AreFound : Type 0
AreFound = (table : Table) (heading : Heading) (who : Instance) (flow : ℕ) → heading.port < 65536
    → (found table heading ≡ Ok (who, flow))
    ↔ (Suits table heading who flow × HasEnd table who heading.remote)

-- F12: no open flow has them
abbrev pub AreMissed : Type 0
AreMissed = (table : Table) (heading : Heading) → heading.port < 65536
    → (found table heading ≡ Err F12)
    ↔ ((who : Instance) (flow : ℕ) → Suits table heading who flow → ⊥)

-- F13: one has, and the other end is another
abbrev pub AreForeign : Type 0
AreForeign = (table : Table) (heading : Heading) → heading.port < 65536
    → (found table heading ≡ Err F13)
    ↔ ((who : Instance) × (flow : ℕ) × Suits table heading who flow
    × (HasEnd table who heading.remote → ⊥))

-- Of one instance's flows the same, with no other instance's among them.
abbrev pub AreChecked : Type 0
AreChecked = (table : Table) (heading : Heading) (who : Instance) (flow : ℕ)
    → heading.port < 65536
    → (checked table who heading ≡ Ok flow) ↔ (found table heading ≡ Ok (who, flow))
