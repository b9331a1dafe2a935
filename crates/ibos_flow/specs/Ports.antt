-- One place for each local port: the port p stands at p - 32,768.
use Rattle.std.specs.Prelude.{ℕ, ◌≡◌, ◌-◌, ◌<◌, ◌↔◌, List, length, true, false, ◌&&◌, not, IsTrue}
use Rattle.std.specs.Prelude.{Option, Some, None, Result, Ok, Err, if◌then◌else◌}
use Rattle.std.specs.List.{slice_index_or}
use Rattle.ibos_kinds.specs.declared.names.Instance.{Instance}
use Rattle.ibos_kinds.specs.declared.names.Proto.{Proto}
use Rattle.ibos_kinds.specs.declared.names.Proto.TheVariants.{Udp}
use Rattle.ibos_kinds.specs.declared.names.Endpoint.{Endpoint}
use Rattle.ibos_kinds.specs.declared.names.Heading.{Heading}
use Rattle.ibos_kinds.specs.declared.rule.Rule.{Rule}
use Rattle.ibos_kinds.specs.declared.rule.Rule.TheVariants.{F12, F13}
use Rattle.ibos_kinds.specs.Flows.{Bound, proto_at, same_proto, same_end}
use Rattle.ibos_kinds.specs.Limits.{IsNamed}
use Rattle.ibos_kinds.specs.Ports.{port_of}
use Rattle.ibos_flow.specs.declared.ports.PortPlace.{PortPlace}
use Rattle.ibos_flow.specs.Flows.{Table, bound_by, IsOpen, HasEnd}

-- a port at which no flow is open
abbrev pub unbound : PortPlace
unbound = record { bound = false; proto = Udp; remote = record { addr = 0; port = 0 } }

-- the place of a port
abbrev pub place_at : List PortPlace → ℕ → PortPlace
place_at places port = slice_index_or places (port - 32768) unbound

-- The place is that of the flow's port: it is bound exactly where the flow is open, and then has
-- the flow's protocol and its instance's other end.
pub record IsPlaceOf (table : Table) (who : Instance) (flow : ℕ) (place : PortPlace) : Type 0 where
  pub bound : IsTrue place.bound ↔ ((proto : Proto) × IsOpen table who flow proto)
  pub proto : IsTrue place.bound → IsOpen table who flow place.proto
  pub remote : IsTrue place.bound → HasEnd table who place.remote

-- There are as many places as local ports, and each is that of its flow.
pub record ArePlaces (table : Table) (places : List PortPlace) : Type 0 where
  pub count : length places ≡ 32768
  pub told : (who : Instance) (flow : ℕ) → IsNamed who → flow < 16
      → IsPlaceOf table who flow (place_at places (port_of who flow))

-- ---- the same as equations

-- the place of one of an instance's flows
abbrev pub open_place : Endpoint → Option Proto → PortPlace
open_place remote None = unbound
open_place remote (Some proto) = record { bound = true; proto = proto; remote = remote }

abbrev pub flow_place : Option Bound → ℕ → PortPlace
flow_place None flow = unbound
flow_place (Some bound) flow = open_place bound.remote (proto_at bound flow)

abbrev pub ArePlaced : Table → List PortPlace → Type 0
ArePlaced table places = (who : Instance) (flow : ℕ) → IsNamed who → flow < 16
    → place_at places (port_of who flow) ≡ flow_place (bound_by table who) flow

-- a frame with that heading, at the place of the flow with that number
abbrev pub admitted_at : PortPlace → ℕ → Heading → Result ℕ Rule
admitted_at place flow heading =
    if not (place.bound && same_proto place.proto heading.proto) then Err F12
    else if not (same_end heading.remote place.remote) then Err F13
    else Ok flow
