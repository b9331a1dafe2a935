-- The flows of an instance: it binds at most 16 in its life, numbered in the order in which it
-- bound them, all with one other end. A number is never used again.
use Rattle.std.specs.Prelude.{ℕ, List, [], ◌∷◌, ◌++◌, Bool, true, false, ◌==◌, ◌&&◌, not, nat_lt}
use Rattle.std.specs.Prelude.{length, slice_set, is_some, Option, Some, None, Result, Ok, Err}
use Rattle.std.specs.Prelude.{if◌then◌else◌}
use Rattle.std.specs.List.{slice_index_or}
use Rattle.ibos_kinds.specs.declared.names.Instance.{Instance}
use Rattle.ibos_kinds.specs.declared.names.Proto.{Proto}
use Rattle.ibos_kinds.specs.declared.names.Proto.TheVariants.{Tcp, Udp}
use Rattle.ibos_kinds.specs.declared.names.Endpoint.{Endpoint}
use Rattle.ibos_kinds.specs.declared.names.Heading.{Heading}
use Rattle.ibos_kinds.specs.declared.rule.Rule.{Rule}
use Rattle.ibos_kinds.specs.declared.rule.Rule.TheVariants.{F12, F13, N1, N2}

-- what an instance has bound: the other end of all its flows, and of each flow its protocol while
-- it is open
pub record Bound : Type 0 where
  pub remote : Endpoint
  pub flows : List (Option Proto)

-- the protocol of the flow with that number, if it is open
abbrev pub proto_at : Bound → ℕ → Option Proto
proto_at bound flow = slice_index_or bound.flows flow None

abbrev pub same_proto : Proto → Proto → Bool
same_proto Tcp Tcp = true
same_proto Udp Udp = true
same_proto p q = false

abbrev pub is_over : Option Proto → Proto → Bool
is_over None proto = false
is_over (Some p) proto = same_proto p proto

abbrev pub same_end : Endpoint → Endpoint → Bool
same_end p q = p.addr == q.addr && p.port == q.port

abbrev pub no_flows : Endpoint → Bound
no_flows remote = record { remote = remote; flows = [] }

-- binding: the number is the count of those before
abbrev pub bind_answer : Bound → Result ℕ Rule
bind_answer bound = if nat_lt (length bound.flows) 16 then Ok (length bound.flows) else Err N1

abbrev pub with_flow : Proto → Bound → Bound
with_flow proto bound = record bound { flows = bound.flows ++ Some proto ∷ [] }

-- closing
abbrev pub close_answer : ℕ → Bound → Result Unit Rule
close_answer flow bound = if is_some (proto_at bound flow) then Ok tt else Err N2

abbrev pub without_flow : ℕ → Bound → Bound
without_flow flow bound = record bound { flows = slice_set bound.flows flow None }

-- a frame with that heading, at the flow with that number
abbrev pub admitted : Bound → ℕ → Heading → Result ℕ Rule
admitted bound flow heading =
    if not (is_over (proto_at bound flow) heading.proto) then Err F12
    else if not (same_end heading.remote bound.remote) then Err F13
    else Ok flow

abbrev pub admitted_by : Option Bound → ℕ → Heading → Result ℕ Rule
admitted_by None flow heading = Err F12
admitted_by (Some bound) flow heading = admitted bound flow heading

abbrev pub named : Instance → Result ℕ Rule → Result (Instance × ℕ) Rule
named who (Ok flow) = Ok (who, flow)
named who (Err rule) = Err rule

-- the flow of that owner's that has the heading's protocol and other end
abbrev pub found_by : (Instance → Option Bound) → Option (Instance × ℕ) → Heading
    → Result (Instance × ℕ) Rule
found_by ears None heading = Err F12
found_by ears (Some (who, flow)) heading = named who (admitted_by (ears who) flow heading)
