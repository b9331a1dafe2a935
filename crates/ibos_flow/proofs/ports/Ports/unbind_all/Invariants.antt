use Rattle.std.proofs.Common.{◌≡◌, ◌≢◌, ◌≤◌, ◌<◌, ℕ}
use Rattle.ibos_kinds.specs.Ports.{port_of}
use Rattle.ibos_flow.specs.Ports.{place_at, unbound}
use Rattle.ibos_flow.proofs.ports.Ports.unbind_all.Given as goal

-- the first flows' ports are unbound, and other instances' are as they were
abbrev pub invariant-flows : goal.invariant-flows
invariant-flows l = record {
  own : (flow : ℕ) → flow < l.flow → place_at l.self (port_of l.who flow) ≡ unbound;
  others : (port : ℕ) → 32768 ≤ port → ((flow : ℕ) → flow < 16 → port ≢ port_of l.who flow) → place_at l.self port ≡ place_at l.fn.self port;
}
