use Rattle.std.proofs.Common.{◌≡◌, ◌≢◌, ◌≤◌, ◌<◌, ◌+◌, ℕ, List, sym, subst, arith}
use Rattle.ibos_kinds.specs.Ports.{port_of}
use Rattle.ibos_flow.specs.declared.ports.PortPlace.{PortPlace}
use Rattle.ibos_flow.specs.Ports.{place_at, unbound}
use Rattle.ibos_flow.proofs.PortPlaces.{unbound_own, unbound_others}
use Rattle.ibos_flow.proofs.ports.Ports.unbind_all.Goals as goal

pub flows-preserved : goal.flows-preserved
flows-preserved c =
    let who = c.args.who in
    let n : ℕ = c.flows.flow in
    let few : n < 16 = omega arith in
    let P : List PortPlace → Type 0 = λ places. (flow : ℕ) → flow < n + 1 → place_at places (port_of who flow) ≡ unbound in
    let Q : List PortPlace → Type 0 = λ places. (port : ℕ) → 32768 ≤ port → ((flow : ℕ) → flow < 16 → port ≢ port_of who flow) → place_at places port ≡ place_at c.args.self.now port in
    record {
      own = subst P (sym c.unbind.ensures) (unbound_own c.flows.self who n c.flows.invariant.own);
      others = subst Q (sym c.unbind.ensures) (λ port low other. unbound_others c.flows.self c.args.self.now who n port few low other (c.flows.invariant.others port low other));
    }
