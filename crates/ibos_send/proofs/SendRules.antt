-- The first rule that a send breaks.
use Rattle.std.proofs.Common.{◌≡◌, ℕ, ◌≤◌, ◌||◌, false, List, Option, Some, None, Ok, Err, sym, ◌∙◌, ap, arith}
use Rattle.std.specs.Prelude.{nat_lt, take}
use Rattle.std.proofs.lemmas.Bool.Decides.{nat_tests}
use Rattle.ibos_kinds.specs.declared.names.Dir.TheVariants.{Out}
use Rattle.ibos_kinds.specs.declared.names.Heading.{Heading}
use Rattle.ibos_kinds.specs.declared.names.Local.{Local}
use Rattle.ibos_kinds.specs.declared.rule.Rule.{Rule}
use Rattle.ibos_kinds.specs.Flows.{Bound}
use Rattle.ibos_kinds.specs.Judged.{judged}
use Rattle.ibos_kinds.specs.Ports.{owner_of}
use Rattle.ibos_kinds.specs.Sends.{broken_of, checked_by, flow_rule, sending_rule, submit_rule}
use Rattle.ibos_send.proofs.Words.{Instance}

module _ (local : Local) (who : Instance) (bound : Option Bound) (len : ℕ) (bytes : List ℕ) (low : 42 ≤ len) (high : len ≤ 1514) where
  in-range : (nat_lt len 42 || nat_lt 1514 len) ≡ false
  in-range = grind (arith, nat_tests)

  pub rule-broken : (rule : Rule) → Err rule ≡ judged local Out (take len bytes) → submit_rule local who bound false len bytes ≡ Some rule
  unfolding sending_rule
  rule-broken rule is = rw in-range (ap (λ r. flow_rule who bound r) (sym is))

  pub rule-foreign : (heading : Heading) (rule : Rule) → Ok heading ≡ judged local Out (take len bytes) → Err rule ≡ checked_by who bound (owner_of heading.port) heading → submit_rule local who bound false len bytes ≡ Some rule
  unfolding sending_rule
  rule-foreign heading rule is foreign = rw in-range (ap (λ r. flow_rule who bound r) (sym is) ∙ ap (λ r. broken_of r) (sym foreign))

  pub rule-none : (heading : Heading) (flow : ℕ) → Ok heading ≡ judged local Out (take len bytes) → Ok flow ≡ checked_by who bound (owner_of heading.port) heading → submit_rule local who bound false len bytes ≡ None
  unfolding sending_rule
  rule-none heading flow is found = rw in-range (ap (λ r. flow_rule who bound r) (sym is) ∙ ap (λ r. broken_of r) (sym found))
