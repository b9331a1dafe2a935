use Rattle.std.proofs.Common.{◌≤◌, arith}
use Rattle.std.proofs.lemmas.Result.{err_from_is_err_and}
use Rattle.ibos_flow.specs.Flows.{bound_by}
use Rattle.ibos_send.proofs.SendRules.{rule-broken, rule-foreign, rule-none}
use Rattle.ibos_send.proofs.sends.check.Goals as goal

pub returns-in_err-heading-clause-denied : goal.returns-in_err-heading-clause-denied
returns-in_err-heading-clause-denied c =
    let p = err_from_is_err_and c.from_residual.result c.from_residual.ensures.1 in
    let low : 42 ≤ c.args.len = omega (arith, c.if-len-lt-LEAST_FRAME.false) in
    let high : c.args.len ≤ 1514 = omega (arith, c.if-len-gt-LONGEST_FRAME.false) in
    rw (p.1, p.2) (rule-broken c.args.local.now c.args.who (bound_by c.args.flows.now c.args.who) c.args.len c.args.bytes.now low high c.in_err-heading.field-0.0 c.in_err-heading.ensures)

pub returns-in_err-_flow-clause-denied : goal.returns-in_err-_flow-clause-denied
returns-in_err-_flow-clause-denied c =
    let p = err_from_is_err_and c.from_residual-in_err-_flow.result c.from_residual-in_err-_flow.ensures.1 in
    let low : 42 ≤ c.args.len = omega (arith, c.if-len-lt-LEAST_FRAME.false) in
    let high : c.args.len ≤ 1514 = omega (arith, c.if-len-gt-LONGEST_FRAME.false) in
    rw (p.1, p.2) (rule-foreign c.args.local.now c.args.who (bound_by c.args.flows.now c.args.who) c.args.len c.args.bytes.now low high c.in_ok-heading.heading c.in_err-_flow.field-0.0 c.in_ok-heading.ensures c.in_err-_flow.ensures)

pub returns-clause-allowed : goal.returns-clause-allowed
returns-clause-allowed c =
    let low : 42 ≤ c.args.len = omega (arith, c.if-len-lt-LEAST_FRAME.false) in
    let high : c.args.len ≤ 1514 = omega (arith, c.if-len-gt-LONGEST_FRAME.false) in
    rule-none c.args.local.now c.args.who (bound_by c.args.flows.now c.args.who) c.args.len c.args.bytes.now low high c.in_ok-heading.heading c.in_ok-_flow._flow c.in_ok-heading.ensures c.in_ok-_flow.ensures
