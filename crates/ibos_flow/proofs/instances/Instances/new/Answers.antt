use Rattle.std.proofs.Common.{◌≡◌, ◌∙◌, ap, arith, replicate, None}
use Rattle.ibos_flow.specs.Flows.{Table, bound_by}
use Rattle.ibos_flow.proofs.Places.{bound-nil}
use Rattle.ibos_flow.proofs.instances.Instances.new.Goals as goal

pub returns : goal.returns
returns c who =
    let all : c.filled._place ≡ 2048 = omega arith in
    ap (λ (t : Table). bound_by t who) (c.filled.invariant.items ∙ ap (λ n. replicate n None) all) ∙ bound-nil who
