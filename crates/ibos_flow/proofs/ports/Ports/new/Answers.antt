use Rattle.std.proofs.Common.{◌≡◌, ◌∙◌, ap, arith, replicate}
use Rattle.ibos_flow.specs.Ports.{unbound}
use Rattle.ibos_flow.proofs.ports.Ports.new.Goals as goal

pub returns : goal.returns
returns c =
    let all : c.filled._place ≡ 32768 = omega arith in
    c.filled.invariant.items ∙ ap (λ n. replicate n unbound) all
