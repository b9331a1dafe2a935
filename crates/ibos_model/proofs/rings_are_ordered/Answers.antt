use Rattle.ibos_model.proofs.RingCounts.{ordered}
use Rattle.ibos_model.proofs.rings_are_ordered.Goals as goal

pub returns : goal.returns
returns c = ordered (λ values reg value is. (c.rules_are_exact.ensures.write values reg value).0 is)
    (λ v names turns slot handle is. (c.rules_are_exact.ensures.receive v names turns slot handle).0 is)
    (λ ring v slot is. (c.rules_are_exact.ensures.slot ring v slot).0 is)
