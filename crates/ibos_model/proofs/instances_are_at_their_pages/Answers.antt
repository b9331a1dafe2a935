use Rattle.ibos_model.proofs.PageEndpoints.{at_endpoints}
use Rattle.ibos_model.proofs.instances_are_at_their_pages.Goals as goal

pub returns : goal.returns
returns c = at_endpoints (λ H text page plain is. c.endpoints_follow_origins.ensures.endpoint H text page plain is)
