use Rattle.ibos_origin.proofs.UrlFronts.{begins_with_origin, origin_is_short}
use Rattle.ibos_origin.proofs.laws.urls_begin_with_their_origin.Goals as goal

pub returns : goal.returns
returns c = record { begins = begins_with_origin; short = origin_is_short }
