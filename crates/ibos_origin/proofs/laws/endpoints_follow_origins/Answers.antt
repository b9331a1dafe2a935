use Rattle.ibos_origin.proofs.Endpoints.{endpoint_follows, one_endpoint}
use Rattle.ibos_origin.proofs.laws.endpoints_follow_origins.Goals as goal

pub returns : goal.returns
returns c = record { endpoint = endpoint_follows; same = one_endpoint }
