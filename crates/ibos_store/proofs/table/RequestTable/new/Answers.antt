use Rattle.std.proofs.Common.{◌∙◌, ap}
use Rattle.ibos_store.specs.Stores.{requests_in}
use Rattle.ibos_store.proofs.Places.{requests-nil}
use Rattle.ibos_store.proofs.table.RequestTable.new.Goals as goal

pub returns : goal.returns
returns c q = ap (λ t. requests_in t q) c.new.ensures.items ∙ requests-nil q
