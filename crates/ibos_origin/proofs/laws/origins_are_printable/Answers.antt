use Rattle.ibos_origin.proofs.OriginTexts.{origins_are_plain}
use Rattle.ibos_origin.proofs.laws.origins_are_printable.Goals as goal

pub returns : goal.returns
returns c = origins_are_plain
