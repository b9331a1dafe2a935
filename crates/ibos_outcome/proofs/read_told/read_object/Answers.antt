use Rattle.std.proofs.Common.{◌∙◌, sym}
use Rattle.ibos_outcome.proofs.ReadWords.{hex_small}
use Rattle.ibos_outcome.proofs.read_told.read_object.Goals as goal

pub returns-clause-canonical : goal.returns-clause-canonical
returns-clause-canonical c = (c.requires.named, c.in-Some.ensures.below, c.in-Some-read_number.ensures.below, hex_small _ _ (sym c.in_ok-bytes.ensures ∙ c.in-Some-2.is))
