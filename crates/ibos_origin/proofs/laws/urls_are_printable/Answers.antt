use Rattle.ibos_origin.proofs.UrlTexts.{urls_are_plain}
use Rattle.ibos_origin.proofs.laws.urls_are_printable.Goals as goal

pub returns : goal.returns
returns c = urls_are_plain
