use Rattle.ibos_capture.proofs.WholeGrammar.{is_capture, is_read}
use Rattle.ibos_capture.proofs.laws.captures_law.Goals as goal

pub returns : goal.returns
returns c = λ bytes frames small. (is_capture bytes frames, is_read bytes frames small)
