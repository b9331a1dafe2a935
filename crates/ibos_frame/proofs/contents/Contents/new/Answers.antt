use Rattle.std.proofs.Common.{◌∙◌, ap}
use Rattle.ibos_frame.specs.ScreenStates.{content_in}
use Rattle.ibos_frame.proofs.ContentPlaces.{content-nil}
use Rattle.ibos_frame.proofs.contents.Contents.new.Goals as goal

pub returns : goal.returns
returns c q = ap (λ t. content_in t q) c.new.ensures.items ∙ content-nil q
