use Rattle.ibos_model.proofs.BarOrigins.{origin_shown}
use Rattle.ibos_model.proofs.origins_show_whole.Goals as goal

pub returns : goal.returns
returns c = origin_shown (λ H text page plain is. (
  (c.urls_begin_with_their_origin.ensures.begins H text page is, c.urls_begin_with_their_origin.ensures.short H text page is),
  c.origins_are_printable.ensures H text page plain is,
))
