use Rattle.ibos_device.proofs.CardLemmas.{zero_test}
use Rattle.ibos_device.proofs.card.Card.has_reset_values.Goals as goal

pub returns : goal.returns
returns c = rw (← c.self.view_is) (zero_test c.self.inside.values c.eq.result c.self.invariant.0 c.eq.ensures)
