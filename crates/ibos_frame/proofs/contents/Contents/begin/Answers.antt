use Rattle.std.proofs.Common.{◌<◌, length, Some, ◌∙◌, ap, arith, vec_len}
use Rattle.ibos_frame.specs.ScreenStates.{content_in}
use Rattle.ibos_frame.proofs.ContentPlaces.{content-set_same, content-set_other, content-same}
use Rattle.ibos_frame.proofs.contents.Contents.begin.Goals as goal

pub returns-clause-own : goal.returns-clause-own
returns-clause-own c =
    let longer = c.reach.new.places in
    let reached : c.place_of-place.result < vec_len longer = c.in_ok-reach.ensures.ok in
    let within : c.place_of-place.result < length longer.items = omega (arith, reached, longer.ok.0) in
    content-set_same longer.items c.args.who c.place_of-place.result (Some c.args.content) c.place_of-place.ensures.place c.place_of-place.ensures.tab within

pub returns-clause-others : goal.returns-clause-others
returns-clause-others c q other =
    content-set_other c.reach.new.places.items c.args.who q c.place_of-place.result (Some c.args.content) c.place_of-place.ensures.place c.place_of-place.ensures.tab other ∙ content-same c.self.inside.places.items c.reach.new.places.items c.reach.ensures.same q ∙ ap (λ t. content_in t q) c.self.view_is
