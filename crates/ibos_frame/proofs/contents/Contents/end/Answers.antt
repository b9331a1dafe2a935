use Rattle.std.proofs.Common.{◌≢◌, ◌<◌, ℕ, List, length, Option, None, sym, ◌∙◌, ap, subst, arith}
use Rattle.ibos_frame.specs.ScreenStates.{content_in}
use Rattle.ibos_frame.proofs.ContentPlaces.{content_within, content-set_same, content-set_other}
use Rattle.ibos_frame.proofs.contents.Contents.end.Goals as goal

pub index_mut-requires : goal.index_mut-requires
index_mut-requires c =
    let P : List (Option (List ℕ)) → Type 0 = λ t. content_in t c.args.who ≢ None in
    let within : c.place_of.result < length c.self.inside.places.items = content_within c.self.inside.places.items c.args.who c.place_of.result c.place_of.ensures.place c.place_of.ensures.tab (subst P (sym c.self.view_is) c.requires) in
    omega (arith, within, c.self.inside.places.ok.0)

pub returns-clause-own : goal.returns-clause-own
returns-clause-own c =
    let P : List (Option (List ℕ)) → Type 0 = λ t. content_in t c.args.who ≢ None in
    content-set_same c.self.inside.places.items c.args.who c.place_of.result None c.place_of.ensures.place c.place_of.ensures.tab (content_within c.self.inside.places.items c.args.who c.place_of.result c.place_of.ensures.place c.place_of.ensures.tab (subst P (sym c.self.view_is) c.requires))

pub returns-clause-others : goal.returns-clause-others
returns-clause-others c q other =
    content-set_other c.self.inside.places.items c.args.who q c.place_of.result None c.place_of.ensures.place c.place_of.ensures.tab other ∙ ap (λ t. content_in t q) c.self.view_is
