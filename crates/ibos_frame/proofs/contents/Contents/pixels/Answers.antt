use Rattle.std.proofs.Common.{◌≡◌, ◌≢◌, ◌<◌, ℕ, List, length, Option, None, Some, sym, ◌∙◌, ap, subst, arith}
use Rattle.ibos_frame.specs.ScreenStates.{content_in}
use Rattle.ibos_frame.proofs.ContentPlaces.{content_within, content_read}
use Rattle.ibos_frame.proofs.contents.Contents.pixels.Goals as goal

pub index-requires : goal.index-requires
index-requires c =
    let P : List (Option (List ℕ)) → Type 0 = λ t. content_in t c.args.who ≢ None in
    let within : c.place_of.result < length c.self.inside.places.items = content_within c.self.inside.places.items c.args.who c.place_of.result c.place_of.ensures.place c.place_of.ensures.tab (subst P (sym c.self.view_is) c.requires) in
    omega (arith, within, c.self.inside.places.ok.0)

pub unreachable-requires : goal.unreachable-requires
unreachable-requires c =
    let P : List (Option (List ℕ)) → Type 0 = λ t. content_in t c.args.who ≢ None in
    let there = subst P (sym c.self.view_is) c.requires in
    let within : c.place_of.result < length c.self.inside.places.items = content_within c.self.inside.places.items c.args.who c.place_of.result c.place_of.ensures.place c.place_of.ensures.tab there in
    there (content_read c.self.inside.places.items c.args.who c.place_of.result c.index.result.now c.place_of.ensures.place c.place_of.ensures.tab within c.index.ensures ∙ c.in-None.is)

pub returns-clause-value : goal.returns-clause-value
returns-clause-value c =
    let P : List (Option (List ℕ)) → Type 0 = λ t. content_in t c.args.who ≢ None in
    let Q : List (Option (List ℕ)) → Type 0 = λ t. content_in t c.args.who ≡ Some c.pixels.result.now in
    let there = subst P (sym c.self.view_is) c.requires in
    let within : c.place_of.result < length c.self.inside.places.items = content_within c.self.inside.places.items c.args.who c.place_of.result c.place_of.ensures.place c.place_of.ensures.tab there in
    subst Q c.self.view_is (content_read c.self.inside.places.items c.args.who c.place_of.result c.index.result.now c.place_of.ensures.place c.place_of.ensures.tab within c.index.ensures ∙ c.in-Some.is ∙ ap (λ xs. Some xs) (sym c.pixels.ensures.value))
