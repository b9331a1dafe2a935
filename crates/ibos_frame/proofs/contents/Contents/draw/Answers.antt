use Rattle.std.proofs.Common.{◌≡◌, ◌≢◌, ◌<◌, ℕ, List, length, Option, None, Some, sym, ◌∙◌, ap, subst, arith}
use Rattle.std.specs.Prelude.{IfSome}
use Rattle.ibos_kinds.specs.Screens.{cell_after}
use Rattle.ibos_frame.specs.ScreenStates.{content_in, pixel_in}
use Rattle.ibos_frame.proofs.ContentPlaces.{content_within, content_read, content-set_same, content-set_other}
use Rattle.ibos_frame.proofs.contents.Contents.draw.Goals as goal

pub index_mut-requires : goal.index_mut-requires
index_mut-requires c =
    let P : List (Option (List ℕ)) → Type 0 = λ t. content_in t c.args.who ≢ None in
    let within : c.place_of.result < length c.self.inside.places.items = content_within c.self.inside.places.items c.args.who c.place_of.result c.place_of.ensures.place c.place_of.ensures.tab (subst P (sym c.self.view_is) c.requires.«open») in
    omega (arith, within, c.self.inside.places.ok.0)

pub unreachable-requires : goal.unreachable-requires
unreachable-requires c =
    let P : List (Option (List ℕ)) → Type 0 = λ t. content_in t c.args.who ≢ None in
    let there = subst P (sym c.self.view_is) c.requires.«open» in
    let within : c.place_of.result < length c.self.inside.places.items = content_within c.self.inside.places.items c.args.who c.place_of.result c.place_of.ensures.place c.place_of.ensures.tab there in
    there (content_read c.self.inside.places.items c.args.who c.place_of.result c.index_mut.result.now c.place_of.ensures.place c.place_of.ensures.tab within c.index_mut.ensures.value ∙ c.in-None.is)

pub returns-clause-open : goal.returns-clause-open
returns-clause-open c =
    let P : List (Option (List ℕ)) → Type 0 = λ t. content_in t c.args.who ≢ None in
    let Q : Option (List ℕ) → Type 0 = λ x. x ≢ None in
    let within : c.place_of.result < length c.self.inside.places.items = content_within c.self.inside.places.items c.args.who c.place_of.result c.place_of.ensures.place c.place_of.ensures.tab (subst P (sym c.self.view_is) c.requires.«open») in
    subst Q (sym (content-set_same c.self.inside.places.items c.args.who c.place_of.result (Some c.draw.new.self) c.place_of.ensures.place c.place_of.ensures.tab within)) (λ e. cc)

pub returns-clause-own : goal.returns-clause-own
returns-clause-own c r col low =
    let a = c.args in
    let items = c.self.inside.places.items in
    let P : List (Option (List ℕ)) → Type 0 = λ t. content_in t c.args.who ≢ None in
    let Q : List (Option (List ℕ)) → Type 0 = λ t. content_in t c.args.who ≡ Some c.in-Some.content in
    let within : c.place_of.result < length items = content_within items c.args.who c.place_of.result c.place_of.ensures.place c.place_of.ensures.tab (subst P (sym c.self.view_is) c.requires.«open») in
    let was = subst Q c.self.view_is (content_read items c.args.who c.place_of.result c.index_mut.result.now c.place_of.ensures.place c.place_of.ensures.tab within c.index_mut.ensures.value ∙ c.in-Some.is) in
    ap (λ x. pixel_in x r col) (content-set_same items c.args.who c.place_of.result (Some c.draw.new.self) c.place_of.ensures.place c.place_of.ensures.tab within) ∙ c.draw.ensures.drawn r col low ∙ ap (λ x. cell_after a.row a.col a.height a.width a.pixels.now r col (pixel_in x r col)) (sym was)

pub returns-clause-others : goal.returns-clause-others
returns-clause-others c q other =
    content-set_other c.self.inside.places.items c.args.who q c.place_of.result (Some c.draw.new.self) c.place_of.ensures.place c.place_of.ensures.tab other ∙ ap (λ t. content_in t q) c.self.view_is

pub returns-clause-size : goal.returns-clause-size
returns-clause-size c =
    let P : List (Option (List ℕ)) → Type 0 = λ t. content_in t c.args.who ≢ None in
    let Q : Option (List ℕ) → Type 0 = λ x. IfSome x (λ pixels. length pixels ≡ 1760) in
    let within : c.place_of.result < length c.self.inside.places.items = content_within c.self.inside.places.items c.args.who c.place_of.result c.place_of.ensures.place c.place_of.ensures.tab (subst P (sym c.self.view_is) c.requires.«open») in
    subst Q (sym (content-set_same c.self.inside.places.items c.args.who c.place_of.result (Some c.draw.new.self) c.place_of.ensures.place c.place_of.ensures.tab within)) c.draw.ensures.size
