use Rattle.std.proofs.Common.{◌≡◌, ◌<◌, ◌++◌, ◌∷◌, length, Some, None, sym, ◌∙◌, ap, subst, arith}
use Rattle.std.specs.Prelude.{slice_set}
use Rattle.std.proofs.lemmas.List.{set-get_or}
use Rattle.ibos_send.proofs.HomeSteps.{put-hands}
use Rattle.ibos_send.proofs.OpenPlaces.{opened, still-open}
use Rattle.ibos_send.proofs.Words.{AreAtHand, Homes, Table, brought_by, held_at_home, held_of, left_at}
use Rattle.ibos_send.proofs.table.HomeTable.put.Goals as goal

pub returns-in_default-clause-after : goal.returns-in_default-clause-after
returns-in_default-clause-after c =
    let open' = opened c.self.inside.places.items c.args.self.now c.args.who c.place_of.result None c.index_mut.result.now c.self.view_is c.self.invariant c.place_of.ensures.place c.requires.named c.index_mut.ensures.value c.in_default.is in
    let t : Table = c.self.inside.places.items in
    let same : slice_set t c.place_of.result c.index_mut.result.now ≡ t = ap (λ x. slice_set t c.place_of.result x) c.index_mut.ensures.value ∙ set-get_or t c.place_of.result c.index_mut.result.now in
    same ∙ c.self.view_is ∙ sym (ap (λ x. brought_by c.args.who c.args.buffer c.args.loan c.args.self.now x) open'.was)

pub returns-in_default-clause-left : goal.returns-in_default-clause-left
returns-in_default-clause-left c =
    let open' = opened c.self.inside.places.items c.args.self.now c.args.who c.place_of.result None c.index_mut.result.now c.self.view_is c.self.invariant c.place_of.ensures.place c.requires.named c.index_mut.ensures.value c.in_default.is in
    sym (ap (λ x. left_at c.args.buffer c.args.loan x) open'.was)

pub returns-in_default-clause-hands : goal.returns-in_default-clause-hands
returns-in_default-clause-hands c names mem more hands =
    let open' = opened c.self.inside.places.items c.args.self.now c.args.who c.place_of.result None c.index_mut.result.now c.self.view_is c.self.invariant c.place_of.ensures.place c.requires.named c.index_mut.ensures.value c.in_default.is in
    let t : Table = c.self.inside.places.items in
    let same : slice_set t c.place_of.result c.index_mut.result.now ≡ c.args.self.now = ap (λ x. slice_set t c.place_of.result x) c.index_mut.ensures.value ∙ set-get_or t c.place_of.result c.index_mut.result.now ∙ c.self.view_is in
    let left = sym (ap (λ x. left_at c.args.buffer c.args.loan x) open'.was) in
    subst (λ o. AreAtHand names mem (held_of o ++ (held_at_home (slice_set t c.place_of.result c.index_mut.result.now) ++ more))) left
    (subst (λ (s : Table). AreAtHand names mem (c.args.loan ∷ held_at_home s ++ more)) (sym same) hands)

pub returns-clause-after : goal.returns-clause-after
returns-clause-after c =
    let open' = opened c.self.inside.places.items c.args.self.now c.args.who c.place_of.result (Some c.in-Some.homes) c.index_mut.result.now c.self.view_is c.self.invariant c.place_of.ensures.place c.requires.named c.index_mut.ensures.value c.in-Some.is in
    let t : Table = c.self.inside.places.items in
    ap (λ (hs : Homes). slice_set t c.place_of.result (Some hs)) c.put.ensures.after
    ∙ ap (λ (s : Table). slice_set s c.place_of.result (Some (slice_set c.in-Some.homes c.args.buffer (Some c.args.loan)))) c.self.view_is
    ∙ ap (λ k. slice_set c.args.self.now k (Some (slice_set c.in-Some.homes c.args.buffer (Some c.args.loan)))) c.place_of.ensures.place
    ∙ sym (ap (λ x. brought_by c.args.who c.args.buffer c.args.loan c.args.self.now x) open'.was)

pub returns-clause-left : goal.returns-clause-left
returns-clause-left c =
    let open' = opened c.self.inside.places.items c.args.self.now c.args.who c.place_of.result (Some c.in-Some.homes) c.index_mut.result.now c.self.view_is c.self.invariant c.place_of.ensures.place c.requires.named c.index_mut.ensures.value c.in-Some.is in
    c.put.ensures.left ∙ sym (ap (λ x. left_at c.args.buffer c.args.loan x) open'.was)

pub returns-clause-open : goal.returns-clause-open
returns-clause-open c =
    let open' = opened c.self.inside.places.items c.args.self.now c.args.who c.place_of.result (Some c.in-Some.homes) c.index_mut.result.now c.self.view_is c.self.invariant c.place_of.ensures.place c.requires.named c.index_mut.ensures.value c.in-Some.is in
    still-open c.self.inside.places.items c.args.self.now c.args.who c.place_of.result c.in-Some.homes open' c.put.new.self

pub returns-clause-hands : goal.returns-clause-hands
returns-clause-hands c names mem more hands =
    let open' = opened c.self.inside.places.items c.args.self.now c.args.who c.place_of.result (Some c.in-Some.homes) c.index_mut.result.now c.self.view_is c.self.invariant c.place_of.ensures.place c.requires.named c.index_mut.ensures.value c.in-Some.is in
    let size = c.put.ensures.size in
    let below : c.args.buffer < length c.in-Some.homes = omega (arith, size, c.requires.buffer) in
    let left = sym (ap (λ x. left_at c.args.buffer c.args.loan x) open'.was) in
    subst (λ o. AreAtHand names mem (held_of o ++ (held_at_home (slice_set c.self.inside.places.items c.place_of.result (Some c.put.new.self)) ++ more))) left
    (put-hands c.self.inside.places.items c.args.self.now c.args.who c.place_of.result c.in-Some.homes c.args.buffer open' names mem below c.put.new.self c.args.loan c.put.ensures.after more hands)
