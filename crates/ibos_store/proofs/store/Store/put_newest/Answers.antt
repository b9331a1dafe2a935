use Rattle.std.proofs.Common.{rules, ◌<◌, List, refl, sym, ◌∙◌, ap, subst, Some, None}
use Rattle.ibos_kinds.specs.Objects.{KeyObject, newest_in, after_put, version_of, with_put}
use Rattle.ibos_store.specs.Answers.{Answers}
use Rattle.ibos_kinds.specs.Labels.{quota_answer}
use Rattle.ibos_store.specs.Stores.{OriginObjects, StoreState, objects_of, origin_objects}
use Rattle.ibos_store.proofs.Finding.{objects_found, puts_set, puts_as, puts_newest, same_origins}
use Rattle.ibos_store.proofs.Sums.{newest_in-with_newest}
use Rattle.ibos_store.proofs.Putting.{then_ok, then_err}
use Rattle.ibos_store.proofs.store.Store.put_newest.Goals as goal

pub put-requires : goal.put-requires
put-requires c =
    let own = objects_found c.args.origin.now c.self.inside.origins.entries c.args.self.now.origins (Some c.in-Some.objects.now) c.in-Some.ensures.value (ap (λ (s : StoreState). s.origins) c.self.view_is) in
    let P : List KeyObject → Type 0 = λ objects. version_of (newest_in objects c.args.key.now) < 2147483648 in
    subst P own c.requires

pub returns-in_err-version-in-None-clause-answer : goal.returns-in_err-version-in-None-clause-answer
returns-in_err-version-in-None-clause-answer c =
    let own = objects_found c.args.origin.now c.self.inside.origins.entries c.args.self.now.origins None c.in-None.ensures.value (ap (λ (s : StoreState). s.origins) c.self.view_is) in
    let refused : Answers c.from_residual.result (quota_answer c.args.key.now c.args.bytes.now c.new-objects.result) = search rules in
    let P : List KeyObject → Type 0 = λ objects. Answers c.from_residual.result (quota_answer c.args.key.now c.args.bytes.now objects) in
    subst P (c.new-objects.ensures ∙ sym own) refused

pub returns-in-Some-clause-answer : goal.returns-in-Some-clause-answer
returns-in-Some-clause-answer c =
    let own = objects_found c.args.origin.now c.self.inside.origins.entries c.args.self.now.origins (Some c.in-Some.objects.now) c.in-Some.ensures.value (ap (λ (s : StoreState). s.origins) c.self.view_is) in
    let P : List KeyObject → Type 0 = λ objects. Answers c.put.result (quota_answer c.args.key.now c.args.bytes.now objects) in
    subst P (sym own) c.put.ensures.answer

pub returns-in-Some-clause-objects : goal.returns-in-Some-clause-objects
returns-in-Some-clause-objects c =
    let seen = ap (λ (s : StoreState). s.origins) c.self.view_is in
    let own = objects_found c.args.origin.now c.self.inside.origins.entries c.args.self.now.origins (Some c.in-Some.objects.now) c.in-Some.ensures.value seen in
    let puts = puts_set c.args.origin.now c.in-Some.objects.now c.put.new.self c.self.inside.origins.entries _ c.args.self.now.origins c.in-Some.ensures.value (c.get_mut.follows.holds c.put.new.self).0 seen in
    then_ok c.put.result (λ is. puts_as c.args.self.now.origins c.args.self.now.origins _ c.args.origin.now c.put.new.self _ refl (is ∙ ap (with_put c.args.key.now c.args.bytes.now) (sym own)) puts) c.put.ensures.ok

pub returns-in-Some-clause-err : goal.returns-in-Some-clause-err
returns-in-Some-clause-err c =
    then_err c.put.result (λ is. ap (λ (os : List OriginObjects). record { origins = os; requests = c.self.inside.requests })
    (same_origins c.args.origin.now c.in-Some.objects.now c.put.new.self c.self.inside.origins.entries _ (origin_objects c.self.inside.origins.entries) c.in-Some.ensures.value (c.get_mut.follows.holds c.put.new.self).0 refl is) ∙ c.self.view_is) c.put.ensures.err

pub returns-in_ok-put_origin-in-None-clause-answer : goal.returns-in_ok-put_origin-in-None-clause-answer
returns-in_ok-put_origin-in-None-clause-answer c =
    let own = objects_found c.args.origin.now c.self.inside.origins.entries c.args.self.now.origins None c.in-None.ensures.value (ap (λ (s : StoreState). s.origins) c.self.view_is) in
    ap (quota_answer c.args.key.now c.args.bytes.now) (own ∙ sym c.new-objects.ensures) ∙ c.in_ok-version-in-None.ensures.answer

pub returns-in_ok-put_origin-in-None-clause-objects : goal.returns-in_ok-put_origin-in-None-clause-objects
returns-in_ok-put_origin-in-None-clause-objects c =
    let seen = ap (λ (s : StoreState). s.origins) c.self.view_is in
    let own = objects_found c.args.origin.now c.self.inside.origins.entries c.args.self.now.origins None c.in-None.ensures.value seen in
    puts_as _ c.args.self.now.origins _ c.args.origin.now c.put-in-None.new.self _ ((λ j. origin_objects (c.get_mut.follows.holds-at-none j).entries) ∙ seen)
    (c.in_ok-version-in-None.ensures.ok ∙ ap (with_put c.args.key.now c.args.bytes.now) (c.new-objects.ensures ∙ sym own)) c.in_ok-put_origin-in-None.ensures.ok

pub returns-in-Some-clause-newest : goal.returns-in-Some-clause-newest
returns-in-Some-clause-newest c =
    let objects = objects_of c.args.self.now c.args.origin.now in
    let newest = after_put (newest_in objects c.args.key.now) c.args.bytes.now in
    then_ok c.put.result (λ puts. puts_newest c.args.self.now.origins _ c.args.origin.now c.args.key.now (with_put c.args.key.now c.args.bytes.now objects) (Some newest) puts (newest_in-with_newest c.args.key.now newest objects)) (returns-in-Some-clause-objects c)

pub returns-in_ok-put_origin-in-None-clause-newest : goal.returns-in_ok-put_origin-in-None-clause-newest
returns-in_ok-put_origin-in-None-clause-newest c =
    let objects = objects_of c.args.self.now c.args.origin.now in
    let newest = after_put (newest_in objects c.args.key.now) c.args.bytes.now in
    puts_newest c.args.self.now.origins _ c.args.origin.now c.args.key.now (with_put c.args.key.now c.args.bytes.now objects) (Some newest) (returns-in_ok-put_origin-in-None-clause-objects c) (newest_in-with_newest c.args.key.now newest objects)
