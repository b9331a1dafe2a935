use Rattle.std.proofs.Common.{List, refl, sym, ◌∙◌, ap, Some, None}
use Rattle.ibos_kinds.specs.Objects.{KeyObject, newest_in, with_loss}
use Rattle.ibos_kinds.specs.Labels.{lose_answer}
use Rattle.ibos_store.specs.Stores.{OriginObjects, StoreState, objects_of, origin_objects}
use Rattle.ibos_store.proofs.Finding.{objects_found, puts_set, puts_as, puts_newest, same_origins}
use Rattle.ibos_store.proofs.Sums.{newest_in-with_loss}
use Rattle.ibos_store.proofs.Putting.{then_ok, then_err}
use Rattle.ibos_store.proofs.store.Store.lose.Goals as goal

pub returns-in_default-clause-answer : goal.returns-in_default-clause-answer
returns-in_default-clause-answer c =
    let own = objects_found c.args.origin.now c.self.inside.origins.entries c.args.self.now.origins None c.in_default.ensures.value (ap (λ (s : StoreState). s.origins) c.self.view_is) in
    sym (ap (λ (objects : List KeyObject). lose_answer c.args.version (newest_in objects c.args.key.now)) own)

pub returns-clause-answer : goal.returns-clause-answer
returns-clause-answer c =
    let own = objects_found c.args.origin.now c.self.inside.origins.entries c.args.self.now.origins (Some c.in-Some.objects.now) c.in-Some.ensures.value (ap (λ (s : StoreState). s.origins) c.self.view_is) in
    c.lose.ensures.answer ∙ sym (ap (λ (objects : List KeyObject). lose_answer c.args.version (newest_in objects c.args.key.now)) own)

pub returns-clause-objects : goal.returns-clause-objects
returns-clause-objects c =
    let seen = ap (λ (s : StoreState). s.origins) c.self.view_is in
    let own = objects_found c.args.origin.now c.self.inside.origins.entries c.args.self.now.origins (Some c.in-Some.objects.now) c.in-Some.ensures.value seen in
    let puts = puts_set c.args.origin.now c.in-Some.objects.now c.lose.new.self c.self.inside.origins.entries _ c.args.self.now.origins c.in-Some.ensures.value (c.get_mut.follows.holds c.lose.new.self).0 seen in
    then_ok c.lose.result (λ is. puts_as c.args.self.now.origins c.args.self.now.origins _ c.args.origin.now c.lose.new.self _ refl (is ∙ ap (with_loss c.args.key.now) (sym own)) puts) c.lose.ensures.ok

pub returns-clause-err : goal.returns-clause-err
returns-clause-err c =
    then_err c.lose.result (λ is. ap (λ (os : List OriginObjects). record { origins = os; requests = c.self.inside.requests })
    (same_origins c.args.origin.now c.in-Some.objects.now c.lose.new.self c.self.inside.origins.entries _ (origin_objects c.self.inside.origins.entries) c.in-Some.ensures.value (c.get_mut.follows.holds c.lose.new.self).0 refl is) ∙ c.self.view_is) c.lose.ensures.err

pub returns-clause-newest : goal.returns-clause-newest
returns-clause-newest c =
    let objects = objects_of c.args.self.now c.args.origin.now in
    then_ok c.lose.result (λ puts. puts_newest c.args.self.now.origins _ c.args.origin.now c.args.key.now (with_loss c.args.key.now objects) _ puts (newest_in-with_loss c.args.key.now objects)) (returns-clause-objects c)
