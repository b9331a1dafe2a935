use Rattle.std.proofs.Common.{List, sym, ap, subst, Some, None}
use Rattle.ibos_kinds.specs.Objects.{KeyObject, newest_in}
use Rattle.ibos_store.specs.Answers.{Answers}
use Rattle.ibos_kinds.specs.Labels.{newest_answer}
use Rattle.ibos_store.specs.Stores.{StoreState}
use Rattle.ibos_store.proofs.Finding.{objects_found}
use Rattle.ibos_store.proofs.store.Store.copy.Goals as goal

pub returns-in-Some : goal.returns-in-Some
returns-in-Some c =
    let own = objects_found c.args.origin.now c.self.inside.origins.entries c.args.self.now.origins (Some c.in-Some.objects.now) c.in-Some.ensures.value (ap (λ (s : StoreState). s.origins) c.self.view_is) in
    let P : List KeyObject → Type 0 = λ objects. Answers c.copy.result (newest_answer c.args.version (newest_in objects c.args.key.now)) in
    subst P (sym own) c.copy.ensures

pub returns-in-None : goal.returns-in-None
returns-in-None c =
    let own = objects_found c.args.origin.now c.self.inside.origins.entries c.args.self.now.origins None c.in-None.ensures.value (ap (λ (s : StoreState). s.origins) c.self.view_is) in
    ap (λ (objects : List KeyObject). newest_answer c.args.version (newest_in objects c.args.key.now)) own
