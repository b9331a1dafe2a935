use Rattle.std.proofs.Common.{sym, ap, subst, Option, Some, None}
use Rattle.ibos_kinds.specs.Objects.{Newest}
use Rattle.ibos_store.specs.Answers.{Answers}
use Rattle.ibos_kinds.specs.Labels.{newest_answer}
use Rattle.ibos_store.proofs.Finding.{newest_found}
use Rattle.ibos_store.proofs.objects.Objects.copy.Goals as goal

pub returns-in-Some : goal.returns-in-Some
returns-in-Some c =
    let P : Option Newest → Type 0 = λ found. Answers c.copy.result (newest_answer c.args.version found) in
    subst P (sym (newest_found c.args.key.now c.self.inside.objects.entries c.args.self.now (Some c.in-Some.object.now) c.in-Some.ensures.value c.self.view_is)) c.copy.ensures

pub returns-in-None : goal.returns-in-None
returns-in-None c = ap (newest_answer c.args.version) (newest_found c.args.key.now c.self.inside.objects.entries c.args.self.now None c.in-None.ensures.value c.self.view_is)
