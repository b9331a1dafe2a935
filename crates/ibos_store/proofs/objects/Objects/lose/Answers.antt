use Rattle.std.proofs.Common.{sym, ap, ◌∙◌, None}
use Rattle.ibos_kinds.specs.Labels.{lose_answer}
use Rattle.ibos_store.proofs.Finding.{newest_found}
use Rattle.ibos_store.proofs.Putting.{then_ok, then_err, is_held, lost_kept, lost_set, same_set}
use Rattle.ibos_store.proofs.objects.Objects.lose.Goals as goal

pub invariant_of-self-2 : goal.invariant_of-self-2
invariant_of-self-2 c =
    lost_kept c.args.key.now c.in-Some.object.now c.self.inside.objects.entries c.args.self.now c.in-Some.ensures.value c.self.view_is c.self.inside.bytes c.lose.result c.lose.new.self _ c.self.invariant.0 c.self.invariant.1 (c.get_mut.follows.holds c.lose.new.self).0 c.lose.ensures.ok c.lose.ensures.err

pub returns-clause-answer : goal.returns-clause-answer
returns-clause-answer c =
    c.lose.ensures.answer ∙ sym (ap (lose_answer c.args.version) (is_held c.args.key.now c.in-Some.object.now c.self.inside.objects.entries c.args.self.now c.in-Some.ensures.value c.self.view_is))

pub returns-clause-ok : goal.returns-clause-ok
returns-clause-ok c =
    then_ok c.lose.result (lost_set c.args.key.now c.in-Some.object.now c.self.inside.objects.entries c.args.self.now c.in-Some.ensures.value c.self.view_is c.lose.new.self _ (c.get_mut.follows.holds c.lose.new.self).0) c.lose.ensures.ok

pub returns-clause-err : goal.returns-clause-err
returns-clause-err c =
    then_err c.lose.result (same_set c.args.key.now c.in-Some.object.now c.self.inside.objects.entries c.args.self.now c.in-Some.ensures.value c.self.view_is c.lose.new.self _ (c.get_mut.follows.holds c.lose.new.self).0) c.lose.ensures.err

pub returns-in_default-clause-answer : goal.returns-in_default-clause-answer
returns-in_default-clause-answer c = sym (ap (lose_answer c.args.version) (newest_found c.args.key.now c.self.inside.objects.entries c.args.self.now None c.in_default.ensures.value c.self.view_is))
