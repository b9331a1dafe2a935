use Rattle.std.proofs.Common.{ℕ, ◌+◌, ◌<◌, ◌∙◌, refl, sym, ap, subst, arith}
use Rattle.ibos_store.proofs.Putting.{on_err, quota_refused, quota_allowed, put_version, put_set, same_set, len_within, count_within, put_over, same_kept, put_kept, new_version, new_within, new_over, new_set, new_kept}
use Rattle.ibos_store.proofs.objects.Objects.put.Goals as goal

pub overflow_sub-rest : goal.overflow_sub-rest
overflow_sub-rest c =
    len_within c.args.key.now c.in-Some.object.now c.self.inside.objects.entries c.args.self.now c.in-Some.ensures.value c.self.view_is c.self.inside.bytes c.len.result c.self.invariant.0 c.self.invariant.1 c.len.ensures

pub passes_quota-requires : goal.passes_quota-requires
passes_quota-requires c =
    let within = count_within c.args.key.now c.in-Some.object.now c.self.inside.objects.entries c.args.self.now c.in-Some.ensures.value c.self.view_is c.self.inside.bytes c.len.result c.self.invariant.0 c.self.invariant.1 c.len.ensures in
    omega (arith, within)

pub put-requires : goal.put-requires
put-requires c =
    let P : ℕ → Type 0 = λ version. version < 2147483648 in
    subst P (put_version c.args.key.now c.in-Some.object.now c.self.inside.objects.entries c.args.self.now c.in-Some.ensures.value c.self.view_is) c.requires

-- the origin would store too much

pub invariant_of-self : goal.invariant_of-self
invariant_of-self c =
    same_kept c.args.key.now c.in-Some.object.now c.self.inside.objects.entries c.args.self.now c.in-Some.ensures.value c.self.view_is c.self.inside.bytes c.len.result c.self.invariant.0 c.self.invariant.1 c.len.ensures
    c.in-Some.object.now _ (c.get_mut.follows.holds c.in-Some.object.now).0 refl

pub returns-then-passes_quota-clause-answer : goal.returns-then-passes_quota-clause-answer
returns-then-passes_quota-clause-answer c =
    quota_refused c.args.key.now c.args.bytes.now c.args.self.now (sym (c.passes_quota.ensures ∙ put_over c.args.key.now c.in-Some.object.now c.self.inside.objects.entries c.args.self.now c.in-Some.ensures.value c.self.view_is c.self.inside.bytes c.len.result c.self.invariant.0 c.self.invariant.1 c.len.ensures c.args.bytes.now) ∙ c.if-passes_quota.true)

pub returns-then-passes_quota-clause-err : goal.returns-then-passes_quota-clause-err
returns-then-passes_quota-clause-err c =
    same_set c.args.key.now c.in-Some.object.now c.self.inside.objects.entries c.args.self.now c.in-Some.ensures.value c.self.view_is c.in-Some.object.now _ (c.get_mut.follows.holds c.in-Some.object.now).0 refl

pub returns-then-passes_quota-2-clause-answer : goal.returns-then-passes_quota-2-clause-answer
returns-then-passes_quota-2-clause-answer c =
    quota_refused c.args.key.now c.args.bytes.now c.args.self.now (sym (c.passes_quota-in-None.ensures ∙ new_over c.args.key.now c.args.bytes.now c.self.inside.objects.entries c.args.self.now c.self.inside.bytes c.in-None.ensures.value c.self.invariant.0 c.self.invariant.1 c.self.view_is) ∙ c.if-passes_quota-2.true)

-- out of memory

pub invariant_of-self-in_err-version-in-Some : goal.invariant_of-self-in_err-version-in-Some
invariant_of-self-in_err-version-in-Some c =
    same_kept c.args.key.now c.in-Some.object.now c.self.inside.objects.entries c.args.self.now c.in-Some.ensures.value c.self.view_is c.self.inside.bytes c.len.result c.self.invariant.0 c.self.invariant.1 c.len.ensures
    c.put.new.self _ (c.get_mut.follows.holds c.put.new.self).0 c.in_err-version-in-Some.ensures.err

pub returns-in_err-version-in-Some-clause-err : goal.returns-in_err-version-in-Some-clause-err
returns-in_err-version-in-Some-clause-err c =
    on_err c.from_residual.result _ (same_set c.args.key.now c.in-Some.object.now c.self.inside.objects.entries c.args.self.now c.in-Some.ensures.value c.self.view_is c.put.new.self _ (c.get_mut.follows.holds c.put.new.self).0 c.in_err-version-in-Some.ensures.err)

-- another newest version

pub invariant_of-self-in-Some : goal.invariant_of-self-in-Some
invariant_of-self-in-Some c =
    put_kept c.args.key.now c.in-Some.object.now c.self.inside.objects.entries c.args.self.now c.in-Some.ensures.value c.self.view_is c.self.inside.bytes c.len.result c.self.invariant.0 c.self.invariant.1 c.len.ensures
    c.args.bytes.now c.put.new.self _ (c.get_mut.follows.holds c.put.new.self).0 c.in_ok-version-in-Some.ensures.ok (sym c.passes_quota.ensures ∙ c.if-passes_quota.false)

pub returns-in_ok-version-in-Some-clause-answer : goal.returns-in_ok-version-in-Some-clause-answer
returns-in_ok-version-in-Some-clause-answer c =
    quota_allowed c.args.key.now c.args.bytes.now c.args.self.now c.in_ok-version-in-Some.version
    (sym (c.passes_quota.ensures ∙ put_over c.args.key.now c.in-Some.object.now c.self.inside.objects.entries c.args.self.now c.in-Some.ensures.value c.self.view_is c.self.inside.bytes c.len.result c.self.invariant.0 c.self.invariant.1 c.len.ensures c.args.bytes.now) ∙ c.if-passes_quota.false)
    (c.in_ok-version-in-Some.ensures.version ∙ ap (λ n. n + 1) (sym (put_version c.args.key.now c.in-Some.object.now c.self.inside.objects.entries c.args.self.now c.in-Some.ensures.value c.self.view_is)))

pub returns-in_ok-version-in-Some-clause-ok : goal.returns-in_ok-version-in-Some-clause-ok
returns-in_ok-version-in-Some-clause-ok c =
    put_set c.args.key.now c.in-Some.object.now c.self.inside.objects.entries c.args.self.now c.in-Some.ensures.value c.self.view_is
    c.args.bytes.now c.put.new.self _ (c.get_mut.follows.holds c.put.new.self).0 c.in_ok-version-in-Some.ensures.ok

-- the first version under a key

pub passes_quota-requires-in-None : goal.passes_quota-requires-in-None
passes_quota-requires-in-None c = new_within c.args.key.now c.args.bytes.now c.self.inside.objects.entries c.args.self.now c.self.inside.bytes c.in-None.ensures.value c.self.invariant.0 c.self.invariant.1 c.self.view_is

pub invariant_of-self-in-None : goal.invariant_of-self-in-None
invariant_of-self-in-None c =
    new_kept c.args.key.now c.args.bytes.now c.self.inside.objects.entries c.args.self.now c.self.inside.bytes c.in-None.ensures.value c.self.invariant.0 c.self.invariant.1 c.self.view_is
    c.in_ok-object-in-None.object c.in_ok-from_slice-in-None.field-0 _ _ (λ j. (c.get_mut.follows.holds-at-none j).entries) c.in_ok-insert-in-None.ensures.entries c.in_ok-from_slice-in-None.ensures.items c.in_ok-object-in-None.ensures (sym c.passes_quota-in-None.ensures ∙ c.if-passes_quota-2.false)

pub returns-in_ok-insert-in-None-clause-answer : goal.returns-in_ok-insert-in-None-clause-answer
returns-in_ok-insert-in-None-clause-answer c =
    quota_allowed c.args.key.now c.args.bytes.now c.args.self.now 1
    (sym (c.passes_quota-in-None.ensures ∙ new_over c.args.key.now c.args.bytes.now c.self.inside.objects.entries c.args.self.now c.self.inside.bytes c.in-None.ensures.value c.self.invariant.0 c.self.invariant.1 c.self.view_is) ∙ c.if-passes_quota-2.false)
    (new_version c.args.key.now c.args.bytes.now c.self.inside.objects.entries c.args.self.now c.self.inside.bytes c.in-None.ensures.value c.self.invariant.0 c.self.invariant.1 c.self.view_is)

pub returns-in_ok-insert-in-None-clause-ok : goal.returns-in_ok-insert-in-None-clause-ok
returns-in_ok-insert-in-None-clause-ok c =
    new_set c.args.key.now c.args.bytes.now c.self.inside.objects.entries c.args.self.now c.self.inside.bytes c.in-None.ensures.value c.self.invariant.0 c.self.invariant.1 c.self.view_is
    c.in_ok-object-in-None.object c.in_ok-from_slice-in-None.field-0 _ _ (λ j. (c.get_mut.follows.holds-at-none j).entries) c.in_ok-insert-in-None.ensures.entries c.in_ok-from_slice-in-None.ensures.items c.in_ok-object-in-None.ensures
