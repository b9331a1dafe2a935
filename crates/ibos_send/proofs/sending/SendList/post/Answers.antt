use Rattle.std.proofs.Common.{◌≡◌, ◌<◌, ◌^◌, ◌++◌, Some, None, length, sym, ◌∙◌, subst, arith, rules, get_or}
use Rattle.std.proofs.lemmas.List.{get_or_read}
use Rattle.std.specs.Vec.{vec_capacity}
use Rattle.ibos_send.proofs.ListSteps.{posted, posted-hands, some-left}
use Rattle.ibos_send.proofs.Words.{AreAtHand, SendList, gathered, held_waiting}
use Rattle.ibos_send.proofs.sending.SendList.post.Goals as goal

pub push_reserved-requires : goal.push_reserved-requires
push_reserved-requires c =
    let l : SendList = record { waiting = c.self.inside.waiting.items; posts = c.self.inside.posts.items; returned = c.self.inside.returned; told = c.self.inside.told } in
    let below : c.args.send < length l.waiting = search rules in
    let there : get_or l.waiting c.args.send None ≡ Some c.in_ok-who.field-0 = sym (get_or_read l.waiting c.args.send c.index_mut.result.now below c.index_mut.ensures.value None) ∙ sym c.in_ok-who.ensures.value in
    let left = some-left l (vec_capacity c.self.inside.posts) c.args.send c.in_ok-who.field-0 c.self.invariant below there in
    let roomy = c.self.invariant.roomy in
    omega (arith, left, roomy)

pub invariant_of-self-2 : goal.invariant_of-self-2
invariant_of-self-2 c =
    let l : SendList = record { waiting = c.self.inside.waiting.items; posts = c.self.inside.posts.items; returned = c.self.inside.returned; told = c.self.inside.told } in
    let below : c.args.send < length l.waiting = search rules in
    let there : get_or l.waiting c.args.send None ≡ Some c.in_ok-who.field-0 = sym (get_or_read l.waiting c.args.send c.index_mut.result.now below c.index_mut.ensures.value None) ∙ sym c.in_ok-who.ensures.value in
    let same = c.push_reserved.ensures.capacity in
    posted l (vec_capacity c.self.inside.posts) c.args.send c.in_ok-who.field-0 c.self.invariant below there (vec_capacity c.push_reserved.new.self) c.take.new.self c.push_reserved.new.self.items c.in_ok-who.ensures.after c.push_reserved.ensures.items (omega (arith, same))

pub returns-clause-few : goal.returns-clause-few
returns-clause-few c =
    let l : SendList = record { waiting = c.self.inside.waiting.items; posts = c.self.inside.posts.items; returned = c.self.inside.returned; told = c.self.inside.told } in
    let below : c.args.send < length l.waiting = search rules in
    let there : get_or l.waiting c.args.send None ≡ Some c.in_ok-who.field-0 = sym (get_or_read l.waiting c.args.send c.index_mut.result.now below c.index_mut.ensures.value None) ∙ sym c.in_ok-who.ensures.value in
    let left = some-left l (vec_capacity c.self.inside.posts) c.args.send c.in_ok-who.field-0 c.self.invariant below there in
    let most = c.self.invariant.most in
    subst (λ (x : SendList). length x.posts < 2 ^ 31) c.self.view_is (omega (arith, left, most))

pub returns-clause-hands : goal.returns-clause-hands
returns-clause-hands c names mem more hands =
    let l : SendList = record { waiting = c.self.inside.waiting.items; posts = c.self.inside.posts.items; returned = c.self.inside.returned; told = c.self.inside.told } in
    let below : c.args.send < length l.waiting = search rules in
    let there : get_or l.waiting c.args.send None ≡ Some c.in_ok-who.field-0 = sym (get_or_read l.waiting c.args.send c.index_mut.result.now below c.index_mut.ensures.value None) ∙ sym c.in_ok-who.ensures.value in
    let hands' = subst (λ (x : SendList). AreAtHand names mem (gathered held_waiting x.waiting ++ more)) (sym c.self.view_is) hands in
    posted-hands l (vec_capacity c.self.inside.posts) c.args.send c.in_ok-who.field-0 c.self.invariant below there names mem c.take.new.self more c.in_ok-who.ensures.after hands'
