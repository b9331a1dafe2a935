use Rattle.std.proofs.Common.{◌≡◌, ◌≢◌, None, IfSome, sym, ◌∙◌, subst}
use Rattle.ibos_store.specs.Stores.{requests_of}
use Rattle.ibos_model.specs.Journal.{is_ok}
use Rattle.ibos_kernel.specs.Storage.{followed}
use Rattle.ibos_kernel.specs.Tables.{Parts, is_live, requests_after}
use Rattle.ibos_kernel.proofs.RequestsFollow.{begins_if, ends_if, requests_follow, turns_over}
use Rattle.ibos_kernel.proofs.parts.Parts.make_and_follow.Goals as goal

pub follow-requires-clause-ends : goal.follow-requires-clause-ends
follow-requires-clause-ends c =
    let old = c.args.self.now in
    let made = c.make.new.self in
    let turn = turns_over old made c.args.act.now c.make.new.out c.requires.pages c.requires.tied.beside c.requires.fits c.in_ok-make.ensures.makes in
    let P : Parts → Type 0 = λ p. IfSome c.ended_in.result (λ who. requests_of p.store who ≢ None) in
    subst P (sym c.self.view_is)
    (ends_if old.tabs made.tabs c.make.new.out.items old.store made.store (is_ok c.make.new.out.head) c.args.act.now c.ended_in.result c.ended_in.ensures c.requires.asked c.in_ok-make.ensures.requests turn)

pub follow-requires-clause-begins : goal.follow-requires-clause-begins
follow-requires-clause-begins c =
    let old = c.args.self.now in
    let made = c.make.new.self in
    let turn = turns_over old made c.args.act.now c.make.new.out c.requires.pages c.requires.tied.beside c.requires.fits c.in_ok-make.ensures.makes in
    let P : Parts → Type 0 = λ p. IfSome c.opened_in.result (λ who. requests_of p.store who ≡ None) in
    subst P (sym c.self.view_is)
    (begins_if old.tabs made.tabs c.make.new.out.items old.store made.store (is_ok c.make.new.out.head) c.args.act.now c.opened_in.result c.opened_in.ensures c.requires.asked c.in_ok-make.ensures.requests turn)

pub returns-in_ok-follow-clause-requests : goal.returns-in_ok-follow-clause-requests
returns-in_ok-follow-clause-requests c = λ q.
    let old = c.args.self.now in
    let made = c.make.new.self in
    let ok = is_ok c.make.new.out.head in
    let turn = turns_over old made c.args.act.now c.make.new.out c.requires.pages c.requires.tied.beside c.requires.fits c.in_ok-make.ensures.makes in
    let P : Parts → Type 0 = λ p. followed c.ended_in.result c.opened_in.result q (requests_of p.store q) ≡ requests_after old ok c.args.act.now (is_live p.tabs q) q in
    c.in_ok-follow.ensures.requests q ∙ subst P (sym c.self.view_is)
    (requests_follow old.tabs made.tabs c.make.new.out.items old.store made.store ok c.args.act.now c.ended_in.result c.opened_in.result c.ended_in.ensures c.opened_in.ensures c.requires.asked c.in_ok-make.ensures.requests turn q)
