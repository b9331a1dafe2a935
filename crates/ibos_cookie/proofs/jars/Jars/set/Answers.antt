use Rattle.std.proofs.Common.{rules, ◌≡◌, ◌∙◌, sym, ap, subst, List, Some, None}
use Rattle.ibos_kinds.specs.declared.cookies.Cookie.{Cookie}
use Rattle.ibos_kinds.specs.Cookies.{put, cookie_in, set_breaks}
use Rattle.ibos_cookie.specs.Jars.{jar_of, origin_jars}
use Rattle.ibos_cookie.specs.Faults.{Answers}
use Rattle.ibos_cookie.proofs.Finding.{jar_found, set_found, unset_found, sets_by_put_in}
use Rattle.ibos_cookie.proofs.jars.Jars.set.Goals as goal

pub returns-in_err-set-in-None-clause-answer : goal.returns-in_err-set-in-None-clause-answer
returns-in_err-set-in-None-clause-answer c =
    let own : c.new-jar.result ≡ jar_of c.args.self.now c.args.origin.now = c.new-jar.ensures ∙ jar_found c.args.origin.now c.self.inside.jars.entries c.args.self.now None c.in-None.ensures.value c.self.view_is in
    let refused : Answers c.from_residual.result (set_breaks c.args.text.now c.new-jar.result) = search rules in
    let P : List Cookie → Type 0 = λ jar. Answers c.from_residual.result (set_breaks c.args.text.now jar) in
    subst P own refused

pub returns-in-Some-clause-answer : goal.returns-in-Some-clause-answer
returns-in-Some-clause-answer c =
    let own = jar_found c.args.origin.now c.self.inside.jars.entries c.args.self.now (Some c.in-Some.jar.now) c.in-Some.ensures.value c.self.view_is in
    let P : List Cookie → Type 0 = λ jar. Answers c.set.result (set_breaks c.args.text.now jar) in
    subst P own c.set.ensures.answer

pub returns-in-Some-clause-ok : goal.returns-in-Some-clause-ok
returns-in-Some-clause-ok c =
    set_found c.args.origin.now c.in-Some.jar.now c.set.new.self c.self.inside.jars.entries _ c.args.self.now c.in-Some.ensures.value c.self.view_is (c.get_mut.follows.holds c.set.new.self).0
    (cookie_in c.args.text.now) c.set.result c.set.ensures.ok

pub returns-in-Some-clause-err : goal.returns-in-Some-clause-err
returns-in-Some-clause-err c =
    unset_found c.args.origin.now c.in-Some.jar.now c.set.new.self c.self.inside.jars.entries _ c.args.self.now c.in-Some.ensures.value c.self.view_is (c.get_mut.follows.holds c.set.new.self).0
    c.set.result c.set.ensures.err

pub returns-in_ok-put_jar-in-None-clause-answer : goal.returns-in_ok-put_jar-in-None-clause-answer
returns-in_ok-put_jar-in-None-clause-answer c =
    let own : c.new-jar.result ≡ jar_of c.args.self.now c.args.origin.now = c.new-jar.ensures ∙ jar_found c.args.origin.now c.self.inside.jars.entries c.args.self.now None c.in-None.ensures.value c.self.view_is in
    ap (set_breaks c.args.text.now) (sym own) ∙ c.in_ok-set-in-None.ensures.answer

pub returns-in_ok-put_jar-in-None-clause-ok : goal.returns-in_ok-put_jar-in-None-clause-ok
returns-in_ok-put_jar-in-None-clause-ok c =
    let own : c.new-jar.result ≡ jar_of c.args.self.now c.args.origin.now = c.new-jar.ensures ∙ jar_found c.args.origin.now c.self.inside.jars.entries c.args.self.now None c.in-None.ensures.value c.self.view_is in
    sets_by_put_in c.args.self.now _ _ c.args.origin.now (cookie_in c.args.text.now) c.set-in-None.new.self ((λ j. origin_jars (c.get_mut.follows.holds-at-none j).entries) ∙ c.self.view_is) c.in_ok-put_jar-in-None.ensures.ok
    (c.in_ok-set-in-None.ensures.ok ∙ ap (put (cookie_in c.args.text.now)) own)
