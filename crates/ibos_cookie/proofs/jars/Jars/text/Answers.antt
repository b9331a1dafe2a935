use Rattle.std.proofs.Common.{◌≡◌, ◌∙◌, ap, subst, List, [], Some, None}
use Rattle.std.specs.Prelude.{IfOk}
use Rattle.ibos_kinds.specs.declared.cookies.Cookie.{Cookie}
use Rattle.ibos_kinds.specs.Cookies.{jar_text}
use Rattle.ibos_cookie.proofs.Finding.{jar_found}
use Rattle.ibos_cookie.proofs.Lines.{pairs_text}
use Rattle.ibos_cookie.proofs.jars.Jars.text.Goals as goal

pub returns-in-Some : goal.returns-in-Some
returns-in-Some c =
    let own = jar_found c.args.origin.now c.self.inside.jars.entries c.args.self.now (Some c.in-Some.jar.now) c.in-Some.ensures.value c.self.view_is in
    let P : List Cookie → Type 0 = λ jar. IfOk c.text.result (λ text. text ≡ jar_text jar) in
    subst P own c.text.ensures

pub returns-in-None : goal.returns-in-None
returns-in-None c = c.new.ensures ∙ pairs_text [] ∙ ap jar_text (jar_found c.args.origin.now c.self.inside.jars.entries c.args.self.now None c.in-None.ensures.value c.self.view_is)
