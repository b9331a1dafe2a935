use Rattle.std.proofs.Common.{◌≡◌, ◌<◌, ◌-◌, List, ℕ, length, take, drop, ap, subst, ◌∙◌, arith}
use Rattle.std.specs.Prelude.{IfOk}
use Rattle.std.proofs.lemmas.List.{take_rest}
use Rattle.ibos_kinds.specs.Cookies.{jar_text}
use Rattle.ibos_cookie.specs.Lines.{lines}
use Rattle.ibos_cookie.proofs.Lines.{pairs_text, no_text}
use Rattle.ibos_cookie.proofs.jar.Jar.text.Goals as goal

pub returns-in_default : goal.returns-in_default
returns-in_default c =
    let is : c.as_slice.result.now ≡ lines c.args.self.now = c.as_slice.ensures.value ∙ c.self.invariant.text_is ∙ ap lines c.self.view_is in
    let short : length (lines c.args.self.now) < 2 = omega (arith, c.in_default.len_below, ap (λ (t : List ℕ). length t) is) in
    c.new.ensures ∙ no_text c.args.self.now short

pub returns-in-len2-up : goal.returns-in-len2-up
returns-in-len2-up c =
    let is : c.as_slice.result.now ≡ lines c.args.self.now = c.as_slice.ensures.value ∙ c.self.invariant.text_is ∙ ap lines c.self.view_is in
    let rest : take (length c.as_slice.result.now - 2) (drop 2 c.as_slice.result.now) ≡ jar_text c.args.self.now =
    take_rest c.as_slice.result.now 2 ∙ ap (drop 2) is ∙ pairs_text c.args.self.now in
    let P : List ℕ → Type 0 = λ t. IfOk c.from_slice.result (λ made. made ≡ t) in
    subst P rest c.from_slice.ensures
