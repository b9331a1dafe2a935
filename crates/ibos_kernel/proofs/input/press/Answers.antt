use Rattle.std.proofs.Common.{◌≡◌, Bool, sym, ◌∙◌, ap}
use Rattle.std.specs.Prelude.{is_some}
use Rattle.ibos_kinds.specs.declared.outcome.Head.TheVariants.{Denied}
use Rattle.ibos_focus.specs.Focused.{key_of}
use Rattle.ibos_kernel.proofs.KeysDenied.{key_denied}
use Rattle.ibos_kernel.proofs.input.press.Goals as goal

pub returns-in-Err-clause-outcome : goal.returns-in-Err-clause-outcome
returns-in-Err-clause-outcome c =
    let active : c.is_some.result ≡ is_some c.active-active.result = c.is_some.ensures in
    let is = ap (λ (b : Bool). key_of c.args.focus.now c.args.key b) (active ∙ ap is_some c.active-active.ensures.who) in
    ap (λ items. record { head = Denied c.in-Err.rule; items = items }) c.requires.items
    ∙ key_denied c.args.hosts.now c.args.tabs.now c.args.focus.now.spot c.args.focus.now.entry_line c.args.key c.in-Err.rule (sym is ∙ sym c.key.ensures.answer ∙ c.in-Err.is)
