use Rattle.std.proofs.Common.{sym, subst, ap, Ok, ◌∙◌}
use Rattle.ibos_page.specs.Tabs.{TabTable}
use Rattle.ibos_page.specs.declared.tabs.Moved.{Moved}
use Rattle.ibos_kernel.specs.Tables.{ContentsFollow}
use Rattle.ibos_kernel.proofs.ContentsFollow.{follows_replaced, moved_who}
use Rattle.ibos_kernel.proofs.tabs.go_to.Goals as goal

pub returns-in_ok-push-in-Ok-New-2-clause-follows : goal.returns-in_ok-push-in-Ok-New-2-clause-follows
returns-in_ok-push-in-Ok-New-2-clause-follows c =
    let t = c.args.tabs.now in
    let begun = c.in_ok-begin-in-Ok-New.ensures in
    let next = moved_who t c.args.who c.args.page c.in-Ok-New.next (sym c.go.ensures.answer ∙ c.in-Ok-New.is ∙ ap (λ (m : Moved). Ok m) c.in-Ok-New.field-0-is) in
    let follows = follows_replaced t c.args.who c.args.page c.in-Ok-New.next c.args.screen.now c.end.new.self c.begin.new.self next c.requires.beside c.requires.lives
    c.end.ensures.open c.end.ensures.others begun.open begun.blank begun.others in
    let P : TabTable → Type 0 = λ new. ContentsFollow t new c.args.screen.now c.begin.new.self in
    subst P (sym (c.go.ensures.leaves c.in-Ok-New.next (c.in-Ok-New.is ∙ ap (λ (m : Moved). Ok m) c.in-Ok-New.field-0-is))) follows
