use Rattle.std.proofs.Common.{sym, subst, ◌∙◌}
use Rattle.ibos_page.specs.Tabs.{TabTable}
use Rattle.ibos_kernel.specs.Tables.{ContentsFollow}
use Rattle.ibos_kernel.proofs.ContentsFollow.{follows_started, started_free, started_who}
use Rattle.ibos_kernel.proofs.tabs.start.Goals as goal

pub returns-in_ok-begin-in-Ok-read-clause-follows : goal.returns-in_ok-begin-in-Ok-read-clause-follows
returns-in_ok-begin-in-Ok-read-clause-follows c =
    let t = c.args.tabs.now in
    let begun = c.in_ok-begin-in-Ok-read.ensures in
    let who = started_who t c.args.tab c.in-Ok.who (sym c.may_start.ensures ∙ c.in-Ok.is) in
    let follows = follows_started t c.args.tab c.in-Ok-read.page c.in-Ok.who c.args.screen.now c.begin.new.self who c.requires.beside c.requires.tab
    (started_free t c.args.tab c.in-Ok.who (sym c.may_start.ensures ∙ c.in-Ok.is)) begun.open begun.blank begun.others in
    let P : TabTable → Type 0 = λ new. ContentsFollow t new c.args.screen.now c.begin.new.self in
    subst P (sym c.start.ensures.table) follows
