use Rattle.std.proofs.Common.{◌∙◌, List, get_or, sym, subst}
use Rattle.ibos_page.specs.Seats.{Seat}
use Rattle.ibos_page.specs.Tabs.{IsTable, empty_seat}
use Rattle.ibos_page.proofs.Seats.{table-closed, without-some}
use Rattle.ibos_page.proofs.tabs.Tabs.close.Goals as goal

pub invariant_of-self : goal.invariant_of-self
invariant_of-self c =
    let t = c.self.inside in
    let table = c.self.invariant in
    let next = c.without-self-inside.result in
    let P : List Seat → Type 0 = λ seats. IsTable seats next in
    subst P (sym c.end.ensures) (table-closed t.pages t.active next c.args.tab (get_or t.pages c.args.tab empty_seat).count table c.requires (table.each c.args.tab).few
    (λ tab h. without-some c.args.tab t.active tab (sym c.without-self-inside.ensures ∙ h)))
