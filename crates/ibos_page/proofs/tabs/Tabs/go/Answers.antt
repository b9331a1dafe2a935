use Rattle.std.proofs.Common.{◌≡◌, ◌+◌, List, Some, sym, subst, arith, get_or}
use Rattle.ibos_page.specs.Seats.{Seat}
use Rattle.ibos_page.specs.Tabs.{TabTable, IsTable, live_at, live_in, empty_seat, opened, moved}
use Rattle.ibos_page.proofs.Seats.{table-opened, live_within, live_newest}
use Rattle.ibos_page.proofs.tabs.Tabs.go.Goals as goal

pub invariant_of-self : goal.invariant_of-self
invariant_of-self c =
    let t = c.self.inside in
    let who = c.args.who in
    let table = c.self.invariant in
    let seat : Seat = get_or t.pages who.tab empty_seat in
    let lives : live_in who.tab seat ≡ Some who = let P : TabTable → Type 0 = λ T. live_at T who.tab ≡ Some who in subst P (sym c.self.view_is) c.requires in
    let newest : who.ord + 1 ≡ seat.count = live_newest who.tab seat who (table.each who.tab) lives in
    let P : List Seat → Type 0 = λ seats. IsTable seats t.active in
    subst P (sym c.show.ensures) (table-opened t.pages t.active who.tab (moved c.args.page seat) table (live_within t.pages t.active who.tab who table lives) (record { few = (table.each who.tab).few; some = λ some. omega (arith, newest) }) (λ none. cc))

pub invariant_of-self-2 : goal.invariant_of-self-2
invariant_of-self-2 c =
    let t = c.self.inside in
    let who = c.args.who in
    let table = c.self.invariant in
    let seat : Seat = get_or t.pages who.tab empty_seat in
    let lives : live_in who.tab seat ≡ Some who = let P : TabTable → Type 0 = λ T. live_at T who.tab ≡ Some who in subst P (sym c.self.view_is) c.requires in
    let newest : who.ord + 1 ≡ seat.count = live_newest who.tab seat who (table.each who.tab) lives in
    let P : List Seat → Type 0 = λ seats. IsTable seats t.active in
    subst P (sym c.open.ensures) (table-opened t.pages t.active who.tab (opened c.args.page seat) table (live_within t.pages t.active who.tab who table lives) (record { few = omega (arith, newest, c.if-who.false); some = λ some. omega (arith, newest) }) (λ none. cc))
