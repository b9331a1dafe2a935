use Rattle.std.proofs.Common.{◌≡◌, List, None, get_or, subst}
use Rattle.std.specs.Prelude.{slice_set}
use Rattle.ibos_page.specs.Seats.{Seat}
use Rattle.ibos_page.specs.Tabs.{empty_seat, closed}
use Rattle.ibos_page.specs.Places.{seats_of}
use Rattle.ibos_page.proofs.Places.{kept-end}
use Rattle.ibos_page.proofs.pages.Pages.end.Goals as goal

pub invariant_of-self : goal.invariant_of-self
invariant_of-self c =
    let p = c.self.inside in
    (kept-end p.places.items p.pages c.remove.new.self c.args.tab c.in-Some.key c.index.result.now c.self.invariant c.requires.tab c.index.ensures c.remove.ensures.capacity c.in-Some.is c.remove.ensures.updates c.remove.ensures.len).0

pub returns : goal.returns
returns c =
    let p = c.self.inside in
    let P : List Seat → Type 0 = λ seats. seats_of c.remove.new.self (slice_set p.places.items c.args.tab (record { count = c.index.result.now.count; key = None })) ≡ slice_set seats c.args.tab (closed (get_or seats c.args.tab empty_seat)) in
    subst P c.self.view_is (kept-end p.places.items p.pages c.remove.new.self c.args.tab c.in-Some.key c.index.result.now c.self.invariant c.requires.tab c.index.ensures c.remove.ensures.capacity c.in-Some.is c.remove.ensures.updates c.remove.ensures.len).1
