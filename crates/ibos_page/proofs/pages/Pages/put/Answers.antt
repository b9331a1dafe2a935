use Rattle.std.proofs.Common.{◌≡◌, List, Some, subst}
use Rattle.std.specs.Prelude.{slice_set}
use Rattle.ibos_page.specs.Seats.{Seat}
use Rattle.ibos_page.specs.Places.{seats_of}
use Rattle.ibos_page.proofs.Places.{kept-put, kept-room}
use Rattle.ibos_page.proofs.pages.Pages.put.Goals as goal

pub store-key-requires-clause-room : goal.store-key-requires-clause-room
store-key-requires-clause-room c = kept-room c.self.inside.places.items c.self.inside.pages c.args.tab c.index.result.now c.self.invariant c.requires c.index.ensures

pub invariant_of-self : goal.invariant_of-self
invariant_of-self c =
    let p = c.self.inside in
    let stored = c.store-key.ensures in
    (kept-put p.places.items p.pages c.store-key.new.pages c.args.tab c.store-key.result c.index.result.now c.self.invariant c.requires c.index.ensures stored.capacity c.args.count c.args.page stored.updates stored.same stored.fresh stored.len).0

pub returns : goal.returns
returns c =
    let p = c.self.inside in
    let stored = c.store-key.ensures in
    let P : List Seat → Type 0 = λ seats. seats_of c.store-key.new.pages (slice_set p.places.items c.args.tab (record { count = c.args.count; key = Some c.store-key.result })) ≡ slice_set seats c.args.tab (record { count = c.args.count; page = Some c.args.page }) in
    subst P c.self.view_is (kept-put p.places.items p.pages c.store-key.new.pages c.args.tab c.store-key.result c.index.result.now c.self.invariant c.requires c.index.ensures stored.capacity c.args.count c.args.page stored.updates stored.same stored.fresh stored.len).1
