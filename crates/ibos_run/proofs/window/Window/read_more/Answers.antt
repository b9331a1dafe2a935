use Rattle.std.proofs.Common.{rules, ◌≡◌, ◌+◌, ◌≤◌, ◌<◌, ◌++◌, ℕ, List, Option, ◌∙◌, ap, arith, length, length-take, length-drop, take, subst}
use Rattle.std.specs.Prelude.{IfSome, slice_range}
use Rattle.std.proofs.lemmas.List.{with_items_is, places}
use Rattle.ibos_kinds.specs.Outside.{ReadsFrom}
use Rattle.ibos_run.specs.Captured.{Piece}
use Rattle.ibos_run.proofs.Shown.{piece_grown}
use Rattle.ibos_run.proofs.Windows.{slice_grown}
use Rattle.ibos_run.proofs.window.Window.read_more.Goals as goal

pub returns-clause-reads : goal.returns-clause-reads
returns-clause-reads g c = λ file held of.
    let got = c.in-Ok.got in
    let into = c.read_at.new.into in
    let end = c.self.inside.len in
    let xs = c.deref_mut.result.now in
    let within : end ≤ length xs = omega (arith, c.self.invariant.within, ap length c.deref_mut.ensures.value) in
    let size : length c.args.self.now.bytes ≡ end = omega (arith, ap (λ (p : Piece). length p.bytes) c.self.view_is, c.self.invariant.within, length-take {A = ℕ}, length-drop {A = ℕ}) in
    let same = ap (λ (p : Piece). p.place) c.self.view_is in
    let at : c.self.inside.place + end ≡ c.args.self.now.place + length c.args.self.now.bytes = omega (arith, size, same) in
    let some : 0 < length into = omega (arith, within, size, c.requires, c.self.invariant.whole, c.len-room.ensures, ap length c.deref_mut.ensures.value, c.read_at.auto.into, length-take {A = ℕ}, length-drop {A = ℕ}) in
    let P : ℕ → Type 0 = λ n. IfSome (g.C.Cabinet.holds c.args.cabinet.now c.args.name.now) (λ f. ReadsFrom f n got into) in
    let Q : Option (List ℕ) → Type 0 = λ h. IfSome h (λ f. ReadsFrom f (c.args.self.now.place + length c.args.self.now.bytes) got into) in
    piece_grown file c.args.self.now _ into got same
    (slice_grown xs _ into _ end got within c.in-Ok.ensures.within (with_items_is c.self.inside.bytes _ (search (rules, places)))
    ∙ ap (λ ys. slice_range ys 0 end ++ take got into) c.deref_mut.ensures.value ∙ ap (λ (p : Piece). p.bytes ++ take got into) c.self.view_is)
    c.in-Ok.ensures.within some of (subst Q held (subst P at c.in-Ok.ensures.bytes))
