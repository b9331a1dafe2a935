use Rattle.std.proofs.Common.{rules, ◌≡◌, ◌+◌, ◌-◌, ◌≤◌, ◌<◌, ◌++◌, ℕ, ◌∙◌, sym, ap, arith, inl, inr, length, length-take-le, take, length-take, length-drop, false, subst}
use Rattle.std.specs.Prelude.{IfSome, slice_range}
use Rattle.ibos_kinds.specs.Outside.{ReadsFrom}
use Rattle.std.proofs.lemmas.List.{with_items_is, places}
use Rattle.ibos_run.specs.Sources.{Unread}
use Rattle.ibos_run.proofs.Windows.{over_after, read_on_if, slice_grown, some_or_over}
use Rattle.ibos_run.proofs.source.Source.read_more.Goals as goal

pub returns-clause-more : goal.returns-clause-more
returns-clause-more g c =
    let got = c.in-Ok.got in
    let into = c.read_at.new.into in
    let long : length (take got into) ≡ got = length-take-le got into c.in-Ok.ensures.within in
    let end = c.self.inside.end - c.self.inside.start in
    let xs = c.deref_mut.result.now in
    let within : end ≤ length xs = omega (arith, c.in_ok-make_room.ensures.room, ap length c.deref_mut.ensures.value) in
    record {
      piece = take got into;
      bytes = slice_grown xs _ into _ end got within c.in-Ok.ensures.within (with_items_is c.make_room.new.window _ (search (rules, places)))
          ∙ ap (λ ys. slice_range ys 0 end ++ take got into) c.deref_mut.ensures.value
          ∙ ap (λ ys. ys ++ take got into) c.in_ok-make_room.ensures.bytes ∙ ap (λ (u : Unread). u.bytes ++ take got into) c.self.view_is;
      place = ap (λ n. c.self.inside.place + n) (sym long) ∙ ap (λ (u : Unread). u.place + length (take got into)) c.self.view_is;
      some = elim (some_or_over got _ _ c.is_over-self-inside.ensures) [ inl some ↦ inl (omega (arith, long, some)) | inr ended ↦ inr ended ];
    }

pub returns-clause-text : goal.returns-clause-text
returns-clause-text g c =
    let got = c.in-Ok.got in
    let into = c.read_at.new.into in
    let long : length (take got into) ≡ got = length-take-le got into c.in-Ok.ensures.within in
    let end = c.self.inside.end - c.self.inside.start in
    let xs = c.deref_mut.result.now in
    let within : end ≤ length xs = omega (arith, c.in_ok-make_room.ensures.room, ap length c.deref_mut.ensures.value) in
    let at = ap (λ (u : Unread). u.place) c.self.view_is in
    let more : c.self.inside.over ≡ false = ap (λ (u : Unread). u.over) c.self.view_is ∙ c.requires in
    let fits : got ≤ 67108865 - c.args.self.now.place = omega (arith, at, c.in-Ok.ensures.within, c.read_at.auto.into, c.min-want.ensures, length-take {A = ℕ}, length-drop {A = ℕ}) in
    let some : 0 < length into = omega (arith, within, ap length c.deref_mut.ensures.value, c.in_ok-make_room.ensures.room, c.self.invariant.goes_on more, c.read_at.auto.into, c.min-want.ensures, length-take {A = ℕ}, length-drop {A = ℕ}) in
    read_on_if _ _ _ into got
    (slice_grown xs _ into _ end got within c.in-Ok.ensures.within (with_items_is c.make_room.new.window _ (search (rules, places)))
    ∙ ap (λ ys. slice_range ys 0 end ++ take got into) c.deref_mut.ensures.value
    ∙ ap (λ ys. ys ++ take got into) c.in_ok-make_room.ensures.bytes ∙ ap (λ (u : Unread). u.bytes ++ take got into) c.self.view_is)
    (ap (λ (u : Unread). u.place + got) c.self.view_is) (over_after got _ _ c.is_over-self-inside.ensures)
    fits some
    (subst (λ n. IfSome (g.C.Cabinet.holds c.args.cabinet.now c.args.name.now) (λ file. ReadsFrom file n got into)) at c.in-Ok.ensures.bytes)
