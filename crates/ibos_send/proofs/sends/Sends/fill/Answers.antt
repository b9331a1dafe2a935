use Rattle.std.proofs.Common.{◌≡◌, Some, length, sym, ◌∙◌, ap, subst, arith}
use Rattle.std.specs.Option.{option_copied}
use Rattle.ibos_pool.specs.Memory.{with_buffer}
use Rattle.ibos_send.proofs.Fillings.{filled-by}
use Rattle.ibos_send.proofs.HomePlaces.{home-kept}
use Rattle.ibos_send.proofs.TablePlaces.{named_of}
use Rattle.ibos_send.proofs.Words.{AreFilled, Outgoing, buffer_bytes, gathered, held_of, held_waiting, home_by, home_in}
use Rattle.ibos_send.proofs.sends.Sends.fill.Goals as goal

pub get-requires-clause-named : goal.get-requires-clause-named
get-requires-clause-named c = named_of c.args.self.now.homes c.args.who c.requires.open

pub bytes_mut-requires : goal.bytes_mut-requires
bytes_mut-requires c =
    let at : home_in c.self.inside.homes c.args.who c.args.buffer ≡ Some c.in-Some.loan.now = sym c.get.ensures ∙ ap (λ o. option_copied o) c.in-Some.is in
    let are = c.requires.hands in
    let hands = are.1 in
    let hands' = rw (← c.self.view_is) at hands in
    home-kept c.self.inside.homes c.args.who c.args.buffer c.in-Some.loan.now are.0 c.args.mem.now (gathered held_waiting c.self.inside.list.waiting) hands' at

pub returns-clause-filled : goal.returns-clause-filled
returns-clause-filled c =
    let at : home_in c.self.inside.homes c.args.who c.args.buffer ≡ Some c.in-Some.loan.now = sym c.get.ensures ∙ ap (λ o. option_copied o) c.in-Some.is in
    let are = c.requires.hands in
    let hands = are.1 in
    let hands' = rw (← c.self.view_is) at hands in
    let kept = home-kept c.self.inside.homes c.args.who c.args.buffer c.in-Some.loan.now are.0 c.args.mem.now (gathered held_waiting c.self.inside.list.waiting) hands' at in
    let same = c.overlay.auto.buffer in
    let whole = c.bytes_mut.ensures.size in
    let size : length c.overlay.new.buffer ≡ buffer_bytes = omega (arith, same, whole) in
    let mem' = with_buffer c.args.mem.now c.in-Some.loan.now.place c.overlay.new.buffer in
    let home : home_by c.args.self.now c.args.who c.args.buffer ≡ Some c.in-Some.loan.now = ap (λ (s : Outgoing). home_by s c.args.who c.args.buffer) (sym c.self.view_is) ∙ at in
    subst (λ o. AreFilled (held_of o) c.args.mem.now mem') (sym home)
    (filled-by c.args.mem.now mem' c.in-Some.loan.now c.overlay.new.buffer kept size (c.bytes_mut.ensures.written c.overlay.new.buffer size))
