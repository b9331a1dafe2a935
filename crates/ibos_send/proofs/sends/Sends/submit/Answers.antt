use Rattle.std.proofs.Common.{◌≡◌, Some, sym, ◌∙◌, ap}
use Rattle.std.specs.Option.{option_copied}
use Rattle.ibos_send.proofs.HomePlaces.{home-kept}
use Rattle.ibos_send.proofs.PartedHands.{grouped, regrouped}
use Rattle.ibos_send.proofs.TablePlaces.{named_of}
use Rattle.ibos_send.proofs.Words.{gathered, held_at_home, held_waiting, home_in}
use Rattle.ibos_send.proofs.sends.Sends.submit.Goals as goal

pub get-requires-clause-named : goal.get-requires-clause-named
get-requires-clause-named c = named_of c.args.self.now.homes c.args.who c.requires.open

pub bytes-bytes-requires : goal.bytes-bytes-requires
bytes-bytes-requires c =
    let at : home_in c.self.inside.homes c.args.who c.args.buffer ≡ Some c.in-Some.loan.now = sym c.get.ensures ∙ ap (λ o. option_copied o) c.in-Some.is in
    let are = c.requires.hands in
    let hands = are.1 in
    let hands' = rw (← c.self.view_is) at hands in
    home-kept c.self.inside.homes c.args.who c.args.buffer c.in-Some.loan.now are.0 c.args.mem.now (gathered held_waiting c.self.inside.list.waiting) hands' at

pub returns-clause-hands : goal.returns-clause-hands
returns-clause-hands c names mem more hands =
    let hands' = rw (← c.self.view_is) at hands in
    grouped names mem (held_at_home c.accept.new.homes) (gathered held_waiting c.accept.new.self.waiting) more
    (c.accept.ensures.hands names mem more (regrouped names mem (held_at_home c.self.inside.homes) (gathered held_waiting c.self.inside.list.waiting) more hands'))
