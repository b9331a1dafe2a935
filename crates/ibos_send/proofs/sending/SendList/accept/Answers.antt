use Rattle.std.proofs.Common.{◌≡◌, ◌+◌, ◌<◌, ◌≤◌, ◌^◌, List, [], ◌∷◌, ◌++◌, Option, Some, length, sym, ◌∙◌, ap, subst, rules}
use Rattle.std.specs.Vec.{vec_capacity}
use Rattle.ibos_send.proofs.ListSteps.{accepted, accepted-hands}
use Rattle.ibos_send.proofs.TablePlaces.{home-named}
use Rattle.ibos_send.proofs.Words.{AreAtHand, IsWaiting, SendList, Waiting, gathered, held_at_home, held_of, held_waiting}
use Rattle.ibos_send.proofs.sending.SendList.accept.Goals as goal

pub invariant_of-self-in-Some : goal.invariant_of-self-in-Some
invariant_of-self-in-Some c =
    let l : SendList = record { waiting = c.self.inside.waiting.items; posts = c.self.inside.posts.items; returned = c.self.inside.returned; told = c.self.inside.told } in
    let w : Waiting = record { who = c.args.who; buffer = c.args.buffer; len = c.args.len; loan = c.in-Some.loan } in
    let fits : IsWaiting (Some w) = (c.requires.least, c.requires.most, home-named c.args.homes.now c.args.who c.args.buffer c.requires.home, c.requires.buffer) in
    let few : length l.waiting < 2 ^ 31 = subst (λ (x : SendList). length x.waiting < 2 ^ 31) (sym c.self.view_is) c.requires.few in
    let roomy : length l.waiting + 1 ≤ vec_capacity c.reserve-2.new.self = search rules in
    accepted l (vec_capacity c.self.inside.posts) (vec_capacity c.reserve-2.new.self) w c.push_reserved.new.self.items c.reserve-2.new.self.items c.self.invariant
    (c.push_reserved.ensures.items ∙ ap (λ (xs : List (Option Waiting)). xs ++ Some w ∷ []) c.reserve.ensures.items) c.reserve-2.ensures.items fits few roomy

pub returns-clause-hands : goal.returns-clause-hands
returns-clause-hands c names mem more hands =
    let w : Waiting = record { who = c.args.who; buffer = c.args.buffer; len = c.args.len; loan = c.in-Some.loan } in
    let home = sym c.take.ensures.taken ∙ c.in-Some.is in
    let taken = subst (λ o. AreAtHand names mem (held_at_home c.take.new.self ++ (held_of o ++ (gathered held_waiting c.args.self.now.waiting ++ more)))) home
    (c.take.ensures.hands names mem (gathered held_waiting c.args.self.now.waiting ++ more) hands) in
    let was : c.self.inside.waiting.items ≡ c.args.self.now.waiting = ap (λ (l : SendList). l.waiting) c.self.view_is in
    accepted-hands names mem (held_at_home c.take.new.self) more c.args.self.now.waiting c.push_reserved.new.self.items w
    (c.push_reserved.ensures.items ∙ ap (λ (xs : List (Option Waiting)). xs ++ Some w ∷ []) (c.reserve.ensures.items ∙ was)) taken
