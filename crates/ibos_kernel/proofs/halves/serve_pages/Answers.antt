use Rattle.std.proofs.Common.{◌+◌, [], refl, ◌∙◌, ap}
use Rattle.ibos_model.specs.Network.{network}
use Rattle.ibos_model.specs.Tabs.{life_of}
use Rattle.ibos_kernel.specs.Tables.{Parts}
use Rattle.ibos_model.specs.Laws.{Views}
use Rattle.ibos_kernel.specs.Standing.{entry, remote_of}
use Rattle.ibos_kernel.specs.Halves.{begun, opened_in, with_ended}
use Rattle.ibos_kernel.proofs.PageActs.{counted_after, lives_if, named_if, net_goes, new_if, none_turned, origins_of, room_if, turn_made}
use Rattle.ibos_kernel.proofs.StoredKeys.{asked_of}
use Rattle.ibos_kernel.proofs.halves.serve_pages.Goals as goal

pub serve-requires-clause-asked : goal.serve-requires-clause-asked
serve-requires-clause-asked c = asked_of c.requires.together.0 c.args.pages.now c.requires.together.1.pages_stand

pub end-requires : goal.end-requires
end-requires c =
    let H = c.args.pages.now.hosts in
    let origins = origins_of H c.pages.inside.hosts (ap (λ (p : Parts). p.hosts) c.pages.view_is) c.sound.ensures.plain c.endpoints_follow_origins.ensures.endpoint in
    let J = c.requires.together.0 in
    let stand = c.requires.together.1 in
    let turn = turn_made J c.args.pages.now c.serve.new.self c.args.act.now c.serve.new.out [] c.ended_in.result (opened_in c.serve.new.out.items) origins c.requires.pages stand.pages_stand c.requires.fits c.requires.counted.few
    c.in_ok-serve.ensures.serves c.ended_in.ensures refl in
    record { together = (life_of H J, remote_of H J, network J, stand.net_stands, turn.ends) }

pub begin-requires-clause-named : goal.begin-requires-clause-named
begin-requires-clause-named c =
    let H = c.args.pages.now.hosts in
    let origins = origins_of H c.pages.inside.hosts (ap (λ (p : Parts). p.hosts) c.pages.view_is) c.sound.ensures.plain c.endpoints_follow_origins.ensures.endpoint in
    let J = c.requires.together.0 in
    let stand = c.requires.together.1 in
    let turn = turn_made J c.args.pages.now c.serve.new.self c.args.act.now c.serve.new.out [] c.ended_in.result c.opened_in.result origins c.requires.pages stand.pages_stand c.requires.fits c.requires.counted.few
    c.in_ok-serve.ensures.serves c.ended_in.ensures c.opened_in.ensures in
    named_if _ _ _ _ _ _ c.opened_in.result turn

pub begin-requires-clause-lives : goal.begin-requires-clause-lives
begin-requires-clause-lives c =
    let H = c.args.pages.now.hosts in
    let origins = origins_of H c.pages.inside.hosts (ap (λ (p : Parts). p.hosts) c.pages.view_is) c.sound.ensures.plain c.endpoints_follow_origins.ensures.endpoint in
    let J = c.requires.together.0 in
    let stand = c.requires.together.1 in
    let turn = turn_made J c.args.pages.now c.serve.new.self c.args.act.now c.serve.new.out [] c.ended_in.result c.opened_in.result origins c.requires.pages stand.pages_stand c.requires.fits c.requires.counted.few
    c.in_ok-serve.ensures.serves c.ended_in.ensures c.opened_in.ensures in
    let seen = ap (λ (p : Parts). p.tabs) c.pages-2.view_is in
    lives_if _ _ _ _ c.serve.new.self.tabs c.pages-2.inside.tabs _ c.opened_in.result seen turn

pub begin-requires-clause-room : goal.begin-requires-clause-room
begin-requires-clause-room c =
    let H = c.args.pages.now.hosts in
    let origins = origins_of H c.pages.inside.hosts (ap (λ (p : Parts). p.hosts) c.pages.view_is) c.sound.ensures.plain c.endpoints_follow_origins.ensures.endpoint in
    let J = c.requires.together.0 in
    let stand = c.requires.together.1 in
    let turn = turn_made J c.args.pages.now c.serve.new.self c.args.act.now c.serve.new.out [] c.ended_in.result c.opened_in.result origins c.requires.pages stand.pages_stand c.requires.fits c.requires.counted.few
    c.in_ok-serve.ensures.serves c.ended_in.ensures c.opened_in.ensures in
    room_if _ _ _ c.args.pages.now.tabs _ _ c.opened_in.result _ (c.end.ensures.areas ∙ c.requires.counted.areas) turn

pub begin-requires-clause-together : goal.begin-requires-clause-together
begin-requires-clause-together c =
    let H = c.args.pages.now.hosts in
    let origins = origins_of H c.pages.inside.hosts (ap (λ (p : Parts). p.hosts) c.pages.view_is) c.sound.ensures.plain c.endpoints_follow_origins.ensures.endpoint in
    let J = c.requires.together.0 in
    let stand = c.requires.together.1 in
    let turn = turn_made J c.args.pages.now c.serve.new.self c.args.act.now c.serve.new.out [] c.ended_in.result c.opened_in.result origins c.requires.pages stand.pages_stand c.requires.fits c.requires.counted.few
    c.in_ok-serve.ensures.serves c.ended_in.ensures c.opened_in.ensures in (
      with_ended c.ended_in.result (life_of H J),
      remote_of H J,
      network J,
      c.end.ensures.stands (life_of H J) (remote_of H J) (network J) stand.net_stands,
      new_if c.unborn_have_nothing.ensures.bare c.unborn_have_nothing.ensures.quiet H J _ _ _ c.ended_in.result c.opened_in.result stand.pages_stand.run turn,
    )

pub returns-clause-net : goal.returns-clause-net
returns-clause-net c = λ J log stand.
    let H = c.args.pages.now.hosts in
    let origins = origins_of H c.pages.inside.hosts (ap (λ (p : Parts). p.hosts) c.pages.view_is) c.sound.ensures.plain c.endpoints_follow_origins.ensures.endpoint in
    let turn = turn_made J c.args.pages.now c.serve.new.self c.args.act.now c.serve.new.out log c.ended_in.result c.opened_in.result origins c.requires.pages stand.pages_stand c.requires.fits c.requires.counted.few
    c.in_ok-serve.ensures.serves c.ended_in.ensures c.opened_in.ensures in
    let seen = ap (λ (p : Parts). p.tabs) c.pages-2.view_is in
    net_goes c.lives_may_change.ensures J H c.args.act.now c.serve.new.out log c.args.pages.now.tabs c.serve.new.self.tabs c.pages-2.inside.tabs c.ended_in.result c.opened_in.result c.begin.new.net c.requires.pages seen turn
    (c.in_ok-begin.ensures.stands (with_ended c.ended_in.result (life_of H J)) (remote_of H J) (network J) (c.end.ensures.stands (life_of H J) (remote_of H J) (network J) stand.net_stands)
    (new_if c.unborn_have_nothing.ensures.bare c.unborn_have_nothing.ensures.quiet H J _ _ _ c.ended_in.result c.opened_in.result stand.pages_stand.run turn))

pub returns-clause-counted : goal.returns-clause-counted
returns-clause-counted c =
    let H = c.args.pages.now.hosts in
    let origins = origins_of H c.pages.inside.hosts (ap (λ (p : Parts). p.hosts) c.pages.view_is) c.sound.ensures.plain c.endpoints_follow_origins.ensures.endpoint in
    let J = c.requires.together.0 in
    let stand = c.requires.together.1 in
    let turn = turn_made J c.args.pages.now c.serve.new.self c.args.act.now c.serve.new.out [] c.ended_in.result c.opened_in.result origins c.requires.pages stand.pages_stand c.requires.fits c.requires.counted.few
    c.in_ok-serve.ensures.serves c.ended_in.ensures c.opened_in.ensures in
    counted_after _ _ _ _ _ c.ended_in.result c.opened_in.result c.args.net.now c.begin.new.net c.requires.counted turn (c.in_ok-begin.ensures.areas ∙ ap (λ n. n + begun c.opened_in.result) c.end.ensures.areas)

pub returns-clause-denied : goal.returns-clause-denied
returns-clause-denied c = λ denied.
    let H = c.args.pages.now.hosts in
    let origins = origins_of H c.pages.inside.hosts (ap (λ (p : Parts). p.hosts) c.pages.view_is) c.sound.ensures.plain c.endpoints_follow_origins.ensures.endpoint in
    let J = c.requires.together.0 in
    let stand = c.requires.together.1 in
    let turn = turn_made J c.args.pages.now c.serve.new.self c.args.act.now c.serve.new.out [] c.ended_in.result c.opened_in.result origins c.requires.pages stand.pages_stand c.requires.fits c.requires.counted.few
    c.in_ok-serve.ensures.serves c.ended_in.ensures c.opened_in.ensures in
    let still = ap (λ (v : Views). v.tabs) (c.denials_change_nothing.ensures H J (entry c.args.act.now c.serve.new.out []) denied) in
    let kept = ap (λ (p : Parts). p.tabs) (c.in_ok-serve.ensures.serves.denied denied) in
    let none = none_turned H _ _ _ _ c.ended_in.result c.opened_in.result turn still kept in
    c.begin.ensures.none none.1 ∙ c.end.ensures.none none.0
