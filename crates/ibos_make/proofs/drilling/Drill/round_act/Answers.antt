use Rattle.std.proofs.Common.{◌≡◌, ℕ, ◌+◌, List, OnOk, Some, slice_get, slice_index, ap₂, ◌∙◌, subst}
use Rattle.ibos_kinds.specs.declared.act.Act.{Act}
use Rattle.ibos_make.specs.declared.rounds.Kind.TheVariants.{Receive, Send, Cookies, Objects, Screen}
use Rattle.ibos_make.specs.Drill.{Drilling, object_acts, round_acts}
use Rattle.ibos_make.proofs.DrillSteps.{acts-are, place-in}
use Rattle.ibos_make.proofs.drilling.Drill.round_act.Goals as goal

pub receive_act-requires-clause-place : goal.receive_act-requires-clause-place
receive_act-requires-clause-place c = place-in c.self.inside.round c.self.inside.counts Receive c.self.inside.place c.in-Receive.is c.self.invariant.0 c.self.invariant.1.place

pub returns-in-Receive-clause-act : goal.returns-in-Receive-clause-act
returns-in-Receive-clause-act c =
    let P : List Act → Type 0 = λ acts. OnOk c.receive_act.result (slice_get acts c.self.inside.place ≡ Some c.receive_act.new.act) in
    let Q : Drilling → Type 0 = λ d. OnOk c.receive_act.result (slice_get (round_acts d.counts) d.place ≡ Some c.receive_act.new.act) in
    subst Q c.self.view_is (subst P (acts-are c.self.inside.round c.self.inside.counts Receive c.in-Receive.is c.self.invariant.0) c.receive_act.ensures.act)

pub send_act-requires-clause-place : goal.send_act-requires-clause-place
send_act-requires-clause-place c = place-in c.self.inside.round c.self.inside.counts Send c.self.inside.place c.in-Send.is c.self.invariant.0 c.self.invariant.1.place

pub returns-in-Send-clause-act : goal.returns-in-Send-clause-act
returns-in-Send-clause-act c =
    let P : List Act → Type 0 = λ acts. OnOk c.send_act.result (slice_get acts c.self.inside.place ≡ Some c.send_act.new.act) in
    let Q : Drilling → Type 0 = λ d. OnOk c.send_act.result (slice_get (round_acts d.counts) d.place ≡ Some c.send_act.new.act) in
    subst Q c.self.view_is (subst P (acts-are c.self.inside.round c.self.inside.counts Send c.in-Send.is c.self.invariant.0) c.send_act.ensures.act)

pub cookie_act-requires-clause-place : goal.cookie_act-requires-clause-place
cookie_act-requires-clause-place c = place-in c.self.inside.round c.self.inside.counts Cookies c.self.inside.place c.in-Cookies.is c.self.invariant.0 c.self.invariant.1.place

pub returns-in-Cookies-clause-act : goal.returns-in-Cookies-clause-act
returns-in-Cookies-clause-act c =
    let P : List Act → Type 0 = λ acts. OnOk c.cookie_act.result (slice_get acts c.self.inside.place ≡ Some c.cookie_act.new.act) in
    let Q : Drilling → Type 0 = λ d. OnOk c.cookie_act.result (slice_get (round_acts d.counts) d.place ≡ Some c.cookie_act.new.act) in
    subst Q c.self.view_is (subst P (acts-are c.self.inside.round c.self.inside.counts Cookies c.in-Cookies.is c.self.invariant.0) c.cookie_act.ensures.act)

pub object_act-requires-clause-place : goal.object_act-requires-clause-place
object_act-requires-clause-place c = place-in c.self.inside.round c.self.inside.counts Objects c.self.inside.place c.in-Objects.is c.self.invariant.0 c.self.invariant.1.place

pub returns-in-Objects-clause-act : goal.returns-in-Objects-clause-act
returns-in-Objects-clause-act c =
    let P : List Act → Type 0 = λ acts. OnOk c.object_act.result (slice_get acts c.self.inside.place ≡ Some c.object_act.new.act) in
    let Q : Drilling → Type 0 = λ d. OnOk c.object_act.result (slice_get (round_acts d.counts) d.place ≡ Some c.object_act.new.act) in
    let d = c.self.inside in
    let same = ap₂ (λ (t place : ℕ). object_acts d.round.tab d.round.byte (slice_index d.counts.asked t) (slice_index d.counts.versions place + 1)) c.from.ensures c.version_place.ensures.place in
    subst Q c.self.view_is (subst P (same ∙ acts-are d.round d.counts Objects c.in-Objects.is c.self.invariant.0) c.object_act.ensures.act)

pub screen_act-requires-clause-place : goal.screen_act-requires-clause-place
screen_act-requires-clause-place c = place-in c.self.inside.round c.self.inside.counts Screen c.self.inside.place c.in-Screen.is c.self.invariant.0 c.self.invariant.1.place

pub returns-in-Screen-clause-act : goal.returns-in-Screen-clause-act
returns-in-Screen-clause-act c =
    let P : List Act → Type 0 = λ acts. OnOk c.screen_act.result (slice_get acts c.self.inside.place ≡ Some c.screen_act.new.act) in
    let Q : Drilling → Type 0 = λ d. OnOk c.screen_act.result (slice_get (round_acts d.counts) d.place ≡ Some c.screen_act.new.act) in
    subst Q c.self.view_is (subst P (acts-are c.self.inside.round c.self.inside.counts Screen c.in-Screen.is c.self.invariant.0) c.screen_act.ensures.act)
