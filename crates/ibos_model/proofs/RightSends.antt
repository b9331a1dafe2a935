-- A send that is accepted breaks no rule, has a port of its sender, and goes to where its sender's origin is.
use Rattle.std.proofs.Common.{◌≡◌, ℕ, ◌-◌, ◌/◌, ◌%◌, ◌<◌, ◌≤◌, List, [], ◌∷◌, ◌++◌, Bool, true, false, not, ◌||◌, Option, Some, None, Ok, Err, refl, sym, ◌∙◌, ap, subst, arith, length, take}
use Rattle.std.specs.Prelude.{if◌then◌else◌, nat_lt, unwrap_or}
use Rattle.std.specs.List.{All, slice_index_or}
use Rattle.std.proofs.lemmas.Bool.Decides.{nat_tests}
use Rattle.std.proofs.lemmas.List.Elements.{All-map, All-nil, All-push, All-take, All-weaker}
use Rattle.std.proofs.lemmas.Nat.{mod_below}
use Rattle.std.proofs.lemmas.Option.{slice_get-get_or}
use Rattle.ibos_kinds.specs.declared.act.Act.{Act}
use Rattle.ibos_kinds.specs.declared.act.Act.TheVariants.{Submit}
use Rattle.ibos_kinds.specs.declared.names.Dir.TheVariants.{Out}
use Rattle.ibos_kinds.specs.declared.names.Endpoint.{Endpoint}
use Rattle.ibos_kinds.specs.declared.names.Heading.{Heading}
use Rattle.ibos_kinds.specs.declared.names.Instance.{Instance}
use Rattle.ibos_kinds.specs.declared.names.Local.{Local}
use Rattle.ibos_kinds.specs.declared.rule.Rule.{Rule}
use Rattle.ibos_kinds.specs.declared.rule.Rule.TheVariants.{F12, F13, N3, N4}
use Rattle.ibos_kinds.specs.Flows.{Bound, is_over, proto_at, same_end}
use Rattle.ibos_kinds.specs.Frames.{first_broken, heading_of}
use Rattle.ibos_kinds.specs.Judged.{unless_broken}
use Rattle.ibos_kinds.specs.Ports.{owner_of, port_of}
use Rattle.ibos_kinds.specs.Sends.{Send, broken_of, checked_by, flow_rule, frame_of_send, send_at, sending_rule, submit_rule}
use Rattle.ibos_origin.specs.Hosts.{HostTable}
use Rattle.ibos_origin.specs.Pages.{Page}
use Rattle.ibos_model.specs.Journal.{Entry, Journal, is_ok, same}
use Rattle.ibos_model.specs.Laws.{AreRight, AreSentRightly, IsOfASend, IsRight}
use Rattle.ibos_model.specs.Network.{endpoint_for, network}
use Rattle.ibos_model.specs.Outcomes.{admitted, bound_in, out, submit_outcome}
use Rattle.ibos_model.specs.Runs.{IsRun}
use Rattle.ibos_model.specs.Tabs.{life_with, origin_of, origin_with, tabs}
use Rattle.ibos_model.proofs.Entries.{as_entry, entry}
use Rattle.ibos_model.proofs.Equalities.{same-true}
use Rattle.ibos_model.proofs.NewInstances.{page_after}
use Rattle.ibos_model.proofs.PostedSends.{posted_once}

-- ---- ports and ends

ends_are_same : (p q : Endpoint) → same_end p q ≡ true → p ≡ q
ends_are_same p q is = grind (arith, nat_tests)

abbrev owner_in : ℕ → Instance × ℕ
owner_in port = (record { tab = (port - 32768) / 512; ord = (port - 32768) / 16 % 32 }, port % 16)

-- each port that has an owner is one of the owner's 16
of_owner : (port : ℕ) (who : Instance) (flow : ℕ) → owner_of port ≡ Some (who, flow) → (port ≡ port_of who flow) × (flow < 16)
unfolding owner_of
of_owner port who flow is = by_test (nat_lt port 32768) refl is
  where
    place_is : 32768 ≤ port → port ≡ port_of (owner_in port).0 (owner_in port).1
    place_is high = omega (arith, high)

    by_test : (low : Bool) → nat_lt port 32768 ≡ low → (if low then None else Some (owner_in port)) ≡ Some (who, flow) → (port ≡ port_of who flow) × (flow < 16)
    by_test true low is = cc
    by_test false low is =
        let high : 32768 ≤ port = grind (arith, nat_tests) in
        let P : Instance × ℕ → Type 0 = λ o. (port ≡ port_of o.0 o.1) × (o.1 < 16) in
        subst P (ap (λ o. unwrap_or o (who, flow)) is) (place_is high, mod_below port 16 (omega arith))

-- ---- one send

-- a heading that a flow of the instance may send
record IsOwn (who : Instance) (bound : Bound) (heading : Heading) : Type 0 where
  flow : ℕ
  few : flow < 16
  port : heading.port ≡ port_of who flow
  remote : heading.remote ≡ bound.remote

checked_own : (who : Instance) (bound : Bound) (heading : Heading) (owner : Option (Instance × ℕ)) → owner_of heading.port ≡ owner
    → broken_of (checked_by who (Some bound) owner heading) ≡ None → IsOwn who bound heading
checked_own who bound heading None is none = cc
checked_own who bound heading (Some (q, flow)) is none =
    by_tests (same q who) (is_over (proto_at bound flow) heading.proto) (same_end heading.remote bound.remote) refl refl none
  where
    by_tests : (own open_ end_ : Bool) → same q who ≡ own → same_end heading.remote bound.remote ≡ end_
        → broken_of (if own then (if not open_ then Err F12 else if not end_ then Err F13 else Ok flow) else Err F12) ≡ None → IsOwn who bound heading
    by_tests false open_ end_ own ends none = cc
    by_tests true false end_ own ends none = cc
    by_tests true true false own ends none = cc
    by_tests true true true own ends none =
        let its = of_owner heading.port q flow is in
        record {
          flow = flow;
          few = its.1;
          port = its.0 ∙ ap (λ p. port_of p flow) (same-true q who own);
          remote = ends_are_same heading.remote bound.remote ends;
        }

-- a frame that breaks no rule
record IsSendable (local : Local) (who : Instance) (bound : Bound) (w : List ℕ) : Type 0 where
  rules : first_broken local Out w ≡ None
  own : IsOwn who bound (heading_of Out w)

judged_sendable : (local : Local) (who : Instance) (bound : Bound) (w : List ℕ) (broken : Option Rule) → first_broken local Out w ≡ broken
    → flow_rule who (Some bound) (unless_broken broken (heading_of Out w)) ≡ None → IsSendable local who bound w
judged_sendable local who bound w (Some rule) is none = cc
judged_sendable local who bound w None is none = record { rules = is; own = checked_own who bound (heading_of Out w) (owner_of (heading_of Out w).port) refl none }

unbroken_sendable : (local : Local) (who : Instance) (bound : Bound) (w : List ℕ) → sending_rule local who (Some bound) w ≡ None → IsSendable local who bound w
unfolding sending_rule
unbroken_sendable local who bound w none = judged_sendable local who bound w (first_broken local Out w) refl none

submitted_sendable : (local : Local) (who : Instance) (bound : Bound) (away : Bool) (len : ℕ) (buffer : List ℕ) → submit_rule local who (Some bound) away len buffer ≡ None
    → IsSendable local who bound (take len buffer)
submitted_sendable local who bound away len buffer none = by_tests away (nat_lt len 42 || nat_lt 1514 len) none
  where
    by_tests : (away bad : Bool) → (if away then Some N3 else if bad then Some N4 else sending_rule local who (Some bound) (take len buffer)) ≡ None
        → IsSendable local who bound (take len buffer)
    by_tests true bad none = cc
    by_tests false true none = cc
    by_tests false false none = unbroken_sendable local who bound (take len buffer) none

-- ---- sends of runs

-- a send that is right, of an instance that has started
record Stands (H : HostTable) (J : Journal) (send : Send) : Type 0 where
  right : IsRight H J send
  page : Page
  started : (tabs H J).page send.who ≡ Some page

-- what an instance sent stays right, since it keeps its page
stands_after : (H : HostTable) (J : Journal) (e : Entry) (send : Send) → IsRun H (e ∷ J) → Stands H J send → Stands H (e ∷ J) send
stands_after H J e send run is =
    let started = page_after H J e send.who is.page run is.started in
    let kept : origin_of H J send.who ≡ origin_of H (e ∷ J) send.who = ap origin_with is.started ∙ sym (ap origin_with started) in
    record {
      right = record { rules = is.right.rules; flow = is.right.flow; few = is.right.few; port = is.right.port; remote = is.right.remote ∙ ap (endpoint_for H) kept };
      page = is.page;
      started = started;
    }

abbrev submitted : Journal → Instance → ℕ → ℕ → Send
submitted J who buffer len = record { who = who; buffer = buffer; bytes = take len ((network J).buffers who buffer) }

submitted_stands : (H : HostTable) (J : Journal) (who : Instance) (buffer len : ℕ) → is_ok (out H J (Submit who buffer len)).head ≡ true → Stands H J (submitted J who buffer len)
submitted_stands H J who buffer len ok =
    by_page ((tabs H J).page who) ((tabs H J).is_gone who) refl (submit_rule H.local who (Some (bound_in H J who)) ((network J).away who buffer) len ((network J).buffers who buffer)) refl ok
  where
    by_page : (page : Option Page) (gone : Bool) → (tabs H J).page who ≡ page
        → (rule : Option Rule) → submit_rule H.local who (Some (bound_in H J who)) ((network J).away who buffer) len ((network J).buffers who buffer) ≡ rule
        → is_ok (admitted (life_with page gone) (submit_outcome (length (network J).sends) who (take len ((network J).buffers who buffer)) rule)).head ≡ true
        → Stands H J (submitted J who buffer len)
    by_page None gone there rule is ok = cc
    by_page (Some page) true there rule is ok = cc
    by_page (Some page) false there (Some rule) is ok = cc
    by_page (Some page) false there None is ok =
        let send = submitted_sendable H.local who (bound_in H J who) ((network J).away who buffer) len ((network J).buffers who buffer) is in
        record {
          right = record { rules = send.rules; flow = send.own.flow; few = send.own.few; port = send.own.port; remote = send.own.remote };
          page = page;
          started = there;
        }

entry_stands : (H : HostTable) (J : Journal) (a : Act) (w : List ℕ) → ((send : Send) → Stands H J send → Stands H (entry H J a w ∷ J) send) → All (Stands H (entry H J a w ∷ J)) (network J).sends
    → All (Stands H (entry H J a w ∷ J)) (network (entry H J a w ∷ J)).sends
unfolding network
entry_stands H J (Submit who buffer len) w keeps all = by_ok (is_ok (out H J (Submit who buffer len)).head) refl
  where
    by_ok : (ok : Bool) → is_ok (out H J (Submit who buffer len)).head ≡ ok
        → All (Stands H (entry H J (Submit who buffer len) w ∷ J)) (if ok then (network J).sends ++ submitted J who buffer len ∷ [] else (network J).sends)
    by_ok false is = all
    by_ok true is =
        All-push (Stands H (entry H J (Submit who buffer len) w ∷ J)) (network J).sends (submitted J who buffer len) all (keeps (submitted J who buffer len) (submitted_stands H J who buffer len is))
entry_stands H J other w keeps all = all

all_stand : (H : HostTable) (J : Journal) → IsRun H J → All (Stands H J) (network J).sends
unfolding network
all_stand H [] run = All-nil (Stands H [])
all_stand H (e ∷ J) run =
    let P : Entry → Type 0 = λ x. ((send : Send) → Stands H J send → Stands H (x ∷ J) send) → All (Stands H (x ∷ J)) (network J).sends → All (Stands H (x ∷ J)) (network (x ∷ J)).sends in
    let keeps : (send : Send) → Stands H J send → Stands H (e ∷ J) send = λ send is. stands_after H J e send run is in
    subst P (as_entry H J e run.0.outcome) (entry_stands H J e.act e.written) keeps (All-weaker (Stands H J) (Stands H (e ∷ J)) keeps (network J).sends (all_stand H J run.1))

pub all_right : AreRight
all_right H J run = All-weaker (Stands H J) (IsRight H J) (λ send is. is.right) (network J).sends (all_stand H J run)

-- ---- frames that went out

no_send : Send
no_send = record { who = record { tab = 0; ord = 0 }; buffer = 0; bytes = [] }

of_a_send : (H : HostTable) (J : Journal) → IsRun H J → (k : ℕ) → k < length (network J).sends → IsOfASend H J (frame_of_send (send_at (network J).sends k))
of_a_send H J run k low =
    let sends = (network J).sends in
    let send = slice_index_or sends k no_send in
    let there : send_at sends k ≡ Some send = slice_get-get_or sends k no_send low in
    (send, k, there, sym (ap frame_of_send there), all_right H J run k no_send low)

pub sent_rightly : AreSentRightly
sent_rightly H J run =
    let n = network J in
    let frame : ℕ → List ℕ = λ k. frame_of_send (send_at n.sends k) in
    All-map (IsOfASend H J) frame (take n.rings.sent n.rings.posts)
    (All-weaker (λ k. k < length n.sends) (λ k. IsOfASend H J (frame k)) (of_a_send H J run) (take n.rings.sent n.rings.posts)
    (All-take (λ k. k < length n.sends) n.rings.sent n.rings.posts (posted_once H J run).accepted))
