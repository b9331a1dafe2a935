-- Where a frame goes.
use Rattle.std.proofs.Common.{◌≡◌, ℕ, ◌<◌, Bool, true, false, List, Option, Some, None, Result, Ok, Err, refl, sym, ◌∙◌, ap, arith}
use Rattle.std.specs.Prelude.{nat_lt, not, if◌then◌else◌}
use Rattle.std.proofs.lemmas.Bool.Decides.{nat_tests}
use Rattle.ibos_kinds.specs.declared.names.Dir.TheVariants.{In}
use Rattle.ibos_kinds.specs.declared.names.Heading.{Heading}
use Rattle.ibos_kinds.specs.declared.names.Local.{Local}
use Rattle.ibos_kinds.specs.declared.rule.Rule.{Rule}
use Rattle.ibos_kinds.specs.declared.rule.Rule.TheVariants.{F12, F13, F14}
use Rattle.ibos_kinds.specs.Bells.{Aim, aim_at, aim_by, aim_of, frame_rule, rule_by}
use Rattle.ibos_kinds.specs.Flows.{Bound, admitted_by, found_by, is_over, named, proto_at, same_end}
use Rattle.ibos_kinds.specs.Judged.{judged}
use Rattle.ibos_kinds.specs.Ports.{owner_of}
use Rattle.ibos_recv.proofs.Words.{Instance, landed, landing}

abbrev pub landing_is : Result (Instance × ℕ) Rule → Result (Instance × ℕ) Rule
landing_is r = r

abbrev answer_is : Result ℕ Rule → Result ℕ Rule
answer_is r = r

-- the flow that is admitted is the one that was asked for
admitted-flow : (x : Option Bound) (flow n : ℕ) (h : Heading) → admitted_by x flow h ≡ answer_is (Ok n) → n ≡ flow
admitted-flow None flow n h e = let clash : answer_is (Err F12) ≡ answer_is (Ok n) = e in absurd cc
admitted-flow (Some b) flow n h e = by_tests (not (is_over (proto_at b flow) h.proto)) (not (same_end h.remote b.remote)) e
  where
    by_tests : (closed foreign : Bool) → (if closed then answer_is (Err F12) else if foreign then Err F13 else Ok flow) ≡ answer_is (Ok n) → n ≡ flow
    by_tests true foreign e = let clash : answer_is (Err F12) ≡ answer_is (Ok n) = e in absurd cc
    by_tests false true e = let clash : answer_is (Err F13) ≡ answer_is (Ok n) = e in absurd cc
    by_tests false false e = ap (λ (r : Result ℕ Rule). value r) (sym e)
      where
        value : Result ℕ Rule → ℕ
        value (Ok k) = k
        value (Err rule) = flow

-- where room is the last thing that is asked
abbrev with_room : ℕ → Result (Instance × ℕ) Rule → Result (Instance × ℕ) Rule
with_room unread (Ok r) = if nat_lt unread 16 then Ok r else Err F14
with_room unread (Err rule) = Err rule

room-test : (low : Bool) (a : Aim) → landed (if low then None else Some F14) a ≡ (if low then landing_is (Ok (a.who, a.flow)) else Err F14)
room-test true a = refl
room-test false a = refl

landed-by : (x : Option Bound) (unread : ℕ) (who : Instance) (flow : ℕ) (h : Heading) → landed (frame_rule x unread (record { who = who; flow = flow; heading = h })) (record { who = who; flow = flow; heading = h }) ≡ with_room unread (named who (admitted_by x flow h))
landed-by x unread who flow h = by_answer (admitted_by x flow h) refl
  where
    a : Aim
    a = record { who = who; flow = flow; heading = h }

    by_answer : (r : Result ℕ Rule) → admitted_by x flow h ≡ r → landed (rule_by r unread) (record { who = who; flow = flow; heading = h }) ≡ with_room unread (named who r)
    by_answer (Ok n) is = room-test (nat_lt unread 16) (record { who = who; flow = flow; heading = h }) ∙ ap (λ k. with_room unread (Ok (who, k))) (sym (admitted-flow x flow n h is))
    by_answer (Err rule) is = refl

abbrev unread_by : Option (Instance × ℕ) → (Instance → ℕ) → ℕ
unread_by None unread = 0
unread_by (Some owner) unread = unread owner.0

-- a frame that breaks no rule by itself lands where its flow is found
landing-found : (ears : Instance → Option Bound) (unread : Instance → ℕ) (o : Option (Instance × ℕ)) (h : Heading) → landing ears unread (aim_at o h) ≡ with_room (unread_by o unread) (found_by ears o h)
landing-found ears unread None h = refl
landing-found ears unread (Some (who, flow)) h = landed-by (ears who) (unread who) who flow h

-- a flow is found with its owner
found-owner : (ears : Instance → Option Bound) (unread : Instance → ℕ) (o : Option (Instance × ℕ)) (h : Heading) (r : Instance × ℕ) → landing_is (Ok r) ≡ found_by ears o h → unread_by o unread ≡ unread r.0
found-owner ears unread None h r e = let clash : landing_is (Ok r) ≡ landing_is (Err F12) = e in absurd cc
found-owner ears unread (Some (who, flow)) h r e = by_answer (admitted_by (ears who) flow h) e
  where
    by_answer : (a : Result ℕ Rule) → landing_is (Ok r) ≡ named who a → unread who ≡ unread r.0
    by_answer (Ok n) e = ap unread (ap (λ (x : Result (Instance × ℕ) Rule). owner_in x) (sym e))
      where
        owner_in : Result (Instance × ℕ) Rule → Instance
        owner_in (Ok p) = p.0
        owner_in (Err rule) = who
    by_answer (Err rule) e = let clash : landing_is (Ok r) ≡ landing_is (Err rule) = e in absurd cc

module _ (ears : Instance → Option Bound) (unread : Instance → ℕ) (local : Local) (w : List ℕ) where
  pub landing-broken : (rule : Rule) → Err rule ≡ judged local In w → landing_is (Err rule) ≡ landing ears unread (aim_of local w)
  unfolding aim_of
  landing-broken rule e = ap (λ (r : Result Heading Rule). landing ears unread (aim_by r)) e

  judged-is : (h : Heading) → Ok h ≡ judged local In w → landing ears unread (aim_of local w) ≡ with_room (unread_by (owner_of h.port) unread) (found_by ears (owner_of h.port) h)
  unfolding aim_of
  judged-is h e = ap (λ (r : Result Heading Rule). landing ears unread (aim_by r)) (sym e) ∙ landing-found ears unread (owner_of h.port) h

  pub landing-lost : (h : Heading) (rule : Rule) → Ok h ≡ judged local In w → landing_is (Err rule) ≡ found_by ears (owner_of h.port) h → landing_is (Err rule) ≡ landing ears unread (aim_of local w)
  landing-lost h rule e lost = ap (λ (r : Result (Instance × ℕ) Rule). with_room (unread_by (owner_of h.port) unread) r) lost ∙ sym (judged-is h e)

  landing-room : (h : Heading) (r : Instance × ℕ) → Ok h ≡ judged local In w → landing_is (Ok r) ≡ found_by ears (owner_of h.port) h → landing ears unread (aim_of local w) ≡ with_room (unread r.0) (Ok r)
  landing-room h r e found = judged-is h e ∙ ap (λ (x : Result (Instance × ℕ) Rule). with_room (unread_by (owner_of h.port) unread) x) (sym found) ∙ ap (λ n. with_room n (Ok r)) (found-owner ears unread (owner_of h.port) h r found)

  pub landing-full : (h : Heading) (r : Instance × ℕ) → Ok h ≡ judged local In w → landing_is (Ok r) ≡ found_by ears (owner_of h.port) h → unread r.0 ≡ 16 → landing_is (Err F14) ≡ landing ears unread (aim_of local w)
  landing-full h r e found full = sym (landing-room h r e found ∙ ap (λ n. with_room n (Ok r)) full)

  pub landing-own : (h : Heading) (r : Instance × ℕ) → Ok h ≡ judged local In w → landing_is (Ok r) ≡ found_by ears (owner_of h.port) h → unread r.0 < 16 → landing_is (Ok r) ≡ landing ears unread (aim_of local w)
  landing-own h r e found room =
      let test : nat_lt (unread r.0) 16 ≡ true = grind (arith, nat_tests) in
      sym (landing-room h r e found ∙ ap (λ (b : Bool). if b then landing_is (Ok r) else Err F14) test)
