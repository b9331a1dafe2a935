-- The places of ports, as flows are bound and closed.
use Rattle.std.proofs.Common.{◌≡◌, ◌≢◌, ℕ, ◌+◌, ◌-◌, ◌<◌, ◌≤◌, Bool, true, false, List, [], ◌∷◌, ◌++◌, length, Option, Some, None, Result, Ok, Err, refl, sym, ◌∙◌, ap, subst, arith, get_or, replicate, nat_lt, nat_eq}
use Rattle.std.specs.Prelude.{IfSome, IsTrue, slice_set, if◌then◌else◌}
use Rattle.std.specs.Option.{option_map}
use Rattle.std.proofs.lemmas.Bool.Decides.{nat_tests}
use Rattle.std.proofs.lemmas.List.{get_or-set_same, get_or-set_other, get_or_past, get_or_push, get_or_append_left, length-append, length-set, get_or-replicate}
use Rattle.ibos_kinds.specs.declared.names.Instance.{Instance}
use Rattle.ibos_kinds.specs.declared.names.Proto.{Proto}
use Rattle.ibos_kinds.specs.declared.names.Endpoint.{Endpoint}
use Rattle.ibos_kinds.specs.declared.names.Heading.{Heading}
use Rattle.ibos_kinds.specs.declared.rule.Rule.{Rule}
use Rattle.ibos_kinds.specs.declared.rule.Rule.TheVariants.{N1}
use Rattle.ibos_kinds.specs.Flows.{Bound, proto_at, admitted_by, bind_answer, with_flow, without_flow}
use Rattle.ibos_kinds.specs.Limits.{IsNamed}
use Rattle.ibos_kinds.specs.Parties.{same}
use Rattle.ibos_kinds.specs.Ports.{owner_of, port_of}
use Rattle.ibos_kinds.specs.Sends.{checked_by}
use Rattle.ibos_flow.specs.declared.ports.PortPlace.{PortPlace}
use Rattle.ibos_flow.specs.Flows.{Table, bound_by, checked, IsOpen}
use Rattle.ibos_flow.specs.Ports.{unbound, place_at, IsPlaceOf, ArePlaces, open_place, flow_place, ArePlaced}
use Rattle.ibos_flow.proofs.FoundLemmas.{some_is, same_is, same_self}

-- ---- lists

-- what is read outside the list stands for what is written there
set_default : {A : Type 0} → (xs : List A) (i : ℕ) (d : A) → get_or (slice_set xs i d) i d ≡ d
set_default xs i d = by_test (nat_lt i (length xs)) refl
  where
    by_test : (in_it : Bool) → nat_lt i (length xs) ≡ in_it → get_or (slice_set xs i d) i d ≡ d
    by_test true is = get_or-set_same xs i d d (grind (arith, nat_tests, is))
    by_test false is = get_or_past (slice_set xs i d) i d (omega (arith, length-set xs i d, past))
      where
        past : length xs ≤ i
        past = grind (arith, nat_tests, is)

push_other : {A : Type 0} → (xs : List A) (x d : A) (i : ℕ) → i ≢ length xs → get_or (xs ++ x ∷ []) i d ≡ get_or xs i d
push_other xs x d i other = by_test (nat_lt i (length xs)) refl
  where
    by_test : (in_it : Bool) → nat_lt i (length xs) ≡ in_it → get_or (xs ++ x ∷ []) i d ≡ get_or xs i d
    by_test true is = get_or_append_left xs (x ∷ []) d i (grind (arith, nat_tests, is))
    by_test false is = get_or_past (xs ++ x ∷ []) i d beyond ∙ sym (get_or_past xs i d past)
      where
        past : length xs ≤ i
        past = grind (arith, nat_tests, is)

        beyond : length (xs ++ x ∷ []) ≤ i
        beyond = omega (arith, length-append xs (x ∷ []), past, other)

-- ---- places

place-set_other : (places : List PortPlace) (p q : ℕ) (x : PortPlace) → 32768 ≤ p → 32768 ≤ q → q ≢ p → place_at (slice_set places (p - 32768) x) q ≡ place_at places q
place-set_other places p q x low high other = get_or-set_other places (p - 32768) (q - 32768) x unbound (λ e. other (omega (arith, e, low, high)))

port_low : (who : Instance) (flow : ℕ) → 32768 ≤ port_of who flow
port_low who flow = omega arith

same_port : (p q : Instance) (i j : ℕ) → IsNamed p → IsNamed q → i < 16 → j < 16 → port_of p i ≡ port_of q j → (p ≡ q) × (i ≡ j)
same_port p q i j below under few some e =
    let flow : i ≡ j = omega (arith, below.1, under.1, few, some, e) in
    let ord : p.ord ≡ q.ord = omega (arith, below.1, under.1, few, some, e) in
    let tab : p.tab ≡ q.tab = omega (arith, below.1, under.1, few, some, e) in
    let F : ℕ → Instance = λ t. record { tab = t; ord = p.ord } in
    let G : ℕ → Instance = λ o. record { tab = q.tab; ord = o } in
    (ap F tab ∙ ap G ord, flow)

-- unbinding one flow after the other
pub unbound_own : (places : List PortPlace) (who : Instance) (n : ℕ) → ((flow : ℕ) → flow < n → place_at places (port_of who flow) ≡ unbound)
    → (flow : ℕ) → flow < n + 1 → place_at (slice_set places (port_of who n - 32768) unbound) (port_of who flow) ≡ unbound
unbound_own places who n before flow few = by_test (nat_eq flow n) refl
  where
    by_test : (is_last : Bool) → nat_eq flow n ≡ is_last → place_at (slice_set places (port_of who n - 32768) unbound) (port_of who flow) ≡ unbound
    by_test true is =
        let last : flow ≡ n = grind (arith, nat_tests, is) in
        ap (λ i. get_or (slice_set places (port_of who n - 32768) unbound) (port_of who i - 32768) unbound) last ∙ set_default places (port_of who n - 32768) unbound
    by_test false is =
        let less : flow < n = grind (arith, nat_tests, is, few) in
        place-set_other places (port_of who n) (port_of who flow) unbound (port_low who n) (port_low who flow) (λ e. omega (arith, e, less)) ∙ before flow less

pub unbound_others : (places first : List PortPlace) (who : Instance) (n port : ℕ) → n < 16 → 32768 ≤ port → ((flow : ℕ) → flow < 16 → port ≢ port_of who flow)
    → place_at places port ≡ place_at first port → place_at (slice_set places (port_of who n - 32768) unbound) port ≡ place_at first port
unbound_others places first who n port few low other before = place-set_other places (port_of who n) port unbound (port_low who n) low (other n few) ∙ before

-- one flow changes, and its place with it
placed : (old new : Table) (places : List PortPlace) (who : Instance) (flow : ℕ) (x : PortPlace) → IsNamed who → flow < 16
    → place_at (slice_set places (port_of who flow - 32768) x) (port_of who flow) ≡ x → ArePlaced old places
    → x ≡ flow_place (bound_by new who) flow
    → ((i : ℕ) → i ≢ flow → flow_place (bound_by new who) i ≡ flow_place (bound_by old who) i)
    → ((q : Instance) → q ≢ who → bound_by new q ≡ bound_by old q)
    → ArePlaced new (slice_set places (port_of who flow - 32768) x)
placed old new places who flow x named few written before own rest others q i there some = by_who (same q who) refl
  where
    after : List PortPlace
    after = slice_set places (port_of who flow - 32768) x

    Claim : Type 0
    Claim = place_at (slice_set places (port_of who flow - 32768) x) (port_of q i) ≡ flow_place (bound_by new q) i

    aside : (port_of q i ≢ port_of who flow) → flow_place (bound_by old q) i ≡ flow_place (bound_by new q) i → Claim
    aside apart e = place-set_other places (port_of who flow) (port_of q i) x (port_low who flow) (port_low q i) apart ∙ before q i there some ∙ e

    by_flow : q ≡ who → (is_flow : Bool) → nat_eq i flow ≡ is_flow → Claim
    by_flow own_who true is =
        let this : i ≡ flow = grind (arith, nat_tests, is) in
        let P : Instance → Type 0 = λ w. place_at (slice_set places (port_of who flow - 32768) x) (port_of w i) ≡ flow_place (bound_by new w) i in
        let Q : ℕ → Type 0 = λ j. place_at (slice_set places (port_of who flow - 32768) x) (port_of who j) ≡ flow_place (bound_by new who) j in
        subst P (sym own_who) (subst Q (sym this) (written ∙ own))
    by_flow own_who false is =
        let other : i ≢ flow = grind (arith, nat_tests, is) in
        let P : Instance → Type 0 = λ w. flow_place (bound_by old w) i ≡ flow_place (bound_by new w) i in
        aside (λ e. other (same_port q who i flow there named some few e).1) (subst P (sym own_who) (sym (rest i other)))

    by_who : (is_who : Bool) → same q who ≡ is_who → Claim
    by_who true is = by_flow (same_is q who is) (nat_eq i flow) refl
    by_who false is =
        let other : q ≢ who = λ e. apart (sym (ap (λ w. same w who) e ∙ same_self who) ∙ is) in
        aside (λ e. other (same_port q who i flow there named some few e).0) (sym (ap (λ (b : Option Bound). flow_place b i) (others q other)))
      where
        apart : true ≡ false → ⊥
        apart e = cc

abbrev answer_is : Result ℕ Rule → Result ℕ Rule
answer_is r = r

-- the number that a binding answers
number_is : (flow : ℕ) (b : Bound) → answer_is (Ok flow) ≡ bind_answer b → (flow ≡ length b.flows) × (flow < 16)
number_is flow b e = by_test (nat_lt (length b.flows) 16) refl e
  where
    by_test : (room : Bool) → nat_lt (length b.flows) 16 ≡ room → answer_is (Ok flow) ≡ (if room then Ok (length b.flows) else Err N1) → (flow ≡ length b.flows) × (flow < 16)
    by_test true is e = (last, omega (arith, last, few))
      where
        number : Result ℕ Rule → ℕ → ℕ
        number (Ok n) d = n
        number (Err rule) d = d

        last : flow ≡ length b.flows
        last = ap (λ r. number r flow) e

        few : length b.flows < 16
        few = grind (arith, nat_tests, is)
    by_test false is e = absurd (clash e)
      where
        clash : answer_is (Ok flow) ≡ answer_is (Err N1) → ⊥
        clash e = cc

-- a flow is bound
pub bound_placed : (old new : Table) (places : List PortPlace) (who : Instance) (flow : ℕ) (proto : Proto) (remote : Endpoint) → IsNamed who
    → length (slice_set places (port_of who flow - 32768) (record { bound = true; proto = proto; remote = remote })) ≡ 32768 → ArePlaced old places
    → bound_by old who ≢ None
    → IfSome (bound_by old who) (λ b. remote ≡ b.remote)
    → IfSome (bound_by old who) (λ b. answer_is (Ok flow) ≡ bind_answer b)
    → bound_by new who ≡ option_map (with_flow proto) (bound_by old who)
    → ((q : Instance) → q ≢ who → bound_by new q ≡ bound_by old q)
    → ArePlaced new (slice_set places (port_of who flow - 32768) (record { bound = true; proto = proto; remote = remote }))
bound_placed old new places who flow proto remote named size before there end answer own others = by_bound (bound_by old who) refl end answer own
  where
    x : PortPlace
    x = record { bound = true; proto = proto; remote = remote }

    by_bound : (was : Option Bound) → bound_by old who ≡ was → IfSome was (λ b. remote ≡ b.remote) → IfSome was (λ b. answer_is (Ok flow) ≡ bind_answer b)
        → bound_by new who ≡ option_map (with_flow proto) was → ArePlaced new (slice_set places (port_of who flow - 32768) x)
    by_bound None is far number now = absurd (there is)
    by_bound (Some b) is far number now =
        let few : flow < 16 = (number_is flow b number).1 in
        let last : flow ≡ length b.flows = (number_is flow b number).0 in
        let within : port_of who flow - 32768 < length places = omega (arith, size, length-set places (port_of who flow - 32768) x, named.0, named.1, few) in
        placed old new places who flow x named few (get_or-set_same places (port_of who flow - 32768) x unbound within) before
        (ap (λ (r : Endpoint). open_place r (Some proto)) far ∙ ap (λ (p : Option Proto). open_place b.remote p) (sym (get_or_push b.flows (Some proto) None flow (sym last))) ∙ ap (λ (c : Option Bound). flow_place c flow) (sym now))
        (λ i other. ap (λ (c : Option Bound). flow_place c i) now ∙ ap (λ (p : Option Proto). open_place b.remote p) (push_other b.flows (Some proto) None i (λ e. other (e ∙ sym last))) ∙ ap (λ (c : Option Bound). flow_place c i) (sym is))
        others

-- a flow is closed
pub closed_placed : (old new : Table) (places : List PortPlace) (who : Instance) (flow : ℕ) → IsNamed who → flow < 16 → ArePlaced old places
    → bound_by old who ≢ None
    → bound_by new who ≡ option_map (without_flow flow) (bound_by old who)
    → ((q : Instance) → q ≢ who → bound_by new q ≡ bound_by old q)
    → ArePlaced new (slice_set places (port_of who flow - 32768) unbound)
closed_placed old new places who flow named few before there own others = by_bound (bound_by old who) refl own
  where
    by_bound : (was : Option Bound) → bound_by old who ≡ was → bound_by new who ≡ option_map (without_flow flow) was → ArePlaced new (slice_set places (port_of who flow - 32768) unbound)
    by_bound None is now = absurd (there is)
    by_bound (Some b) is now = placed old new places who flow unbound named few (set_default places (port_of who flow - 32768) unbound) before
        (ap (λ (p : Option Proto). open_place b.remote p) (sym (set_default b.flows flow None)) ∙ ap (λ (c : Option Bound). flow_place c flow) (sym now))
        (λ i other. ap (λ (c : Option Bound). flow_place c i) now ∙ ap (λ (p : Option Proto). open_place b.remote p) (get_or-set_other b.flows flow i None None other) ∙ ap (λ (c : Option Bound). flow_place c i) (sym is))
        others

-- an instance ends
pub ended_placed : (old new : Table) (places after : List PortPlace) (who : Instance) → IsNamed who → ArePlaced old places
    → bound_by new who ≡ None
    → ((q : Instance) → q ≢ who → bound_by new q ≡ bound_by old q)
    → ((flow : ℕ) → flow < 16 → place_at after (port_of who flow) ≡ unbound)
    → ((port : ℕ) → 32768 ≤ port → ((flow : ℕ) → flow < 16 → port ≢ port_of who flow) → place_at after port ≡ place_at places port)
    → ArePlaced new after
ended_placed old new places after who named before gone others own rest q i there some = by_who (same q who) refl
  where
    by_who : (is_who : Bool) → same q who ≡ is_who → place_at after (port_of q i) ≡ flow_place (bound_by new q) i
    by_who true is =
        let P : Instance → Type 0 = λ w. place_at after (port_of w i) ≡ flow_place (bound_by new w) i in
        subst P (sym (same_is q who is)) (own i some ∙ ap (λ (c : Option Bound). flow_place c i) (sym gone))
    by_who false is =
        let other : q ≢ who = λ e. apart (sym (ap (λ w. same w who) e ∙ same_self who) ∙ is) in
        rest (port_of q i) (port_low q i) (λ flow few e. other (same_port q who i flow there named some few e).0) ∙ before q i there some ∙ sym (ap (λ (c : Option Bound). flow_place c i) (others q other))
      where
        apart : true ≡ false → ⊥
        apart e = cc

-- no instance was added
pub none_placed : (table : Table) → ((who : Instance) → bound_by table who ≡ None) → ArePlaced table (replicate 32768 unbound)
none_placed table none who flow named few =
    get_or-replicate 32768 (port_of who flow - 32768) unbound unbound (omega (arith, named.0, named.1, few)) ∙ ap (λ (c : Option Bound). flow_place c flow) (sym (none who))

-- ---- what the equations say

flow_place_is : (table : Table) (who : Instance) (flow : ℕ) → IsPlaceOf table who flow (flow_place (bound_by table who) flow)
flow_place_is table who flow = by_bound (bound_by table who) refl
  where
    none_is_some : {A : Type 0} → (x : A) → None ≡ Some x → ⊥
    none_is_some x e = cc

    none : ((proto : Proto) → IsOpen table who flow proto → ⊥) → IsPlaceOf table who flow unbound
    none shut = record {
      bound = ((λ is. absurd (clash is)), (λ is_open. absurd (shut is_open.0 is_open.1)));
      proto = λ is. absurd (clash is);
      remote = λ is. absurd (clash is);
    }
      where
        clash : IsTrue false → ⊥
        clash is = cc

    by_bound : (x : Option Bound) → bound_by table who ≡ x → IsPlaceOf table who flow (flow_place x flow)
    by_bound None is = none (λ proto is_open. none_is_some is_open.0 (sym is ∙ is_open.1))
    by_bound (Some b) is = by_proto (proto_at b flow) refl
      where
        by_proto : (p : Option Proto) → proto_at b flow ≡ p → IsPlaceOf table who flow (open_place b.remote p)
        by_proto None shut = none (λ proto is_open. none_is_some proto (sym shut ∙ ap (λ (c : Bound). proto_at c flow) (some_is b is_open.0 (sym is ∙ is_open.1)) ∙ is_open.2))
        by_proto (Some proto) held = record {
          bound = ((λ true_is. (proto, (b, is, held))), (λ is_open. refl));
          proto = λ true_is. (b, is, held);
          remote = λ true_is. let P : Option Bound → Type 0 = λ y. IfSome y (λ c. c.remote ≡ b.remote) in subst P (sym is) refl;
        }

pub places_are : (table : Table) (places : List PortPlace) → length places ≡ 32768 → ArePlaced table places → ArePlaces table places
places_are table places size all = record {
  count = size;
  told = λ who flow named few. let P : PortPlace → Type 0 = λ place. IsPlaceOf table who flow place in subst P (sym (all who flow named few)) (flow_place_is table who flow);
}

-- the port's owner is the instance that is asked for
pub checked_own : (table : Table) (who owner : Instance) (flow : ℕ) (heading : Heading) (r : Result ℕ Rule) → Some (owner, flow) ≡ owner_of heading.port → same owner who ≡ true
    → r ≡ admitted_by (bound_by table owner) flow heading → r ≡ checked table who heading
checked_own table who owner flow heading r is own e =
    let it : owner ≡ who = same_is owner who own in
    let P : Option (Instance × ℕ) → Type 0 = λ o. r ≡ checked_by who (bound_by table who) o heading in
    let Q : Instance → Type 0 = λ w. r ≡ admitted_by (bound_by table w) flow heading in
    subst P is (rw own (subst Q it e))
