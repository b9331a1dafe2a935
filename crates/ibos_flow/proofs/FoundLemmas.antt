-- Which flow a frame belongs to.
use Rattle.std.proofs.Common.{◌≡◌, ℕ, ◌<◌, ◌↔◌, Bool, true, false, Option, Some, None, Result, Ok, Err, refl, sym, ◌∙◌, ap, subst, arith}
use Rattle.std.specs.Prelude.{IfSome, unwrap_or, if◌then◌else◌}
use Rattle.std.proofs.lemmas.Bool.Decides.{nat_tests}
use Rattle.ibos_kinds.specs.declared.names.Instance.{Instance}
use Rattle.ibos_kinds.specs.declared.names.Proto.{Proto}
use Rattle.ibos_kinds.specs.declared.names.Proto.TheVariants.{Tcp, Udp}
use Rattle.ibos_kinds.specs.declared.names.Endpoint.{Endpoint}
use Rattle.ibos_kinds.specs.declared.names.Heading.{Heading}
use Rattle.ibos_kinds.specs.declared.rule.Rule.{Rule}
use Rattle.ibos_kinds.specs.declared.rule.Rule.TheVariants.{F12, F13}
use Rattle.ibos_kinds.specs.Limits.{IsNamed}
use Rattle.ibos_kinds.specs.Parties.{same}
use Rattle.ibos_kinds.specs.Ports.{AreOwned, HaveOwners, owner_of, port_of}
use Rattle.ibos_kinds.specs.Flows.{Bound, proto_at, is_over, same_end, admitted_by, named, found_by}
use Rattle.ibos_kinds.specs.Sends.{checked_by}
use Rattle.ibos_flow.specs.Flows.{Table, bound_by, found, IsOpen, Suits, HasEnd, AreFound, AreMissed, AreForeign, AreChecked}

end_is : (p q : Endpoint) → same_end p q ≡ true → p ≡ q
end_is p q h =
    let addr : p.addr ≡ q.addr = grind (arith, nat_tests, h) in
    let port : p.port ≡ q.port = grind (arith, nat_tests, h) in
    let F : ℕ → Endpoint = λ a. record { addr = a; port = p.port } in
    let G : ℕ → Endpoint = λ n. record { addr = q.addr; port = n } in
    ap F addr ∙ ap G port

end_self : (p : Endpoint) → same_end p p ≡ true
end_self p = grind (arith, nat_tests)

over_is : (held : Option Proto) (proto : Proto) → is_over held proto ≡ true → held ≡ Some proto
over_is None proto h = cc
over_is (Some Tcp) Tcp h = refl
over_is (Some Udp) Udp h = refl
over_is (Some Tcp) Udp h = cc
over_is (Some Udp) Tcp h = cc

over_self : (proto : Proto) → is_over (Some proto) proto ≡ true
over_self Tcp = refl
over_self Udp = refl

-- what the flow of one instance answers
data Case (x : Option Bound) (flow : ℕ) (h : Heading) : Type 0 where
  Closed : admitted_by x flow h ≡ Err F12 → ((b : Bound) → x ≡ Some b → proto_at b flow ≡ Some h.proto → ⊥) → Case x flow h
  Foreign : (b : Bound) → admitted_by x flow h ≡ Err F13 → x ≡ Some b → proto_at b flow ≡ Some h.proto → (b.remote ≡ h.remote → ⊥) → Case x flow h
  Own : (b : Bound) → admitted_by x flow h ≡ Ok flow → x ≡ Some b → proto_at b flow ≡ Some h.proto → b.remote ≡ h.remote → Case x flow h

pub some_is : {A : Type 0} (x y : A) → Some x ≡ Some y → x ≡ y
some_is x y e = ap (λ s. unwrap_or s x) e

case : (x : Option Bound) (flow : ℕ) (h : Heading) → Case x flow h
case None flow h = Closed refl (λ b e. cc)
case (Some b) flow h = by_proto (is_over (proto_at b flow) h.proto) refl (same_end h.remote b.remote) refl
  where
    by_proto : (over : Bool) → is_over (proto_at b flow) h.proto ≡ over → (own : Bool) → same_end h.remote b.remote ≡ own → Case (Some b) flow h
    by_proto false differs own is = Closed (rw differs refl)
        (λ c e held. clash (sym (over_self h.proto) ∙ sym (ap (λ p. is_over p h.proto) held) ∙ ap (λ (d : Bound). is_over (proto_at d flow) h.proto) (sym (some_is b c e)) ∙ differs))
      where
        clash : true ≡ false → ⊥
        clash e = cc
    by_proto true over false other = Foreign b (rw over (rw other refl)) refl (over_is (proto_at b flow) h.proto over)
        (λ e. clash (sym (end_self h.remote) ∙ ap (λ r. same_end h.remote r) (sym e) ∙ other))
      where
        clash : true ≡ false → ⊥
        clash e = cc
    by_proto true over true own = Own b (rw over (rw own refl)) refl (over_is (proto_at b flow) h.proto over) (sym (end_is h.remote b.remote own))

abbrev found_is : Result (Instance × ℕ) Rule → Result (Instance × ℕ) Rule
found_is r = r

abbrev answer_is : Result ℕ Rule → Result ℕ Rule
answer_is r = r

abbrev pair : Instance → ℕ → Instance × ℕ
pair who flow = (who, flow)

-- what a table answers
data Answer (t : Table) (h : Heading) : Type 0 where
  Nobody : found t h ≡ Err F12 → ((who : Instance) (flow : ℕ) → Suits t h who flow → ⊥) → Answer t h
  Another : (who : Instance) (flow : ℕ) → found t h ≡ Err F13 → Suits t h who flow → (HasEnd t who h.remote → ⊥) → ((q : Instance) (i : ℕ) → Suits t h q i → pair q i ≡ pair who flow) → Answer t h
  Its : (who : Instance) (flow : ℕ) → found t h ≡ Ok (who, flow) → Suits t h who flow → HasEnd t who h.remote → ((q : Instance) (i : ℕ) → Suits t h q i → pair q i ≡ pair who flow) → Answer t h

module _ (owned : AreOwned) (owners : HaveOwners) where
  suits_owner : (t : Table) (h : Heading) (who : Instance) (flow : ℕ) → Suits t h who flow → owner_of h.port ≡ Some (pair who flow)
  suits_owner t h who flow s = sym (ap owner_of s.port) ∙ owned who flow s.named s.few

  answer : (t : Table) (h : Heading) → h.port < 65536 → Answer t h
  answer t h low = by_owner (owner_of h.port) refl
    where
      by_owner : (o : Option (Instance × ℕ)) → owner_of h.port ≡ o → Answer t h
      by_owner None is = Nobody (ap (λ o. found_by (bound_by t) o h) is) (λ who flow s. clash who flow (sym is ∙ suits_owner t h who flow s))
        where
          clash : (who : Instance) (flow : ℕ) → None ≡ Some (pair who flow) → ⊥
          clash who flow e = cc
      by_owner (Some (w, f)) is = by_case (case (bound_by t w) f h)
        where
          P : Option (Instance × ℕ) → Type 0
          P o = IfSome o (λ owner. (port_of owner.0 owner.1 ≡ h.port) × IsNamed owner.0 × (owner.1 < 16))

          facts : (port_of w f ≡ h.port) × IsNamed w × (f < 16)
          facts = subst P is (owners h.port low)

          one : (q : Instance) (i : ℕ) → Suits t h q i → pair q i ≡ pair w f
          one q i s = some_is (pair q i) (pair w f) (sym (suits_owner t h q i s) ∙ is)

          suits : (b : Bound) → bound_by t w ≡ Some b → proto_at b f ≡ Some h.proto → Suits t h w f
          suits b e p = record { named = facts.1; few = facts.2; port = facts.0; is_open = (b, e, p) }

          by_case : Case (bound_by t w) f h → Answer t h
          by_case (Closed e no_flow) = Nobody (ap (λ o. found_by (bound_by t) o h) is ∙ ap (λ r. named w r) e)
              (λ q i s.
              let Q : Instance × ℕ → Type 0 = λ owner. IsOpen t owner.0 owner.1 h.proto in
              let opened : IsOpen t w f h.proto = subst Q (one q i s) s.is_open in
              no_flow opened.0 opened.1 opened.2)
          by_case (Foreign b e x p other) = Another w f (ap (λ o. found_by (bound_by t) o h) is ∙ ap (λ r. named w r) e) (suits b x p)
              (λ has.
              let R : Option Bound → Type 0 = λ y. IfSome y (λ bound. bound.remote ≡ h.remote) in
              other (subst R x has))
              one
          by_case (Own b e x p own) =
              let R : Option Bound → Type 0 = λ y. IfSome y (λ bound. bound.remote ≡ h.remote) in
              Its w f (ap (λ o. found_by (bound_by t) o h) is ∙ ap (λ r. named w r) e) (suits b x p) (subst R (sym x) own) one

  -- no two answers are one
  ok_f12 : (x : Instance × ℕ) → found_is (Ok x) ≡ found_is (Err F12) → ⊥
  ok_f12 x e = cc

  ok_f13 : (x : Instance × ℕ) → found_is (Ok x) ≡ found_is (Err F13) → ⊥
  ok_f13 x e = cc

  f12_f13 : found_is (Err F12) ≡ found_is (Err F13) → ⊥
  f12_f13 e = cc

  ok_is : (x y : Instance × ℕ) → found_is (Ok x) ≡ found_is (Ok y) → x ≡ y
  ok_is x y e = ap (λ r. value r x) e
    where
      value : Result (Instance × ℕ) Rule → Instance × ℕ → Instance × ℕ
      value (Ok z) d = z
      value (Err rule) d = d

  pub are_found : AreFound
  are_found t h who flow low = by_answer (answer t h low)
    where
      by_answer : Answer t h → (found t h ≡ Ok (who, flow)) ↔ (Suits t h who flow × HasEnd t who h.remote)
      by_answer (Nobody e no_flow) = ((λ f. absurd (ok_f12 (pair who flow) (sym f ∙ e))), (λ s. absurd (no_flow who flow s.0)))
      by_answer (Another w f e s other one) = (
        (λ g. absurd (ok_f13 (pair who flow) (sym g ∙ e))),
        (λ s. let P : Instance × ℕ → Type 0 = λ owner. HasEnd t owner.0 h.remote in absurd (other (subst P (one who flow s.0) s.1))),
      )
      by_answer (Its w f e s has one) = (
        (λ g.
            let P : Instance × ℕ → Type 0 = λ owner. Suits t h owner.0 owner.1 × HasEnd t owner.0 h.remote in
            subst P (ok_is (pair w f) (pair who flow) (sym e ∙ g)) (s, has)),
        (λ s. e ∙ ap (λ x. found_is (Ok x)) (sym (one who flow s.0))),
      )

  pub are_missed : AreMissed
  are_missed t h low = by_answer (answer t h low)
    where
      by_answer : Answer t h → (found t h ≡ Err F12) ↔ ((who : Instance) (flow : ℕ) → Suits t h who flow → ⊥)
      by_answer (Nobody e no_flow) = ((λ f. no_flow), (λ n. e))
      by_answer (Another w f e s other one) = ((λ g. absurd (f12_f13 (sym g ∙ e))), (λ n. absurd (n w f s)))
      by_answer (Its w f e s has one) = ((λ g. absurd (ok_f12 (pair w f) (sym e ∙ g))), (λ n. absurd (n w f s)))

  pub are_foreign : AreForeign
  are_foreign t h low = by_answer (answer t h low)
    where
      by_answer : Answer t h → (found t h ≡ Err F13) ↔ ((who : Instance) × (flow : ℕ) × Suits t h who flow × (HasEnd t who h.remote → ⊥))
      by_answer (Nobody e no_flow) = ((λ g. absurd (f12_f13 (sym e ∙ g))), (λ s. absurd (no_flow s.0 s.1 s.2)))
      by_answer (Another w f e s other one) = ((λ g. (w, f, s, other)), (λ n. e))
      by_answer (Its w f e s has one) = (
        (λ g. absurd (ok_f13 (pair w f) (sym e ∙ g))),
        (λ n.
            let P : Instance × ℕ → Type 0 = λ owner. HasEnd t owner.0 h.remote → ⊥ in
            absurd (subst P (one n.0 n.1 n.2) n.3 has)),
      )

-- the same for one instance
pub same_is : (p q : Instance) → same p q ≡ true → p ≡ q
same_is p q h =
    let tab : p.tab ≡ q.tab = grind (arith, nat_tests, h) in
    let ord : p.ord ≡ q.ord = grind (arith, nat_tests, h) in
    let F : ℕ → Instance = λ n. record { tab = n; ord = p.ord } in
    let G : ℕ → Instance = λ n. record { tab = q.tab; ord = n } in
    ap F tab ∙ ap G ord

pub same_self : (p : Instance) → same p p ≡ true
same_self p = grind (arith, nat_tests)

abbrev who_in : Result (Instance × ℕ) Rule → Instance → Instance
who_in (Ok x) d = x.0
who_in (Err rule) d = d

abbrev flow_in : Result (Instance × ℕ) Rule → ℕ → ℕ
flow_in (Ok x) d = x.1
flow_in (Err rule) d = d

-- an answer of one instance, with the instance's name
named_iff : (who : Instance) (flow : ℕ) (r : Result ℕ Rule) → (r ≡ Ok flow) ↔ (named who r ≡ found_is (Ok (pair who flow)))
named_iff who flow (Ok n) = ((λ e. ap (λ x. named who x) e), (λ e. ap (λ m. answer_is (Ok m)) (ap (λ x. flow_in x n) e)))
named_iff who flow (Err rule) = ((λ e. absurd (clash e)), (λ e. absurd (clash_pair e)))
  where
    clash : answer_is (Err rule) ≡ answer_is (Ok flow) → ⊥
    clash e = cc

    clash_pair : found_is (Err rule) ≡ found_is (Ok (pair who flow)) → ⊥
    clash_pair e = cc

named_who : (w who : Instance) (flow : ℕ) (r : Result ℕ Rule) → named w r ≡ found_is (Ok (pair who flow)) → w ≡ who
named_who w who flow (Ok n) e = ap (λ x. who_in x w) e
named_who w who flow (Err rule) e = absurd (clash_pair e)
  where
    clash_pair : found_is (Err rule) ≡ found_is (Ok (pair who flow)) → ⊥
    clash_pair e = cc

pub are_checked : AreChecked
are_checked t h who flow low = by_owner (owner_of h.port)
  where
    Claim : Option (Instance × ℕ) → Type 0
    Claim o = (checked_by who (bound_by t who) o h ≡ Ok flow) ↔ (found_by (bound_by t) o h ≡ Ok (who, flow))

    by_owner : (o : Option (Instance × ℕ)) → Claim o
    by_owner None = ((λ e. absurd (clash e)), (λ e. absurd (clash_pair e)))
      where
        clash : answer_is (Err F12) ≡ answer_is (Ok flow) → ⊥
        clash e = cc

        clash_pair : found_is (Err F12) ≡ found_is (Ok (pair who flow)) → ⊥
        clash_pair e = cc
    by_owner (Some x) = by_same (same x.0 who) refl
      where
        r : Instance → Result ℕ Rule
        r w = admitted_by (bound_by t w) x.1 h

        by_same : (b : Bool) → same x.0 who ≡ b → ((if b then r who else Err F12) ≡ Ok flow) ↔ (named x.0 (r x.0) ≡ Ok (who, flow))
        by_same true is =
            let P : Instance → Type 0 = λ w. (r who ≡ Ok flow) ↔ (named w (r w) ≡ Ok (who, flow)) in
            subst P (sym (same_is x.0 who is)) (named_iff who flow (r who))
        by_same false other = ((λ e. absurd (clash e)), (λ e. absurd (apart (sym (same_self x.0) ∙ ap (λ q. same x.0 q) (named_who x.0 who flow (r x.0) e) ∙ other))))
          where
            clash : answer_is (Err F12) ≡ answer_is (Ok flow) → ⊥
            clash e = cc

            apart : true ≡ false → ⊥
            apart e = cc
