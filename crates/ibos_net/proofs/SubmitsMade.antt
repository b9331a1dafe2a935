-- A send is accepted: it is the last one, it waits, and its buffer is away.
use Rattle.std.proofs.Common.{refl, sym, ◌∙◌, ap, subst, arith, inl, inr}
use Rattle.std.specs.Prelude.{◌⊎◌, ◌||◌, slice_get}
use Rattle.std.proofs.lemmas.Bool.Decides.{nat_tests}
use Rattle.std.proofs.lemmas.List.{length-append}
use Rattle.ibos_kinds.specs.declared.act.Act.TheVariants.{Submit}
use Rattle.ibos_kinds.specs.declared.outcome.Item.TheVariants.{Accepted, SendIs}
use Rattle.ibos_model.specs.Network.{away_by}
use Rattle.ibos_model.specs.Outcomes.{submit_outcome}
use Rattle.ibos_model.specs.Rings.{outbound}
use Rattle.ibos_send.specs.declared.fault.SendFault.{SendFault}
use Rattle.ibos_send.specs.declared.fault.SendFault.TheVariants.{Denied as RuleBroken}
use Rattle.ibos_send.specs.Sends.{OnDenied, Submits}
use Rattle.ibos_net.proofs.AreasGrown.{by-one}
use Rattle.ibos_net.proofs.BuffersStay.{some-same}
use Rattle.ibos_net.proofs.FillsMade.{IsOther, and-second, buffers-agree, by-buffer, from-self, if-false, if-true, nat-apart, nat-is, nat-self, not-true, same-self}
use Rattle.ibos_net.proofs.SendsLeft.{counts-moved}
use Rattle.ibos_net.proofs.Words.{ℕ, zero, suc, ◌≡◌, ◌≢◌, ◌+◌, ◌<◌, ◌==◌, ◌&&◌, ◌++◌, ◌∷◌, Bool, true, false, not, List, [], length, list_any, map, drop, nat_lt, take, Option, Some, None, IfSome, Result, Ok, Err, OnOk, is_some, slice_index_or, Alive, AreAtHand, ArePosted, AreRegisters, Bound, BuffersStand, CountsStand, Endpoint, Held, Instance, IsSafe, IsWaitingFor, Item, Life, Local, LogEntry, Memory, Network, NetMakes, NetStands, NetState, Outcome, Outgoing, Post, Registers, Rule, Send, Unborn, Waiting, accepted, bound_by, bound_to, buffer_at, bytes_of, count_of, denied, ear_with, frame_in, frame_of_send, held_in, held_to_send, home_by, home_in, homes_by, homes_returned, is_away, is_from, is_open, network_by, numbers_of, one_if, posted_from, posted_in, same, send_at, size_of, submit_rule, waiting_from}

-- what becomes of the sends
pub record IsSubmitted (s s' : Outgoing) (who : Instance) (buffer len : ℕ) (h : Held) : Type 0 where
  pub home : home_by s who buffer ≡ Some h
  pub waiting : s'.waiting ≡ s.waiting ++ Some (record { who = who; buffer = buffer; len = len; loan = h }) ∷ []
  pub own : home_by s' who buffer ≡ None
  pub others : (q : Instance) (b : ℕ) → IsOther who buffer q b → home_by s' q b ≡ home_by s q b
  pub opened : (q : Instance) → is_open s' q ≡ is_open s q
  pub sizes : (q : Instance) → size_of (homes_by s' q) ≡ size_of (homes_by s q)
  pub posts : s'.posts ≡ s.posts
  pub returned : s'.returned ≡ s.returned
  pub told : s'.told ≡ s.told

pub found : (o : Option Held) (P : Held → Type 0) → is_some o ≡ true → IfSome o P → (h : Held) × (o ≡ Some h) × P h
found None P there is = absurd (cc there)
found (Some h) P there is = (h, refl, is)

pub not-away : (local : Local) (who : Instance) (bound : Option Bound) (o : Option Held) (len : ℕ) (w : List ℕ) → submit_rule local who bound (not (is_some o)) len w ≡ None → is_some o ≡ true
not-away local who bound None len w is = absurd (cc is)
not-away local who bound (Some h) len w is = refl

-- ---- one more at the end

or-right : (a b : Bool) → b ≡ true → (a || b) ≡ true
or-right true b h = refl
or-right false b h = h

or-left : (a b : Bool) → a ≡ true → (a || b) ≡ true
or-left true b h = refl
or-left false b h = absurd (cc h)

last-some : (x : Bool) → x ≡ (x || false)
last-some true = refl
last-some false = refl

suc-not : (i : ℕ) → (suc i == 0) ≡ false
suc-not i = grind (arith, nat_tests)

zero-not : (k : ℕ) → (0 == suc k) ≡ false
zero-not k = grind (arith, nat_tests)

suc-same : (i k : ℕ) → (suc i == suc k) ≡ (i == k)
suc-same i k = grind (arith, nat_tests)

snoc-some : {A : Type 0} (xs : List (Option A)) (y : A) (i : ℕ) → is_some (slice_index_or (xs ++ Some y ∷ []) i None) ≡ (is_some (slice_index_or xs i None) || i == length xs)
snoc-some [] y zero = refl
snoc-some [] y (suc i) = sym (suc-not i)
snoc-some (x ∷ xs) y zero = last-some (is_some x) ∙ ap (λ t. is_some x || t) (sym (zero-not (length xs)))
snoc-some (x ∷ xs) y (suc i) = snoc-some xs y i ∙ ap (λ t. is_some (slice_index_or xs i None) || t) (sym (suc-same i (length xs)))

snoc-at : {A : Type 0} (xs : List (Option A)) (y : Option A) (i : ℕ) (v : A) → slice_index_or (xs ++ y ∷ []) i None ≡ Some v → (slice_index_or xs i None ≡ Some v) ⊎ ((i ≡ length xs) × (y ≡ Some v))
snoc-at [] y zero v is = inr (refl, is)
snoc-at [] y (suc i) v is = absurd (cc is)
snoc-at (x ∷ xs) y zero v is = inl is
snoc-at (x ∷ xs) y (suc i) v is = onward (snoc-at xs y i v is)
  where
    onward : (slice_index_or xs i None ≡ Some v) ⊎ ((i ≡ length xs) × (y ≡ Some v)) → (slice_index_or xs i None ≡ Some v) ⊎ ((suc i ≡ suc (length xs)) × (y ≡ Some v))
    onward (inl old) = inl old
    onward (inr last) = inr (ap suc last.0, last.1)

get-more : {A : Type 0} (xs ys : List A) (i : ℕ) (y : A) → slice_get xs i ≡ Some y → slice_get (xs ++ ys) i ≡ Some y
get-more [] ys i y is = absurd (cc is)
get-more (x ∷ xs) ys zero y is = is
get-more (x ∷ xs) ys (suc i) y is = get-more xs ys i y is

get-left : {A : Type 0} (xs ys : List A) (i : ℕ) → i < length xs → slice_get (xs ++ ys) i ≡ slice_get xs i
get-left [] ys i low = absurd (omega (arith, low))
get-left (x ∷ xs) ys zero low = refl
get-left (x ∷ xs) ys (suc i) low = get-left xs ys i (omega (arith, low))

get-last : {A : Type 0} (xs : List A) (y : A) → slice_get (xs ++ y ∷ []) (length xs) ≡ Some y
get-last [] y = refl
get-last (x ∷ xs) y = get-last xs y

length-more : {A : Type 0} (xs : List A) (y : A) → length (xs ++ y ∷ []) ≡ length xs + 1
length-more xs y = length-append xs (y ∷ [])

-- ---- counts

more-waits : (send count : ℕ) (any : Bool) → (any ≡ true → send < count) → ((nat_lt send count && not any) || send == count) ≡ (nat_lt send (count + 1) && not any)
more-waits send count true below = let low = below refl in grind (arith, nat_tests)
more-waits send count false below = grind (arith, nat_tests)

counts-more : (n n' : Network) (s s' : Outgoing) (who : Instance) (buffer len : ℕ) (h : Held) (x : Send) → IsSubmitted s s' who buffer len h → n'.sends ≡ n.sends ++ x ∷ [] → n'.rings.posts ≡ n.rings.posts → n'.rings.sent ≡ n.rings.sent
    → CountsStand n s → CountsStand n' s'
counts-more n n' s s' who buffer len h x e sends posts sent c =
    let w : Waiting = record { who = who; buffer = buffer; len = len; loan = h } in
    let longer : length n'.sends ≡ length n.sends + 1 = ap length sends ∙ length-more n.sends x in
    let any : ℕ → Bool = λ send. list_any (λ k. k == send) n.rings.posts in
    record {
      count = ap length e.waiting ∙ length-more s.waiting (Some w) ∙ ap (λ k. k + 1) c.count ∙ sym longer;
      posts = posts ∙ c.posts ∙ ap numbers_of (sym e.posts);
      told = sent ∙ c.told ∙ sym e.told;
      waiting = λ send.
          ap (λ ws. is_some (slice_index_or ws send None)) e.waiting ∙ snoc-some s.waiting w send
          ∙ ap (λ t. t || send == length s.waiting) (c.waiting send) ∙ ap (λ k. (nat_lt send (length n.sends) && not (any send)) || send == k) c.count
          ∙ more-waits send (length n.sends) (any send) (c.below send)
          ∙ ap (λ k. nat_lt send k && not (any send)) (sym longer)
          ∙ ap (λ ps. nat_lt send (length n'.sends) && not (list_any (λ k. k == send) ps)) (sym posts);
      below = λ send there.
          let low = c.below send (subst (λ ps. list_any (λ k. k == send) ps ≡ true) posts there) in
          omega (arith, low, longer);
    }

-- ---- frames to be sent

any-drop : (f : ℕ → Bool) (d : ℕ) (ks : List ℕ) → list_any f (drop d ks) ≡ true → list_any f ks ≡ true
any-drop f zero ks there = there
any-drop f (suc d) [] there = there
any-drop f (suc d) (k ∷ ks) there = or-right (f k) (list_any f ks) (any-drop f d ks there)

frames-more : (sends : List Send) (x : Send) (ks : List ℕ) → ((k : ℕ) → list_any (λ j. j == k) ks ≡ true → k < length sends)
    → map (λ k. frame_of_send (send_at (sends ++ x ∷ []) k)) ks ≡ map (λ k. frame_of_send (send_at sends k)) ks
frames-more sends x [] below = refl
frames-more sends x (k ∷ ks) below =
    let first : frame_of_send (send_at (sends ++ x ∷ []) k) ≡ frame_of_send (send_at sends k) = ap frame_of_send (get-left sends (x ∷ []) k (below k (or-left (k == k) _ (nat-self k)))) in
    let rest = frames-more sends x ks (λ j there. below j (or-right (k == j) _ there)) in
    ap (λ (f : List ℕ). f ∷ map (λ k. frame_of_send (send_at (sends ++ x ∷ []) k)) ks) first ∙ ap (λ (fs : List (List ℕ)). frame_of_send (send_at sends k) ∷ fs) rest

-- ---- buffers

from-more : (p : Instance) (b : ℕ) (ws : List (Option Waiting)) (w : Waiting) → waiting_from p b (ws ++ Some w ∷ []) ≡ waiting_from p b ws + one_if (is_from p b w.who w.buffer)
from-more p b [] w = omega arith
from-more p b (None ∷ ws) w = from-more p b ws w
from-more p b (Some v ∷ ws) w = let rest = from-more p b ws w in omega (arith, rest)

other-from : (who : Instance) (buffer : ℕ) (p : Instance) (b : ℕ) → IsOther who buffer p b → is_from p b who buffer ≡ false
other-from who buffer p b (inl differ) = by-one who p (λ is. absurd (differ is)) (λ apart not. ap (λ t. t && buffer == b) not)
other-from who buffer p b (inr differ) = not-true (same who p && buffer == b) (λ t. differ (nat-is buffer b (and-second (same who p) (buffer == b) t)))

posted-more : (life : Instance → Life) (sends : List Send) (x : Send) (buffers : Instance → ℕ → List ℕ) (mem : Memory) (posts : List Post) (held : List Held) → ArePosted life sends buffers mem posts held → ArePosted life (sends ++ x ∷ []) buffers mem posts held
posted-more life sends x buffers mem [] [] ring = tt
posted-more life sends x buffers mem [] (h ∷ held) ring = absurd ring
posted-more life sends x buffers mem (post ∷ posts) [] ring = absurd ring
posted-more life sends x buffers mem (post ∷ posts) (h ∷ held) ring =
    let old = ring.0.send in
    (record { send = (old.0, get-more sends (x ∷ []) post.number old.0 old.1, old.2, old.3); holds = ring.0.holds }, posted-more life sends x buffers mem posts held ring.1)

-- the send that is accepted
abbrev pub send_of : Instance → ℕ → ℕ → (Instance → ℕ → List ℕ) → Send
send_of who buffer len buffers = record { who = who; buffer = buffer; bytes = take len (buffers who buffer) }

abbrev pub away_after : Instance → ℕ → ℕ → (Instance → List ℕ) → (Instance → ℕ → Bool) → Instance → ℕ → Bool
away_after who buffer len homes away q = away_by (same who q) true (Submit who buffer len) (homes q) (away q)

away-own : (own : Bool) (who : Instance) (buffer len : ℕ) (homes : List ℕ) (old : ℕ → Bool) → own ≡ true → away_by own true (Submit who buffer len) homes old buffer ≡ true
away-own true who buffer len homes old is = if-true (buffer == buffer) true (old buffer) (nat-self buffer)
away-own false who buffer len homes old is = absurd (cc is)

away-other : (own : Bool) (who : Instance) (buffer len : ℕ) (homes : List ℕ) (old : ℕ → Bool) (b : ℕ) → b ≢ buffer → away_by own true (Submit who buffer len) homes old b ≡ old b
away-other true who buffer len homes old b differ = if-false (buffer == b) true (old b) (nat-apart buffer b differ)
away-other false who buffer len homes old b differ = refl

away-none : (own : Bool) (who : Instance) (buffer len : ℕ) (homes : List ℕ) (old : ℕ → Bool) (b : ℕ) → away_by own false (Submit who buffer len) homes old b ≡ old b
away-none true who buffer len homes old b = refl
away-none false who buffer len homes old b = refl

after-own : (who : Instance) (buffer len : ℕ) (homes : Instance → List ℕ) (away : Instance → ℕ → Bool) → away_after who buffer len homes away who buffer ≡ true
after-own who buffer len homes away = away-own (same who who) who buffer len (homes who) (away who) (same-self who)

after-others : (who : Instance) (buffer len : ℕ) (homes : Instance → List ℕ) (away : Instance → ℕ → Bool) (q : Instance) (b : ℕ) → IsOther who buffer q b → away_after who buffer len homes away q b ≡ away q b
after-others who buffer len homes away q b (inl differ) = by-one who q (λ is. absurd (differ is)) (λ apart not. ap (λ own. away_by own true (Submit who buffer len) (homes q) (away q) b) not)
after-others who buffer len homes away q b (inr differ) = away-other (same who q) who buffer len (homes q) (away q) b differ

waiting-more : (life : Instance → Life) (sends : List Send) (x : Send) (buffers : Instance → ℕ → List ℕ) (mem : Memory) (number : ℕ) (w : Waiting) → IsWaitingFor life sends buffers mem number w → IsWaitingFor life (sends ++ x ∷ []) buffers mem number w
waiting-more life sends x buffers mem number w is = record { send = get-more sends (x ∷ []) number _ is.send; holds = is.holds }

buffers-submitted : (life : Instance → Life) (sends : List Send) (buffers : Instance → ℕ → List ℕ) (away away' : Instance → ℕ → Bool) (s s' : Outgoing) (posted : List Post) (held : List Held) (mem : Memory) (who : Instance) (buffer len : ℕ) (h : Held)
    → IsSubmitted s s' who buffer len h → length s.waiting ≡ length sends → away' who buffer ≡ true → ((q : Instance) (b : ℕ) → IsOther who buffer q b → away' q b ≡ away q b) → life who ≡ Alive → buffer < 4
    → BuffersStand life sends buffers away s.homes s.waiting posted held mem
    → BuffersStand life (sends ++ send_of who buffer len buffers ∷ []) buffers away' s'.homes (s.waiting ++ Some (record { who = who; buffer = buffer; len = len; loan = h }) ∷ []) posted held mem
buffers-submitted life sends buffers away away' s s' posted held mem who buffer len h e count gone stay lives low stand =
    let w : Waiting = record { who = who; buffer = buffer; len = len; loan = h } in
    let x : Send = send_of who buffer len buffers in
    let bytes : buffer_at mem h.place ≡ buffers who buffer = stand.home who buffer h lives e.home in
    let Own : Instance → ℕ → Type 0 = λ q b. away' q b ≡ not (is_some (home_in s'.homes q b)) in
    let Used : Instance → ℕ → Type 0 = λ q b. waiting_from q b (s.waiting ++ Some w ∷ []) + posted_from q b posted ≡ one_if (not (is_some (home_in s'.homes q b))) in
    let used_own : Used who buffer =
    let before : waiting_from who buffer s.waiting + posted_from who buffer posted ≡ 0 = stand.used who buffer lives low ∙ ap (λ o. one_if (not (is_some o))) e.home in
    let more = from-more who buffer s.waiting w in
    let one : one_if (is_from who buffer who buffer) ≡ 1 = ap one_if (from-self who buffer) in
    let after : one_if (not (is_some (home_in s'.homes who buffer))) ≡ 1 = ap (λ o. one_if (not (is_some o))) e.own in
    omega (arith, before, more, one, after) in
    record {
      size = λ p alive. e.sizes p ∙ stand.size p alive;
      away_is = λ p b alive few. by-buffer who buffer p b
          (λ is_who is_buffer. subst (λ (q : Instance). Own q b) (sym is_who) (subst (Own who) (sym is_buffer) (gone ∙ ap (λ o. not (is_some o)) (sym e.own))))
          (λ other. stay p b other ∙ stand.away_is p b alive few ∙ ap (λ o. not (is_some o)) (sym (e.others p b other)));
      used = λ p b alive few. by-buffer who buffer p b
          (λ is_who is_buffer. subst (λ (q : Instance). Used q b) (sym is_who) (subst (Used who) (sym is_buffer) used_own))
          (λ other.
          let before = stand.used p b alive few in
          let more = from-more p b s.waiting w in
          let none : one_if (is_from p b who buffer) ≡ 0 = ap one_if (other-from who buffer p b other) in
          let sum : waiting_from p b (s.waiting ++ Some w ∷ []) + posted_from p b posted ≡ waiting_from p b s.waiting + posted_from p b posted = omega (arith, more, none) in
          sum ∙ before ∙ ap (λ o. one_if (not (is_some o))) (sym (e.others p b other)));
      home = λ p b k alive is. by-buffer who buffer p b
          (λ is_who is_buffer.
          let there : home_in s'.homes who buffer ≡ Some k = subst (λ j. home_in s'.homes who j ≡ Some k) is_buffer (subst (λ (q : Instance). home_in s'.homes q b ≡ Some k) is_who is) in
          let clash : None ≡ Some k = sym e.own ∙ there in absurd (cc clash))
          (λ other. stand.home p b k alive (sym (e.others p b other) ∙ is));
      waits_for = λ number v is. by_place number v (snoc-at s.waiting (Some w) number v is);
      ring = posted-more life sends x buffers mem posted held stand.ring;
    }
  where
    by_place : (number : ℕ) (v : Waiting) → (slice_index_or s.waiting number None ≡ Some v) ⊎ ((number ≡ length s.waiting) × (Some (record { who = who; buffer = buffer; len = len; loan = h }) ≡ Some v))
        → IsWaitingFor life (sends ++ send_of who buffer len buffers ∷ []) buffers mem number v
    by_place number v (inl old) = waiting-more life sends (send_of who buffer len buffers) buffers mem number v (stand.waits_for number v old)
    by_place number v (inr last) =
        let w : Waiting = record { who = who; buffer = buffer; len = len; loan = h } in
        let x : Send = send_of who buffer len buffers in
        let bytes : buffer_at mem h.place ≡ buffers who buffer = stand.home who buffer h lives e.home in
        let at : number ≡ length sends = last.0 ∙ count in
        let sent : send_at (sends ++ x ∷ []) number ≡ Some (record { who = w.who; buffer = w.buffer; bytes = frame_in mem w }) =
        ap (slice_get (sends ++ x ∷ [])) at ∙ get-last sends x ∙ ap (λ bs. Some (record { who = who; buffer = buffer; bytes = take len bs })) (sym bytes) in
        let here : IsWaitingFor life (sends ++ x ∷ []) buffers mem number w = record {
          send = sent;
          holds = record { started = λ unborn. let clash : Alive ≡ Unborn = sym lives ∙ unborn in cc; bytes = λ alive. bytes };
        } in
        subst (IsWaitingFor life (sends ++ x ∷ []) buffers mem number) (some-same w v last.1) here

-- ---- the whole

abbrev pub with_sends : Outgoing → NetState → NetState
with_sends s t = record t { sends = s }

none-of : {A : Type 0} (o : Option A) → is_some o ≡ false → o ≡ None
none-of None is = refl
none-of (Some x) is = absurd (cc is)

pub still-closed : (s s' : Outgoing) (q : Instance) → is_open s' q ≡ is_open s q → homes_by s q ≡ None → homes_by s' q ≡ None
still-closed s s' q same none = none-of (homes_by s' q) (same ∙ ap is_some none)

pub submitted-safe : (t : NetState) (s' : Outgoing) → IsSafe t → AreAtHand t.names t.mem (held_in t.inboxes ++ held_to_send s') → ((q : Instance) → is_open s' q ≡ is_open t.sends q) → s'.posts ≡ t.sends.posts → s'.returned ≡ t.sends.returned → s'.told ≡ t.sends.told
    → IsSafe (with_sends s' t)
submitted-safe t s' safe hands opened posts returned told = record {
  memory = safe.memory;
  owned = safe.owned;
  unheld = safe.unheld;
  hands = hands;
  beside = safe.beside;
  sending = λ p bound none. safe.sending p bound (still-closed s' t.sends p (sym (opened p)) none);
  posts = record { posted = safe.posts.posted ∙ ap length (sym posts); taken = safe.posts.taken ∙ sym returned };
  told = told ∙ safe.told;
}

rule-bytes : (local : Local) (who : Instance) (bound : Option Bound) (o : Option Held) (len : ℕ) (mem : Memory) (w : List ℕ) → ((h : Held) → o ≡ Some h → buffer_at mem h.place ≡ w)
    → submit_rule local who bound (not (is_some o)) len (bytes_of mem o) ≡ submit_rule local who bound (not (is_some o)) len w
rule-bytes local who bound None len mem w each = refl
rule-bytes local who bound (Some h) len mem w each = ap (λ bytes. submit_rule local who bound false len bytes) (each h refl)

-- the rule is asked of what the journal says
rule-is : (local : Local) (life : Instance → Life) (remote : Instance → Endpoint) (n : Network) (t : NetState) (who : Instance) (buffer len : ℕ) → NetStands life remote n t → life who ≡ Alive → buffer < 4
    → submit_rule local who (Some (bound_to (remote who) (n.flows who))) (n.away who buffer) len (n.buffers who buffer) ≡ submit_rule local who (bound_by t.flows who) (is_away t.sends who buffer) len (bytes_of t.mem (home_by t.sends who buffer))
rule-is local life remote n t who buffer len s lives low =
    let bound : bound_by t.flows who ≡ Some (bound_to (remote who) (n.flows who)) = s.ears who ∙ ap (λ l. ear_with l (remote who) (n.flows who)) lives in
    ap (λ b. submit_rule local who b (n.away who buffer) len (n.buffers who buffer)) (sym bound)
    ∙ ap (λ a. submit_rule local who (bound_by t.flows who) a len (n.buffers who buffer)) (s.buffers.away_is who buffer lives low)
    ∙ sym (rule-bytes local who (bound_by t.flows who) (home_by t.sends who buffer) len t.mem (n.buffers who buffer) (λ h is. s.buffers.home who buffer h lives is))

-- a submit that is refused
pub refused-serves : (local : Local) (life : Instance → Life) (remote : Instance → Endpoint) (n : Network) (t : NetState) (regs : Registers) (log : List LogEntry) (who : Instance) (buffer len : ℕ) (rule : Rule)
    → NetStands life remote n t → AreRegisters local n regs → life who ≡ Alive → buffer < 4 → submit_rule local who (bound_by t.flows who) (is_away t.sends who buffer) len (bytes_of t.mem (home_by t.sends who buffer)) ≡ Some rule
    → NetMakes local life remote n (Submit who buffer len) (denied rule) t regs log log
refused-serves local life remote n t regs log who buffer len rule s each lives low breaks =
    let n' : Network = network_by false (Submit who buffer len) (denied rule) [] n in
    record {
      outcome = sym (ap (submit_outcome (length n.sends) who (take len (n.buffers who buffer))) (rule-is local life remote n t who buffer len s lives low ∙ breaks));
      stands = record {
        rings = s.rings;
        ears = s.ears;
        unread = s.unread;
        closed = s.closed;
        unsending = s.unsending;
        counts = counts-moved n n' t.sends refl refl refl s.counts;
        buffers = buffers-agree life n.sends n.buffers n'.buffers n.away n'.away t.sends.homes t.sends.waiting (posted_in t.sends) t.med.transmit.held t.mem (λ q b. refl) (λ q b. away-none (same who q) who buffer len (homes_returned q n.sends (outbound n.rings)) (n.away q) b) s.buffers;
        unsent = s.unsent;
        areas = s.areas;
      };
      registers = each;
      log = refl;
    }

-- the items of an accepted send
abbrev pub items_of : ℕ → Instance → List ℕ → List Item
items_of number who bytes = SendIs number ∷ Accepted number who bytes ∷ []

pub submitted-serves : (local : Local) (life : Instance → Life) (remote : Instance → Endpoint) (n : Network) (t : NetState) (s' : Outgoing) (regs : Registers) (log : List LogEntry) (who : Instance) (buffer len : ℕ) (h : Held)
    → NetStands life remote n t → AreRegisters local n regs → life who ≡ Alive → buffer < 4 → submit_rule local who (bound_by t.flows who) (is_away t.sends who buffer) len (bytes_of t.mem (home_by t.sends who buffer)) ≡ None
    → IsSubmitted t.sends s' who buffer len h
    → NetMakes local life remote n (Submit who buffer len) (accepted (items_of (count_of t.sends) who (take len (bytes_of t.mem (home_by t.sends who buffer))))) (with_sends s' t) regs log log
submitted-serves local life remote n t s' regs log who buffer len h s each lives low none e =
    let o : Outcome = accepted (items_of (count_of t.sends) who (take len (bytes_of t.mem (home_by t.sends who buffer)))) in
    let n' : Network = network_by true (Submit who buffer len) o [] n in
    let x : Send = send_of who buffer len n.buffers in
    let w : Waiting = record { who = who; buffer = buffer; len = len; loan = h } in
    let bytes : bytes_of t.mem (home_by t.sends who buffer) ≡ n.buffers who buffer = ap (bytes_of t.mem) e.home ∙ s.buffers.home who buffer h lives e.home in
    let stand : BuffersStand life (n.sends ++ x ∷ []) n.buffers n'.away s'.homes (t.sends.waiting ++ Some w ∷ []) (posted_in t.sends) t.med.transmit.held t.mem =
    buffers-submitted life n.sends n.buffers n.away n'.away t.sends s' (posted_in t.sends) t.med.transmit.held t.mem who buffer len h e s.counts.count (after-own who buffer len (λ q. homes_returned q n.sends (outbound n.rings)) n.away) (after-others who buffer len (λ q. homes_returned q n.sends (outbound n.rings)) n.away) lives low s.buffers in
    record {
      outcome = ap (λ k. submit_outcome k who (take len (bytes_of t.mem (home_by t.sends who buffer))) None) s.counts.count ∙ ap (λ (bs : List ℕ). submit_outcome (length n.sends) who (take len bs) None) bytes
          ∙ sym (ap (submit_outcome (length n.sends) who (take len (n.buffers who buffer))) (rule-is local life remote n t who buffer len s lives low ∙ none));
      stands = record {
        rings = s.rings;
        ears = s.ears;
        unread = s.unread;
        closed = s.closed;
        unsending = λ p gone. still-closed t.sends s' p (e.opened p) (s.unsending p gone);
        counts = counts-more n n' t.sends s' who buffer len h x e refl refl refl s.counts;
        buffers = rw (e.waiting, e.posts, e.returned) stand;
        unsent = s.unsent ∙ sym (frames-more n.sends x (drop n.rings.sent n.rings.posts) (λ k there. s.counts.below k (any-drop (λ j. j == k) n.rings.sent n.rings.posts there)));
        areas = s.areas;
      };
      registers = each;
      log = refl;
    }

pub on-ok : {A B : Type 0} (result : Result A B) {P : Type 0} → P → OnOk result P
on-ok (Ok x) p = p
on-ok (Err e) p = tt

-- what is said of a fault that is a denial
pub denied-by : (f : SendFault) (rule : Rule) (r : Option Rule) → f ≡ RuleBroken rule → Submits (Err f) r → r ≡ Some rule
denied-by f rule r is told = let told' : Submits (Err (RuleBroken rule)) r = subst (λ x. Submits (Err x) r) is told in told'

pub on-denied : (f : SendFault) (rule : Rule) {P : Type 0} → f ≡ RuleBroken rule → OnDenied (Err f) P → P
on-denied f rule {P} is told = let told' : OnDenied (Err (RuleBroken rule)) P = subst (λ x. OnDenied (Err x) P) is told in told'
