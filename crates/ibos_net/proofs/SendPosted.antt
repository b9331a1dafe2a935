-- An accepted send is posted: it does not wait any more, and its frame is the last to be sent.
use Rattle.std.proofs.Common.{refl, sym, ◌∙◌, ap, subst, arith}
use Rattle.std.proofs.lemmas.Bool.Decides.{nat_tests}
use Rattle.std.proofs.lemmas.List.{drop-append-le, length-map, length-set, map-append}
use Rattle.std.proofs.lemmas.List.Folds.{list_any-append}
use Rattle.std.specs.Option.{option_or}
use Rattle.std.specs.Prelude.{◌||◌}
use Rattle.ibos_kinds.specs.declared.act.Act.TheVariants.{TxPost}
use Rattle.ibos_kinds.specs.declared.rule.Rule.TheVariants.{M6}
use Rattle.ibos_nic.specs.Rules.{slot_rule, transmit_rule}
use Rattle.ibos_mediate.specs.Frames.{unsent_frames}
use Rattle.ibos_model.specs.Rings.{send_posted}
use Rattle.ibos_send.specs.Sends.{answer_of}
use Rattle.ibos_net.proofs.AtDevice.{at-device, from-device, others-of}
use Rattle.ibos_net.proofs.BuffersStay.{buffers-stay, ring-lent, some-same}
use Rattle.ibos_net.proofs.PostMade.{others-like}
use Rattle.ibos_net.proofs.Words.{ℕ, zero, suc, ◌≡◌, ◌+◌, ◌<◌, ◌≤◌, ◌==◌, ◌&&◌, ◌++◌, ◌∷◌, Bool, true, false, not, List, [], Option, None, Some, Ok, Err, length, nat_lt, list_any, map, drop, is_some, slice_index_or, slice_set, if◌then◌else◌, AreAtHand, AreOwned, AreRegisters, AreUnheldBut, ArePosted, BuffersStand, CountsStand, Endpoint, Held, HomeTable, Instance, IsAtDevice, IsInMemory, IsInRing, IsKept, IsPlaceIn, IsPostedFor, IsSafe, Life, Local, LogEntry, Mediated, Memory, NetMakes, NetStands, NetState, Network, Outgoing, Place, Post, Posts, Receive, Registers, Ring, Rings, RingsStand, RingValues, Rule, Send, Transmit, Waiting, accepted, answer, buffer_at, changed, completed, denied, frame_in, frame_of_send, frames_of, has_place, held_in, held_to_send, homes_in, is_from, is_waiting, numbers_of, one_if, posted_from, posted_in, received_frames, ring_of, send_at, unsent_sends, waiting_at, waiting_from, waits}

-- ---- answers

pub broken-by : (o : Option Rule) (rule : Rule) → Err rule ≡ answer_of o → o ≡ Some rule
broken-by None rule is = absurd (cc is)
broken-by (Some r) rule is = cc

pub none-broken : (o : Option Rule) (x : Unit) → Ok x ≡ answer_of o → o ≡ None
none-broken None x is = refl
none-broken (Some r) x is = absurd (cc is)

by-waiting : (o : Option Rule) (b : Bool) → option_or o (if b then None else Some M6) ≡ None → b ≡ true
by-waiting None true none = refl
by-waiting None false none = absurd (cc none)
by-waiting (Some r) b none = absurd (cc none)

some-waits : (o : Option Waiting) → is_some o ≡ true → (w : Waiting) × (o ≡ Some w)
some-waits None is = absurd (cc is)
some-waits (Some w) is = (w, refl)

-- the send that is posted waits
pub waits-then : (v : RingValues) (s : Outgoing) (send slot : ℕ) → transmit_rule v (is_waiting s send) slot ≡ None → (w : Waiting) × (waiting_at s send ≡ Some w)
waits-then v s send slot none = some-waits (waiting_at s send) (by-waiting (slot_rule Transmit v slot) (is_waiting s send) none)

-- the rule is the journal's
send-rule : (rings : Rings) (frames : List (List ℕ)) (n : Network) (m : Mediated) (mem : Memory) (s : Outgoing) (slot send : ℕ) → RingsStand rings frames m mem → CountsStand n s
    → transmit_rule rings.transmit (waits n send) slot ≡ transmit_rule m.transmit.values (is_waiting s send) slot
send-rule rings frames n m mem s slot send r c = ap (λ v. transmit_rule v (waits n send) slot) r.transmit ∙ ap (λ b. transmit_rule m.transmit.values b slot) (sym (c.waiting send))

-- a post that is refused
pub refused-send : (local : Local) (life : Instance → Life) (remote : Instance → Endpoint) (n : Network) (t : NetState) (regs : Registers) (log : List LogEntry) (slot send : ℕ) (rule : Rule)
    → NetStands life remote n t → AreRegisters local n regs → transmit_rule t.med.transmit.values (is_waiting t.sends send) slot ≡ Some rule → NetMakes local life remote n (TxPost slot send) (denied rule) t regs log log
refused-send local life remote n t regs log slot send rule s each breaks = record {
  outcome = sym (ap answer (send-rule n.rings n.pending n t.med t.mem t.sends slot send s.rings s.counts ∙ breaks));
  stands = s;
  registers = each;
  log = refl;
}

-- ---- what waits

and-false : (a : Bool) → false ≡ (a && false)
and-false true = refl
and-false false = refl

and-true : (a : Bool) → a ≡ (a && true)
and-true true = refl
and-true false = refl

zero-suc : (k : ℕ) → (0 == suc k) ≡ false
zero-suc k = grind (arith, nat_tests)

suc-zero : (i : ℕ) → (suc i == 0) ≡ false
suc-zero i = grind (arith, nat_tests)

suc-suc : (i k : ℕ) → (i == k) ≡ (suc i == suc k)
suc-suc i k = grind (arith, nat_tests)

set-none : (ws : List (Option Waiting)) (i k : ℕ) → is_some (slice_index_or (slice_set ws i None) k None) ≡ (is_some (slice_index_or ws k None) && not (i == k))
set-none [] i k = refl
set-none (w ∷ ws) zero zero = and-false (is_some w)
set-none (w ∷ ws) zero (suc k) = and-true (is_some (slice_index_or ws k None)) ∙ ap (λ b. is_some (slice_index_or ws k None) && not b) (sym (zero-suc k))
set-none (w ∷ ws) (suc i) zero = and-true (is_some w) ∙ ap (λ b. is_some w && not b) (sym (suc-zero i))
set-none (w ∷ ws) (suc i) (suc k) = set-none ws i k ∙ ap (λ b. is_some (slice_index_or ws k None) && not b) (suc-suc i k)

still-waits : (ws : List (Option Waiting)) (i k : ℕ) (v : Waiting) → slice_index_or (slice_set ws i None) k None ≡ Some v → slice_index_or ws k None ≡ Some v
still-waits [] i k v is = is
still-waits (w ∷ ws) zero zero v is = absurd (cc is)
still-waits (w ∷ ws) zero (suc k) v is = is
still-waits (w ∷ ws) (suc i) zero v is = is
still-waits (w ∷ ws) (suc i) (suc k) v is = still-waits ws i k v is

swapped : (a c : ℕ) → a + c ≡ c + a
swapped a c = omega arith

one-more : (c a x y : ℕ) → a + x ≡ y → c + a + x ≡ c + y
one-more c a x y is = omega (arith, is)

waiting-less : (p : Instance) (b : ℕ) (ws : List (Option Waiting)) (i : ℕ) (w : Waiting) → slice_index_or ws i None ≡ Some w
    → waiting_from p b (slice_set ws i None) + one_if (is_from p b w.who w.buffer) ≡ waiting_from p b ws
waiting-less p b [] i w is = absurd (cc is)
waiting-less p b (None ∷ ws) zero w is = absurd (cc is)
waiting-less p b (Some v ∷ ws) zero w is =
    let P : Waiting → Type 0 = λ x. waiting_from p b ws + one_if (is_from p b x.who x.buffer) ≡ one_if (is_from p b v.who v.buffer) + waiting_from p b ws in
    subst P (some-same v w is) (swapped (waiting_from p b ws) (one_if (is_from p b v.who v.buffer)))
waiting-less p b (None ∷ ws) (suc i) w is = waiting-less p b ws i w is
waiting-less p b (Some v ∷ ws) (suc i) w is = one-more (one_if (is_from p b v.who v.buffer)) (waiting_from p b (slice_set ws i None)) (one_if (is_from p b w.who w.buffer)) (waiting_from p b ws) (waiting-less p b ws i w is)

-- ---- what is in the ring

last-more : (c a x y : ℕ) → y ≡ a + x → c + y ≡ c + a + x
last-more c a x y is = omega (arith, is)

posted-more : (p : Instance) (b : ℕ) (posts : List Post) (post : Post) → posted_from p b (posts ++ post ∷ []) ≡ posted_from p b posts + one_if (is_from p b post.who post.buffer)
posted-more p b [] post = swapped (one_if (is_from p b post.who post.buffer)) 0
posted-more p b (x ∷ posts) post = last-more (one_if (is_from p b x.who x.buffer)) (posted_from p b posts) (one_if (is_from p b post.who post.buffer)) (posted_from p b (posts ++ post ∷ [])) (posted-more p b posts post)

ring-more : (life : Instance → Life) (sends : List Send) (buffers : Instance → ℕ → List ℕ) (mem : Memory) (posts : List Post) (held : List Held) (post : Post) (h : Held) → IsPostedFor life sends buffers mem post h
    → ArePosted life sends buffers mem posts held → ArePosted life sends buffers mem (posts ++ post ∷ []) (held ++ h ∷ [])
ring-more life sends buffers mem [] [] post h is ring = (is, tt)
ring-more life sends buffers mem [] (k ∷ held) post h is ring = absurd ring
ring-more life sends buffers mem (x ∷ posts) [] post h is ring = absurd ring
ring-more life sends buffers mem (x ∷ posts) (k ∷ held) post h is ring = (ring.0, ring-more life sends buffers mem posts held post h is ring.1)

abbrev post_for : ℕ → Waiting → Post
post_for send w = record { number = send; who = w.who; buffer = w.buffer }

moves : (a b x y z o : ℕ) → a + x ≡ b → z ≡ y + x → b + y ≡ o → a + z ≡ o
moves a b x y z o one two three = omega (arith, one, two, three)

buffers-posted : (life : Instance → Life) (sends : List Send) (buffers : Instance → ℕ → List ℕ) (away : Instance → ℕ → Bool) (homes : HomeTable) (waiting : List (Option Waiting)) (posted : List Post) (held : List Held) (mem : Memory) (send : ℕ) (w : Waiting)
    → slice_index_or waiting send None ≡ Some w → BuffersStand life sends buffers away homes waiting posted held mem → BuffersStand life sends buffers away homes (slice_set waiting send None) (posted ++ post_for send w ∷ []) (held ++ w.loan ∷ []) mem
buffers-posted life sends buffers away homes waiting posted held mem send w is s =
    let own = s.waits_for send w is in
    record {
      size = s.size;
      away_is = s.away_is;
      used = λ p b alive low. moves (waiting_from p b (slice_set waiting send None)) (waiting_from p b waiting) (one_if (is_from p b w.who w.buffer)) (posted_from p b posted) (posted_from p b (posted ++ post_for send w ∷ [])) _
          (waiting-less p b waiting send w is) (posted-more p b posted (post_for send w)) (s.used p b alive low);
      home = s.home;
      waits_for = λ number v at. s.waits_for number v (still-waits waiting send number v at);
      ring = ring-more life sends buffers mem posted held (post_for send w) w.loan (record { send = (_, own.send, refl, refl); holds = own.holds }) s.ring;
    }

pub buffers-at : (life : Instance → Life) (sends : List Send) (buffers : Instance → ℕ → List ℕ) (away : Instance → ℕ → Bool) (homes homes' : HomeTable) (waiting waiting' : List (Option Waiting)) (posted posted' : List Post) (held held' : List Held) (mem : Memory)
    → homes' ≡ homes → waiting' ≡ waiting → posted' ≡ posted → held' ≡ held → BuffersStand life sends buffers away homes waiting posted held mem → BuffersStand life sends buffers away homes' waiting' posted' held' mem
buffers-at life sends buffers away homes homes' waiting waiting' posted posted' held held' mem h w p r s =
    subst (λ x. BuffersStand life sends buffers away x waiting' posted' held' mem) (sym h)
    (subst (λ x. BuffersStand life sends buffers away homes x posted' held' mem) (sym w)
    (subst (λ x. BuffersStand life sends buffers away homes waiting x held' mem) (sym p)
    (subst (λ x. BuffersStand life sends buffers away homes waiting posted x mem) (sym r) s)))

-- ---- the counts

is-same : (i k : ℕ) → (i == k) ≡ true → i ≡ k
is-same i k is = grind (arith, nat_tests)

is-less : (i k : ℕ) → nat_lt i k ≡ true → i < k
is-less i k is = grind (arith, nat_tests)

and-first : (a b : Bool) → (a && b) ≡ true → a ≡ true
and-first true b is = refl
and-first false b is = is

not-or : (l a e : Bool) → ((l && not a) && not e) ≡ (l && not (a || (e || false)))
not-or false a e = refl
not-or true true e = refl
not-or true false true = refl
not-or true false false = refl

either : (P : Type 0) (a e : Bool) → (a ≡ true → P) → (e ≡ true → P) → (a || (e || false)) ≡ true → P
either P true e one other is = one refl
either P false true one other is = other refl
either P false false one other is = absurd (cc is)

counts-posted : (n : Network) (s s' : Outgoing) (send : ℕ) (w : Waiting) → waiting_at s send ≡ Some w → s'.waiting ≡ slice_set s.waiting send None → s'.posts ≡ s.posts ++ post_for send w ∷ [] → s'.told ≡ s.told
    → CountsStand n s → CountsStand (record n { rings = send_posted send n.rings }) s'
counts-posted n s s' send w is waiting posts told c =
    let all : waits n send ≡ true = sym (c.waiting send) ∙ ap is_some is in
    let low : send < length n.sends = is-less send (length n.sends) (and-first (nat_lt send (length n.sends)) (not (list_any (λ j. j == send) n.rings.posts)) all) in
    record {
      count = ap length waiting ∙ length-set s.waiting send None ∙ c.count;
      posts = ap (λ xs. xs ++ send ∷ []) c.posts ∙ sym (map-append (λ (post : Post). post.number) s.posts (post_for send w ∷ [])) ∙ sym (ap numbers_of posts);
      told = c.told ∙ sym told;
      waiting = λ k. ap (λ ws. is_some (slice_index_or ws k None)) waiting ∙ set-none s.waiting send k ∙ ap (λ x. x && not (send == k)) (c.waiting k)
          ∙ not-or (nat_lt k (length n.sends)) (list_any (λ j. j == k) n.rings.posts) (send == k)
          ∙ ap (λ x. nat_lt k (length n.sends) && not x) (sym (list_any-append (λ j. j == k) n.rings.posts (send ∷ [])));
      below = λ k there. either (k < length n.sends) (list_any (λ j. j == k) n.rings.posts) (send == k) (c.below k) (λ same. subst (λ x. x < length n.sends) (is-same send k same) low)
          (sym (list_any-append (λ j. j == k) n.rings.posts (send ∷ [])) ∙ there);
    }

-- ---- the act

pub record SendMade (s s' : Outgoing) (m m' : Mediated) (mem mem' : Memory) (send : ℕ) (w : Waiting) : Type 0 where
  pub homes : s'.homes ≡ s.homes
  pub waiting : s'.waiting ≡ slice_set s.waiting send None
  pub posts : s'.posts ≡ s.posts ++ record { number = send; who = w.who; buffer = w.buffer } ∷ []
  pub returned : s'.returned ≡ s.returned
  pub told : s'.told ≡ s.told
  pub posted : m' ≡ changed Transmit (Posts w.loan) m
  pub unsent : unsent_frames mem' m'.transmit ≡ unsent_frames mem m.transmit ++ frame_in mem w ∷ []
  pub received : received_frames mem' m'.receive ≡ received_frames mem m.receive
  pub done : (ring : Ring) → completed ring mem' (ring_of m' ring) ≡ completed ring mem (ring_of m ring)
  pub buffers : (p : Place) → IsPlaceIn (length mem) p → buffer_at mem' p ≡ buffer_at mem p
  pub areas : length mem' ≡ length mem
  pub memory : IsInMemory m' mem'
  pub device : (regs : Registers) → IsAtDevice m mem regs → IsAtDevice m' mem' regs

abbrev pub send-made : NetState → Mediated → Memory → Outgoing → NetState
send-made t m' mem' s' = record { med = m'; mem = mem'; names = t.names; flows = t.flows; inboxes = t.inboxes; sends = s' }

rings-sent-posted : (rings : Rings) (frames : List (List ℕ)) (s s' : Outgoing) (m m' : Mediated) (mem mem' : Memory) (send : ℕ) (w : Waiting) → SendMade s s' m m' mem mem' send w → RingsStand rings frames m mem → RingsStand (send_posted send rings) frames m' mem'
rings-sent-posted rings frames s s' m m' mem mem' send w e r = record {
  receive = r.receive ∙ sym (ap (λ (x : Mediated). x.receive.values) e.posted);
  transmit = ap (λ (v : RingValues). record v { posted = v.posted + 1 }) r.transmit ∙ sym (ap (λ (x : Mediated). x.transmit.values) e.posted);
  names = r.names ∙ sym (ap (λ (x : Mediated). map (λ (h : Held). h.name) x.receive.held) e.posted);
  turns = r.turns ∙ sym (ap (λ (x : Mediated). x.turns) e.posted);
  heard = r.heard ∙ sym (e.done Receive);
  pending = r.pending ∙ sym e.received;
  sent = r.sent ∙ sym (e.done Transmit);
}

-- no more were taken back than sent, and no more sent than posted
few-posted : (t : NetState) → IsSafe t → (t.sends.returned ≤ length t.sends.posts) × (t.sends.told ≤ length t.sends.posts)
few-posted t safe =
    let ring = safe.memory.ring Transmit in
    let posted = ring.balanced.posted in
    let first = ring.taken in
    let rung = ring.rung in
    let told = safe.told in
    let all = safe.posts.posted in
    let back = safe.posts.taken in
    (omega (arith, posted, first, rung, all, back), omega (arith, posted, rung, told, all))

unsent-more : (n : Network) (send : ℕ) (frame : List ℕ) → n.rings.sent ≤ length n.rings.posts → frame_of_send (send_at n.sends send) ≡ frame → unsent_sends n ++ frame ∷ [] ≡ unsent_sends (record n { rings = send_posted send n.rings })
unsent-more n send frame low is =
    let f : ℕ → List ℕ = λ k. frame_of_send (send_at n.sends k) in
    ap (λ x. unsent_sends n ++ x ∷ []) (sym is) ∙ sym (map-append f (drop n.rings.sent n.rings.posts) (send ∷ []))
    ∙ ap (map f) (sym (drop-append-le n.rings.sent n.rings.posts (send ∷ []) low))

pub post-serves : (local : Local) (life : Instance → Life) (remote : Instance → Endpoint) (n : Network) (t : NetState) (m' : Mediated) (mem' : Memory) (s' : Outgoing) (regs : Registers) (log : List LogEntry) (slot send : ℕ) (w : Waiting)
    → SendMade t.sends s' t.med m' t.mem mem' send w → waiting_at t.sends send ≡ Some w → transmit_rule t.med.transmit.values (is_waiting t.sends send) slot ≡ None
    → ((p : Place) → has_place (held_to_send t.sends) p ≡ true → IsKept t.mem p) → ((who : Instance) → frames_of mem' t.inboxes who ≡ frames_of t.mem t.inboxes who)
    → IsSafe t → NetStands life remote n t → AreRegisters local n regs → NetMakes local life remote n (TxPost slot send) (accepted []) (send-made t m' mem' s') regs log log
post-serves local life remote n t m' mem' s' regs log slot send w e is none kept stay safe s each =
    let stand = rings-sent-posted n.rings n.pending t.sends s' t.med m' t.mem mem' send w e s.rings in
    let few = few-posted t safe in
    let frame : frame_of_send (send_at n.sends send) ≡ frame_in t.mem w = ap frame_of_send (s.buffers.waits_for send w is).send in
    let sent = s.counts.told in
    let told = few.1 in
    let long : length n.rings.posts ≡ length t.sends.posts = ap length s.counts.posts ∙ length-map t.sends.posts (λ (post : Post). post.number) in
    let low : n.rings.sent ≤ length n.rings.posts = omega (arith, sent, told, long) in
    let in-ring : posted_in s' ≡ posted_in t.sends ++ post_for send w ∷ [] = ap (λ k. drop k s'.posts) e.returned ∙ ap (drop t.sends.returned) e.posts ∙ drop-append-le t.sends.returned t.sends.posts (post_for send w ∷ []) few.0 in
    let moved = buffers-stay life n.sends n.buffers n.away t.sends.homes t.sends.waiting (posted_in t.sends) t.med.transmit.held t.mem mem' (λ p there. e.buffers p (kept p there).place) (λ p there. e.buffers p (ring-lent t.med t.mem p safe.memory there).place) s.buffers in
    record {
      outcome = sym (ap answer (send-rule n.rings n.pending n t.med t.mem t.sends slot send s.rings s.counts ∙ none));
      stands = record {
        rings = stand;
        ears = s.ears;
        unread = λ p alive. stay p ∙ s.unread p alive;
        closed = s.closed;
        unsending = λ p gone. ap (λ h. homes_in h p) e.homes ∙ s.unsending p gone;
        counts = counts-posted n t.sends s' send w is e.waiting e.posts e.told s.counts;
        buffers = buffers-at life n.sends n.buffers n.away t.sends.homes s'.homes (slice_set t.sends.waiting send None) s'.waiting (posted_in t.sends ++ post_for send w ∷ []) (posted_in s') (t.med.transmit.held ++ w.loan ∷ []) m'.transmit.held mem'
            e.homes e.waiting in-ring (ap (λ (x : Mediated). x.transmit.held) e.posted) (buffers-posted life n.sends n.buffers n.away t.sends.homes t.sends.waiting (posted_in t.sends) t.med.transmit.held mem' send w is moved);
        unsent = e.unsent ∙ ap (λ xs. xs ++ frame_in t.mem w ∷ []) s.unsent ∙ unsent-more n send (frame_in t.mem w) low frame;
        areas = s.areas ∙ sym e.areas;
      };
      registers = from-device local (send_posted send n.rings) n.pending m' mem' regs stand e.memory (e.device regs (at-device local n.rings n.pending t.med t.mem regs s.rings safe.memory each)) (others-like local n.rings (send_posted send n.rings) regs refl refl refl (others-of local n.rings regs each));
      log = refl;
    }

pub post-safe : (t : NetState) (m' : Mediated) (mem' : Memory) (s' : Outgoing) → IsSafe t → IsInMemory m' mem' → ((ring : Ring) → AreOwned ring (ring_of m' ring) t.names) → AreUnheldBut [] m' t.names mem'
    → AreAtHand t.names mem' (held_in t.inboxes ++ held_to_send s') → s'.homes ≡ t.sends.homes → IsInRing s' m' → s'.told ≡ t.sends.told → completed Transmit mem' m'.transmit ≡ completed Transmit t.mem t.med.transmit → IsSafe (send-made t m' mem' s')
post-safe t m' mem' s' safe memory owned unheld hands homes posts told done = record {
  memory = memory;
  owned = owned;
  unheld = unheld;
  hands = hands;
  beside = safe.beside;
  sending = λ p bound none. safe.sending p bound (ap (λ h. homes_in h p) (sym homes) ∙ none);
  posts = posts;
  told = told ∙ safe.told ∙ sym done;
}
