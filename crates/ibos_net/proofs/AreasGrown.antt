-- Instances start and end: the buffers of all others stay where they are.
use Rattle.std.proofs.Common.{refl, sym, ◌∙◌, ap, subst, arith}
use Rattle.std.proofs.lemmas.Bool.Decides.{nat_tests}
use Rattle.std.proofs.lemmas.List.{append-nil}
use Rattle.ibos_recv.specs.Inboxes.{frames_at}
use Rattle.ibos_mediate.specs.Frames.{unsent_frames}
use Rattle.ibos_send.specs.Buffers.{buffer_in, name_in}
use Rattle.ibos_send.specs.Sends.{AreSameSends}
use Rattle.ibos_net.proofs.BuffersStay.{AreLeft, OwnStand, buffers-left, buffers-stay, own-stands, some-same}
use Rattle.ibos_net.proofs.Words.{◌∷◌, zero, suc, ◌==◌, ◌&&◌, not, is_some, hands_of, homes_by, IsInRing, IsBare, Unborn, Gone, HomeTable, Outgoing, Waiting, Post, Send, ArePosted, BuffersStand, CountsStand, buffer_at, fresh_buffer, home_at, homes_in, is_from, new_homes, numbers_of, one_if, posted_from, posted_in, size_of, slice_index_or, waiting_from, ℕ, ◌≡◌, ◌≢◌, ◌<◌, ◌≤◌, ◌+◌, ◌++◌, Bool, true, false, List, [], Option, None, Some, length, Instance, Life, Alive, Endpoint, AreAtHand, no_flows, ear_with, Table, bound_by, Inboxes, inbox_by, frames_of, if◌then◌else◌, IsAtDevice, IsSafe, Mediated, MediatesBut, Memory, Names, Name, Network, NetState, NetStands, Place, Receive, Transmit, RingPart, Base, High, Length, HeadPart, Tail, Control, Registers, RingsStand, Rings, Held, IsNameIn, is_lent_at, is_taken, place_of, bytes_at, completed, max_areas, part_of, received_frames, ring_of, value_of, with_life, with_remote, same, new_inbox}

-- ---- the situation over the registers that the rings ask for

abbrev pub part-value : Mediated → Memory → Option RingPart → ℕ
part-value m mem None = 0
part-value m mem (Some p) = value_of (ring_of m p.ring) (completed p.ring mem (ring_of m p.ring)) p.part

abbrev pub regs-for : Mediated → Memory → Registers
regs-for m mem reg = part-value m mem (part_of reg)

at-regs : (m : Mediated) (mem : Memory) → IsAtDevice m mem (regs-for m mem)
at-regs m mem Receive Base = refl
at-regs m mem Receive High = refl
at-regs m mem Receive Length = refl
at-regs m mem Receive HeadPart = refl
at-regs m mem Receive Tail = refl
at-regs m mem Receive Control = refl
at-regs m mem Transmit Base = refl
at-regs m mem Transmit High = refl
at-regs m mem Transmit Length = refl
at-regs m mem Transmit HeadPart = refl
at-regs m mem Transmit Tail = refl
at-regs m mem Transmit Control = refl

pub mediates : (t : NetState) → IsSafe t → MediatesBut [] t.med t.mem (regs-for t.med t.mem) t.names
mediates t safe = record { memory = safe.memory; device = at-regs t.med t.mem; owned = safe.owned; unheld = safe.unheld }

-- a step of the pool keeps the situation, whatever the registers are
abbrev pub KeepsWhole : Names → Names → Type 0
KeepsWhole names names' = (m : Mediated) (mem : Memory) (regs : Registers) (out : List Held) → MediatesBut out m mem regs names → MediatesBut out m mem regs names'

pub safe-from : (t : NetState) (regs : Registers) → MediatesBut [] t.med t.mem regs t.names → AreAtHand t.names t.mem (hands_of t) → ((p : Instance) → bound_by t.flows p ≢ None → inbox_by t.inboxes p ≢ None)
    → ((p : Instance) → bound_by t.flows p ≢ None → homes_by t.sends p ≢ None) → IsInRing t.sends t.med → t.sends.told ≡ completed Transmit t.mem t.med.transmit → IsSafe t
safe-from t regs whole hands beside sending posts told = record {
  memory = whole.memory;
  owned = whole.owned;
  unheld = whole.unheld;
  hands = hands;
  beside = beside;
  sending = sending;
  posts = posts;
  told = told;
}

-- the buffers of the inboxes and no others
pub hands-alone : (names names' : Names) (mem mem' : Memory) (held held' : List Held) → (AreAtHand names mem (held ++ []) → AreAtHand names' mem' (held' ++ [])) → AreAtHand names mem held → AreAtHand names' mem' held'
hands-alone names names' mem mem' held held' step hands = subst (AreAtHand names' mem') (append-nil held') (step (subst (AreAtHand names mem) (sym (append-nil held)) hands))

-- ---- one instance, or another

pub same-is : (p q : Instance) → same p q ≡ true → p ≡ q
same-is p q h = grind (arith, nat_tests)

same-self : (p : Instance) → same p p ≡ true
same-self p = grind (arith, nat_tests)

sym-false : (p q : Instance) → same p q ≡ false → same q p ≡ false
sym-false p q h = grind (arith, nat_tests)

pub by-one : (who p : Instance) {P : Type 0} → (p ≡ who → P) → (p ≢ who → same who p ≡ false → P) → P
by-one who p {P} own other = by_test (same who p) refl
  where
    by_test : (b : Bool) → same who p ≡ b → P
    by_test true is = own (sym (same-is who p is))
    by_test false is = other (λ e. let clash : true ≡ false = sym (same-self who) ∙ ap (same who) (sym e) ∙ is in cc) is

-- ---- the end

-- who hears has what was ended of no one else
pub ended-beside : {A : Type 0} (flows flows' : Table) (own own' : Instance → Option A) (who : Instance) → ((p : Instance) → bound_by flows p ≢ None → own p ≢ None) → bound_by flows' who ≡ None
    → ((q : Instance) → q ≢ who → bound_by flows' q ≡ bound_by flows q) → ((q : Instance) → q ≢ who → own' q ≡ own q) → (p : Instance) → bound_by flows' p ≢ None → own' p ≢ None
ended-beside flows flows' own own' who beside gone flows-others others p there =
    by-one who p (λ is. absurd (there (subst (λ q. bound_by flows' q ≡ None) (sym is) gone)))
    (λ differ not none. beside p (λ e. there (flows-others p differ ∙ e)) (sym (others p differ) ∙ none))

-- ---- the start

-- memory and names that were added to
pub record IsGrown (names names' : Names) (mem mem' : Memory) : Type 0 where
  pub some : 0 < length names
  pub more : length names ≤ length names'
  pub taken : (name : Name) → is_taken names' name ≡ is_taken names name
  pub places : (name : Name) → IsNameIn (length names) name → place_of names' name ≡ place_of names name
  pub bytes : (from n : ℕ) → bytes_at mem' from n ≡ bytes_at mem from n
  pub lent : (p : Place) → is_lent_at mem' p ≡ is_lent_at mem p
  pub areas : length mem ≤ length mem'
  pub most : length mem' ≤ max_areas

-- what the laws say of it
abbrev pub GrowthLaw : Type 0
GrowthLaw = (m : Mediated) (mem mem' : Memory) (regs : Registers) (old new : Names) (out : List Held) → 0 < length old → length old ≤ length new → ((name : Name) → is_taken new name ≡ is_taken old name)
    → ((name : Name) → IsNameIn (length old) name → place_of new name ≡ place_of old name) → length mem ≤ length mem' → length mem' ≤ max_areas → ((from n : ℕ) → bytes_at mem' from n ≡ bytes_at mem from n)
    → ((p : Place) → is_lent_at mem' p ≡ is_lent_at mem p) → MediatesBut out m mem regs old → MediatesBut out m mem' regs new

abbrev pub HandsLaw : Type 0
HandsLaw = (names names' : Names) (mem mem' : Memory) (held : List Held) → length names ≤ length names' → ((name : Name) → is_taken names' name ≡ is_taken names name)
    → ((name : Name) → IsNameIn (length names) name → place_of names' name ≡ place_of names name) → length mem ≤ length mem' → ((p : Place) → is_lent_at mem' p ≡ is_lent_at mem p)
    → AreAtHand names mem held → AreAtHand names' mem' held

abbrev pub grown : NetState → Memory → Names → NetState
grown t mem' names' = record { med = t.med; mem = mem'; names = names'; flows = t.flows; inboxes = t.inboxes; sends = t.sends }

pub grown-whole : GrowthLaw → (t : NetState) (mem' : Memory) (names' : Names) → IsSafe t → IsGrown t.names names' t.mem mem' → MediatesBut [] t.med mem' (regs-for t.med t.mem) names'
grown-whole law t mem' names' safe g = law t.med t.mem mem' (regs-for t.med t.mem) t.names names' [] g.some g.more g.taken g.places g.areas g.most g.bytes g.lent (mediates t safe)

pub grown-hands : HandsLaw → (t : NetState) (mem' : Memory) (names' : Names) → IsSafe t → IsGrown t.names names' t.mem mem' → AreAtHand names' mem' (hands_of t)
grown-hands law t mem' names' safe g = law t.names names' t.mem mem' (hands_of t) g.more g.taken g.places g.areas g.lent safe.hands

pub grown-safe : GrowthLaw → HandsLaw → (t : NetState) (mem' : Memory) (names' : Names) → IsSafe t → IsGrown t.names names' t.mem mem' → completed Transmit mem' t.med.transmit ≡ completed Transmit t.mem t.med.transmit → IsSafe (grown t mem' names')
grown-safe law hands t mem' names' safe g done = safe-from (grown t mem' names') (regs-for t.med t.mem) (grown-whole law t mem' names' safe g) (grown-hands hands t mem' names' safe g)
    safe.beside safe.sending safe.posts (safe.told ∙ sym done)

pub begun-beside : {A : Type 0} (flows flows' : Table) (own own' : Instance → Option A) (who : Instance) → ((p : Instance) → bound_by flows p ≢ None → own p ≢ None) → own' who ≢ None
    → ((q : Instance) → q ≢ who → bound_by flows' q ≡ bound_by flows q) → ((q : Instance) → q ≢ who → own' q ≡ own q) → (p : Instance) → bound_by flows' p ≢ None → own' p ≢ None
begun-beside flows flows' own own' who beside there_is flows-others others p there =
    by-one who p (λ is. subst (λ q. own' q ≢ None) (sym is) there_is)
    (λ differ not none. beside p (λ e. there (flows-others p differ ∙ e)) (sym (others p differ) ∙ none))

pub some-is : {A : Type 0} (x : Option A) (y : A) → x ≡ Some y → x ≢ None
some-is x y is none = let clash = sym is ∙ none in cc

pub has-inbox : (inboxes : Inboxes) (who : Instance) (names : Names) (area : ℕ) → inbox_by inboxes who ≡ Some (new_inbox names area) → inbox_by inboxes who ≢ None
has-inbox inboxes who names area is = some-is (inbox_by inboxes who) (new_inbox names area) is

rings-grown : (rings : Rings) (frames : List (List ℕ)) (m : Mediated) (mem mem' : Memory) → RingsStand rings frames m mem → completed Receive mem' m.receive ≡ completed Receive mem m.receive → received_frames mem' m.receive ≡ received_frames mem m.receive
    → completed Transmit mem' m.transmit ≡ completed Transmit mem m.transmit → RingsStand rings frames m mem'
rings-grown rings frames m mem mem' s done received sent = record { receive = s.receive; transmit = s.transmit; names = s.names; turns = s.turns; heard = s.heard ∙ sym done; pending = s.pending ∙ sym received; sent = s.sent ∙ sym sent }

-- ---- the buffers of the new instance

new-home : (names : Names) (area b : ℕ) → b < 4 → home_at (Some (new_homes names area)) b ≡ Some (buffer_in names area b)
new-home names area zero low = refl
new-home names area (suc zero) low = refl
new-home names area (suc (suc zero)) low = refl
new-home names area (suc (suc (suc zero))) low = refl
new-home names area (suc (suc (suc (suc b)))) low = absurd (omega (arith, low))

new-fresh : (names : Names) (area b : ℕ) (h : Held) (mem : Memory) → ((i : ℕ) → i < 4 → buffer_at mem (place_of names (name_in area i)) ≡ fresh_buffer) → home_at (Some (new_homes names area)) b ≡ Some h → buffer_at mem h.place ≡ fresh_buffer
new-fresh names area zero h mem fresh is = subst (λ (x : Held). buffer_at mem x.place ≡ fresh_buffer) (some-same _ h is) (fresh 0 (omega arith))
new-fresh names area (suc zero) h mem fresh is = subst (λ (x : Held). buffer_at mem x.place ≡ fresh_buffer) (some-same _ h is) (fresh 1 (omega arith))
new-fresh names area (suc (suc zero)) h mem fresh is = subst (λ (x : Held). buffer_at mem x.place ≡ fresh_buffer) (some-same _ h is) (fresh 2 (omega arith))
new-fresh names area (suc (suc (suc zero))) h mem fresh is = subst (λ (x : Held). buffer_at mem x.place ≡ fresh_buffer) (some-same _ h is) (fresh 3 (omega arith))
new-fresh names area (suc (suc (suc (suc b)))) h mem fresh is = absurd (cc is)

not-of : (p b' : ℕ) (who q : Instance) (buffer : ℕ) → q ≢ who → one_if (is_from who p q buffer) ≡ 0
not-of p b' who q buffer differ = by-one who q (λ is. absurd (differ is)) (λ apart not. let swapped : same q who ≡ false = sym-false who q not in ap (λ x. one_if (x && buffer == p)) swapped)

none-waits : (who : Instance) (b : ℕ) (ws : List (Option Waiting)) → ((k : ℕ) (w : Waiting) → slice_index_or ws k None ≡ Some w → w.who ≢ who) → waiting_from who b ws ≡ 0
none-waits who b [] others = refl
none-waits who b (None ∷ ws) others = none-waits who b ws (λ k w is. others (suc k) w is)
none-waits who b (Some w ∷ ws) others =
    let first = not-of b b who w.who w.buffer (others 0 w refl) in
    let rest = none-waits who b ws (λ k v is. others (suc k) v is) in
    omega (arith, first, rest)

none-posted : (who : Instance) (b : ℕ) (life : Instance → Life) (sends : List Send) (buffers : Instance → ℕ → List ℕ) (mem : Memory) (posts : List Post) (held : List Held) → life who ≡ Unborn → ArePosted life sends buffers mem posts held → posted_from who b posts ≡ 0
none-posted who b life sends buffers mem [] held unborn ring = refl
none-posted who b life sends buffers mem (post ∷ posts) [] unborn ring = absurd ring
none-posted who b life sends buffers mem (post ∷ posts) (h ∷ held) unborn ring =
    let first = not-of b b who post.who post.buffer (λ is. ring.0.holds.started (ap life is ∙ unborn)) in
    let rest = none-posted who b life sends buffers mem posts held unborn ring.1 in
    omega (arith, first, rest)

-- who is new has its buffers at home, and they are zero
new-stands : (n : Network) (homes homes' : HomeTable) (life : Instance → Life) (waiting : List (Option Waiting)) (posted : List Post) (held : List Held) (mem : Memory) (who : Instance) (names : Names) (area : ℕ)
    → IsBare n who → life who ≡ Unborn → homes_in homes' who ≡ Some (new_homes names area) → ((i : ℕ) → i < 4 → buffer_at mem (place_of names (name_in area i)) ≡ fresh_buffer)
    → BuffersStand life n.sends n.buffers n.away homes waiting posted held mem → OwnStand n.buffers n.away homes' waiting posted mem who
new-stands n homes homes' life waiting posted held mem who names area bare unborn new fresh s = record {
  size = ap size_of new;
  away_is = λ b low. bare.home b ∙ ap (λ o. not (is_some o)) (sym (ap (λ o. home_at o b) new ∙ new-home names area b low));
  used = λ b low.
      let none = none-waits who b waiting (λ k w is same. (s.waits_for k w is).holds.started (ap life same ∙ unborn)) in
      let idle = none-posted who b life n.sends n.buffers mem posted held unborn s.ring in
      let total : waiting_from who b waiting + posted_from who b posted ≡ 0 = omega (arith, none, idle) in
      total ∙ ap (λ o. one_if (not (is_some o))) (sym (ap (λ o. home_at o b) new ∙ new-home names area b low));
  home = λ b h is. new-fresh names area b h mem fresh (sym (ap (λ o. home_at o b) new) ∙ is) ∙ sym (bare.buffers b);
}

pub left-end : (life : Instance → Life) (who : Instance) → AreLeft life (with_life who Gone life)
left-end life who p started = by_test (same who p)
  where
    by_test : (b : Bool) → ((if b then Gone else life p) ≢ Unborn) × ((if b then Gone else life p) ≡ Alive → life p ≡ Alive)
    by_test true = ((λ u. cc), (λ a. absurd (cc a)))
    by_test false = (started, (λ a. a))

left-begin : (life : Instance → Life) (who : Instance) → life who ≡ Unborn → AreLeft life (with_life who Alive life)
left-begin life who unborn p started = by_test (same who p) refl
  where
    by_test : (b : Bool) → same who p ≡ b → ((if b then Alive else life p) ≢ Unborn) × ((if b then Alive else life p) ≡ Alive → life p ≡ Alive)
    by_test true is = absurd (started (ap life (sym (same-is who p is)) ∙ unborn))
    by_test false is = (started, (λ a. a))

pub same-buffers : (life : Instance → Life) (n : Network) (homes : HomeTable) (s s' : Outgoing) (held : List Held) (mem : Memory) → AreSameSends s s' → BuffersStand life n.sends n.buffers n.away homes s.waiting (posted_in s) held mem
    → BuffersStand life n.sends n.buffers n.away homes s'.waiting (posted_in s') held mem
same-buffers life n homes s s' held mem same stand = rw (same.waiting, same.posts, same.returned) stand

pub same-counts : (n : Network) (s s' : Outgoing) → AreSameSends s s' → CountsStand n s → CountsStand n s'
same-counts n s s' same c = record {
  count = ap length same.waiting ∙ c.count;
  posts = c.posts ∙ ap numbers_of (sym same.posts);
  told = c.told ∙ sym same.told;
  waiting = λ send. ap (λ ws. is_some (slice_index_or ws send None)) same.waiting ∙ c.waiting send;
  below = c.below;
}

pub same-posts : (m : Mediated) (s s' : Outgoing) → AreSameSends s s' → IsInRing s m → IsInRing s' m
same-posts m s s' same posts = record { posted = posts.posted ∙ ap length (sym same.posts); taken = posts.taken ∙ sym same.returned }

pub ended-stands : (life : Instance → Life) (remotes : Instance → Endpoint) (n : Network) (t t' : NetState) (who : Instance) → NetStands life remotes n t
    → t'.med ≡ t.med → t'.mem ≡ t.mem → length t'.names ≡ length t.names → bound_by t'.flows who ≡ None → ((q : Instance) → q ≢ who → bound_by t'.flows q ≡ bound_by t.flows q)
    → inbox_by t'.inboxes who ≡ None → ((q : Instance) → q ≢ who → inbox_by t'.inboxes q ≡ inbox_by t.inboxes q)
    → homes_by t'.sends who ≡ None → ((q : Instance) → q ≢ who → homes_by t'.sends q ≡ homes_by t.sends q) → AreSameSends t.sends t'.sends
    → NetStands (with_life who Gone life) remotes n t'
ended-stands life remotes n t t' who s med mem names flows-own flows-others inbox-own inbox-others homes-own homes-others same_sends =
    let other : (p : Instance) → with_life who Gone life p ≡ Alive → (p ≢ who) × (life p ≡ Alive) = λ p alive. by-one who p
    (λ is. absurd (let clash : Gone ≡ Alive = ap (λ b. if b then Gone else life p) (sym (same-self who)) ∙ ap (λ q. if same who q then Gone else life p) (sym is) ∙ alive in cc))
    (λ differ not. (differ, subst (λ b. (if b then Gone else life p) ≡ Alive) not alive)) in
    record {
      rings = subst (λ m. RingsStand n.rings n.pending m t'.mem) (sym med) (subst (λ x. RingsStand n.rings n.pending t.med x) (sym mem) s.rings);
      ears = λ p. by-one who p
          (λ is. subst (λ q. bound_by t'.flows q ≡ ear_with (with_life who Gone life q) (remotes q) (n.flows q)) (sym is) (flows-own ∙ ap (λ b. ear_with (if b then Gone else life who) (remotes who) (n.flows who)) (sym (same-self who))))
          (λ differ not. flows-others p differ ∙ s.ears p ∙ ap (λ b. ear_with (if b then Gone else life p) (remotes p) (n.flows p)) (sym not));
      unread = λ p alive. let it = other p alive in ap (λ m. frames_of m t'.inboxes p) mem ∙ ap (frames_at t.mem) (inbox-others p it.0) ∙ s.unread p it.1;
      closed = λ p none. by-one who p (λ is. subst (λ q. inbox_by t'.inboxes q ≡ None) (sym is) inbox-own) (λ differ not. inbox-others p differ ∙ s.closed p (sym (flows-others p differ) ∙ none));
      unsending = λ p none. by-one who p (λ is. subst (λ q. homes_by t'.sends q ≡ None) (sym is) homes-own) (λ differ not. homes-others p differ ∙ s.unsending p (sym (flows-others p differ) ∙ none));
      counts = same-counts n t.sends t'.sends same_sends s.counts;
      buffers =
          let held : t'.med.transmit.held ≡ t.med.transmit.held = ap (λ (m : Mediated). m.transmit.held) med in
          let here = buffers-left life (with_life who Gone life) n.sends n.buffers n.away t.sends.homes t'.sends.homes t.sends.waiting (posted_in t.sends) t.med.transmit.held t.mem (left-end life who)
          (λ p alive. let it = other p alive in own-stands life n.sends n.buffers n.away t.sends.homes t'.sends.homes t.sends.waiting (posted_in t.sends) t.med.transmit.held t.mem p it.1 (homes-others p it.0) s.buffers) s.buffers in
          same-buffers (with_life who Gone life) n t'.sends.homes t.sends t'.sends t'.med.transmit.held t'.mem same_sends (rw (held, mem) here);
      unsent = ap (λ (m : Mediated). unsent_frames t'.mem m.transmit) med ∙ ap (λ x. unsent_frames x t.med.transmit) mem ∙ s.unsent;
      areas = names ∙ s.areas ∙ ap length (sym mem);
    }

pub begun-stands : (life : Instance → Life) (remotes : Instance → Endpoint) (n : Network) (t t' : NetState) (who : Instance) (remote : Endpoint) (names : Names) (area : ℕ) → NetStands life remotes n t → life who ≡ Unborn → IsBare n who
    → t'.med ≡ t.med → completed Receive t'.mem t.med.receive ≡ completed Receive t.mem t.med.receive → received_frames t'.mem t.med.receive ≡ received_frames t.mem t.med.receive
    → completed Transmit t'.mem t.med.transmit ≡ completed Transmit t.mem t.med.transmit → unsent_frames t'.mem t.med.transmit ≡ unsent_frames t.mem t.med.transmit
    → bound_by t'.flows who ≡ Some (no_flows remote) → ((q : Instance) → q ≢ who → bound_by t'.flows q ≡ bound_by t.flows q)
    → inbox_by t'.inboxes who ≡ Some (new_inbox names area) → ((q : Instance) → q ≢ who → inbox_by t'.inboxes q ≡ inbox_by t.inboxes q)
    → (held-names : Names) → homes_by t'.sends who ≡ Some (new_homes held-names area) → ((q : Instance) → q ≢ who → homes_by t'.sends q ≡ homes_by t.sends q) → AreSameSends t.sends t'.sends
    → ((i : ℕ) → i < 4 → buffer_at t'.mem (place_of held-names (name_in area i)) ≡ fresh_buffer) → ((p : Place) → buffer_at t'.mem p ≡ buffer_at t.mem p)
    → ((p : Instance) → frames_of t'.mem t.inboxes p ≡ frames_of t.mem t.inboxes p) → length t'.names ≡ length t.names + 1 → length t'.mem ≡ length t.mem + 1
    → NetStands (with_life who Alive life) (with_remote who remote remotes) n t'
begun-stands life remotes n t t' who remote names area s unborn bare med done received sent unsent flows-own flows-others inbox-own inbox-others held-names homes-own homes-others same_sends fresh bytes frames names-more mem-more = record {
  rings = subst (λ m. RingsStand n.rings n.pending m t'.mem) (sym med) (rings-grown n.rings n.pending t.med t.mem t'.mem s.rings done received sent);
  ears = λ p. by-one who p
      (λ is. subst (λ q. bound_by t'.flows q ≡ ear_with (with_life who Alive life q) (with_remote who remote remotes q) (n.flows q)) (sym is)
      (flows-own ∙ ap (λ xs. ear_with Alive remote xs) (sym bare.flows) ∙ ap (λ b. ear_with (if b then Alive else life who) (if b then remote else remotes who) (n.flows who)) (sym (same-self who))))
      (λ differ not. flows-others p differ ∙ s.ears p ∙ ap (λ b. ear_with (if b then Alive else life p) (if b then remote else remotes p) (n.flows p)) (sym not));
  unread = λ p alive. by-one who p
      (λ is. subst (λ q. frames_of t'.mem t'.inboxes q ≡ n.unread q) (sym is) (ap (frames_at t'.mem) inbox-own ∙ sym bare.unread))
      (λ differ not. ap (frames_at t'.mem) (inbox-others p differ) ∙ frames p ∙ s.unread p (subst (λ b. (if b then Alive else life p) ≡ Alive) not alive));
  closed = λ p none. by-one who p (λ is. absurd (some-is (bound_by t'.flows who) (no_flows remote) flows-own (subst (λ q. bound_by t'.flows q ≡ None) is none))) (λ differ not. inbox-others p differ ∙ s.closed p (sym (flows-others p differ) ∙ none));
  unsending = λ p none. by-one who p (λ is. absurd (some-is (bound_by t'.flows who) (no_flows remote) flows-own (subst (λ q. bound_by t'.flows q ≡ None) is none))) (λ differ not. homes-others p differ ∙ s.unsending p (sym (flows-others p differ) ∙ none));
  counts = same-counts n t.sends t'.sends same_sends s.counts;
  buffers =
      let held : t'.med.transmit.held ≡ t.med.transmit.held = ap (λ (m : Mediated). m.transmit.held) med in
      let stay = buffers-stay life n.sends n.buffers n.away t.sends.homes t.sends.waiting (posted_in t.sends) t.med.transmit.held t.mem t'.mem (λ p there. bytes p) (λ p there. bytes p) s.buffers in
      let here = buffers-left life (with_life who Alive life) n.sends n.buffers n.away t.sends.homes t'.sends.homes t.sends.waiting (posted_in t.sends) t.med.transmit.held t'.mem (left-begin life who unborn)
      (λ p alive. by-one who p
      (λ is. subst (OwnStand n.buffers n.away t'.sends.homes t.sends.waiting (posted_in t.sends) t'.mem) (sym is) (new-stands n t.sends.homes t'.sends.homes life t.sends.waiting (posted_in t.sends) t.med.transmit.held t'.mem who held-names area bare unborn homes-own fresh stay))
      (λ differ not. own-stands life n.sends n.buffers n.away t.sends.homes t'.sends.homes t.sends.waiting (posted_in t.sends) t.med.transmit.held t'.mem p (subst (λ b. (if b then Alive else life p) ≡ Alive) not alive) (homes-others p differ) stay)) stay in
      same-buffers (with_life who Alive life) n t'.sends.homes t.sends t'.sends t'.med.transmit.held t'.mem same_sends (rw held here);
  unsent = ap (λ (m : Mediated). unsent_frames t'.mem m.transmit) med ∙ unsent ∙ s.unsent;
  areas = names-more ∙ ap (λ k. k + 1) s.areas ∙ sym mem-more;
}
