-- Buffers to send from keep what they have, where what is written are others.
use Rattle.std.proofs.Common.{refl, sym, ◌∙◌, ap, subst, arith}
use Rattle.std.specs.Prelude.{◌||◌}
use Rattle.std.proofs.lemmas.Bool.Decides.{nat_tests}
use Rattle.ibos_net.proofs.Words.{ℕ, zero, suc, ◌≡◌, ◌≢◌, ◌+◌, ◌-◌, ◌<◌, ◌++◌, ◌∷◌, Bool, true, false, List, [], Option, None, Some, length, take, slice_index_or, if◌then◌else◌, Alive, ArePosted, BuffersStand, Held, HoldsFor, Homes, Instance, IsInMemory, IsLent, IsOpen, IsWaitingFor, Life, Mediated, Memory, Place, Post, Send, HomeTable, Transmit, Waiting, buffer_at, gathered, has_place, held_of, held_waiting, home_at, home_in, homes_in, homes_of, home_place, has_home_place, no_buffer, place_for, Endpoint, Network, NetStands, NetState, Proto, size_of, not, is_some, one_if, waiting_from, posted_from, Unborn, Gone, ear_with, posted_in}
use Rattle.ibos_pool.specs.Places.{same_place}

-- ---- places of buffers

or-keep : (a b c : Bool) → (b ≡ true → c ≡ true) → (a || b) ≡ true → (a || c) ≡ true
or-keep true b c keep h = refl
or-keep false b c keep h = keep h

or-right : (a b : Bool) → b ≡ true → (a || b) ≡ true
or-right true b h = refl
or-right false b h = h

or-left : (a b : Bool) → a ≡ true → (a || b) ≡ true
or-left true b h = refl
or-left false b h = absurd (cc h)

pub placed-front : (p : Place) (xs ys : List Held) → has_place xs p ≡ true → has_place (xs ++ ys) p ≡ true
placed-front p [] ys h = absurd (cc h)
placed-front p (x ∷ xs) ys h = or-keep (same_place p x.place) (has_place xs p) (has_place (xs ++ ys) p) (placed-front p xs ys) h

pub placed-back : (p : Place) (xs ys : List Held) → has_place ys p ≡ true → has_place (xs ++ ys) p ≡ true
placed-back p [] ys h = h
placed-back p (x ∷ xs) ys h = or-right (same_place p x.place) _ (placed-back p xs ys h)

same-self : (p : Place) → same_place p p ≡ true
same-self p = grind (arith, nat_tests)

pub placed-first : (h : Held) (hs : List Held) → has_place (h ∷ hs) h.place ≡ true
placed-first h hs = or-left (same_place h.place h.place) _ (same-self h.place)

pub some-same : {A : Type 0} (x y : A) → Some x ≡ Some y → x ≡ y
some-same {A} x y is = let f : Option A → A = unwrap x in ap f is
  where
    unwrap : A → Option A → A
    unwrap d None = d
    unwrap d (Some z) = z

waiting-placed : (ws : List (Option Waiting)) (k : ℕ) (w : Waiting) → slice_index_or ws k None ≡ Some w → has_place (gathered held_waiting ws) w.loan.place ≡ true
waiting-placed [] k w is = absurd (cc is)
waiting-placed (None ∷ ws) zero w is = absurd (cc is)
waiting-placed (Some v ∷ ws) zero w is = subst (λ (x : Waiting). has_place (v.loan ∷ gathered held_waiting ws) x.loan.place ≡ true) (some-same v w is) (placed-first v.loan (gathered held_waiting ws))
waiting-placed (x ∷ ws) (suc k) w is = placed-back w.loan.place (held_waiting x) (gathered held_waiting ws) (waiting-placed ws k w is)

homes-placed : (homes : Homes) (b : ℕ) (h : Held) → slice_index_or homes b None ≡ Some h → has_place (gathered held_of homes) h.place ≡ true
homes-placed [] b h is = absurd (cc is)
homes-placed (None ∷ homes) zero h is = absurd (cc is)
homes-placed (Some k ∷ homes) zero h is = subst (λ (x : Held). has_place (k ∷ gathered held_of homes) x.place ≡ true) (some-same k h is) (placed-first k (gathered held_of homes))
homes-placed (x ∷ homes) (suc b) h is = placed-back h.place (held_of x) (gathered held_of homes) (homes-placed homes b h is)

table-placed : (table : HomeTable) (i : ℕ) (p : Place) → has_place (homes_of (slice_index_or table i None)) p ≡ true → has_place (gathered homes_of table) p ≡ true
table-placed [] i p there = absurd (cc there)
table-placed (x ∷ table) zero p there = placed-front p (homes_of x) (gathered homes_of table) there
table-placed (x ∷ table) (suc i) p there = placed-back p (homes_of x) (gathered homes_of table) (table-placed table i p there)

at-placed : (o : Option Homes) (b : ℕ) (h : Held) → home_at o b ≡ Some h → has_place (homes_of o) h.place ≡ true
at-placed None b h is = absurd (cc is)
at-placed (Some homes) b h is = homes-placed homes b h is

home-placed : (table : HomeTable) (p : Instance) (b : ℕ) (h : Held) → home_in table p b ≡ Some h → has_place (gathered homes_of table) h.place ≡ true
unfolding homes_in
home-placed table p b h is = by_name (has_home_place p) is
  where
    by_name : (named : Bool) → home_at (if named then slice_index_or table (home_place p) None else None) b ≡ Some h → has_place (gathered homes_of table) h.place ≡ true
    by_name true at = table-placed table (home_place p) h.place (at-placed (slice_index_or table (home_place p) None) b h at)
    by_name false at = absurd (cc at)

-- ---- buffers in the ring are lent

place-is : (one other : Place) → same_place one other ≡ true → other ≡ one
place-is one other h = grind (arith, nat_tests)

held-at : (hs : List Held) (p : Place) → has_place hs p ≡ true → (i : ℕ) × (i < length hs) × ((slice_index_or hs i no_buffer).place ≡ p)
held-at [] p there = absurd (cc there)
held-at (h ∷ hs) p there = by_test (held-at hs p) (same_place p h.place) refl there
  where
    by_test : (has_place hs p ≡ true → (i : ℕ) × (i < length hs) × ((slice_index_or hs i no_buffer).place ≡ p)) → (b : Bool) → same_place p h.place ≡ b → (b || has_place hs p) ≡ true
        → (i : ℕ) × (i < length (h ∷ hs)) × ((slice_index_or (h ∷ hs) i no_buffer).place ≡ p)
    by_test more true is rest = (zero, omega arith, place-is p h.place is)
    by_test more false is rest = let found = more rest in (suc found.0, omega (arith, found.1), found.2)

-- the descriptor whose buffer lies there
pub lent-at : (m : Mediated) (mem : Memory) (p : Place) → IsInMemory m mem → has_place m.transmit.held p ≡ true → (number : ℕ) × IsOpen m.transmit number × (place_for m.transmit number ≡ p)
lent-at m mem p memory there =
    let found = held-at m.transmit.held p there in
    let ring = memory.ring Transmit in
    let held = ring.balanced.held in
    let few = found.1 in
    let number : ℕ = m.transmit.values.taken + found.0 in
    let within : IsOpen m.transmit number = (omega arith, omega (arith, held, few)) in
    let back : number - m.transmit.values.taken ≡ found.0 = omega arith in
    (number, within, ap (λ i. (slice_index_or m.transmit.held i no_buffer).place) back ∙ found.2)

pub ring-lent : (m : Mediated) (mem : Memory) (p : Place) → IsInMemory m mem → has_place m.transmit.held p ≡ true → IsLent mem p
ring-lent m mem p memory there =
    let found = lent-at m mem p memory there in
    subst (IsLent mem) found.2 ((memory.ring Transmit).each found.0 found.1).lent

-- ---- what buffers have stays

holds-stay : (life : Instance → Life) (buffers : Instance → ℕ → List ℕ) (mem mem' : Memory) (who : Instance) (buffer : ℕ) (h : Held) → buffer_at mem' h.place ≡ buffer_at mem h.place → HoldsFor life buffers mem who buffer h → HoldsFor life buffers mem' who buffer h
holds-stay life buffers mem mem' who buffer h same holds = record { started = holds.started; bytes = λ alive. same ∙ holds.bytes alive }

pub posted-stay : (life : Instance → Life) (sends : List Send) (buffers : Instance → ℕ → List ℕ) (mem mem' : Memory) (posts : List Post) (held : List Held) → ((p : Place) → has_place held p ≡ true → buffer_at mem' p ≡ buffer_at mem p)
    → ArePosted life sends buffers mem posts held → ArePosted life sends buffers mem' posts held
posted-stay life sends buffers mem mem' [] [] same ring = tt
posted-stay life sends buffers mem mem' [] (h ∷ held) same ring = absurd ring
posted-stay life sends buffers mem mem' (post ∷ posts) [] same ring = absurd ring
posted-stay life sends buffers mem mem' (post ∷ posts) (h ∷ held) same ring = (
  record { send = ring.0.send; holds = holds-stay life buffers mem mem' post.who post.buffer h (same h.place (placed-first h held)) ring.0.holds },
  posted-stay life sends buffers mem mem' posts held (λ p there. same p (or-right (same_place p h.place) _ there)) ring.1,
)

waiting-stays : (life : Instance → Life) (sends : List Send) (buffers : Instance → ℕ → List ℕ) (mem mem' : Memory) (number : ℕ) (w : Waiting) → buffer_at mem' w.loan.place ≡ buffer_at mem w.loan.place
    → IsWaitingFor life sends buffers mem number w → IsWaitingFor life sends buffers mem' number w
waiting-stays life sends buffers mem mem' number w same is = record {
  send = is.send ∙ ap (λ bytes. Some (record { who = w.who; buffer = w.buffer; bytes = take w.len bytes })) (sym same);
  holds = holds-stay life buffers mem mem' w.who w.buffer w.loan same is.holds;
}

pub buffers-stay : (life : Instance → Life) (sends : List Send) (buffers : Instance → ℕ → List ℕ) (away : Instance → ℕ → Bool) (homes : HomeTable) (waiting : List (Option Waiting)) (posted : List Post) (held : List Held) (mem mem' : Memory)
    → ((p : Place) → has_place (gathered homes_of homes ++ gathered held_waiting waiting) p ≡ true → buffer_at mem' p ≡ buffer_at mem p) → ((p : Place) → has_place held p ≡ true → buffer_at mem' p ≡ buffer_at mem p)
    → BuffersStand life sends buffers away homes waiting posted held mem → BuffersStand life sends buffers away homes waiting posted held mem'
buffers-stay life sends buffers away homes waiting posted held mem mem' same lent s = record {
  size = s.size;
  away_is = s.away_is;
  used = s.used;
  home = λ p b h alive is. same h.place (placed-front h.place (gathered homes_of homes) (gathered held_waiting waiting) (home-placed homes p b h is)) ∙ s.home p b h alive is;
  waits_for = λ number w is. waiting-stays life sends buffers mem mem' number w (same w.loan.place (placed-back w.loan.place (gathered homes_of homes) (gathered held_waiting waiting) (waiting-placed waiting number w is))) (s.waits_for number w is);
  ring = posted-stay life sends buffers mem mem' posted held lent s.ring;
}

-- ---- lives

-- who started did so, and lives no more than before
abbrev pub AreLeft : (Instance → Life) → (Instance → Life) → Type 0
AreLeft life life' = (p : Instance) → life p ≢ Unborn → (life' p ≢ Unborn) × (life' p ≡ Alive → life p ≡ Alive)

holds-left : (life life' : Instance → Life) (buffers : Instance → ℕ → List ℕ) (mem : Memory) (who : Instance) (buffer : ℕ) (h : Held) → AreLeft life life' → HoldsFor life buffers mem who buffer h → HoldsFor life' buffers mem who buffer h
holds-left life life' buffers mem who buffer h left holds = record { started = (left who holds.started).0; bytes = λ alive. holds.bytes ((left who holds.started).1 alive) }

posted-left : (life life' : Instance → Life) (sends : List Send) (buffers : Instance → ℕ → List ℕ) (mem : Memory) (posts : List Post) (held : List Held) → AreLeft life life' → ArePosted life sends buffers mem posts held → ArePosted life' sends buffers mem posts held
posted-left life life' sends buffers mem [] [] left ring = tt
posted-left life life' sends buffers mem [] (h ∷ held) left ring = absurd ring
posted-left life life' sends buffers mem (post ∷ posts) [] left ring = absurd ring
posted-left life life' sends buffers mem (post ∷ posts) (h ∷ held) left ring = (record { send = ring.0.send; holds = holds-left life life' buffers mem post.who post.buffer h left ring.0.holds }, posted-left life life' sends buffers mem posts held left ring.1)

-- what stands of the buffers of one instance
pub record OwnStand (buffers : Instance → ℕ → List ℕ) (away : Instance → ℕ → Bool) (homes : HomeTable) (waiting : List (Option Waiting)) (posted : List Post) (mem : Memory) (p : Instance) : Type 0 where
  pub size : size_of (homes_in homes p) ≡ 4
  pub away_is : (b : ℕ) → b < 4 → away p b ≡ not (is_some (home_in homes p b))
  pub used : (b : ℕ) → b < 4 → waiting_from p b waiting + posted_from p b posted ≡ one_if (not (is_some (home_in homes p b)))
  pub home : (b : ℕ) (h : Held) → home_in homes p b ≡ Some h → buffer_at mem h.place ≡ buffers p b

pub own-stands : (life : Instance → Life) (sends : List Send) (buffers : Instance → ℕ → List ℕ) (away : Instance → ℕ → Bool) (homes homes' : HomeTable) (waiting : List (Option Waiting)) (posted : List Post) (held : List Held) (mem : Memory) (p : Instance)
    → life p ≡ Alive → homes_in homes' p ≡ homes_in homes p → BuffersStand life sends buffers away homes waiting posted held mem → OwnStand buffers away homes' waiting posted mem p
own-stands life sends buffers away homes homes' waiting posted held mem p alive same s = record {
  size = ap size_of same ∙ s.size p alive;
  away_is = λ b low. s.away_is p b alive low ∙ ap (λ o. not (is_some (home_at o b))) (sym same);
  used = λ b low. s.used p b alive low ∙ ap (λ o. one_if (not (is_some (home_at o b)))) (sym same);
  home = λ b h is. s.home p b h alive (ap (λ o. home_at o b) (sym same) ∙ is);
}

-- other lives, and other buffers at home
pub buffers-left : (life life' : Instance → Life) (sends : List Send) (buffers : Instance → ℕ → List ℕ) (away : Instance → ℕ → Bool) (homes homes' : HomeTable) (waiting : List (Option Waiting)) (posted : List Post) (held : List Held) (mem : Memory)
    → AreLeft life life' → ((p : Instance) → life' p ≡ Alive → OwnStand buffers away homes' waiting posted mem p) → BuffersStand life sends buffers away homes waiting posted held mem → BuffersStand life' sends buffers away homes' waiting posted held mem
buffers-left life life' sends buffers away homes homes' waiting posted held mem left own s = record {
  size = λ p alive. (own p alive).size;
  away_is = λ p b alive. (own p alive).away_is b;
  used = λ p b alive. (own p alive).used b;
  home = λ p b h alive. (own p alive).home b h;
  waits_for = λ number w is. let w_is = s.waits_for number w is in record { send = w_is.send; holds = holds-left life life' buffers mem w.who w.buffer w.loan left w_is.holds };
  ring = posted-left life life' sends buffers mem posted held left s.ring;
}

ear-same : (life : Life) (remote remote' : Endpoint) (flows : List (Option Proto)) → (life ≡ Alive → remote' ≡ remote) → ear_with life remote flows ≡ ear_with life remote' flows
ear-same Unborn remote remote' flows same = refl
ear-same Alive remote remote' flows same = ap (λ r. ear_with Alive r flows) (sym (same refl))
ear-same Gone remote remote' flows same = refl

pub lives-change : (life life' : Instance → Life) (remote remote' : Instance → Endpoint) (n : Network) (t : NetState) → ((p : Instance) → life' p ≡ life p) → ((p : Instance) → life p ≡ Alive → remote' p ≡ remote p)
    → NetStands life remote n t → NetStands life' remote' n t
lives-change life life' remote remote' n t same ends s = record {
  rings = s.rings;
  ears = λ p. s.ears p ∙ ear-same (life p) (remote p) (remote' p) (n.flows p) (ends p) ∙ ap (λ l. ear_with l (remote' p) (n.flows p)) (sym (same p));
  unread = λ p alive. s.unread p (sym (same p) ∙ alive);
  closed = s.closed;
  unsending = s.unsending;
  counts = s.counts;
  buffers = buffers-left life life' n.sends n.buffers n.away t.sends.homes t.sends.homes t.sends.waiting (posted_in t.sends) t.med.transmit.held t.mem (λ p started. ((λ unborn. started (sym (same p) ∙ unborn)), (λ alive. sym (same p) ∙ alive)))
      (λ p alive. own-stands life n.sends n.buffers n.away t.sends.homes t.sends.homes t.sends.waiting (posted_in t.sends) t.med.transmit.held t.mem p (sym (same p) ∙ alive) refl s.buffers) s.buffers;
  unsent = s.unsent;
  areas = s.areas;
}
