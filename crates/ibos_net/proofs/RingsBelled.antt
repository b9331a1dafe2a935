-- A receive bell takes a buffer back for each frame that was heard.
use Rattle.std.proofs.Common.{refl, sym, ◌∙◌, ap, subst, arith}
use Rattle.std.proofs.lemmas.List.{drop-map, take-map}
use Rattle.ibos_net.proofs.Words.{Transmit, ℕ, zero, suc, ◌≡◌, ◌≤◌, ◌+◌, ◌-◌, ◌∷◌, List, [], Arrival, Handle, Held, Mediated, Memory, Receive, RingValues, RingView, Rings, RingsStand, after_bell, arrival_at, arrivals, belled, belled_by, completed, drop, take, handle_after, handle_of, handles_after, held_for, length, map, names_of, no_buffer, range_with_len, received_frames, slice_index_or, taken_back, turns_after, with_turn}
use Rattle.ibos_mediate.specs.Frames.{take_back}
use Rattle.ibos_net.proofs.BellItems.{front-read, map-twice}

pub record IsTakenBack (m m' : Mediated) (count : ℕ) : Type 0 where
  pub values : m'.receive.values ≡ record m.receive.values { taken = m.receive.values.taken + count }
  pub held : m'.receive.held ≡ drop count m.receive.held
  pub turns : m'.turns ≡ turns_after (take count (names_of m.receive)) m.turns

abbrev mediated : RingValues → List Held → RingView → List ℕ → Mediated
mediated values held transmit turns = record { receive = record { values = values; held = held }; transmit = transmit; turns = turns }

first-held : (values : RingValues) (h : Held) (hs : List Held) → held_for (record { values = values; held = h ∷ hs }) values.taken ≡ h
first-held values h hs = let none : values.taken - values.taken ≡ 0 = omega arith in ap (λ n. slice_index_or (h ∷ hs) n no_buffer) none

taken-parts : (count : ℕ) (values : RingValues) (held : List Held) (transmit : RingView) (turns : List ℕ) → count ≤ length held
    → IsTakenBack (mediated values held transmit turns) (take_back Receive count (mediated values held transmit turns)) count
unfolding take_back
taken-parts zero values held transmit turns few = record { values = ap (λ n. record values { taken = n }) (omega arith); held = refl; turns = refl }
taken-parts (suc count) values [] transmit turns few = absurd (omega (arith, few))
taken-parts (suc count) values (h ∷ hs) transmit turns few =
    let once : taken_back Receive (mediated values (h ∷ hs) transmit turns) ≡ mediated (record values { taken = values.taken + 1 }) hs transmit (with_turn turns h.name.index) =
    ap (λ (k : Held). mediated (record values { taken = values.taken + 1 }) hs transmit (with_turn turns k.name.index)) (first-held values h hs) in
    let rest = taken-parts count (record values { taken = values.taken + 1 }) hs transmit (with_turn turns h.name.index) (omega (arith, few)) in
    let P : Mediated → Type 0 = λ m. IsTakenBack (mediated values (h ∷ hs) transmit turns) (take_back Receive count m) (suc count) in
    subst P (sym once) (record { values = rest.values ∙ ap (λ n. record values { taken = n }) (omega arith); held = rest.held; turns = rest.turns })

pub taken-by : (count : ℕ) (m : Mediated) → count ≤ length m.receive.held → IsTakenBack m (take_back Receive count m) count
taken-by count m few = taken-parts count m.receive.values m.receive.held m.transmit m.turns few

-- the handles of what arrived are the first of those that are posted
pub handles-front : (rings : Rings) (frames : List (List ℕ)) (m : Mediated) (mem : Memory) → RingsStand rings frames m mem → completed Receive mem m.receive - m.receive.values.taken ≤ length m.receive.held
    → map (λ (a : Arrival). a.handle) (arrivals mem m) ≡ take (completed Receive mem m.receive - m.receive.values.taken) (handles_after rings)
handles-front rings frames m mem s few =
    let count : ℕ = completed Receive mem m.receive - m.receive.values.taken in
    let f : Held → Handle = λ h. handle_of h m.turns in
    let all : handles_after rings ≡ map f m.receive.held = ap (λ ts. map (handle_after ts) rings.names) s.turns ∙ ap (map (handle_after m.turns)) s.names ∙ map-twice (handle_after m.turns) (λ (h : Held). h.name) m.receive.held in
    map-twice (λ (a : Arrival). a.handle) (arrival_at mem m) (range_with_len m.receive.values.taken count)
    ∙ sym (map-twice f (held_for m.receive) (range_with_len m.receive.values.taken count))
    ∙ ap (map f) (front-read m.receive.held count (held_for m.receive) m.receive.values.taken (λ i. ap (λ n. slice_index_or m.receive.held n no_buffer) (omega arith)) few)
    ∙ sym (take-map f count m.receive.held) ∙ ap (take count) (sym all)

pub rings-belled : (rings : Rings) (frames : List (List ℕ)) (m m' : Mediated) (mem mem' : Memory) → RingsStand rings frames m mem → completed Receive mem m.receive - m.receive.values.taken ≤ length m.receive.held
    → m' ≡ after_bell Receive mem m → m'.transmit ≡ m.transmit → completed Receive mem' m'.receive ≡ completed Receive mem m.receive → received_frames mem' m'.receive ≡ []
    → completed Transmit mem' m'.transmit ≡ completed Transmit mem m.transmit → RingsStand (belled rings) [] m' mem'
rings-belled rings frames m m' mem mem' s few after transmit done none sent =
    let count : ℕ = completed Receive mem m.receive - m.receive.values.taken in
    let taken : IsTakenBack m m' count = subst (λ x. IsTakenBack m x count) (sym after) (taken-by count m few) in
    let same : rings.heard - rings.receive.taken ≡ count = ap (λ n. n - rings.receive.taken) s.heard ∙ ap (λ (v : RingValues). completed Receive mem m.receive - v.taken) s.receive in
    let stand : RingsStand (belled_by count rings) [] m' mem' = record {
      receive = ap (λ (v : RingValues). record v { taken = v.taken + count }) s.receive ∙ sym taken.values;
      transmit = s.transmit ∙ sym (ap (λ (r : RingView). r.values) transmit);
      names = ap (drop count) s.names ∙ drop-map (λ (h : Held). h.name) count m.receive.held ∙ ap (map (λ (h : Held). h.name)) (sym taken.held);
      turns = ap (λ ts. turns_after (take count rings.names) ts) s.turns ∙ ap (λ ns. turns_after (take count ns) m.turns) s.names ∙ sym taken.turns;
      heard = s.heard ∙ sym done;
      pending = sym none;
      sent = s.sent ∙ sym sent;
    } in
    subst (λ n. RingsStand (belled_by n rings) [] m' mem') (sym same) stand
