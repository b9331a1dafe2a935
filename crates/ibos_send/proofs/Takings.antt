-- The buffers that an instance sends from are taken, one after the other.
use Rattle.std.proofs.Common.{◌≡◌, ◌≢◌, ℕ, ◌+◌, ◌<◌, ◌==◌, ◌&&◌, List, [], ◌∷◌, ◌++◌, Bool, true, false, cond, length, map, refl, sym, ◌∙◌, ap, subst, arith}
use Rattle.std.specs.Prelude.{Some, Option, nat_lt}
use Rattle.std.specs.List.{range_with_len}
use Rattle.std.proofs.lemmas.Bool.Decides.{nat_tests}
use Rattle.std.proofs.lemmas.List.{append_assoc}
use Rattle.std.proofs.lemmas.List.FromFn.{map-range_with_len_more}
use Rattle.ibos_pool.proofs.HandLemmas.{hands-taken}
use Rattle.ibos_pool.specs.Places.{buffers_of}
use Rattle.ibos_nic.specs.Registers.{Registers}
use Rattle.ibos_mediate.specs.Mediated.{Mediated}
use Rattle.ibos_mediate.specs.Relation.{MediatesBut}
use Rattle.ibos_send.proofs.Gathered.{gathered-push}
use Rattle.ibos_send.proofs.PartedHands.{rotated}
use Rattle.ibos_send.proofs.Words.{AreAtHand, AreFreshIn, Held, Homes, IsClaimed, IsFresh, IsKept, IsLoanOf, IsNameIn, IsOneToOne, Memory, Name, Names, Place, buffer_in, gathered, held_of, is_taken, name_in, place_of, same_name}

-- the buffer of an index, at home
abbrev home : Names → ℕ → ℕ → Option Held
home first area index = Some (buffer_in first area index)

-- a name of the area below an index
abbrev is_below : ℕ → ℕ → Name → Bool
is_below area index name = name.area == area && nat_lt name.index index

-- What holds while the names up to an index are taken.
pub record IsTaking (area index : ℕ) (first now : Names) (taken : Homes) : Type 0 where
  pub items : taken ≡ map (home first area) (range_with_len 0 index)
  pub one_to_one : IsOneToOne now
  pub names : (name : Name) → is_taken now name ≡ cond (is_below area index name) true (is_taken first name)
  pub places : (name : Name) → place_of now name ≡ place_of first name
  pub areas : length now ≡ length first
  pub hands : (mem : Memory) (more : List Held) → AreFreshIn mem first area → AreAtHand first mem more → AreAtHand now mem (gathered held_of taken ++ more)
  pub whole : (m : Mediated) (mem : Memory) (regs : Registers) (out : List Held) → MediatesBut out m mem regs first → MediatesBut out m mem regs now

nothing-below : (area : ℕ) (name : Name) → is_below area 0 name ≡ false
nothing-below area name = grind (arith, nat_tests)

pub taking-begins : (area : ℕ) (first : Names) → IsOneToOne first → IsTaking area 0 first first []
taking-begins area first one_to_one = record {
  items = refl;
  one_to_one = one_to_one;
  names = λ name. sym (ap (λ b. cond b true (is_taken first name)) (nothing-below area name));
  places = λ name. refl;
  areas = refl;
  hands = λ mem more fresh hands. hands;
  whole = λ m mem regs out mediates. mediates;
}

-- the next name is free
pub taking-free : (area index : ℕ) (first now : Names) (taken : Homes) → IsFresh first area → index < 4 → IsTaking area index first now taken → is_taken now (name_in area index) ≡ false
taking-free area index first now taken fresh high taking =
    let out : is_below area index (name_in area index) ≡ false = grind (arith, nat_tests) in
    taking.names (name_in area index) ∙ ap (λ b. cond b true (is_taken first (name_in area index))) out ∙ fresh.free index high

-- that is kept while one is taken
abbrev pub KeepsTaken : Type 0
KeepsTaken = (m : Mediated) (mem : Memory) (regs : Registers) (old new : Names) (name : Name) (out : List Held) → name.area ≢ 0 → IsClaimed old new name true → MediatesBut out m mem regs old → MediatesBut out m mem regs new

test-next : (area index : ℕ) (name : Name) (was : Bool) → cond (same_name name (name_in area index)) true (cond (is_below area index name) true was) ≡ cond (is_below area (index + 1) name) true was
test-next area index name was = grind (arith, nat_tests)

module _ (keeps : KeepsTaken) (area index : ℕ) (first now next : Names) (taken : Homes) (h : Held) (fresh : IsFresh first area) (high : index < 4) (taking : IsTaking area index first now taken)
    (named : h.name ≡ name_in area index) (loan : IsLoanOf next h) (claimed : IsClaimed now next (name_in area index) true) (one_to_one : IsOneToOne next) where
  its_place : h.place ≡ place_of first (name_in area index)
  its_place = sym loan.place ∙ ap (place_of next) named ∙ claimed.places (name_in area index) ∙ taking.places (name_in area index)

  its_claim : IsClaimed now next h.name true
  its_claim = subst (λ name. IsClaimed now next name true) (sym named) claimed

  it_is : h ≡ buffer_in first area index
  it_is =
      let one : h ≡ record { name = name_in area index; place = h.place } = ap (λ (n : Name). to n h.place) named in
      one ∙ ap (λ p. to (name_in area index) p) its_place
    where
      to : Name → Place → Held
      to n p = record { name = n; place = p }

  pub taking-next : IsTaking area (index + 1) first next (taken ++ Some h ∷ [])
  taking-next = record {
    items =
        ap (λ xs. xs ++ Some h ∷ []) taking.items ∙ ap (λ x. map (home first area) (range_with_len 0 index) ++ Some x ∷ []) it_is
        ∙ sym (map-range_with_len_more (home first area) 0 index index (omega arith));
    one_to_one = one_to_one;
    names = λ name. claimed.taken_names name ∙ ap (λ t. cond (same_name name (name_in area index)) true t) (taking.names name) ∙ test-next area index name (is_taken first name);
    places = λ name. claimed.places name ∙ taking.places name;
    areas = claimed.areas ∙ taking.areas;
    hands = λ mem more kept hands.
        let free : is_taken now h.name ≡ false = ap (is_taken now) named ∙ taking-free area index first now taken fresh high taking in
        let at : IsKept mem h.place = subst (IsKept mem) (sym its_place) (kept index high) in
        let both = hands-taken now next mem (gathered held_of taken ++ more) h taking.one_to_one free its_claim loan at (taking.hands mem more kept hands) in
        subst (AreAtHand next mem) (sym (append_assoc (gathered held_of taken) (h ∷ []) more)
        ∙ ap (λ xs. xs ++ more) (sym (gathered-push held_of taken (Some h)))) (rotated next mem (h ∷ []) (gathered held_of taken) more both);
    whole = λ m mem regs out mediates.
        let some = fresh.some in
        let other : area ≢ 0 = omega (arith, some) in
        keeps m mem regs now next (name_in area index) out other claimed (taking.whole m mem regs out mediates);
  }

-- it is one of the pool's names
pub taking-named : (area index : ℕ) (first now : Names) (taken : Homes) → IsFresh first area → index < 4 → IsTaking area index first now taken → IsNameIn (length now) (name_in area index)
taking-named area index first now taken fresh high taking =
    let some = fresh.some in
    let other : area ≢ 0 = omega (arith, some) in
    let test : (area == 0) ≡ false = grind (arith, nat_tests) in
    let few : index < buffers_of area = rw test (omega (arith, high)) in
    let within = fresh.within in
    let areas = taking.areas in
    record { area = omega (arith, within, areas); index = few }
