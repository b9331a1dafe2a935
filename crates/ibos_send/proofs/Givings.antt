-- Buffers are given to the pool, one after the other.
use Rattle.std.proofs.Common.{◌≡◌, ◌||◌, List, [], ◌∷◌, ◌++◌, Bool, true, false, cond, length, refl, sym, ◌∙◌, ap, subst}
use Rattle.std.proofs.lemmas.List.{append_assoc, append-nil}
use Rattle.std.proofs.lemmas.List.Folds.{list_any-append}
use Rattle.ibos_pool.proofs.HandLemmas.{hands-given}
use Rattle.ibos_nic.specs.Registers.{Registers}
use Rattle.ibos_mediate.specs.Mediated.{Mediated}
use Rattle.ibos_mediate.specs.Relation.{MediatesBut}
use Rattle.ibos_send.proofs.PartedHands.{back_of, front_of, rotated, swapped}
use Rattle.ibos_send.proofs.Words.{AreAtHand, AreHeld, AreReturned, Held, IsClaimed, IsKept, IsLoanOf, Memory, Name, Names, has_name, is_taken, place_of, same_name}

pub has_name-append : (xs ys : List Held) (name : Name) → has_name (xs ++ ys) name ≡ (has_name xs name || has_name ys name)
has_name-append xs ys name = list_any-append (λ (h : Held). same_name name h.name) xs ys

-- What holds while the buffers of a list are given, where those of the second list are left.
pub record IsGiving (all left : List Held) (first now : Names) : Type 0 where
  pub held : AreHeld now left
  pub names : (name : Name) → cond (has_name left name) false (is_taken now name) ≡ cond (has_name all name) false (is_taken first name)
  pub places : (name : Name) → place_of now name ≡ place_of first name
  pub areas : length now ≡ length first
  pub hands : (mem : Memory) (more : List Held) → AreAtHand first mem (all ++ more) → AreAtHand now mem (left ++ more)
  pub whole : (m : Mediated) (mem : Memory) (regs : Registers) (out : List Held) → AreAtHand first mem all → MediatesBut out m mem regs first → MediatesBut out m mem regs now

pub giving-all : (held : List Held) (names : Names) → AreHeld names held → IsGiving held held names names
giving-all held names are = record { held = are; names = λ name. refl; places = λ name. refl; areas = refl; hands = λ mem more hands. hands; whole = λ m mem regs out hands mediates. mediates }

pub giving-none : (all : List Held) (first now : Names) → IsGiving all [] first now → AreReturned all first now
giving-none all first now giving = record { names = giving.names; places = giving.places; areas = giving.areas }

-- that is kept while one is given
abbrev pub KeepsGiven : Type 0
KeepsGiven = (m : Mediated) (mem : Memory) (regs : Registers) (names names' : Names) (out : List Held) (h : Held) → IsLoanOf names h → IsKept mem h.place → IsClaimed names names' h.name false
    → MediatesBut out m mem regs names → MediatesBut out m mem regs names'

given-test : (first rest old : Bool) → cond rest false (cond first false old) ≡ cond (rest || first) false old
given-test true true old = refl
given-test true false old = refl
given-test false true old = refl
given-test false false old = refl

-- a list at the end of those that are left is given
pub giving-many : (all left xs ys : List Held) (first now next : Names) → left ≡ xs ++ ys → IsGiving all left first now → AreReturned ys now next
    → ((mem : Memory) (more : List Held) → AreAtHand now mem (ys ++ more) → AreAtHand next mem more)
    → ((m : Mediated) (mem : Memory) (regs : Registers) (out : List Held) → AreAtHand now mem ys → MediatesBut out m mem regs now → MediatesBut out m mem regs next)
    → IsGiving all xs first next
giving-many all left xs ys first now next is giving returned gives keeps = record {
  held = let are = giving.held in (are.0, gives are.0 xs (swapped now are.0 xs ys (subst (AreAtHand now are.0) is are.1)));
  names = λ name. ap (λ t. cond (has_name xs name) false t) (returned.names name) ∙ given-test (has_name ys name) (has_name xs name) (is_taken now name)
      ∙ ap (λ b. cond b false (is_taken now name)) (sym (has_name-append xs ys name) ∙ sym (ap (λ zs. has_name zs name) is)) ∙ giving.names name;
  places = λ name. returned.places name ∙ giving.places name;
  areas = returned.areas ∙ giving.areas;
  hands = λ mem more hands. gives mem (xs ++ more) (first_of mem more (giving.hands mem more hands));
  whole = λ m mem regs out hands mediates.
      let at = first_of mem [] (giving.hands mem [] (subst (AreAtHand first mem) (sym (append-nil all)) hands)) in
      keeps m mem regs out (front_of now mem ys (xs ++ []) at) (giving.whole m mem regs out hands mediates);
}
  where
    first_of : (mem : Memory) (more : List Held) → AreAtHand now mem (left ++ more) → AreAtHand now mem (ys ++ (xs ++ more))
    first_of mem more hands = rotated now mem xs ys more (subst (AreAtHand now mem) (append_assoc xs ys more) (subst (λ zs. AreAtHand now mem (zs ++ more)) is hands))

pub giving-held : (all left xs ys : List Held) (first now : Names) → left ≡ xs ++ ys → IsGiving all left first now → AreHeld now ys
giving-held all left xs ys first now is giving = let are = giving.held in (are.0, back_of now are.0 xs ys (subst (AreAtHand now are.0) is are.1))

-- the last is the pool's
pub giving-loan : (all left rest : List Held) (h : Held) (first now : Names) → left ≡ rest ++ h ∷ [] → IsGiving all left first now → IsLoanOf now h
giving-loan all left rest h first now is giving =
    let are = giving.held in
    let hands = swapped now are.0 rest (h ∷ []) (subst (AreAtHand now are.0) is are.1) in
    hands.0

one-name : (same old : Bool) → cond same false old ≡ cond (same || false) false old
one-name true old = refl
one-name false old = refl

-- one is given
pub given-one : (now next : Names) (h : Held) → IsClaimed now next h.name false → AreReturned (h ∷ []) now next
given-one now next h claimed = record { names = λ name. claimed.taken_names name ∙ one-name (same_name name h.name) (is_taken now name); places = claimed.places; areas = claimed.areas }

-- the last is given
pub giving-step : KeepsGiven → (all left rest : List Held) (h : Held) (first now next : Names) → left ≡ rest ++ h ∷ [] → IsGiving all left first now → IsClaimed now next h.name false → IsGiving all rest first next
giving-step keeps all left rest h first now next is giving claimed = giving-many all left rest (h ∷ []) first now next is giving
    (given-one now next h claimed)
    (λ mem more hands. hands-given now next mem more h claimed hands)
    (λ m mem regs out hands mediates. keeps m mem regs now next out h hands.0 hands.1 claimed mediates)
