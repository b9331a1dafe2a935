-- A place of the table is looked at, and gets other buffers.
use Rattle.std.proofs.Common.{◌≡◌, ◌≢◌, ℕ, ◌<◌, Bool, true, false, List, ◌++◌, length, refl, sym, ◌∙◌, ap, subst, arith, get_or}
use Rattle.std.specs.Prelude.{Option, Some, None, is_some, slice_set}
use Rattle.std.proofs.lemmas.List.{get_or_read}
use Rattle.ibos_send.proofs.Gathered.{Around, around}
use Rattle.ibos_send.proofs.PartedHands.{clash, comes_first, front_of, goes_back, rotated}
use Rattle.ibos_send.proofs.TablePlaces.{homes-at, homes-set_other, homes-set_same, place_within, same_is, same_self}
use Rattle.ibos_send.proofs.Words.{AreAtHand, Held, Homes, Instance, IsNamed, Memory, Names, Table, gathered, held_at_home, held_of, home_place, homes_in, homes_of, same, size_of}

-- What is there, and what other buffers in its place makes of the table.
pub record IsOpenAt (t now : Table) (who : Instance) (at : ℕ) (x : Option Homes) : Type 0 where
  pub was : homes_in now who ≡ x
  pub own : (y : Option Homes) → homes_in (slice_set t at y) who ≡ y
  pub others : (y : Option Homes) (q : Instance) → q ≢ who → homes_in (slice_set t at y) q ≡ homes_in now q
  pub front : List Held
  pub back : List Held
  pub held : held_at_home now ≡ front ++ (homes_of x ++ back)
  pub set : (y : Option Homes) → held_at_home (slice_set t at y) ≡ front ++ (homes_of y ++ back)

pub opened : (t now : Table) (who : Instance) (at : ℕ) (x read : Option Homes) → t ≡ now → length t ≡ 2048 → at ≡ home_place who → IsNamed who → read ≡ get_or t at read → read ≡ x → IsOpenAt t now who at x
opened t now who at x read same size is named reads found =
    let within : at < length t = omega (arith, is, size, place_within who named) in
    let there : get_or t at None ≡ x = sym (get_or_read t at read within reads None) ∙ found in
    let around : Around homes_of t at (get_or t at None) = around homes_of t at None within in
    record {
      was = ap (λ (s : Table). homes_in s who) (sym same) ∙ homes-at t who named ∙ ap (λ k. get_or t k None) (sym is) ∙ there;
      own = λ y. homes-set_same t who at y is named within;
      others = λ y q other. homes-set_other t who q at y is named other ∙ ap (λ (s : Table). homes_in s q) same;
      front = around.0;
      back = around.1;
      held = ap held_at_home (sym same) ∙ around.2.was ∙ ap (λ (o : Option Homes). around.0 ++ (homes_of o ++ around.1)) there;
      set = around.2.set;
    }

pub clash_some : (b : Homes) → Some b ≡ None → ⊥
clash_some b e = cc

module _ (t now : Table) (who : Instance) (at : ℕ) (b : Homes) (open' : IsOpenAt t now who at (Some b)) where
  -- who was added is
  pub still-open : (c : Homes) (q : Instance) → is_some (homes_in (slice_set t at (Some c)) q) ≡ is_some (homes_in now q)
  still-open c q = by_test (same q who) refl
    where
      by_test : (b : Bool) → same q who ≡ b → is_some (homes_in (slice_set t at (Some c)) q) ≡ is_some (homes_in now q)
      by_test true is =
          let P : Instance → Type 0 = λ p. is_some (homes_in (slice_set t at (Some c)) p) ≡ is_some (homes_in now p) in
          subst P (sym (same_is q who is)) (ap (λ o. is_some o) (open'.own (Some c)) ∙ sym (ap (λ o. is_some o) open'.was))
      by_test false differ = ap (λ o. is_some o) (open'.others (Some c) q (λ e. clash (same q who) (subst (λ p. same q p ≡ true) e (same_self q)) differ))

  -- no instance has more buffers, or fewer
  pub still-sized : (c : Homes) (q : Instance) → length c ≡ length b → size_of (homes_in (slice_set t at (Some c)) q) ≡ size_of (homes_in now q)
  still-sized c q long = by_test (same q who) refl
    where
      by_test : (b : Bool) → same q who ≡ b → size_of (homes_in (slice_set t at (Some c)) q) ≡ size_of (homes_in now q)
      by_test true is =
          let P : Instance → Type 0 = λ p. size_of (homes_in (slice_set t at (Some c)) p) ≡ size_of (homes_in now p) in
          subst P (sym (same_is q who is)) (ap (λ o. size_of o) (open'.own (Some c)) ∙ long ∙ sym (ap (λ o. size_of o) open'.was))
      by_test false differ = ap (λ o. size_of o) (open'.others (Some c) q (λ e. clash (same q who) (subst (λ p. same q p ≡ true) e (same_self q)) differ))

  module _ (names : Names) (mem : Memory) where
    -- its buffers come first
    pub open-first : (more : List Held) → AreAtHand names mem (held_at_home now ++ more) → AreAtHand names mem (gathered held_of b ++ ((open'.front ++ open'.back) ++ more))
    open-first more hands = comes_first names mem open'.front (gathered held_of b) open'.back more (subst (λ hs. AreAtHand names mem (hs ++ more)) open'.held hands)

    pub open-hands : AreAtHand names mem (held_at_home now) → AreAtHand names mem (gathered held_of b)
    open-hands hands = front_of names mem (gathered held_of b) (open'.front ++ open'.back) (rotated names mem open'.front (gathered held_of b) open'.back (subst (AreAtHand names mem) open'.held hands))

    -- other buffers go back
    pub open-back : (c : Homes) (more : List Held) → AreAtHand names mem (gathered held_of c ++ ((open'.front ++ open'.back) ++ more)) → AreAtHand names mem (held_at_home (slice_set t at (Some c)) ++ more)
    open-back c more hands = subst (λ hs. AreAtHand names mem (hs ++ more)) (sym (open'.set (Some c))) (goes_back names mem open'.front (gathered held_of c) open'.back more hands)

-- an instance begins
pub begin-hands : (t now : Table) (who : Instance) (at : ℕ) (b : Homes) (names : Names) (mem : Memory) (more : List Held) → IsOpenAt t now who at None
    → AreAtHand names mem (gathered held_of b ++ (held_at_home now ++ more)) → AreAtHand names mem (held_at_home (slice_set t at (Some b)) ++ more)
begin-hands t now who at b names mem more open' hands = subst (λ hs. AreAtHand names mem (hs ++ more)) (sym (open'.set (Some b)))
    (goes_back names mem open'.front (gathered held_of b) open'.back more (subst (λ hs. AreAtHand names mem (gathered held_of b ++ (hs ++ more))) open'.held hands))

-- what is left where one ends
pub end-hands : (t now : Table) (who : Instance) (at : ℕ) (x : Option Homes) (names : Names) (mem : Memory) (more : List Held) → (open' : IsOpenAt t now who at x)
    → AreAtHand names mem ((open'.front ++ open'.back) ++ more) → AreAtHand names mem (held_at_home (slice_set t at None) ++ more)
end-hands t now who at x names mem more open' hands = subst (λ hs. AreAtHand names mem (hs ++ more)) (sym (open'.set None)) hands
