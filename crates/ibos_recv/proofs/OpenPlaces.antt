-- A place of the table is looked at, and gets another inbox.
use Rattle.std.proofs.Common.{◌≡◌, ◌≢◌, ◌↔◌, ℕ, ◌<◌, Bool, true, false, List, ◌∷◌, ◌++◌, length, refl, sym, ◌∙◌, ap, subst, arith, get_or}
use Rattle.std.specs.Prelude.{Option, Some, None, slice_set}
use Rattle.std.proofs.lemmas.List.{append_assoc, get_or_read}
use Rattle.ibos_recv.proofs.PartedHands.{clash, comes_first, front_of, goes_back, rotated}
use Rattle.ibos_recv.proofs.TablePlaces.{Around, around, inbox-at, inbox-set_other, inbox-set_same, place_within, same_is, same_self}
use Rattle.ibos_recv.proofs.Words.{AreAtHand, Held, Inbox, Inboxes, Instance, IsNamed, IsPassed, Memory, Names, held_at, held_in, inbox_by, inbox_place, same}

-- What is there, and what another inbox in its place makes of the table.
pub record IsOpenAt (t now : Inboxes) (who : Instance) (at : ℕ) (x : Option Inbox) : Type 0 where
  pub was : inbox_by now who ≡ x
  pub own : (y : Option Inbox) → inbox_by (slice_set t at y) who ≡ y
  pub others : (y : Option Inbox) (q : Instance) → q ≢ who → inbox_by (slice_set t at y) q ≡ inbox_by now q
  pub front : List Held
  pub back : List Held
  pub held : held_in now ≡ front ++ (held_at x ++ back)
  pub set : (y : Option Inbox) → held_in (slice_set t at y) ≡ front ++ (held_at y ++ back)

pub opened : (t now : Inboxes) (who : Instance) (at : ℕ) (x read : Option Inbox) → t ≡ now → length t ≡ 2048 → at ≡ inbox_place who → IsNamed who → read ≡ get_or t at read → read ≡ x → IsOpenAt t now who at x
opened t now who at x read same size is named reads found =
    let within : at < length t = omega (arith, is, size, place_within who named) in
    let there : get_or t at None ≡ x = sym (get_or_read t at read within reads None) ∙ found in
    let around : Around t at (get_or t at None) = around t at within in
    record {
      was = ap (λ (s : Inboxes). inbox_by s who) (sym same) ∙ inbox-at t who named ∙ ap (λ k. get_or t k None) (sym is) ∙ there;
      own = λ y. inbox-set_same t who at y is named within;
      others = λ y q other. inbox-set_other t who q at y is named other ∙ ap (λ (s : Inboxes). inbox_by s q) same;
      front = around.0;
      back = around.1;
      held = ap held_in (sym same) ∙ around.2.was ∙ ap (λ (o : Option Inbox). around.0 ++ (held_at o ++ around.1)) there;
      set = around.2.set;
    }

pub clash_some : (b : Inbox) → Some b ≡ None → ⊥
clash_some b e = cc

module _ (t now : Inboxes) (who : Instance) (at : ℕ) (b : Inbox) (open' : IsOpenAt t now who at (Some b)) where
  -- an inbox with the same buffers takes its place
  pub same-held : (c : Inbox) → c.held ≡ b.held → held_in (slice_set t at (Some c)) ≡ held_in now
  same-held c same = open'.set (Some c) ∙ ap (λ hs. open'.front ++ (hs ++ open'.back)) same ∙ sym open'.held

  -- who had an inbox has one
  pub still-open : (c : Inbox) (q : Instance) → (inbox_by (slice_set t at (Some c)) q ≡ None) ↔ (inbox_by now q ≡ None)
  still-open c q = by_test (same q who) refl
    where
      by_test : (b : Bool) → same q who ≡ b → (inbox_by (slice_set t at (Some c)) q ≡ None) ↔ (inbox_by now q ≡ None)
      by_test true is =
          let P : Instance → Type 0 = λ p. (inbox_by (slice_set t at (Some c)) p ≡ None) ↔ (inbox_by now p ≡ None) in
          subst P (sym (same_is q who is)) ((λ e. absurd (clash_some c (sym (open'.own (Some c)) ∙ e))), (λ e. absurd (clash_some b (sym open'.was ∙ e))))
      by_test false differ =
          let on = open'.others (Some c) q (λ e. clash (same q who) (subst (λ p. same q p ≡ true) e (same_self q)) differ) in
          ((λ e. sym on ∙ e), (λ e. on ∙ e))

  module _ (names : Names) (mem : Memory) where
    -- its buffers come first
    pub open-first : (more : List Held) → AreAtHand names mem (held_in now ++ more) → AreAtHand names mem (b.held ++ ((open'.front ++ open'.back) ++ more))
    open-first more hands = comes_first names mem open'.front b.held open'.back more (subst (λ hs. AreAtHand names mem (hs ++ more)) open'.held hands)

    pub open-hands : AreAtHand names mem (held_in now) → AreAtHand names mem b.held
    open-hands hands = front_of names mem b.held (open'.front ++ open'.back) (rotated names mem open'.front b.held open'.back (subst (AreAtHand names mem) open'.held hands))

  -- what passes to its buffers passes to those of the table
  pub passed-all : (c : Inbox) (h : Held) (pool pool' : Names) → IsPassed h b.held c.held pool pool' → IsPassed h (held_in now) (held_in (slice_set t at (Some c))) pool pool'
  passed-all c h pool pool' passed = record {
    free = passed.free;
    front = open'.front ++ passed.front;
    back = passed.back ++ open'.back;
    was = open'.held ∙ ap (λ hs. open'.front ++ (hs ++ open'.back)) passed.was ∙ around_one passed.free;
    now = open'.set (Some c) ∙ ap (λ hs. open'.front ++ (hs ++ open'.back)) passed.now ∙ around_one (record { name = passed.free.name; place = h.place });
    exchanged = passed.exchanged;
  }
    where
      around_one : (x : Held) → open'.front ++ ((passed.front ++ x ∷ passed.back) ++ open'.back) ≡ (open'.front ++ passed.front) ++ x ∷ (passed.back ++ open'.back)
      around_one x = ap (λ hs. open'.front ++ hs) (append_assoc passed.front (x ∷ passed.back) open'.back) ∙ sym (append_assoc open'.front passed.front (x ∷ (passed.back ++ open'.back)))

-- an instance begins
pub begin-hands : (t now : Inboxes) (who : Instance) (at : ℕ) (b : Inbox) (names : Names) (mem : Memory) (more : List Held) → IsOpenAt t now who at None
    → AreAtHand names mem (b.held ++ (held_in now ++ more)) → AreAtHand names mem (held_in (slice_set t at (Some b)) ++ more)
begin-hands t now who at b names mem more open' hands = subst (λ hs. AreAtHand names mem (hs ++ more)) (sym (open'.set (Some b)))
    (goes_back names mem open'.front b.held open'.back more (subst (λ hs. AreAtHand names mem (b.held ++ (hs ++ more))) open'.held hands))

-- what is left where one ends
pub end-hands : (t now : Inboxes) (who : Instance) (at : ℕ) (x : Option Inbox) (names : Names) (mem : Memory) (more : List Held) → (open' : IsOpenAt t now who at x)
    → AreAtHand names mem ((open'.front ++ open'.back) ++ more) → AreAtHand names mem (held_in (slice_set t at None) ++ more)
end-hands t now who at x names mem more open' hands = subst (λ hs. AreAtHand names mem (hs ++ more)) (sym (open'.set None)) hands
