-- A buffer goes from home, and comes back.
use Rattle.std.proofs.Common.{◌≡◌, ◌≢◌, ℕ, zero, suc, ◌<◌, ◌⊎◌, ⊎_elim, Bool, true, false, List, [], ◌∷◌, ◌++◌, length, refl, sym, ◌∙◌, ap, subst, get_or}
use Rattle.std.specs.Prelude.{Option, Some, None, slice_set}
use Rattle.std.proofs.lemmas.List.{append_assoc, get_or-set_other}
use Rattle.ibos_send.proofs.Gathered.{Around, around}
use Rattle.ibos_send.proofs.OpenPlaces.{IsOpenAt, open-back, open-first}
use Rattle.ibos_send.proofs.PartedHands.{clash, comes_first, exchanged, goes_back, rotated}
use Rattle.ibos_send.proofs.TablePlaces.{same_is, same_self}
use Rattle.ibos_send.proofs.Words.{AreAtHand, Held, Homes, Instance, Memory, Names, Table, gathered, held_at_home, held_of, home_at, home_in, same}

cleared : (homes : Homes) (k : ℕ) → get_or (slice_set homes k None) k None ≡ None
cleared [] zero = refl
cleared [] (suc k) = refl
cleared (x ∷ homes) zero = refl
cleared (x ∷ homes) (suc k) = cleared homes k

module _ (t now : Table) (who : Instance) (at : ℕ) (homes : Homes) (buffer : ℕ) (open' : IsOpenAt t now who at (Some homes)) where
  -- it is away
  pub taken-own : (c : Homes) → c ≡ slice_set homes buffer None → home_in (slice_set t at (Some c)) who buffer ≡ None
  taken-own c after = ap (λ x. home_at x buffer) (open'.own (Some c)) ∙ ap (λ (hs : Homes). get_or hs buffer None) after ∙ cleared homes buffer

  -- the others are where they were
  pub set-others : (c : Homes) (x : Option Held) → c ≡ slice_set homes buffer x → (q : Instance) (b : ℕ) → (q ≢ who) ⊎ (b ≢ buffer) → home_in (slice_set t at (Some c)) q b ≡ home_in now q b
  set-others c x after q b other = by_test (same q who) refl
    where
      by_test : (is : Bool) → same q who ≡ is → home_in (slice_set t at (Some c)) q b ≡ home_in now q b
      by_test false differ = ap (λ o. home_at o b) (open'.others (Some c) q (λ e. clash (same q who) (subst (λ p. same q p ≡ true) e (same_self q)) differ))
      by_test true is =
          let one : q ≡ who = same_is q who is in
          let differ : b ≢ buffer = ⊎_elim (λ (no : q ≢ who). absurd (no one)) (λ (no : b ≢ buffer). no) other in
          ap (λ p. home_in (slice_set t at (Some c)) p b) one ∙ ap (λ o. home_at o b) (open'.own (Some c)) ∙ ap (λ (hs : Homes). get_or hs b None) after
          ∙ get_or-set_other homes buffer b x None differ ∙ sym (ap (λ o. home_at o b) open'.was) ∙ sym (ap (λ p. home_in now p b) one)

  module _ (names : Names) (mem : Memory) (below : buffer < length homes) where
    place : Around held_of homes buffer (get_or homes buffer None)
    place = around held_of homes buffer None below

    abbrev rest : List Held
    rest = open'.front ++ open'.back

    abbrev others : List Held
    others = place.0 ++ place.1

    abbrev there : List Held
    there = held_of (get_or homes buffer None)

    -- the buffer first, and then its instance's others
    first : (more : List Held) → AreAtHand names mem (held_at_home now ++ more) → AreAtHand names mem (there ++ (others ++ (rest ++ more)))
    first more hands =
        comes_first names mem place.0 there place.1 (rest ++ more)
        (subst (λ hs. AreAtHand names mem (hs ++ (rest ++ more))) place.2.was (open-first t now who at homes open' names mem more hands))

    -- it goes
    pub take-hands : (c : Homes) → c ≡ slice_set homes buffer None → (more : List Held) → AreAtHand names mem (held_at_home now ++ more) → AreAtHand names mem (held_at_home (slice_set t at (Some c)) ++ (there ++ more))
    take-hands c after more hands =
        let flat = subst (λ zs. AreAtHand names mem (there ++ zs)) (sym (append_assoc others rest more)) (first more hands) in
        let last = subst (AreAtHand names mem) (append_assoc others rest (there ++ more)) (rotated names mem there (others ++ rest) more flat) in
        let now' : gathered held_of c ≡ others = ap (λ (hs : Homes). gathered held_of hs) after ∙ place.2.set None in
        open-back t now who at homes open' names mem c (there ++ more) (subst (λ hs. AreAtHand names mem (hs ++ (rest ++ (there ++ more)))) (sym now') last)

    -- it comes, and what was there is left over
    pub put-hands : (c : Homes) (h : Held) → c ≡ slice_set homes buffer (Some h) → (more : List Held) → AreAtHand names mem (h ∷ held_at_home now ++ more)
        → AreAtHand names mem (there ++ (held_at_home (slice_set t at (Some c)) ++ more))
    put-hands c h after more hands =
        let one = first (h ∷ more) (rotated names mem (h ∷ []) (held_at_home now) more hands) in
        let flat = subst (λ zs. AreAtHand names mem (there ++ zs)) (sym (append_assoc others rest (h ∷ more))) one in
        let two = exchanged names mem there (others ++ rest) (h ∷ []) more flat in
        let flat' = subst (λ zs. AreAtHand names mem (h ∷ zs)) (append_assoc others rest (there ++ more)) two in
        let three = goes_back names mem place.0 (h ∷ []) place.1 (rest ++ (there ++ more)) flat' in
        let now' : gathered held_of c ≡ place.0 ++ (h ∷ place.1) = ap (λ (hs : Homes). gathered held_of hs) after ∙ place.2.set (Some h) in
        rotated names mem (held_at_home (slice_set t at (Some c))) there more
        (open-back t now who at homes open' names mem c (there ++ more) (subst (λ hs. AreAtHand names mem (hs ++ (rest ++ (there ++ more)))) (sym now') three))
