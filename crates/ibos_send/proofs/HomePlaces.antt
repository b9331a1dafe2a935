-- The buffers that are at home are at hand.
use Rattle.std.proofs.Common.{◌≡◌, ℕ, zero, suc, Bool, true, false, List, [], ◌∷◌, ◌++◌, refl, sym, ap, subst, get_or}
use Rattle.std.specs.Prelude.{Option, Some, None, if◌then◌else◌}
use Rattle.ibos_pool.proofs.PlaceLemmas.{test_from_same}
use Rattle.ibos_send.proofs.PartedHands.{clash, front_of, in_left, in_right, kept_in}
use Rattle.ibos_send.proofs.Words.{AreAtHand, Held, Homes, Instance, IsKept, Memory, Names, Place, Table, gathered, has_home_place, has_place, held_at_home, held_of, home_at, home_in, home_place, homes_in, homes_of}

-- what a part holds the whole does
pub in_gathered : {A : Type 0} (f : A → List Held) (d : A) → f d ≡ [] → (xs : List A) (k : ℕ) (p : Place) → has_place (f (get_or xs k d)) p ≡ true → has_place (gathered f xs) p ≡ true
in_gathered f d none [] k p is = absurd (clash (has_place (f d) p) is (ap (λ hs. has_place hs p) none))
in_gathered f d none (x ∷ xs) zero p is = in_left (f x) (gathered f xs) p is
in_gathered f d none (x ∷ xs) (suc k) p is = in_right (f x) (gathered f xs) p (in_gathered f d none xs k p is)

in_homes : (o : Option Homes) (buffer : ℕ) (p : Place) → has_place (held_of (home_at o buffer)) p ≡ true → has_place (homes_of o) p ≡ true
in_homes None buffer p is = is
in_homes (Some homes) buffer p is = in_gathered held_of None refl homes buffer p is

in_table : (t : Table) (who : Instance) (p : Place) → has_place (homes_of (homes_in t who)) p ≡ true → has_place (held_at_home t) p ≡ true
unfolding homes_in
in_table t who p is = by_test (has_home_place who) is
  where
    by_test : (low : Bool) → has_place (homes_of (if low then get_or t (home_place who) None else None)) p ≡ true → has_place (held_at_home t) p ≡ true
    by_test true is = in_gathered homes_of None refl t (home_place who) p is
    by_test false is = absurd (clash false is refl)

-- a buffer at home is not lent
pub home-kept : (t : Table) (who : Instance) (buffer : ℕ) (h : Held) (names : Names) (mem : Memory) (more : List Held) → AreAtHand names mem (held_at_home t ++ more) → home_in t who buffer ≡ Some h → IsKept mem h.place
home-kept t who buffer h names mem more hands at =
    let there : has_place (held_of (home_in t who buffer)) h.place ≡ true = subst (λ o. has_place (held_of o) h.place ≡ true) (sym at) (in_left (h ∷ []) [] h.place (own h)) in
    kept_in names mem (held_at_home t) h.place (front_of names mem (held_at_home t) more hands) (in_table t who h.place (in_homes (homes_in t who) buffer h.place there))
  where
    one : (b : Bool) → b ≡ true → (if b then true else false) ≡ true
    one true is = refl
    one false is = is

    own : (h : Held) → has_place (h ∷ []) h.place ≡ true
    own h = rw (test_from_same h.place) refl
