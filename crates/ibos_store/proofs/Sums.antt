-- A newest version among the objects of an origin: what it changes, and how it counts.
use Rattle.std.proofs.Common.{◌≡◌, ℕ, ◌+◌, ◌≤◌, List, [], ◌∷◌, Bool, true, false, refl, sym, ◌∙◌, ap, subst, length, arith, Option, Some, None}
use Rattle.std.specs.Prelude.{bytes_eq, nat_lt, if◌then◌else◌}
use Rattle.std.specs.Option.{option_map}
use Rattle.std.specs.Cmp.Lexicographic.{nat_list_eq_equiv}
use Rattle.std.proofs.lemmas.Bool.Decides.{nat_tests}
use Rattle.std.proofs.lemmas.Slice.Eq.{bytes_eq-Decides}
use Rattle.std.proofs.lemmas.List.Sums.{sum_by-cons}
use Rattle.ibos_kinds.specs.Objects.{Newest, KeyObject, newest_in, after_loss, with_newest, with_loss, with_loss_of, stored_bytes, is_over}

pub same_texts : (xs ys : List ℕ) → bytes_eq xs ys ≡ true → xs ≡ ys
same_texts xs ys h = (bytes_eq-Decides xs ys).0 h

some_is : (x y : Newest) → Some x ≡ Some y → x ≡ y
some_is x y h = cc

-- a newest version that is put back where it stands changes nothing
pub with-same : (key : List ℕ) (held : Newest) (objects : List KeyObject) → newest_in objects key ≡ Some held → with_newest key held objects ≡ objects
with-same key held [] found = cc
with-same key held (o ∷ os) found = by_test (bytes_eq key o.key) refl (with-same key held os)
  where
    by_test : (here : Bool) → bytes_eq key o.key ≡ here → (newest_in os key ≡ Some held → with_newest key held os ≡ os) → with_newest key held (o ∷ os) ≡ o ∷ os
    by_test true is rest =
        let got : o.newest ≡ held = some_is o.newest held (rw is at found) in
        let F : Newest → List KeyObject = λ n. record { key = o.key; newest = n } ∷ os in
        rw is (ap (λ (k : List ℕ). record { key = k; newest = held } ∷ os) (same_texts key o.key is) ∙ ap F (sym got))
    by_test false is rest = rw is (ap (λ (xs : List KeyObject). o ∷ xs) (rest (rw is at found)))

pub apart : (key first other : List ℕ) → bytes_eq key first ≡ false → bytes_eq other first ≡ true → bytes_eq key other ≡ false
apart key first other differs same = let P : List ℕ → Type 0 = λ t. bytes_eq key t ≡ false in subst P (sym (same_texts other first same)) differs

pub at_own : {X : Type 0} (a b : Bool) (now old before : X) → a ≡ b → (if a then now else before) ≡ (if b then now else if a then old else before)
at_own true true now old before same = refl
at_own false false now old before same = refl
at_own true false now old before same = cc
at_own false true now old before same = cc

pub at_other : {X : Type 0} (a b : Bool) (now old after before : X) → (a ≡ true → b ≡ false) → after ≡ (if b then now else before) → (if a then old else after) ≡ (if b then now else if a then old else before)
at_other true b now old after before apart h = rw (apart refl) refl
at_other false b now old after before apart h = h

-- another newest version is under its key, and under no other
pub newest_in-with_newest : (key : List ℕ) (newest : Newest) (objects : List KeyObject) (k : List ℕ) → newest_in (with_newest key newest objects) k ≡ (if bytes_eq key k then Some newest else newest_in objects k)
newest_in-with_newest key newest [] k = ap (λ (b : Bool). if b then Some newest else None) (nat_list_eq_equiv.symm k key)
newest_in-with_newest key newest (o ∷ os) k = by_test (bytes_eq key o.key) refl (newest_in-with_newest key newest os k)
  where
    by_test : (here : Bool) → bytes_eq key o.key ≡ here → newest_in (with_newest key newest os) k ≡ (if bytes_eq key k then Some newest else newest_in os k)
        → newest_in (with_newest key newest (o ∷ os)) k ≡ (if bytes_eq key k then Some newest else newest_in (o ∷ os) k)
    by_test true is rest = rw is (at_own' (bytes_eq k key) (bytes_eq key k) (bytes_eq k o.key) (nat_list_eq_equiv.symm k key) (ap (λ t. bytes_eq k t) (same_texts key o.key is)))
      where
        at_own' : (a b c : Bool) → a ≡ b → a ≡ c → (if a then Some newest else newest_in os k) ≡ (if b then Some newest else if c then Some o.newest else newest_in os k)
        at_own' true true c same also = refl
        at_own' false false false same also = refl
        at_own' false false true same also = cc
        at_own' true false c same also = cc
        at_own' false true c same also = cc
    by_test false is rest = rw is (at_other (bytes_eq k o.key) (bytes_eq key k) (Some newest) (Some o.newest) _ (newest_in os k) (apart key o.key k is) rest)

-- so is a loss
pub newest_in-with_loss : (key : List ℕ) (objects : List KeyObject) (k : List ℕ) → newest_in (with_loss key objects) k ≡ (if bytes_eq key k then option_map after_loss (newest_in objects key) else newest_in objects k)
newest_in-with_loss key objects k = by_found (newest_in objects key) refl
  where
    absent : newest_in objects key ≡ None → (here : Bool) → bytes_eq key k ≡ here → newest_in objects k ≡ (if here then None else newest_in objects k)
    absent none true is = ap (λ t. newest_in objects t) (sym (same_texts key k is)) ∙ none
    absent none false is = refl

    by_found : (found : Option Newest) → newest_in objects key ≡ found → newest_in (with_loss_of found key objects) k ≡ (if bytes_eq key k then option_map after_loss found else newest_in objects k)
    by_found None is = absent is (bytes_eq key k) refl
    by_found (Some newest) is = newest_in-with_newest key (after_loss newest) objects k

stored-cons : (o : KeyObject) (os : List KeyObject) → stored_bytes (o ∷ os) ≡ length o.key + o.newest.len + stored_bytes os
stored-cons o os = sum_by-cons (λ (x : KeyObject). length x.key + x.newest.len) o os

-- how another newest version counts, of a key that is there and of one that is not
pub record CountsHeld (key : List ℕ) (newest held : Newest) (objects : List KeyObject) : Type 0 where
  pub sum : stored_bytes (with_newest key newest objects) + held.len ≡ stored_bytes objects + newest.len
  pub within : held.len ≤ stored_bytes objects

pub counts_held : (key : List ℕ) (newest held : Newest) (objects : List KeyObject) → newest_in objects key ≡ Some held → CountsHeld key newest held objects
counts_held key newest held [] found = cc
counts_held key newest held (o ∷ os) found = by_test (bytes_eq key o.key) refl (counts_held key newest held os)
  where
    set : KeyObject
    set = record { key = key; newest = newest }

    by_test : (here : Bool) → bytes_eq key o.key ≡ here → (newest_in os key ≡ Some held → CountsHeld key newest held os) → CountsHeld key newest held (o ∷ os)
    by_test true is rest =
        let got : o.newest ≡ held = some_is o.newest held (rw is at found) in
        let sums = stored-cons set os in
        let was = stored-cons o os in
        let keys = ap length (same_texts key o.key is) in
        let len = ap (λ (n : Newest). n.len) got in
        record {
          sum = rw is (omega (arith, sums, was, keys, len));
          within = omega (arith, was, len);
        }
    by_test false is rest =
        let more = rest (rw is at found) in
        let was = stored-cons o os in
        let sums = stored-cons o (with_newest key newest os) in
        record {
          sum = rw is (omega (arith, sums, was, more.sum));
          within = omega (arith, was, more.within);
        }

pub sum_new : (key : List ℕ) (newest : Newest) (objects : List KeyObject) → newest_in objects key ≡ None
    → stored_bytes (with_newest key newest objects) ≡ stored_bytes objects + length key + newest.len
sum_new key newest [] absent = omega (arith, stored-cons (record { key = key; newest = newest }) [])
sum_new key newest (o ∷ os) absent = by_test (bytes_eq key o.key) refl (sum_new key newest os)
  where
    some_none : Some o.newest ≡ None → ⊥
    some_none h = cc

    by_test : (here : Bool) → bytes_eq key o.key ≡ here → (newest_in os key ≡ None → stored_bytes (with_newest key newest os) ≡ stored_bytes os + length key + newest.len)
        → stored_bytes (with_newest key newest (o ∷ os)) ≡ stored_bytes (o ∷ os) + length key + newest.len
    by_test true is rest = absurd (some_none (rw is at absent))
    by_test false is rest =
        let more = rest (rw is at absent) in
        let was = stored-cons o os in
        let sums = stored-cons o (with_newest key newest os) in
        rw is (omega (arith, sums, was, more))

-- ---- the quota

pub stored_within : (objects : List KeyObject) → is_over objects ≡ false → stored_bytes objects ≤ 65536
unfolding is_over
stored_within objects within = grind (arith, nat_tests)

pub none_within : is_over [] ≡ false
unfolding is_over
none_within = refl

pub over_by : (objects : List KeyObject) (bytes : ℕ) → bytes ≡ stored_bytes objects → nat_lt 65536 bytes ≡ is_over objects
unfolding is_over
over_by objects bytes summed = ap (λ n. nat_lt 65536 n) summed
