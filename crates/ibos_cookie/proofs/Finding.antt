-- Jars found by origin.
use Rattle.std.proofs.Common.{◌≡◌, ℕ, List, [], ◌∷◌, Bool, true, false, refl, sym, ◌∙◌, ap, subst, Option, Some}
use Rattle.std.specs.Prelude.{bytes_eq, cond, if◌then◌else◌, Result, Ok, Err, OnOk, OnErr}
use Rattle.std.specs.Global.{Vec}
use Rattle.std.specs.Map.{lookup, set_value}
use Rattle.std.specs.Option.{unwrap_or}
use Rattle.std.specs.Cmp.Lexicographic.{nat_list_eq_equiv}
use Rattle.std.proofs.lemmas.Map.Steps.{set_value_same}
use Rattle.std.proofs.lemmas.Slice.Eq.{bytes_eq-Decides}
use Rattle.indexmap.specs.IndexMap.{insert_entry}
use Rattle.ibos_kinds.specs.declared.cookies.Cookie.{Cookie}
use Rattle.ibos_kinds.specs.Cookies.{put}
use Rattle.ibos_cookie.specs.declared.jars.CookieFault.{CookieFault}
use Rattle.ibos_cookie.specs.Jars.{OriginJar, jar_of, origin_jars, PutsJar, SetsIn}

same_texts : (xs ys : List ℕ) → bytes_eq xs ys ≡ true → xs ≡ ys
same_texts xs ys h = (bytes_eq-Decides xs ys).0 h

first_is : (a b : Bool) (jar : List Cookie) (rest : Option (List Cookie)) (more : List Cookie) → a ≡ b → more ≡ unwrap_or rest []
    → (if a then jar else more) ≡ unwrap_or (cond b (Some jar) rest) []
first_is true true jar rest more same h = refl
first_is false false jar rest more same h = h
first_is true false jar rest more same h = cc
first_is false true jar rest more same h = cc

-- the jar of an origin is what its text finds, or none
pub jar_of-lookup : (origin : List ℕ) (entries : List (Vec ℕ × List Cookie)) → jar_of (origin_jars entries) origin ≡ unwrap_or (lookup (λ key. bytes_eq origin key.items) entries) []
jar_of-lookup origin [] = refl
jar_of-lookup origin (e ∷ es) = first_is (bytes_eq e.0.items origin) (bytes_eq origin e.0.items) e.1 _ _ (nat_list_eq_equiv.symm e.0.items origin) (jar_of-lookup origin es)

pub jar_found : (origin : List ℕ) (entries : List (Vec ℕ × List Cookie)) (jars : List OriginJar) (found : Option (List Cookie)) → found ≡ lookup (λ key. bytes_eq origin key.items) entries
    → origin_jars entries ≡ jars → unwrap_or found [] ≡ jar_of jars origin
jar_found origin entries jars found is seen =
    ap (λ (r : Option (List Cookie)). unwrap_or r []) is ∙ sym (jar_of-lookup origin entries) ∙ ap (λ (js : List OriginJar). jar_of js origin) seen

at_own : (a b : Bool) (jar old before : List Cookie) → a ≡ b → (if a then jar else before) ≡ (if b then jar else if a then old else before)
at_own true true jar old before same = refl
at_own false false jar old before same = refl
at_own true false jar old before same = cc
at_own false true jar old before same = cc

at_other : (a b : Bool) (jar old after before : List Cookie) → (a ≡ true → b ≡ false) → after ≡ (if b then jar else before) → (if a then old else after) ≡ (if b then jar else if a then old else before)
at_other true b jar old after before apart h = rw (apart refl) refl
at_other false b jar old after before apart h = h

apart : (origin first other : List ℕ) → bytes_eq origin first ≡ false → bytes_eq first other ≡ true → bytes_eq origin other ≡ false
apart origin first other differs same = let P : List ℕ → Type 0 = λ t. bytes_eq origin t ≡ false in subst P (same_texts first other same) differs

-- a jar written where the origin has one
pub puts-set_value : (origin : List ℕ) (old jar : List Cookie) (entries : List (Vec ℕ × List Cookie)) → lookup (λ key. bytes_eq origin key.items) entries ≡ Some old
    → PutsJar (origin_jars entries) (origin_jars (set_value (λ key. bytes_eq origin key.items) entries jar)) origin jar
puts-set_value origin old jar [] found other = cc
puts-set_value origin old jar (e ∷ es) found other = by_test (bytes_eq origin e.0.items) refl (puts-set_value origin old jar es)
  where
    by_test : (here : Bool) → bytes_eq origin e.0.items ≡ here
        → (lookup (λ (key : Vec ℕ). bytes_eq origin key.items) es ≡ Some old → PutsJar (origin_jars es) (origin_jars (set_value (λ key. bytes_eq origin key.items) es jar)) origin jar)
        → jar_of (origin_jars (set_value (λ key. bytes_eq origin key.items) (e ∷ es) jar)) other ≡ (if bytes_eq origin other then jar else jar_of (origin_jars (e ∷ es)) other)
    by_test true is rest = rw is (at_own (bytes_eq e.0.items other) (bytes_eq origin other) jar e.1 (jar_of (origin_jars es) other) (ap (λ t. bytes_eq t other) (sym (same_texts origin e.0.items is))))
    by_test false is rest = rw is (at_other (bytes_eq e.0.items other) (bytes_eq origin other) jar e.1 _ (jar_of (origin_jars es) other) (apart origin e.0.items other is) (rest (rw is at found) other))

-- an insertion gives the origin its jar
pub puts-insert_entry : (key : Vec ℕ) (jar : List Cookie) (entries : List (Vec ℕ × List Cookie))
    → PutsJar (origin_jars entries) (origin_jars (insert_entry (λ (a b : Vec ℕ). bytes_eq a.items b.items) entries key jar)) key.items jar
puts-insert_entry key jar [] other = refl
puts-insert_entry key jar (e ∷ es) other = by_test (bytes_eq key.items e.0.items) refl (puts-insert_entry key jar es other)
  where
    by_test : (here : Bool) → bytes_eq key.items e.0.items ≡ here
        → jar_of (origin_jars (insert_entry (λ (a b : Vec ℕ). bytes_eq a.items b.items) es key jar)) other ≡ (if bytes_eq key.items other then jar else jar_of (origin_jars es) other)
        → jar_of (origin_jars (insert_entry (λ (a b : Vec ℕ). bytes_eq a.items b.items) (e ∷ es) key jar)) other ≡ (if bytes_eq key.items other then jar else jar_of (origin_jars (e ∷ es)) other)
    by_test true is rest = rw is (at_own (bytes_eq e.0.items other) (bytes_eq key.items other) jar e.1 (jar_of (origin_jars es) other) (ap (λ t. bytes_eq t other) (sym (same_texts key.items e.0.items is))))
    by_test false is rest = rw is (at_other (bytes_eq e.0.items other) (bytes_eq key.items other) jar e.1 _ (jar_of (origin_jars es) other) (apart key.items e.0.items other is) rest)

-- jars that are given the jar of a set have the set
sets_by_put : (old new : List OriginJar) (origin : List ℕ) (set : Cookie) (jar : List Cookie) → PutsJar old new origin jar → jar ≡ put set (jar_of old origin) → SetsIn old new origin set
sets_by_put old new origin set jar puts is other = by_test (bytes_eq origin other) refl
  where
    by_test : (same : Bool) → bytes_eq origin other ≡ same → jar_of new other ≡ (if same then put set (jar_of old other) else jar_of old other)
    by_test true same = puts other ∙ rw same (is ∙ ap (λ t. put set (jar_of old t)) (same_texts origin other same))
    by_test false same = puts other ∙ rw same refl

-- a set in a jar that was found, and what was written back
module _ (origin : List ℕ) (old new : List Cookie) (entries after : List (Vec ℕ × List Cookie)) (jars : List OriginJar) (found : Some old ≡ lookup (λ key. bytes_eq origin key.items) entries)
    (seen : origin_jars entries ≡ jars) (written : after ≡ set_value (λ key. bytes_eq origin key.items) entries new) where
  pub set_found : (set : Cookie) (result : Result Unit CookieFault) → OnOk result (new ≡ put set old) → OnOk result (SetsIn jars (origin_jars after) origin set)
  set_found set (Err e) ok = ok
  set_found set (Ok done) ok =
      let P : List (Vec ℕ × List Cookie) → Type 0 = λ es. PutsJar (origin_jars entries) (origin_jars es) origin new in
      let Q : List OriginJar → Type 0 = λ js. PutsJar js (origin_jars after) origin new in
      let puts = subst Q seen (subst P (sym written) (puts-set_value origin old new entries (sym found))) in
      sets_by_put jars (origin_jars after) origin set new puts (ok ∙ ap (put set) (jar_found origin entries jars (Some old) found seen))

  pub unset_found : (result : Result Unit CookieFault) → OnErr result (new ≡ old) → OnErr result (origin_jars after ≡ jars)
  unset_found (Ok done) err = err
  unset_found (Err e) err =
      ap origin_jars (written ∙ ap (λ (j : List Cookie). set_value (λ (key : Vec ℕ). bytes_eq origin key.items) entries j) err
      ∙ set_value_same (λ (key : Vec ℕ). bytes_eq origin key.items) entries old (sym found)) ∙ seen

-- a jar inserted, and the jars before and after as they are seen
pub put_inserted : (old : List OriginJar) (origin : List ℕ) (jar : List Cookie) (key : Vec ℕ) (entries after : List (Vec ℕ × List Cookie)) → after ≡ insert_entry (λ (a b : Vec ℕ). bytes_eq a.items b.items) entries key jar
    → key.items ≡ origin → origin_jars entries ≡ old → PutsJar old (origin_jars after) origin jar
put_inserted old origin jar key entries after written named seen other =
    ap (λ (es : List (Vec ℕ × List Cookie)). jar_of (origin_jars es) other) written ∙ puts-insert_entry key jar entries other
    ∙ ap (λ t. if bytes_eq t other then jar else jar_of (origin_jars entries) other) named
    ∙ ap (λ (js : List OriginJar). if bytes_eq origin other then jar else jar_of js other) seen

pub sets_by_put_in : (old base new : List OriginJar) (origin : List ℕ) (set : Cookie) (jar : List Cookie) → base ≡ old → PutsJar base new origin jar → jar ≡ put set (jar_of old origin) → SetsIn old new origin set
sets_by_put_in old base new origin set jar same puts is = let P : List OriginJar → Type 0 = λ js. PutsJar js new origin jar in sets_by_put old new origin set jar (subst P same puts) is
