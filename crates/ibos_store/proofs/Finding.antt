-- Objects found by key, and origins found by their texts.
use Rattle.std.proofs.Common.{◌≡◌, ℕ, List, [], ◌∷◌, Bool, true, false, refl, sym, ◌∙◌, ap, subst, Option, Some}
use Rattle.std.specs.Prelude.{bytes_eq, ◌&&◌, cond, if◌then◌else◌}
use Rattle.std.specs.Global.{Vec}
use Rattle.std.specs.Map.{lookup, set_value}
use Rattle.std.specs.Option.{unwrap_or}
use Rattle.std.specs.Cmp.Lexicographic.{nat_list_eq_equiv}
use Rattle.std.proofs.lemmas.Map.Steps.{set_value_same}
use Rattle.indexmap.specs.IndexMap.{insert_entry}
use Rattle.ibos_kinds.specs.Objects.{Newest, KeyObject, newest_in, with_newest}
use Rattle.ibos_store.specs.Stores.{OriginObjects, objects_in, PutsObjects, key_objects, origin_objects}
use Rattle.ibos_store.proofs.Sums.{same_texts, apart, at_own, at_other}

-- ---- keys

-- what stands under a key is what the key finds
pub newest_in-lookup : (key : List ℕ) (entries : List (Vec ℕ × Newest)) → newest_in (key_objects entries) key ≡ lookup (λ k. bytes_eq key k.items) entries
newest_in-lookup key [] = refl
newest_in-lookup key (e ∷ es) = ap (λ (r : Option Newest). cond (bytes_eq key e.0.items) (Some e.1) r) (newest_in-lookup key es)

pub newest_found : (key : List ℕ) (entries : List (Vec ℕ × Newest)) (objects : List KeyObject) (found : Option Newest) → found ≡ lookup (λ k. bytes_eq key k.items) entries
    → key_objects entries ≡ objects → newest_in objects key ≡ found
newest_found key entries objects found is seen =
    sym (ap (λ (os : List KeyObject). newest_in os key) seen) ∙ newest_in-lookup key entries ∙ sym is

-- a newest version that is written where the key was found
with-set_value : (key : List ℕ) (newest held : Newest) (entries : List (Vec ℕ × Newest)) → lookup (λ k. bytes_eq key k.items) entries ≡ Some held
    → key_objects (set_value (λ k. bytes_eq key k.items) entries newest) ≡ with_newest key newest (key_objects entries)
with-set_value key newest held [] found = cc
with-set_value key newest held (e ∷ es) found = by_test (bytes_eq key e.0.items) refl (with-set_value key newest held es)
  where
    by_test : (here : Bool) → bytes_eq key e.0.items ≡ here
        → (lookup (λ (k : Vec ℕ). bytes_eq key k.items) es ≡ Some held → key_objects (set_value (λ k. bytes_eq key k.items) es newest) ≡ with_newest key newest (key_objects es))
        → key_objects (set_value (λ k. bytes_eq key k.items) (e ∷ es) newest) ≡ with_newest key newest (key_objects (e ∷ es))
    by_test true is rest = rw is (ap (λ (k : List ℕ). record { key = k; newest = newest } ∷ key_objects es) (sym (same_texts key e.0.items is)))
    by_test false is rest = rw is (ap (λ (os : List KeyObject). record { key = e.0.items; newest = e.1 } ∷ os) (rest (rw is at found)))

with-insert_entry : (key : Vec ℕ) (newest : Newest) (entries : List (Vec ℕ × Newest))
    → key_objects (insert_entry (λ (a b : Vec ℕ). bytes_eq a.items b.items) entries key newest) ≡ with_newest key.items newest (key_objects entries)
with-insert_entry key newest [] = refl
with-insert_entry key newest (e ∷ es) = by_test (bytes_eq key.items e.0.items) refl (with-insert_entry key newest es)
  where
    by_test : (here : Bool) → bytes_eq key.items e.0.items ≡ here
        → key_objects (insert_entry (λ (a b : Vec ℕ). bytes_eq a.items b.items) es key newest) ≡ with_newest key.items newest (key_objects es)
        → key_objects (insert_entry (λ (a b : Vec ℕ). bytes_eq a.items b.items) (e ∷ es) key newest) ≡ with_newest key.items newest (key_objects (e ∷ es))
    by_test true is rest = rw is (ap (λ (k : List ℕ). record { key = k; newest = newest } ∷ key_objects es) (sym (same_texts key.items e.0.items is)))
    by_test false is rest = rw is (ap (λ (os : List KeyObject). record { key = e.0.items; newest = e.1 } ∷ os) rest)

-- the same of the objects as they are seen
pub objects_set : (key : List ℕ) (newest held : Newest) (entries after : List (Vec ℕ × Newest)) (objects : List KeyObject) → Some held ≡ lookup (λ k. bytes_eq key k.items) entries
    → after ≡ set_value (λ k. bytes_eq key k.items) entries newest → key_objects entries ≡ objects → key_objects after ≡ with_newest key newest objects
objects_set key newest held entries after objects found written seen =
    ap key_objects written ∙ with-set_value key newest held entries (sym found) ∙ ap (with_newest key newest) seen

pub objects_inserted : (key : List ℕ) (newest : Newest) (name : Vec ℕ) (base entries after : List (Vec ℕ × Newest)) (objects : List KeyObject) → base ≡ entries
    → after ≡ insert_entry (λ (a b : Vec ℕ). bytes_eq a.items b.items) base name newest → name.items ≡ key → key_objects entries ≡ objects → key_objects after ≡ with_newest key newest objects
objects_inserted key newest name base entries after objects same written named seen =
    ap key_objects written ∙ with-insert_entry name newest base ∙ ap (λ (k : List ℕ). with_newest k newest (key_objects base)) named
    ∙ ap (λ (es : List (Vec ℕ × Newest)). with_newest key newest (key_objects es)) same ∙ ap (with_newest key newest) seen

-- ---- origins

-- the objects of an origin are what its text finds, or none
pub objects_in-lookup : (origin : List ℕ) (entries : List (Vec ℕ × List KeyObject)) → objects_in (origin_objects entries) origin ≡ unwrap_or (lookup (λ k. bytes_eq origin k.items) entries) []
objects_in-lookup origin [] = refl
objects_in-lookup origin (e ∷ es) = by_test (bytes_eq origin e.0.items) (objects_in-lookup origin es)
  where
    by_test : (here : Bool) → objects_in (origin_objects es) origin ≡ unwrap_or (lookup (λ k. bytes_eq origin k.items) es) []
        → (if here then e.1 else objects_in (origin_objects es) origin) ≡ unwrap_or (cond here (Some e.1) (lookup (λ k. bytes_eq origin k.items) es)) []
    by_test true rest = refl
    by_test false rest = rest

pub objects_found : (origin : List ℕ) (entries : List (Vec ℕ × List KeyObject)) (origins : List OriginObjects) (found : Option (List KeyObject)) → found ≡ lookup (λ k. bytes_eq origin k.items) entries
    → origin_objects entries ≡ origins → objects_in origins origin ≡ unwrap_or found []
objects_found origin entries origins found is seen =
    sym (ap (λ (os : List OriginObjects). objects_in os origin) seen) ∙ objects_in-lookup origin entries ∙ sym (ap (λ (r : Option (List KeyObject)). unwrap_or r []) is)

-- objects written where the origin has some
puts-set_value : (origin : List ℕ) (old now : List KeyObject) (entries : List (Vec ℕ × List KeyObject)) → lookup (λ k. bytes_eq origin k.items) entries ≡ Some old
    → PutsObjects (origin_objects entries) (origin_objects (set_value (λ k. bytes_eq origin k.items) entries now)) origin now
puts-set_value origin old now [] found other = cc
puts-set_value origin old now (e ∷ es) found other = by_test (bytes_eq origin e.0.items) refl (puts-set_value origin old now es)
  where
    by_test : (here : Bool) → bytes_eq origin e.0.items ≡ here
        → (lookup (λ (k : Vec ℕ). bytes_eq origin k.items) es ≡ Some old → PutsObjects (origin_objects es) (origin_objects (set_value (λ k. bytes_eq origin k.items) es now)) origin now)
        → objects_in (origin_objects (set_value (λ k. bytes_eq origin k.items) (e ∷ es) now)) other ≡ (if bytes_eq origin other then now else objects_in (origin_objects (e ∷ es)) other)
    by_test true is rest = rw is (at_own (bytes_eq other e.0.items) (bytes_eq origin other) now e.1 (objects_in (origin_objects es) other) (ap (λ t. bytes_eq other t) (sym (same_texts origin e.0.items is)) ∙ nat_list_eq_equiv.symm other origin))
    by_test false is rest = rw is (at_other (bytes_eq other e.0.items) (bytes_eq origin other) now e.1 _ (objects_in (origin_objects es) other) (apart origin e.0.items other is) (rest (rw is at found) other))

-- an insertion gives the origin its objects
puts-insert_entry : (origin : Vec ℕ) (now : List KeyObject) (entries : List (Vec ℕ × List KeyObject))
    → PutsObjects (origin_objects entries) (origin_objects (insert_entry (λ (a b : Vec ℕ). bytes_eq a.items b.items) entries origin now)) origin.items now
puts-insert_entry origin now [] other = ap (λ (b : Bool). if b then now else []) (nat_list_eq_equiv.symm other origin.items)
puts-insert_entry origin now (e ∷ es) other = by_test (bytes_eq origin.items e.0.items) refl (puts-insert_entry origin now es other)
  where
    by_test : (here : Bool) → bytes_eq origin.items e.0.items ≡ here
        → objects_in (origin_objects (insert_entry (λ (a b : Vec ℕ). bytes_eq a.items b.items) es origin now)) other ≡ (if bytes_eq origin.items other then now else objects_in (origin_objects es) other)
        → objects_in (origin_objects (insert_entry (λ (a b : Vec ℕ). bytes_eq a.items b.items) (e ∷ es) origin now)) other ≡ (if bytes_eq origin.items other then now else objects_in (origin_objects (e ∷ es)) other)
    by_test true is rest = rw is (at_own (bytes_eq other e.0.items) (bytes_eq origin.items other) now e.1 (objects_in (origin_objects es) other) (ap (λ t. bytes_eq other t) (sym (same_texts origin.items e.0.items is)) ∙ nat_list_eq_equiv.symm other origin.items))
    by_test false is rest = rw is (at_other (bytes_eq other e.0.items) (bytes_eq origin.items other) now e.1 _ (objects_in (origin_objects es) other) (apart origin.items e.0.items other is) rest)

-- the same of the origins as they are seen
pub puts_set : (origin : List ℕ) (old now : List KeyObject) (entries after : List (Vec ℕ × List KeyObject)) (origins : List OriginObjects) → Some old ≡ lookup (λ k. bytes_eq origin k.items) entries
    → after ≡ set_value (λ k. bytes_eq origin k.items) entries now → origin_objects entries ≡ origins → PutsObjects origins (origin_objects after) origin now
puts_set origin old now entries after origins found written seen other =
    ap (λ (es : List (Vec ℕ × List KeyObject)). objects_in (origin_objects es) other) written ∙ puts-set_value origin old now entries (sym found) other
    ∙ ap (λ (os : List OriginObjects). if bytes_eq origin other then now else objects_in os other) seen

pub puts_inserted : (origin : List ℕ) (now : List KeyObject) (name : Vec ℕ) (entries after : List (Vec ℕ × List KeyObject)) (origins : List OriginObjects)
    → after ≡ insert_entry (λ (a b : Vec ℕ). bytes_eq a.items b.items) entries name now → name.items ≡ origin → origin_objects entries ≡ origins → PutsObjects origins (origin_objects after) origin now
puts_inserted origin now name entries after origins written named seen other =
    ap (λ (es : List (Vec ℕ × List KeyObject)). objects_in (origin_objects es) other) written ∙ puts-insert_entry name now entries other
    ∙ ap (λ t. if bytes_eq t other then now else objects_in (origin_objects entries) other) named
    ∙ ap (λ (os : List OriginObjects). if bytes_eq origin other then now else objects_in os other) seen

-- objects that are put back where they stand change nothing
pub same_origins : (origin : List ℕ) (old now : List KeyObject) (entries after : List (Vec ℕ × List KeyObject)) (origins : List OriginObjects) → Some old ≡ lookup (λ k. bytes_eq origin k.items) entries
    → after ≡ set_value (λ k. bytes_eq origin k.items) entries now → origin_objects entries ≡ origins → now ≡ old → origin_objects after ≡ origins
same_origins origin old now entries after origins found written seen is =
    ap origin_objects (written ∙ ap (λ (objects : List KeyObject). set_value (λ (k : Vec ℕ). bytes_eq origin k.items) entries objects) is
    ∙ set_value_same (λ (k : Vec ℕ). bytes_eq origin k.items) entries old (sym found)) ∙ seen

-- an origin's objects are those, and so they are these
pub puts_as : (base old new : List OriginObjects) (origin : List ℕ) (now objects : List KeyObject) → base ≡ old → now ≡ objects → PutsObjects base new origin now → PutsObjects old new origin objects
puts_as base old new origin now objects same is puts =
    let P : List KeyObject → Type 0 = λ os. PutsObjects base new origin os in
    let Q : List OriginObjects → Type 0 = λ os. PutsObjects os new origin objects in
    subst Q same (subst P is puts)

-- objects of an origin that differ under one key alone
pub puts_newest : (old new : List OriginObjects) (origin key : List ℕ) (objects : List KeyObject) (found : Option Newest) → PutsObjects old new origin objects
    → ((k : List ℕ) → newest_in objects k ≡ (if bytes_eq key k then found else newest_in (objects_in old origin) k))
    → (o k : List ℕ) → newest_in (objects_in new o) k ≡ (if bytes_eq origin o && bytes_eq key k then found else newest_in (objects_in old o) k)
puts_newest old new origin key objects found puts under o k = by_test (bytes_eq origin o) refl
  where
    by_test : (here : Bool) → bytes_eq origin o ≡ here → newest_in (objects_in new o) k ≡ (if here && bytes_eq key k then found else newest_in (objects_in old o) k)
    by_test true is =
        ap (λ (os : List KeyObject). newest_in os k) (puts o ∙ ap (λ (b : Bool). if b then objects else objects_in old o) is) ∙ under k
        ∙ ap (λ t. if bytes_eq key k then found else newest_in (objects_in old t) k) (same_texts origin o is)
    by_test false is = ap (λ (os : List KeyObject). newest_in os k) (puts o ∙ ap (λ (b : Bool). if b then objects else objects_in old o) is)
