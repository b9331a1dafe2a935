-- All stored objects by their origins, and all requests by their instances.
use Rattle.std.specs.Prelude.{◌≡◌, ◌≢◌, ℕ, ◌+◌, ◌*◌, List, [], ◌∷◌, map, bytes_eq, ◌&&◌, nat_lt}
use Rattle.std.specs.Prelude.{Option, Some, None, option_and_then, if◌then◌else◌}
use Rattle.std.specs.List.{slice_index_or}
use Rattle.std.specs.Global.{Vec}
use Rattle.ibos_kinds.specs.declared.names.Instance.{Instance}
use Rattle.ibos_kinds.specs.Objects.{Newest, KeyObject, newest_in}
use Rattle.ibos_kinds.specs.Requests.{Requests, key_in}

pub record OriginObjects : Type 0 where
  pub origin : List ℕ
  pub objects : List KeyObject

-- the objects of each origin that has some, and one place for each instance, of those that were
-- added and not ended
pub record StoreState : Type 0 where
  pub origins : List OriginObjects
  pub requests : List (Option Requests)

-- the objects of an origin, none where nothing was put
abbrev pub objects_in : List OriginObjects → List ℕ → List KeyObject
objects_in [] origin = []
objects_in (entry ∷ entries) origin =
    if bytes_eq origin entry.origin then entry.objects else objects_in entries origin

abbrev pub objects_of : StoreState → List ℕ → List KeyObject
objects_of store origin = objects_in store.origins origin

-- what stands under a key of an origin
abbrev pub object_at : StoreState → List ℕ → List ℕ → Option Newest
object_at store origin key = newest_in (objects_of store origin) key

-- the newest version under a key of an origin is that one, and has these bytes
abbrev pub IsNewest : StoreState → List ℕ → List ℕ → ℕ → List ℕ → Type 0
IsNewest store origin key version bytes = (len : ℕ) × (object_at store origin key
    ≡ Some (record { version = version; len = len; bytes = Some bytes }))

-- an origin's objects are those now, and all others' are as before
abbrev pub PutsObjects : List OriginObjects → List OriginObjects → List ℕ → List KeyObject → Type 0
PutsObjects old new origin objects = (other : List ℕ)
    → objects_in new other ≡ (if bytes_eq origin other then objects else objects_in old other)

-- what stands under a key of an origin is that now, and all else is as before
abbrev pub PutsNewest : StoreState → StoreState → List ℕ → List ℕ → Option Newest → Type 0
PutsNewest old new origin key found = (o k : List ℕ) → object_at new o k
    ≡ (if bytes_eq origin o && bytes_eq key k then found else object_at old o k)

-- the place of an instance: tabs and ordinals are bytes
abbrev pub place_of : Instance → ℕ
place_of who = 256 * who.ord + who.tab

unfoldable pub requests_in : List (Option Requests) → Instance → Option Requests
requests_in places who = if nat_lt who.tab 256 then slice_index_or places (place_of who) None
    else None

-- the requests of an instance, if it was added and not ended
abbrev pub requests_of : StoreState → Instance → Option Requests
requests_of store who = requests_in store.requests who

abbrev pub SameRequests : List (Option Requests) → List (Option Requests) → Instance → Type 0
SameRequests old new who = (q : Instance) → q ≢ who → requests_in new q ≡ requests_in old q

-- the key of a request that is not answered
abbrev pub key_at : List (Option Requests) → Instance → ℕ → Option (List ℕ)
key_at places who number = option_and_then (λ requests. key_in requests number)
    (requests_in places who)

abbrev pub key_of : StoreState → Instance → ℕ → Option (List ℕ)
key_of store who number = key_at store.requests who number

-- the objects that a table by key holds, in its order, and those that a table by origin holds
abbrev pub key_objects : List (Vec ℕ × Newest) → List KeyObject
key_objects entries = map (λ entry. record { key = entry.0.items; newest = entry.1 }) entries

abbrev pub origin_objects : List (Vec ℕ × List KeyObject) → List OriginObjects
origin_objects entries =
    map (λ entry. record { origin = entry.0.items; objects = entry.1 }) entries
