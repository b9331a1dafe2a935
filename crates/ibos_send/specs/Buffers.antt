-- The transmit buffers of the instances. Each has four, and of these some are at home: not away
-- with a send.
use Rattle.std.specs.Prelude.{◌≡◌, ℕ, ◌+◌, ◌*◌, ◌<◌, ◌==◌, ◌&&◌, List, [], ◌∷◌, ◌++◌, Bool, false}
use Rattle.std.specs.Prelude.{length, map, nat_lt, slice_index_or, Option, Some, None}
use Rattle.std.specs.Prelude.{if◌then◌else◌}
use Rattle.std.specs.List.{range_with_len}
use Rattle.ibos_kinds.specs.declared.names.Instance.{Instance}
use Rattle.ibos_pool.specs.declared.name.Name.{Name}
use Rattle.ibos_pool.specs.Hands.{AreAtHand, has_name}
use Rattle.ibos_pool.specs.Memory.{IsKept, Memory, buffer_at}
use Rattle.ibos_pool.specs.Names.{Held, Names, is_taken, place_of}

-- an instance's buffers that are at home, in the order of their numbers
abbrev pub Homes : Type 0
Homes = List (Option Held)

-- one place for each instance, of those that were added and not ended
abbrev pub Table : Type 0
Table = List (Option Homes)

-- the place of an instance
abbrev pub home_place : Instance → ℕ
home_place who = 32 * who.tab + who.ord

abbrev pub has_home_place : Instance → Bool
has_home_place who = nat_lt who.tab 64 && nat_lt who.ord 32

unfoldable pub homes_in : Table → Instance → Option Homes
homes_in table who = if has_home_place who then slice_index_or table (home_place who) None else None

-- how many buffers an instance has, at home or away
abbrev pub size_of : Option Homes → ℕ
size_of None = 0
size_of (Some homes) = length homes

-- the buffer of that number, where it is at home
abbrev pub home_at : Option Homes → ℕ → Option Held
home_at None buffer = None
home_at (Some homes) buffer = slice_index_or homes buffer None

abbrev pub home_in : Table → Instance → ℕ → Option Held
home_in table who buffer = home_at (homes_in table who) buffer

-- the bytes of a buffer, if there is one
abbrev pub bytes_of : Memory → Option Held → List ℕ
bytes_of mem None = []
bytes_of mem (Some h) = buffer_at mem h.place

-- ---- buffers

-- the buffers of all parts of a list
abbrev pub gathered : {A : Type 0} → (A → List Held) → List A → List Held
gathered f [] = []
gathered f (x ∷ xs) = f x ++ gathered f xs

abbrev pub held_of : Option Held → List Held
held_of None = []
held_of (Some h) = h ∷ []

abbrev pub homes_of : Option Homes → List Held
homes_of None = []
homes_of (Some homes) = gathered held_of homes

-- all buffers that are at home
abbrev pub held_at_home : Table → List Held
held_at_home table = gathered homes_of table

abbrev pub name_in : ℕ → ℕ → Name
name_in area index = record { area = area; index = index }

abbrev pub buffer_in : Names → ℕ → ℕ → Held
buffer_in names area index = record {
  name = name_in area index;
  place = place_of names (name_in area index);
}

-- of an instance's area the first four buffers
abbrev pub new_homes : Names → ℕ → Homes
new_homes names area = map (λ index. Some (buffer_in names area index)) (range_with_len 0 4)

abbrev pub is_transmit_name : ℕ → Name → Bool
is_transmit_name area name = name.area == area && nat_lt name.index 4

-- an instance's area, of which no one holds a buffer to send from
pub record IsFresh (names : Names) (area : ℕ) : Type 0 where
  pub some : 0 < area
  pub within : area < length names
  pub free : (index : ℕ) → index < 4 → is_taken names (name_in area index) ≡ false

-- nor is one of them lent
abbrev pub AreFreshIn : Memory → Names → ℕ → Type 0
AreFreshIn mem names area = (index : ℕ) → index < 4
    → IsKept mem (place_of names (name_in area index))

-- buffers at hand in some memory
abbrev pub AreHeld : Names → List Held → Type 0
AreHeld names held = (mem : Memory) × AreAtHand names mem held

-- The names of these buffers are not taken any more. All else is as it was.
pub record AreReturned (held : List Held) (old new : Names) : Type 0 where
  pub names : (name : Name) → is_taken new name
      ≡ (if has_name held name then false else is_taken old name)
  pub places : (name : Name) → place_of new name ≡ place_of old name
  pub areas : length new ≡ length old
