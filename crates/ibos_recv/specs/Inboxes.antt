-- The inboxes of the instances. Each has sixteen buffers, and in some of them frames that its
-- instance has not done with.
use Rattle.std.specs.Prelude.{◌≡◌, ℕ, ◌+◌, ◌*◌, ◌%◌, ◌<◌, ◌≤◌, ◌==◌, ◌&&◌, List, [], ◌∷◌, ◌++◌}
use Rattle.std.specs.Prelude.{false, length, map, take, nat_lt, nat_le, slice_get, slice_index_or}
use Rattle.std.specs.Prelude.{Bool, Option, Some, None, Result, Ok, Err, if◌then◌else◌}
use Rattle.std.specs.List.{range_with_len}
use Rattle.ibos_kinds.specs.declared.names.Instance.{Instance}
use Rattle.ibos_kinds.specs.declared.rule.Rule.{Rule}
use Rattle.ibos_kinds.specs.declared.rule.Rule.TheVariants.{N6}
use Rattle.ibos_pool.specs.declared.name.Name.{Name}
use Rattle.ibos_pool.specs.Hands.{AreAtHand, has_name}
use Rattle.ibos_pool.specs.Memory.{IsKept, Memory, buffer_at}
use Rattle.ibos_pool.specs.Names.{Held, Names, is_taken, place_of}

-- an inbox: its buffers in the order of their names, which of them has the oldest unread frame, and
-- the lengths of the unread frames, the oldest first
pub record Inbox : Type 0 where
  pub held : List Held
  pub head : ℕ
  pub lens : List ℕ

-- one place for each instance, of those that were added and not ended
abbrev pub Inboxes : Type 0
Inboxes = List (Option Inbox)

-- the place of an instance
abbrev pub inbox_place : Instance → ℕ
inbox_place who = 32 * who.tab + who.ord

abbrev pub has_inbox_place : Instance → Bool
has_inbox_place who = nat_lt who.tab 64 && nat_lt who.ord 32

unfoldable pub inbox_by : Inboxes → Instance → Option Inbox
inbox_by inboxes who = if has_inbox_place who then slice_index_or inboxes (inbox_place who) None
    else None

-- ---- frames

-- the first bytes of a buffer
abbrev pub bytes_in : Memory → Option Held → ℕ → List ℕ
bytes_in mem None len = []
bytes_in mem (Some h) len = take len (buffer_at mem h.place)

-- Frames of those lengths, one behind the other from a buffer on. Behind the last buffer comes the
-- first.
abbrev pub frames_from : Memory → List Held → ℕ → List ℕ → List (List ℕ)
frames_from mem held at [] = []
frames_from mem held at (len ∷ lens) = bytes_in mem (slice_get held (at % 16)) len
    ∷ frames_from mem held (at + 1) lens

abbrev pub inbox_frames : Memory → Inbox → List (List ℕ)
inbox_frames mem inbox = frames_from mem inbox.held inbox.head inbox.lens

abbrev pub frames_at : Memory → Option Inbox → List (List ℕ)
frames_at mem None = []
frames_at mem (Some inbox) = inbox_frames mem inbox

-- the bytes of an instance's unread frames, the oldest first
abbrev pub frames_of : Memory → Inboxes → Instance → List (List ℕ)
frames_of mem inboxes who = frames_at mem (inbox_by inboxes who)

abbrev pub unread_at : Option Inbox → ℕ
unread_at None = 0
unread_at (Some inbox) = length inbox.lens

-- how many frames of an instance are unread
abbrev pub unread_of : Inboxes → Instance → ℕ
unread_of inboxes who = unread_at (inbox_by inboxes who)

-- an instance is done with its oldest unread frame
abbrev pub done_answer : ℕ → Result Unit Rule
done_answer unread = if unread == 0 then Err N6 else Ok tt

-- ---- buffers

abbrev pub held_at : Option Inbox → List Held
held_at None = []
held_at (Some inbox) = inbox.held

-- all buffers of the inboxes
abbrev pub held_in : Inboxes → List Held
held_in [] = []
held_in (inbox ∷ inboxes) = held_at inbox ++ held_in inboxes

abbrev pub name_in : ℕ → ℕ → Name
name_in area index = record { area = area; index = index }

abbrev pub buffer_in : Names → ℕ → ℕ → Held
buffer_in names area index = record {
  name = name_in area index;
  place = place_of names (name_in area index);
}

-- of an instance's area the buffers from the fourth on, sixteen of them
abbrev pub inbox_buffers : Names → ℕ → List Held
inbox_buffers names area = map (buffer_in names area) (range_with_len 4 16)

abbrev pub is_inbox_name : ℕ → Name → Bool
is_inbox_name area name = name.area == area && (nat_le 4 name.index && nat_lt name.index 20)

abbrev pub new_inbox : Names → ℕ → Inbox
new_inbox names area = record { held = inbox_buffers names area; head = 0; lens = [] }

-- the buffers of the same names, in the same order, at the places that the pool has for them
abbrev pub as_placed : Names → List Held → List Held
as_placed names held = map (λ (h : Held). record { name = h.name; place = place_of names h.name })
    held

-- an instance's area, of which no one holds a buffer for its inbox
pub record IsFresh (names : Names) (area : ℕ) : Type 0 where
  pub some : 0 < area
  pub within : area < length names
  pub free : (index : ℕ) → 4 ≤ index → index < 20 → is_taken names (name_in area index) ≡ false

-- nor is one of them lent
abbrev pub AreFreshIn : Memory → Names → ℕ → Type 0
AreFreshIn mem names area = (index : ℕ) → 4 ≤ index → index < 20
    → IsKept mem (place_of names (name_in area index))

-- buffers at hand in some memory
abbrev pub AreHeld : Names → List Held → Type 0
AreHeld names held = (mem : Memory) × AreAtHand names mem held

-- The names of these buffers are not taken any more. All else is as it was.
pub record AreReturned (held : List Held) (old new : Names) : Type 0 where
  pub names : (name : Name) → is_taken new name
      ≡ (if has_name held name then false else is_taken old name)
  pub places : (name : Name) → place_of new name ≡ place_of old name
  pub areas : length new ≡ length old
