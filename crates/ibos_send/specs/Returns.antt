-- What a transmit bell does: buffers that were sent come back, in the order of their posts.
use Rattle.std.specs.Prelude.{◌≡◌, ℕ, ◌+◌, ◌-◌, ◌<◌, List, [], ◌∷◌, ◌++◌, Bool, false, not}
use Rattle.std.specs.Prelude.{length, take, slice_get, slice_index_or, slice_set}
use Rattle.std.specs.Prelude.{Option, Some, None, if◌then◌else◌}
use Rattle.std.specs.List.{All}
use Rattle.ibos_kinds.specs.declared.names.Instance.{Instance}
use Rattle.ibos_kinds.specs.declared.outcome.Item.{Item}
use Rattle.ibos_kinds.specs.declared.outcome.Item.TheVariants.{Home, Returned}
use Rattle.ibos_kinds.specs.Sends.{Send, send_at}
use Rattle.ibos_pool.specs.declared.name.Name.{Name}
use Rattle.ibos_pool.specs.declared.name.Ring.{Ring}
use Rattle.ibos_pool.specs.declared.place.Place.{Place}
use Rattle.ibos_pool.specs.Hands.{has_place}
use Rattle.ibos_pool.specs.Memory.{IsKept, Memory, buffer_at, bytes_at, is_lent_at, slot_at}
use Rattle.ibos_pool.specs.Names.{Held, Names, place_of}
use Rattle.ibos_pool.specs.Places.{IsPlaceIn}
use Rattle.ibos_pool.specs.Sizes.{room_slots}
use Rattle.ibos_send.specs.declared.sending.Post.{Post}
use Rattle.ibos_send.specs.Buffers.{Homes, Table, held_of, home_place, homes_in}
use Rattle.ibos_send.specs.Sends.{Outgoing, home_by, is_open, posted_in}

-- a buffer is at home with its instance, if that did not end
abbrev pub brought_by : Instance → ℕ → Held → Table → Option Homes → Table
brought_by who buffer h table None = table
brought_by who buffer h table (Some homes) =
    slice_set table (home_place who) (Some (slice_set homes buffer (Some h)))

abbrev pub brought_home : Instance → ℕ → Held → Table → Table
brought_home who buffer h table = brought_by who buffer h table (homes_in table who)

abbrev pub left_at : ℕ → Held → Option Homes → Option Held
left_at buffer h None = Some h
left_at buffer h (Some homes) = slice_index_or homes buffer None

-- What is left over then, for the pool: the buffer itself where its instance ended, and else what
-- was in its place.
abbrev pub left_over : Instance → ℕ → Held → Table → Option Held
left_over who buffer h table = left_at buffer h (homes_in table who)

-- the buffer of the oldest post that did not come back does
abbrev pub came_back : Option Post → Held → Outgoing → Outgoing
came_back None h s = s
came_back (Some post) h s = record s {
  homes = brought_home post.who post.buffer h s.homes;
  returned = s.returned + 1;
}

-- what is left over then
abbrev pub left_then : Option Post → Held → Outgoing → Option Held
left_then None h s = Some h
left_then (Some post) h s = left_over post.who post.buffer h s.homes

-- all these buffers come back, one after the other
abbrev pub after_returns : Outgoing → List Held → Outgoing
after_returns s [] = s
after_returns s (h ∷ hs) = after_returns (came_back (slice_get s.posts s.returned) h s) hs

-- what is left over of all these, for the pool
abbrev pub all_left : Outgoing → List Held → List Held
all_left s [] = []
all_left s (h ∷ hs) = held_of (left_then (slice_get s.posts s.returned) h s)
    ++ all_left (came_back (slice_get s.posts s.returned) h s) hs

-- of the buffers that come back, the oldest first, those that did from old to new
abbrev pub back_since : Outgoing → Outgoing → List Held → List Held
back_since old new hs = take (new.returned - old.returned) hs

-- No buffer of a posted send is at home. So it is where no instance is added a second time.
abbrev pub AreAllAway : Outgoing → Type 0
AreAllAway s = All (λ (post : Post). home_by s post.who post.buffer ≡ None) (posted_in s)

-- the items of one return
abbrev pub return_items : Bool → Post → List Item
return_items opened post = Returned post.number
    ∷ (if opened then Home post.who post.buffer ∷ [] else [])

-- those of the oldest post that did not come back
abbrev pub items_for : Outgoing → Option Post → List Item
items_for s None = []
items_for s (Some post) = return_items (is_open s post.who) post

abbrev pub returned_of : Outgoing → List Item
returned_of s = items_for s (slice_get s.posts s.returned)

-- among those sends is the one that was posted, and its sender has ended or is open
pub record IsSendOf (ended : Instance → Bool) (sends : List Send) (s : Outgoing)
    (post : Post) : Type 0 where
  pub send : (x : Send) × (send_at sends post.number ≡ Some x) × (x.who ≡ post.who)
      × (x.buffer ≡ post.buffer)
  pub gone : ended post.who ≡ not (is_open s post.who)

-- Only these buffers may have other bytes, and all else is as it was.
pub record AreFilled (held : List Held) (old new : Memory) : Type 0 where
  pub rings : (ring : Ring) (slot : ℕ) → slot < room_slots
      → slot_at new ring slot ≡ slot_at old ring slot
  pub others : (p : Place) → IsPlaceIn (length old) p → has_place held p ≡ false
      → buffer_at new p ≡ buffer_at old p
  pub lent : (p : Place) → is_lent_at new p ≡ is_lent_at old p
  pub areas : length new ≡ length old

-- A bell leaves all places of names, and all bytes.
pub record IsServed (pool pool' : Names) (mem mem' : Memory) : Type 0 where
  pub places : (name : Name) → place_of pool' name ≡ place_of pool name
  pub pool_areas : length pool' ≡ length pool
  pub bytes : (from n : ℕ) → bytes_at mem' from n ≡ bytes_at mem from n
  pub buffers : (p : Place) → IsPlaceIn (length mem) p → buffer_at mem' p ≡ buffer_at mem p
  pub kept : (p : Place) → IsKept mem p → IsKept mem' p
  pub areas : length mem' ≡ length mem
