-- The words of the definitions that the proofs speak of.
pub use Rattle.ibos_kinds.specs.declared.names.Instance.{Instance}
pub use Rattle.ibos_kinds.specs.Limits.{IsNamed}
pub use Rattle.ibos_kinds.specs.Parties.{same}
pub use Rattle.ibos_pool.specs.declared.name.Name.{Name}
pub use Rattle.ibos_pool.specs.declared.name.Ring.{Ring}
pub use Rattle.ibos_pool.specs.declared.name.Ring.TheVariants.{Receive, Transmit}
pub use Rattle.ibos_pool.specs.declared.place.Place.{Place}
pub use Rattle.ibos_pool.specs.Hands.{AreAtHand, AreExchanged, has_name, has_place, no_buffer}
pub use Rattle.ibos_pool.specs.Memory.{IsKept, IsLent, IsMarked, IsWritten, Memory, buffer_at, bytes_at, is_lent_at, slot_at}
pub use Rattle.ibos_pool.specs.Names.{Held, IsClaimed, IsLoanOf, IsNameIn, IsOneToOne, Names, home_of, is_taken, place_of, same_name}
pub use Rattle.ibos_pool.specs.Places.{IsApart, IsInside, IsPlaceIn, address_of, ring_base, same_place, slot_address}
pub use Rattle.ibos_pool.specs.Sizes.{buffer_bytes, descriptor_bytes, ring_room, room_slots}
pub use Rattle.ibos_recv.specs.Inboxes.{AreFreshIn, AreHeld, AreReturned, Inbox, Inboxes, IsFresh, as_placed, buffer_in, bytes_in, frames_at, frames_from, frames_of, has_inbox_place, held_at, held_in, inbox_buffers, inbox_frames, inbox_place, is_inbox_name, name_in, new_inbox, unread_at, unread_of}
pub use Rattle.ibos_recv.specs.Rings.{IsInbox}
pub use Rattle.ibos_recv.specs.Serves.{IsPassed, IsServed, IsSpent, bell_over, landed, landing}
unfoldable pub use Rattle.ibos_recv.specs.Inboxes.{inbox_by}
