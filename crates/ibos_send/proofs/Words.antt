-- The words of the definitions that the proofs speak of.
pub use Rattle.ibos_kinds.specs.declared.names.Instance.{Instance}
pub use Rattle.ibos_kinds.specs.Limits.{IsNamed}
pub use Rattle.ibos_kinds.specs.Parties.{same}
pub use Rattle.ibos_pool.specs.declared.name.Name.{Name}
pub use Rattle.ibos_pool.specs.declared.name.Ring.{Ring}
pub use Rattle.ibos_pool.specs.declared.name.Ring.TheVariants.{Receive, Transmit}
pub use Rattle.ibos_pool.specs.declared.place.Place.{Place}
pub use Rattle.ibos_pool.specs.Hands.{AreAtHand, has_name, has_place}
pub use Rattle.ibos_pool.specs.Memory.{IsKept, IsLent, IsMarked, IsWritten, Memory, buffer_at, bytes_at, is_lent_at, slot_at}
pub use Rattle.ibos_pool.specs.Names.{Held, IsClaimed, IsLoanOf, IsNameIn, IsOneToOne, Names, home_of, is_taken, place_of, same_name}
pub use Rattle.ibos_pool.specs.Places.{IsApart, IsInside, IsPlaceIn, address_of, ring_base, same_place, slot_address}
pub use Rattle.ibos_pool.specs.Sizes.{buffer_bytes, descriptor_bytes, ring_room, room_slots}
pub use Rattle.ibos_send.specs.declared.sending.Post.{Post}
pub use Rattle.ibos_send.specs.declared.sending.Waiting.{Waiting}
pub use Rattle.ibos_send.specs.Buffers.{AreFreshIn, AreHeld, AreReturned, Homes, IsFresh, Table, buffer_in, bytes_of, gathered, has_home_place, held_at_home, held_of, home_at, home_in, home_place, homes_of, is_transmit_name, name_in, new_homes, size_of}
pub use Rattle.ibos_send.specs.Lists.{IsPost, IsSendList, IsWaiting, SendList, held_waiting, numbers_of, post_of, untold_in, with_post}
pub use Rattle.ibos_send.specs.Returns.{AreAllAway, AreFilled, IsSendOf, IsServed, after_returns, all_left, back_since, brought_by, brought_home, came_back, items_for, left_at, left_over, left_then, return_items, returned_of}
pub use Rattle.ibos_send.specs.Sends.{IsInRing, Outgoing, held_in, home_by, homes_by, is_open, posted_in}
unfoldable pub use Rattle.ibos_send.specs.Buffers.{homes_in}
