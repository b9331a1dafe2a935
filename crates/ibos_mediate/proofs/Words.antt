-- The words of the definitions that the proofs speak of.
pub use Rattle.circular_buffer.specs.Buffer.{Buffer}
pub use Rattle.ibos_kinds.specs.declared.bytes.Memory.{Memory as NoMemory}
pub use Rattle.ibos_kinds.specs.declared.names.Handle.{Handle}
pub use Rattle.ibos_kinds.specs.declared.names.Verdict.{Verdict}
pub use Rattle.ibos_kinds.specs.declared.names.Verdict.TheVariants.{Filtered, Heard, Missed}
pub use Rattle.ibos_kinds.specs.declared.rule.Rule.TheVariants.{M6}
pub use Rattle.ibos_mediate.specs.Changes.{after_writing, changed, ring_changed, written_in}
pub use Rattle.ibos_mediate.specs.Frames.{Arrival, after_bell, arrival_at, arrivals, handle_for, handle_of, outgoing_bytes, queue, received_bytes, received_frames, returns, taken_back, unsent_frames}
pub use Rattle.ibos_mediate.specs.Keeps.{HasArrived, HasTransmitted, HasWritten, IsClaimedFor, IsHeard, Keeps, SameNames, SameRegisters, back}
pub use Rattle.ibos_mediate.specs.Mediated.{IsBalanced, Mediated, RingView, ring_of, values_of, with_ring}
pub use Rattle.ibos_mediate.specs.Posts.{IsPosted, receive_buffer}
pub use Rattle.ibos_mediate.specs.Relation.{AreApart, AreOwned, AreUnheld, AreUnheldBut, IsAsPosted, IsAtDevice, IsDescribed, IsDescriptor, IsInMemory, IsLoanFor, IsOpen, IsRingInMemory, IsRingUpTo, IsUnheld, MediatesBut, address_in, completed, descriptor_at, descriptor_of, has_done, held_for, is_done, length_in, place_for, posted_tx, slot_of, value_of}
pub use Rattle.ibos_mediate.specs.States.{AreTurns, no_ring}
pub use Rattle.ibos_nic.specs.Bits.{done_bit, max_frame, overrun_cause, received_cause, transmitted_cause}
pub use Rattle.ibos_nic.specs.Descriptors.{FitsRx, FitsTx, rx_bytes, rx_of, tx_bytes, tx_of}
pub use Rattle.ibos_nic.specs.Device.{IsReceived, IsTransmitted, MayMoveTail, MayReceive, MayTransmit, OnHeard, OnSent, OnUnheard, OnUnsent, after_arrive, after_transmit, distance, frame_at, is_for_us, received, rx_at, transmitted, tx_at, verdict_of}
pub use Rattle.ibos_nic.specs.Parts.{part_of, reg_of}
pub use Rattle.ibos_nic.specs.Permits.{IsConfigured, IsDisabled, MayWritePart}
pub use Rattle.ibos_nic.specs.Registers.{Registers, after_missed, after_read, after_write, can_receive, can_transmit, descriptor_address, is_enabled, next_slot, offset_of, receive_head, reset, ring_size, same_reg, status, transmit_head, with_cause, with_reg}
pub use Rattle.ibos_nic.specs.Rings.{Completes, Posts, RingValues, Takes, Writes, rung_count}
pub use Rattle.ibos_nic.specs.Rules.{is_newest, part_rule, receive_name, receive_rule, rule_in, slot_rule, with_turn, write_rule_of}
pub use Rattle.ibos_nic.specs.declared.descriptor.RxDesc.{RxDesc}
pub use Rattle.ibos_nic.specs.declared.descriptor.TxDesc.{TxDesc}
pub use Rattle.ibos_nic.specs.declared.log.LogEntry.{LogEntry}
pub use Rattle.ibos_nic.specs.declared.log.LogEntry.TheVariants.{In}
pub use Rattle.ibos_nic.specs.declared.part.Part.{Part}
pub use Rattle.ibos_nic.specs.declared.part.Part.TheVariants.{Base, Control, Head, High, Length, Tail}
pub use Rattle.ibos_nic.specs.declared.part.RingPart.{RingPart}
pub use Rattle.ibos_nic.specs.declared.reg.Reg.{Reg}
pub use Rattle.ibos_nic.specs.declared.reg.Reg.TheVariants.{Icr, Imc, Ims, Mpc, Rah0, Ral0, Rctl, Rdbah, Rdbal, Rdh, Rdlen, Rdt, Status, Tctl, Tdbah, Tdbal, Tdh, Tdlen, Tdt}
pub use Rattle.ibos_pool.specs.Hands.{AreAtHand, AreAway, AreExchanged, AreGiven, has_name, no_buffer}
pub use Rattle.ibos_pool.specs.Memory.{IsKept, IsLent, IsMarked, IsWritten, Memory, buffer_at, bytes_at, is_lent_at, slot_at}
pub use Rattle.ibos_pool.specs.Names.{Held, IsClaimed, IsLoanOf, IsNameIn, IsOneToOne, Names, is_taken, place_of, same_name}
pub use Rattle.ibos_pool.specs.Places.{IsApart, IsInside, IsPlaceIn, address_of, buffers_of, ring_base, same_place, slot_address}
pub use Rattle.ibos_pool.specs.Sizes.{buffer_bytes, descriptor_bytes, max_areas, receive_buffers, ring_room, room_slots}
pub use Rattle.ibos_pool.specs.declared.name.Name.{Name}
pub use Rattle.ibos_pool.specs.declared.name.Ring.{Ring}
pub use Rattle.ibos_pool.specs.declared.name.Ring.TheVariants.{Receive, Transmit}
pub use Rattle.ibos_pool.specs.declared.place.Place.{Place}
pub use Rattle.std.specs.List.{list_any}
pub use Rattle.std.specs.Prelude.{Err, IfOk, IsFalse, IsTrue, Ok, Result, bit_and, bit_or, if◌then◌else◌, length, nat_lt, slice_index, slice_index_or}
unfoldable pub use Rattle.ibos_mediate.specs.Frames.{take_back}
