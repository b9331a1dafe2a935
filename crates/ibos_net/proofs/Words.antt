-- The words of the definitions that the proofs speak of.
pub use Rattle.std.specs.Prelude.{ℕ, zero, suc, ◌≡◌, ◌≢◌, ◌+◌, ◌-◌, ◌*◌, ◌/◌, ◌%◌, ◌^◌, ◌<◌, ◌≤◌, ◌==◌, ◌&&◌, Bool, true, false, not, List, [], ◌∷◌, ◌++◌, length, map, filter, take, drop, slice_index, slice_index_or, slice_set, Option, Some, None, Result, Ok, Err, is_some, if◌then◌else◌, bit_and, bit_or, min, nat_lt, bytes_eq, IsTrue, IsFalse, IfOk, IfErr, IfSome, OnOk, OnErr}
pub use Rattle.std.specs.Int.{w32, bit_not, bytes_high_first}
pub use Rattle.std.specs.List.{range_with_len, list_any}
pub use Rattle.ibos_kinds.specs.declared.act.Act.{Act}
pub use Rattle.ibos_kinds.specs.declared.act.Act.TheVariants.{Bind, Unbind, Done, RegRead, RegWrite, RxPost, RxBell, WireIn}
pub use Rattle.ibos_kinds.specs.declared.bytes.Memory.{Memory as NoMemory}
pub use Rattle.ibos_kinds.specs.declared.names.Endpoint.{Endpoint}
pub use Rattle.ibos_kinds.specs.declared.names.Handle.{Handle}
pub use Rattle.ibos_kinds.specs.declared.names.Instance.{Instance}
pub use Rattle.ibos_kinds.specs.declared.names.Local.{Local}
pub use Rattle.ibos_kinds.specs.declared.names.Proto.{Proto}
pub use Rattle.ibos_kinds.specs.declared.names.Verdict.{Verdict}
pub use Rattle.ibos_kinds.specs.declared.names.Verdict.TheVariants.{Filtered, Heard, Missed}
pub use Rattle.ibos_kinds.specs.declared.outcome.Head.{Head}
pub use Rattle.ibos_kinds.specs.declared.outcome.Head.TheVariants.{Ok as Fine, Denied}
pub use Rattle.ibos_kinds.specs.declared.outcome.Item.{Item}
pub use Rattle.ibos_kinds.specs.declared.outcome.Item.TheVariants.{FlowIs, ValueIs, VerdictIs}
pub use Rattle.ibos_kinds.specs.declared.outcome.Outcome.{Outcome}
pub use Rattle.ibos_kinds.specs.declared.party.Party.TheVariants.{Page}
pub use Rattle.ibos_kinds.specs.declared.rule.Rule.{Rule}
pub use Rattle.ibos_kinds.specs.declared.rule.Rule.TheVariants.{N6}
pub use Rattle.ibos_kinds.specs.Flows.{Bound, bind_answer, close_answer, no_flows, with_flow, without_flow}
pub use Rattle.ibos_kinds.specs.Parties.{is_by, is_to, same}
pub use Rattle.ibos_pool.specs.declared.name.Name.{Name}
pub use Rattle.ibos_pool.specs.declared.name.Ring.{Ring}
pub use Rattle.ibos_pool.specs.declared.name.Ring.TheVariants.{Receive, Transmit}
pub use Rattle.ibos_pool.specs.declared.place.Place.{Place}
pub use Rattle.ibos_pool.specs.Hands.{AreAtHand, has_name, has_place, no_buffer}
pub use Rattle.ibos_pool.specs.Memory.{IsKept, IsLent, Memory, buffer_at, bytes_at, is_lent_at, slot_at}
pub use Rattle.ibos_pool.specs.Names.{Held, IsClaimed, IsLoanOf, IsNameIn, IsOneToOne, Names, is_taken, place_of, same_name}
pub use Rattle.ibos_pool.specs.Places.{IsApart, IsInside, IsPlaceIn, address_of, ring_base, slot_address}
pub use Rattle.ibos_pool.specs.Sizes.{buffer_bytes, descriptor_bytes, max_areas, receive_buffers, ring_room, room_slots}
pub use Rattle.ibos_nic.specs.declared.log.LogEntry.{LogEntry}
pub use Rattle.ibos_nic.specs.declared.log.LogEntry.TheVariants.{In}
pub use Rattle.ibos_nic.specs.declared.part.Part.{Part}
pub use Rattle.ibos_nic.specs.declared.part.Part.TheVariants.{Base, Control, Head as HeadPart, High, Length, Tail}
pub use Rattle.ibos_nic.specs.declared.part.RingPart.{RingPart}
pub use Rattle.ibos_nic.specs.declared.reg.Reg.{Reg}
pub use Rattle.ibos_nic.specs.declared.reg.Reg.TheVariants.{Ctrl, Icr, Imc, Ims, Mpc, Rah0, Ral0, Rctl, Rdbah, Rdbal, Rdh, Rdlen, Rdt, Status, Tctl, Tdbah, Tdbal, Tdh, Tdlen, Tdt}
pub use Rattle.ibos_nic.specs.Bits.{overrun_cause, received_cause}
pub use Rattle.ibos_nic.specs.Device.{IsReceived, after_arrive, is_for_us, is_let_in, own_address, verdict_of}
pub use Rattle.ibos_nic.specs.Parts.{part_of, reg_at, reg_of}
pub use Rattle.ibos_nic.specs.Registers.{Registers, after_read, after_write, can_receive, is_enabled, receive_head, reset, ring_size, with_reg}
pub use Rattle.ibos_nic.specs.Rings.{Posts, RingValues, Takes, Writes, values_written}
pub use Rattle.ibos_nic.specs.Rules.{receive_name, receive_rule, rule_in, with_turn, write_rule, write_rule_of}
pub use Rattle.ibos_mediate.specs.Changes.{after_writing, changed, ring_changed, written_in}
pub use Rattle.ibos_mediate.specs.Frames.{Arrival, after_bell, arrival_at, arrivals, handle_for, handle_of, queue, received_bytes, received_frames, taken_back}
pub use Rattle.ibos_mediate.specs.Keeps.{HasArrived, HasRead, HasWritten, IsClaimedFor, IsHeard, Keeps, SameNames, SameRegisters}
pub use Rattle.ibos_mediate.specs.Mediated.{IsBalanced, Mediated, RingView, names_of, ring_of, values_of}
pub use Rattle.ibos_mediate.specs.Posts.{IsPosted, receive_buffer}
pub use Rattle.ibos_mediate.specs.Relation.{AreOwned, AreUnheld, AreUnheldBut, IsAtDevice, IsInMemory, MediatesBut, completed, descriptor_at, held_for, slot_of, value_of}
pub use Rattle.ibos_mediate.specs.States.{no_ring}
pub use Rattle.ibos_flow.specs.Flows.{Table, bound_by}
pub use Rattle.ibos_recv.specs.Inboxes.{Inboxes, AreFreshIn, AreHeld, AreReturned, IsFresh, done_answer, frames_of, held_at, held_in, inbox_by, new_inbox, unread_of}
pub use Rattle.ibos_recv.specs.Serves.{IsServed, bell_over}
pub use Rattle.ibos_model.specs.Journal.{frame_of, is_heard, is_ok}
pub use Rattle.ibos_model.specs.Logs.{Loses, got_for, log_after, newest_in}
pub use Rattle.ibos_model.specs.Network.{Network, bound_to, ear_with, flows_by, network_by, no_network, unread_by, unread_count}
pub use Rattle.ibos_model.specs.Outcomes.{accepted, answer, bind_outcome, denied, done_outcome, post_outcome, read_outcome, unbind_outcome}
pub use Rattle.ibos_model.specs.Rings.{Rings, address_high, address_low, arrived, belled, belled_by, handle_after, handles_after, mac_byte, no_rings, posted, read_from, register, turns_after, values_in, verdict_at, with_values, written_to}
pub use Rattle.ibos_model.specs.Tabs.{Life, Unborn, Alive, Gone}
pub use Rattle.ibos_net.specs.NetStanding.{AreRegisters, IsSafe, IsWithLife, Leaves, NetMakes, NetStands, NetState, RingsStand, Serves, areas_of, net_outcome, posts_of, with_life, with_remote}
unfoldable pub use Rattle.ibos_mediate.specs.Frames.{take_back}
pub use Rattle.ibos_kinds.specs.Sends.{Send, fill_rule, fresh_buffer, frame_of_send, home_items, home_of, homes_of as homes_returned, overlaid, returned_items, send_at, submit_rule}
pub use Rattle.ibos_mediate.specs.Relation.{IsOpen, place_for}
pub use Rattle.ibos_send.specs.declared.sending.Post.{Post}
pub use Rattle.ibos_send.specs.declared.sending.Waiting.{Waiting}
pub use Rattle.ibos_send.specs.Buffers.{Homes, Table as HomeTable, bytes_of, gathered, has_home_place, held_of, home_at, home_place, homes_of, new_homes, size_of}
pub use Rattle.ibos_send.specs.Buffers.{home_in}
unfoldable pub use Rattle.ibos_send.specs.Buffers.{homes_in}
pub use Rattle.ibos_send.specs.Sends.{Outgoing, IsInRing, count_of, frame_in, held_waiting, home_by, homes_by, is_away, is_open, is_waiting, numbers_of, posted_in, untold_of, waiting_at, held_in as held_to_send}
pub use Rattle.ibos_net.specs.NetStanding.{IsBare, hands_of}
pub use Rattle.ibos_net.specs.SendsStanding.{ArePosted, BuffersStand, CountsStand, HoldsFor, IsPostedFor, IsWaitingFor, is_from, one_if, posted_from, unsent_sends, waiting_from}
pub use Rattle.ibos_model.specs.Network.{next_frame, waits}
