-- What a journal says of flows, frames and sends.
use Rattle.std.specs.Prelude.{ℕ, List, [], ◌∷◌, ◌++◌, Bool, ◌&&◌, length, filter, drop, take}
use Rattle.std.specs.Prelude.{slice_set}
use Rattle.std.specs.Prelude.{false, true, ◌==◌, not, nat_lt, map, Option, Some, None, unwrap_or}
use Rattle.std.specs.Prelude.{if◌then◌else◌}
use Rattle.std.specs.List.{list_any}
use Rattle.ibos_kinds.specs.declared.names.Endpoint.{Endpoint}
use Rattle.ibos_kinds.specs.declared.names.Instance.{Instance}
use Rattle.ibos_kinds.specs.declared.names.Proto.{Proto}
use Rattle.ibos_kinds.specs.declared.act.Act.{Act}
use Rattle.ibos_kinds.specs.declared.act.Act.TheVariants.{Bind, Unbind, Done, RxBell, WireIn}
use Rattle.ibos_kinds.specs.declared.act.Act.TheVariants.{Fill, Submit, TxBell}
use Rattle.ibos_kinds.specs.declared.outcome.Item.{Item}
use Rattle.ibos_kinds.specs.declared.outcome.Outcome.{Outcome}
use Rattle.ibos_kinds.specs.declared.party.Party.TheVariants.{Page}
use Rattle.ibos_kinds.specs.Bells.{bell, frames_in}
use Rattle.ibos_kinds.specs.Flows.{Bound}
use Rattle.ibos_kinds.specs.Parties.{is_by, is_to}
use Rattle.ibos_kinds.specs.Sends.{Send, fresh_buffer, homes_of, overlaid, send_at}
use Rattle.ibos_kinds.specs.Sends.{frame_of_send, returned_items}
use Rattle.ibos_origin.specs.Endpoints.{origin_endpoint}
use Rattle.ibos_origin.specs.Hosts.{HostTable}
use Rattle.ibos_model.specs.Journal.{Journal, if_heard, is_accepted}
use Rattle.ibos_model.specs.Rings.{Rings, handles_after, next_send, no_rings, outbound, rings_by}
use Rattle.ibos_model.specs.Tabs.{Tabs, Life, Unborn, Alive, Gone, life_in, origin_in}

-- The flows, unread frames and buffers of an instance stay what they were when it ended. They are
-- asked for while it lives, and not after.
pub record Network : Type 0 where
  -- the flows that an instance bound, with the protocol of each that is open
  pub flows : Instance → List (Option Proto)
  -- the frames that bells gave an instance, in order, without those that it is done with
  pub unread : Instance → List (List ℕ)
  -- the frames heard since the last receive bell, in order
  pub pending : List (List ℕ)
  pub rings : Rings
  -- what stands in an instance's transmit buffers by its fills, and which of them are away: from
  -- the submit that was accepted until the bell that returns it
  pub buffers : Instance → ℕ → List ℕ
  pub away : Instance → ℕ → Bool
  -- the sends that were accepted, in order
  pub sends : List Send

abbrev pub no_network : Network
no_network = record {
  flows = λ p. [];
  unread = λ p. [];
  pending = [];
  rings = no_rings;
  buffers = λ p b. fresh_buffer;
  away = λ p b. false;
  sends = [];
}

-- own: it is an act of the instance
abbrev pub flows_by : Bool → Bool → Act → List (Option Proto) → List (Option Proto)
flows_by own ok (Bind who proto) old = if own && ok then old ++ Some proto ∷ [] else old
flows_by own ok (Unbind who flow) old = if own && ok then slice_set old flow None else old
flows_by own ok other old = old

-- frames: those that the act's items give the instance
abbrev pub unread_by : Bool → Bool → Act → List (List ℕ) → List (List ℕ) → List (List ℕ)
unread_by own ok (Done who) frames old = if own && ok then drop 1 old else old
unread_by own ok RxBell frames old = if ok then old ++ frames else old
unread_by own ok other frames old = old

-- heard: the frame that the device wrote for the act
abbrev pub pending_by : Bool → Act → List (List ℕ) → List (List ℕ) → List (List ℕ)
pending_by ok RxBell heard old = if ok then [] else old
pending_by ok (WireIn frame) heard old = if ok then old ++ heard else old
pending_by ok other heard old = old

abbrev pub at_buffer : {A : Type 0} → ℕ → A → (ℕ → A) → ℕ → A
at_buffer buffer x f b = if buffer == b then x else f b

abbrev pub buffers_by : Bool → Bool → Act → (ℕ → List ℕ) → ℕ → List ℕ
buffers_by own ok (Fill who buffer place bytes) old = if own && ok
    then at_buffer buffer (overlaid place bytes (old buffer)) old else old
buffers_by own ok other old = old

-- these buffers are at home again
abbrev pub homed : List ℕ → (ℕ → Bool) → ℕ → Bool
homed [] away = away
homed (buffer ∷ buffers) away = homed buffers (at_buffer buffer false away)

-- homes: the instance's buffers that the bell returns
abbrev pub away_by : Bool → Bool → Act → List ℕ → (ℕ → Bool) → ℕ → Bool
away_by own ok (Submit who buffer len) homes old = if own && ok then at_buffer buffer true old
    else old
away_by own ok TxBell homes old = if ok then homed homes old else old
away_by own ok other homes old = old

abbrev pub sends_by : Bool → Act → (Instance → ℕ → List ℕ) → List Send → List Send
sends_by ok (Submit who buffer len) buffers old = if ok then old ++ record {
  who = who;
  buffer = buffer;
  bytes = take len (buffers who buffer);
} ∷ [] else old
sends_by ok other buffers old = old

abbrev pub network_by : Bool → Act → Outcome → List ℕ → Network → Network
network_by ok act outcome written n = record {
  flows = λ p. flows_by (is_by (Page p) act) ok act (n.flows p);
  unread = λ p. unread_by (is_by (Page p) act) ok act
      (frames_in (filter (is_to (Page p)) outcome.items)) (n.unread p);
  pending = pending_by ok act (if_heard outcome written) n.pending;
  rings = rings_by ok act outcome.items n.rings;
  buffers = λ p. buffers_by (is_by (Page p) act) ok act (n.buffers p);
  away = λ p. away_by (is_by (Page p) act) ok act (homes_of p n.sends (outbound n.rings))
      (n.away p);
  sends = sends_by ok act n.buffers n.sends;
}

-- flows, frames, rings and sends after a journal
unfoldable pub network : Journal → Network
network [] = no_network
network (e ∷ J) = network_by (is_accepted e) e.act e.outcome e.written (network J)

-- ---- what an instance hears by

-- where the origin is; each page that is opened has an endpoint
abbrev pub no_endpoint : Endpoint
no_endpoint = record { addr = 0; port = 0 }

abbrev pub endpoint_for : HostTable → List ℕ → Endpoint
endpoint_for H origin = unwrap_or (origin_endpoint H origin) no_endpoint

abbrev pub bound_to : Endpoint → List (Option Proto) → Bound
bound_to remote flows = record { remote = remote; flows = flows }

-- an instance hears while it lives
abbrev pub ear_with : Life → Endpoint → List (Option Proto) → Option Bound
ear_with Unborn remote flows = None
ear_with Alive remote flows = Some (bound_to remote flows)
ear_with Gone remote flows = None

abbrev pub ear_in : HostTable → Tabs → Network → Instance → Option Bound
ear_in H t n p = ear_with (life_in t p) (endpoint_for H (origin_in t p)) (n.flows p)

abbrev pub unread_count : Network → Instance → ℕ
unread_count n p = length (n.unread p)

-- the items of a receive bell
abbrev pub bell_items : HostTable → Tabs → Network → List Item
bell_items H t n = bell H.local (ear_in H t n) (unread_count n) (handles_after n.rings) n.pending

-- ---- what is sent

-- whether a life is over
abbrev pub is_over : Life → Bool
is_over Gone = true
is_over other = false

abbrev pub over_in : Tabs → Instance → Bool
over_in t p = is_over (life_in t p)

-- a send with that number was accepted, and it was not posted
abbrev pub waits : Network → ℕ → Bool
waits n send = nat_lt send (length n.sends) && not (list_any (λ k. k == send) n.rings.posts)

-- the items of a transmit bell; an instance that sent something has started
abbrev pub return_items : (Instance → Bool) → Network → List Item
return_items ended n = returned_items ended n.sends (outbound n.rings)

-- the frame that goes out next, if one does
abbrev pub next_frame : Network → List ℕ
next_frame n = frame_of_send (send_at n.sends (next_send n.rings))

-- the frames that went out: those of the sends that were posted first
abbrev pub sent_frames : Network → List (List ℕ)
sent_frames n = map (λ k. frame_of_send (send_at n.sends k)) (take n.rings.sent n.rings.posts)
