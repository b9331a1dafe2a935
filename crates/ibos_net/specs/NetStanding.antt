-- A net half that stands for what a journal says of flows, frames, rings and sends.
use Rattle.std.specs.Prelude.{ℕ, ◌≡◌, ◌≢◌, ◌+◌, Bool, true, false, List, [], ◌∷◌, ◌++◌, length}
use Rattle.std.specs.Prelude.{None}
use Rattle.ibos_kinds.specs.declared.act.Act.{Act}
use Rattle.ibos_kinds.specs.declared.act.Act.TheVariants.{Bind, Unbind, Done, RegRead, RegWrite}
use Rattle.ibos_kinds.specs.declared.act.Act.TheVariants.{RxPost, RxBell, WireIn}
use Rattle.ibos_kinds.specs.declared.act.Act.TheVariants.{Fill, Submit, TxPost, TxBell, WireOut}
use Rattle.ibos_kinds.specs.declared.names.Endpoint.{Endpoint}
use Rattle.ibos_kinds.specs.declared.names.Instance.{Instance}
use Rattle.ibos_kinds.specs.declared.names.Local.{Local}
use Rattle.ibos_kinds.specs.declared.outcome.Item.TheVariants.{VerdictIs}
use Rattle.ibos_kinds.specs.declared.outcome.Outcome.{Outcome}
use Rattle.ibos_kinds.specs.Bells.{at, bell}
use Rattle.ibos_kinds.specs.Sends.{fresh_buffer}
use Rattle.ibos_pool.specs.declared.name.Ring.{Ring}
use Rattle.ibos_pool.specs.declared.name.Ring.TheVariants.{Receive, Transmit}
use Rattle.ibos_pool.specs.Hands.{AreAtHand}
use Rattle.ibos_pool.specs.Memory.{Memory}
use Rattle.ibos_pool.specs.Names.{Held, Names}
use Rattle.ibos_nic.specs.declared.log.LogEntry.{LogEntry}
use Rattle.ibos_nic.specs.declared.reg.Reg.{Reg}
use Rattle.ibos_nic.specs.Registers.{Registers}
use Rattle.ibos_nic.specs.Rules.{write_rule}
use Rattle.ibos_mediate.specs.Frames.{received_frames, unsent_frames}
use Rattle.ibos_mediate.specs.Mediated.{Mediated, names_of, ring_of}
use Rattle.ibos_mediate.specs.Relation.{AreOwned, AreUnheld, IsInMemory, completed}
use Rattle.ibos_flow.specs.Flows.{Table, bound_by}
use Rattle.ibos_recv.specs.Inboxes.{Inboxes, frames_of, held_in, inbox_by}
use Rattle.ibos_send.specs.Sends.{Outgoing, IsInRing, count_of, homes_by, posted_in}
use Rattle.ibos_send.specs.Sends.{held_in as held_to_send}
use Rattle.ibos_model.specs.Journal.{frame_of, is_ok}
use Rattle.ibos_model.specs.Logs.{Loses, got_for, log_after}
use Rattle.ibos_model.specs.Network.{Network, bound_to, ear_with, is_over, network_by, next_frame}
use Rattle.ibos_model.specs.Network.{return_items, unread_count}
use Rattle.ibos_model.specs.Outcomes.{accepted, answer, bind_outcome, done_outcome, post_outcome}
use Rattle.ibos_model.specs.Outcomes.{fill_outcome, read_outcome, send_post_outcome}
use Rattle.ibos_model.specs.Outcomes.{submitted_outcome, unbind_outcome, wire_out_outcome}
use Rattle.ibos_model.specs.Rings.{Rings, handles_after, register, values_in, verdict_at}
use Rattle.ibos_model.specs.Tabs.{Life, Alive}
use Rattle.ibos_net.specs.SendsStanding.{BuffersStand, CountsStand, unsent_sends}

-- what the net half keeps: the mediator, the memory, the names of its buffers, the flows, the
-- inboxes and the sends
pub record NetState : Type 0 where
  pub med : Mediated
  pub mem : Memory
  pub names : Names
  pub flows : Table
  pub inboxes : Inboxes
  pub sends : Outgoing

-- area 0 and one for each instance that started
abbrev pub areas_of : NetState → ℕ
areas_of t = length t.mem

-- how many receive buffers were posted, and sends accepted and posted
abbrev pub posts_of : NetState → ℕ
posts_of t = t.med.receive.values.posted + t.med.transmit.values.posted + count_of t.sends

-- the buffers at hand: those of the inboxes, and those that are at home or wait to be posted
abbrev pub hands_of : NetState → List Held
hands_of t = held_in t.inboxes ++ held_to_send t.sends

-- What is so at all times, also once memory was wanted: each buffer is held by the device, by an
-- inbox, to be sent or by none; who hears has an inbox, and buffers to send from; and what was sent
-- was told.
pub record IsSafe (t : NetState) : Type 0 where
  pub memory : IsInMemory t.med t.mem
  pub owned : (ring : Ring) → AreOwned ring (ring_of t.med ring) t.names
  pub unheld : AreUnheld t.med t.names t.mem
  pub hands : AreAtHand t.names t.mem (hands_of t)
  pub beside : (p : Instance) → bound_by t.flows p ≢ None → inbox_by t.inboxes p ≢ None
  pub sending : (p : Instance) → bound_by t.flows p ≢ None → homes_by t.sends p ≢ None
  pub posts : IsInRing t.sends t.med
  pub told : t.sends.told ≡ completed Transmit t.mem t.med.transmit

-- The counts and names are the mediator's. What the device heard and sent is what it is done with,
-- and what is pending what it received since.
pub record RingsStand (rings : Rings) (frames : List (List ℕ)) (m : Mediated)
    (mem : Memory) : Type 0 where
  pub receive : rings.receive ≡ m.receive.values
  pub transmit : rings.transmit ≡ m.transmit.values
  pub names : rings.names ≡ names_of m.receive
  pub turns : rings.turns ≡ m.turns
  pub heard : rings.heard ≡ completed Receive mem m.receive
  pub pending : frames ≡ received_frames mem m.receive
  pub sent : rings.sent ≡ completed Transmit mem m.transmit

-- Whoever lives hears by the flows that it bound, its frames lie in its inbox, and it has buffers
-- to send from. No one else has flows, an inbox or buffers. What is to be sent are the frames of
-- the sends that were posted.
-- life: whether an instance lives; remote: where its origin is
pub record NetStands (life : Instance → Life) (remote : Instance → Endpoint) (n : Network)
    (t : NetState) : Type 0 where
  pub rings : RingsStand n.rings n.pending t.med t.mem
  pub ears : (p : Instance) → bound_by t.flows p ≡ ear_with (life p) (remote p) (n.flows p)
  pub unread : (p : Instance) → life p ≡ Alive → frames_of t.mem t.inboxes p ≡ n.unread p
  pub closed : (p : Instance) → bound_by t.flows p ≡ None → inbox_by t.inboxes p ≡ None
  pub unsending : (p : Instance) → bound_by t.flows p ≡ None → homes_by t.sends p ≡ None
  pub counts : CountsStand n t.sends
  pub buffers : BuffersStand life n.sends n.buffers n.away t.sends.homes t.sends.waiting
      (posted_in t.sends) t.med.transmit.held t.mem
  pub unsent : unsent_frames t.mem t.med.transmit ≡ unsent_sends n
  pub areas : length t.names ≡ length t.mem

-- an instance bound nothing and has no frame, and its buffers are zero and at home
pub record IsBare (n : Network) (p : Instance) : Type 0 where
  pub flows : n.flows p ≡ []
  pub unread : n.unread p ≡ []
  pub buffers : (buffer : ℕ) → n.buffers p buffer ≡ fresh_buffer
  pub home : (buffer : ℕ) → n.away p buffer ≡ false

-- the device's registers are those of the journal
abbrev pub AreRegisters : Local → Network → Registers → Type 0
AreRegisters local n regs = (r : Reg) → regs r ≡ register local n.rings r

-- the acts of the net half
abbrev pub is_net : Act → Bool
is_net (Bind who proto) = true
is_net (Unbind who flow) = true
is_net (Done who) = true
is_net (RegRead offset) = true
is_net (RegWrite offset value) = true
is_net (RxPost slot handle) = true
is_net RxBell = true
is_net (WireIn frame) = true
is_net (Fill who buffer place bytes) = true
is_net (Submit who buffer len) = true
is_net (TxPost slot send) = true
is_net TxBell = true
is_net WireOut = true
is_net other = false

-- those that take no memory
abbrev pub takes_none : Act → Bool
takes_none (Unbind who flow) = true
takes_none (Done who) = true
takes_none (RegWrite offset value) = true
takes_none (RxPost slot handle) = true
takes_none (Fill who buffer place bytes) = true
takes_none (TxPost slot send) = true
takes_none other = false

-- an instance that acts lives
abbrev pub IsWithLife : (Instance → Life) → Act → Type 0
IsWithLife life (Bind who proto) = life who ≡ Alive
IsWithLife life (Unbind who flow) = life who ≡ Alive
IsWithLife life (Done who) = life who ≡ Alive
IsWithLife life (Fill who buffer place bytes) = life who ≡ Alive
IsWithLife life (Submit who buffer len) = life who ≡ Alive
IsWithLife life other = Unit {0}

abbrev pub with_life : Instance → Life → (Instance → Life) → Instance → Life
with_life who x life = at who x life

abbrev pub with_remote : Instance → Endpoint → (Instance → Endpoint) → Instance → Endpoint
with_remote who x remote = at who x remote

-- the outcome of an act, by what the journal says
abbrev pub net_outcome : Local → (Instance → Life) → (Instance → Endpoint) → Network → Act → Outcome
net_outcome local life remote n (Bind who proto) =
    bind_outcome who (bound_to (remote who) (n.flows who))
net_outcome local life remote n (Unbind who flow) =
    unbind_outcome (bound_to (remote who) (n.flows who)) flow
net_outcome local life remote n (Done who) = done_outcome (n.unread who)
net_outcome local life remote n (RegRead offset) = read_outcome (register local n.rings) offset
net_outcome local life remote n (RegWrite offset value) =
    answer (write_rule (values_in n.rings) offset value)
net_outcome local life remote n (RxPost slot handle) = post_outcome n.rings slot handle
net_outcome local life remote n RxBell = accepted (bell local
    (λ p. ear_with (life p) (remote p) (n.flows p)) (unread_count n) (handles_after n.rings)
    n.pending)
net_outcome local life remote n (WireIn frame) =
    accepted (VerdictIs (verdict_at local n.rings frame) ∷ [])
net_outcome local life remote n (Fill who buffer place bytes) =
    fill_outcome (n.away who buffer) place bytes
net_outcome local life remote n (Submit who buffer len) = submitted_outcome local (length n.sends)
    who (bound_to (remote who) (n.flows who)) (n.away who buffer) len (n.buffers who buffer)
net_outcome local life remote n (TxPost slot send) = send_post_outcome n slot send
net_outcome local life remote n TxBell = accepted (return_items (λ p. is_over (life p)) n)
net_outcome local life remote n WireOut = wire_out_outcome n.rings
net_outcome local life remote n other = accepted []

-- what an act makes of the net half, the device's registers and its log
pub record NetMakes (local : Local) (life : Instance → Life) (remote : Instance → Endpoint)
    (n : Network) (act : Act) (o : Outcome) (t : NetState) (regs : Registers)
    (l l' : List LogEntry) : Type 0 where
  pub outcome : o ≡ net_outcome local life remote n act
  pub stands : NetStands life remote (network_by (is_ok o.head) act o (got_for o l') n) t
  pub registers : AreRegisters local (network_by (is_ok o.head) act o (got_for o l') n) regs
  pub log : l' ≡ log_after o (frame_of act) (got_for o l') (next_frame n) l

-- an act is served: whatever the net half and the registers stand for, they then stand for what the
-- act makes of it
abbrev pub Serves : Local → Act → Outcome → NetState → NetState → Registers → Registers
    → List LogEntry → List LogEntry → Type 0
Serves local act o t t' regs regs' log log' = (life : Instance → Life)
    (remote : Instance → Endpoint) (n : Network) → NetStands life remote n t
    → AreRegisters local n regs → IsWithLife life act
    → NetMakes local life remote n act o t' regs' log log'

-- the same of an act that ran out of memory
abbrev pub Leaves : Local → Act → NetState → Registers → List LogEntry → List LogEntry → Type 0
Leaves local act t regs log log' = (life : Instance → Life) (remote : Instance → Endpoint)
    (n : Network) → NetStands life remote n t → AreRegisters local n regs → IsWithLife life act
    → Loses (net_outcome local life remote n act) act (next_frame n) log log'
