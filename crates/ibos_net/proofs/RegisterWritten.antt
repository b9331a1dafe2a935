-- A write of a register: what is kept of the rings, and the registers that are part of none.
use Rattle.std.proofs.Common.{refl, sym, ◌∙◌, ap, subst}
use Rattle.ibos_mediate.specs.Frames.{unsent_frames}
use Rattle.ibos_net.proofs.SendsLeft.{SendsLeft, counts-moved, left-buffers, left-same, unsent-moved}
use Rattle.ibos_net.proofs.Words.{denied, AreOwned, AreUnheld, Outgoing, ring_of, ℕ, ◌≡◌, List, [], Option, None, Some, IfSome, IsInMemory, IsAtDevice, Local, Mediated, Memory, Network, Rings, RingsStand, RingView, Registers, Receive, Transmit, Ring, Part, Base, High, Length, HeadPart, Tail, Control, RingPart, Reg, Ctrl, Icr, Imc, Ims, Mpc, Rah0, Ral0, Status, Writes, HasWritten, bit_and, bit_or, bit_not, w32, completed, received_frames, ring_changed, changed, written_in, written_to, with_values, values_in, values_of, values_written, RingValues, part_of, reg_at, rule_in, write_rule, write_rule_of, after_writing, Life, Instance, Endpoint, NetStands, NetMakes, NetState, AreRegisters, IsSafe, RegWrite, accepted, answer, LogEntry}
use Rattle.ibos_nic.specs.Rules.{of_reg, part_rule}
use Rattle.ibos_model.specs.Rings.{of_reg as change_of}
use Rattle.ibos_kinds.specs.declared.rule.Rule.TheVariants.{M1}
use Rattle.ibos_kinds.specs.declared.rule.Rule.{Rule}
use Rattle.ibos_net.proofs.AtDevice.{AreOthers, from-device, others-of}

completed-written : (ring : Ring) (mem : Memory) (r : RingView) (part : Part) (value : ℕ) → completed ring mem (ring_changed r (Writes part value)) ≡ completed ring mem r
completed-written ring mem r Base value = refl
completed-written ring mem r High value = refl
completed-written ring mem r Length value = refl
completed-written ring mem r HeadPart value = refl
completed-written ring mem r Tail value = refl
completed-written ring mem r Control value = refl

received-written : (mem : Memory) (r : RingView) (part : Part) (value : ℕ) → received_frames mem (ring_changed r (Writes part value)) ≡ received_frames mem r
received-written mem r Base value = refl
received-written mem r High value = refl
received-written mem r Length value = refl
received-written mem r HeadPart value = refl
received-written mem r Tail value = refl
received-written mem r Control value = refl

posted-written : (v : RingValues) (part : Part) (value : ℕ) → (values_written part value v).posted ≡ v.posted
posted-written v Base value = refl
posted-written v High value = refl
posted-written v Length value = refl
posted-written v HeadPart value = refl
posted-written v Tail value = refl
posted-written v Control value = refl

rings-part : (rings : Rings) (frames : List (List ℕ)) (m : Mediated) (mem : Memory) (ring : Ring) (part : Part) (value : ℕ) → RingsStand rings frames m mem
    → RingsStand (with_values ring (values_written part value (values_in rings ring)) rings) frames (changed ring (Writes part value) m) mem
rings-part rings frames m mem Receive part value s = record {
  receive = ap (values_written part value) s.receive;
  transmit = s.transmit;
  names = s.names;
  turns = s.turns;
  heard = s.heard ∙ sym (completed-written Receive mem m.receive part value);
  pending = s.pending ∙ sym (received-written mem m.receive part value);
  sent = s.sent;
}
rings-part rings frames m mem Transmit part value s = record {
  receive = s.receive;
  transmit = ap (values_written part value) s.transmit;
  names = s.names;
  turns = s.turns;
  heard = s.heard;
  pending = s.pending;
  sent = s.sent ∙ sym (completed-written Transmit mem m.transmit part value);
}

pub rings-written : (rings : Rings) (frames : List (List ℕ)) (m : Mediated) (mem : Memory) (reg : Reg) (part : Option RingPart) (value : ℕ) → RingsStand rings frames m mem
    → RingsStand (written_to reg part value rings) frames (written_in part value m) mem
rings-written rings frames m mem reg None value s = record { receive = s.receive; transmit = s.transmit; names = s.names; turns = s.turns; heard = s.heard; pending = s.pending; sent = s.sent }
rings-written rings frames m mem reg (Some p) value s = rings-part rings frames m mem p.ring p.part value s

-- of the others the mask alone may be written
pub others-written : (local : Local) (rings : Rings) (regs regs' : Registers) (values : Ring → RingValues) (reg : Reg) (value : ℕ) → write_rule_of values reg value ≡ None
    → HasWritten reg value regs regs' → AreOthers local rings regs → AreOthers local (written_to reg (part_of reg) value rings) regs'
others-written local rings regs regs' values Ctrl value none each o = cc
others-written local rings regs regs' values Status value none each o = cc
others-written local rings regs regs' values Icr value none each o = cc
others-written local rings regs regs' values Mpc value none each o = cc
others-written local rings regs regs' values Ral0 value none each o = cc
others-written local rings regs regs' values Rah0 value none each o = cc
others-written local rings regs regs' values Ims value none each o = record {
  ctrl = each Ctrl ∙ o.ctrl;
  status = each Status ∙ o.status;
  icr = each Icr ∙ o.icr;
  ims = each Ims ∙ ap (λ x. bit_or x value) o.ims;
  imc = each Imc ∙ o.imc;
  mpc = each Mpc ∙ o.mpc;
  ral0 = each Ral0 ∙ o.ral0;
  rah0 = each Rah0 ∙ o.rah0;
}
others-written local rings regs regs' values Imc value none each o = record {
  ctrl = each Ctrl ∙ o.ctrl;
  status = each Status ∙ o.status;
  icr = each Icr ∙ o.icr;
  ims = each Ims ∙ ap (λ x. bit_and x (bit_not w32 value)) o.ims;
  imc = each Imc ∙ o.imc;
  mpc = each Mpc ∙ o.mpc;
  ral0 = each Ral0 ∙ o.ral0;
  rah0 = each Rah0 ∙ o.rah0;
}
others-written local rings regs regs' values other value none each o = record {
  ctrl = each Ctrl ∙ o.ctrl;
  status = each Status ∙ o.status;
  icr = each Icr ∙ o.icr;
  ims = each Ims ∙ o.ims;
  imc = each Imc ∙ o.imc;
  mpc = each Mpc ∙ o.mpc;
  ral0 = each Ral0 ∙ o.ral0;
  rah0 = each Rah0 ∙ o.rah0;
}

-- the rule of a write is asked of plain values
rule_in-agrees : (values values' : Ring → RingValues) → ((ring : Ring) → values' ring ≡ values ring) → (reg : Reg) (part : Option RingPart) (value : ℕ) → rule_in values' reg part value ≡ rule_in values reg part value
rule_in-agrees values values' same reg None value = refl
rule_in-agrees values values' same reg (Some p) value = ap (λ v. part_rule p.ring v p.part value) (same p.ring)

of_reg-agrees : (found : Option Reg) (f g : Reg → Option Rule) (otherwise : Rule) → ((reg : Reg) → g reg ≡ f reg) → of_reg found g otherwise ≡ of_reg found f otherwise
of_reg-agrees None f g otherwise same = refl
of_reg-agrees (Some reg) f g otherwise same = same reg

write_rule-agrees : (values values' : Ring → RingValues) → ((ring : Ring) → values' ring ≡ values ring) → (offset value : ℕ) → write_rule values' offset value ≡ write_rule values offset value
write_rule-agrees values values' same offset value = of_reg-agrees (reg_at offset) (λ reg. write_rule_of values reg value) (λ reg. write_rule_of values' reg value) _ (λ reg. rule_in-agrees values values' same reg (part_of reg) value)

values-same : (rings : Rings) (frames : List (List ℕ)) (m : Mediated) (mem : Memory) → RingsStand rings frames m mem → (ring : Ring) → values_in rings ring ≡ values_of m ring
values-same rings frames m mem s Receive = s.receive
values-same rings frames m mem s Transmit = s.transmit

-- the outcome's rule is the mediator's
pub rule-same : (rings : Rings) (frames : List (List ℕ)) (m : Mediated) (mem : Memory) → RingsStand rings frames m mem → (offset value : ℕ) → write_rule (values_in rings) offset value ≡ write_rule (values_of m) offset value
rule-same rings frames m mem s offset value = write_rule-agrees (values_of m) (values_in rings) (values-same rings frames m mem s) offset value

abbrev pub with_med : Mediated → NetState → NetState
with_med m t = record t { med = m }

-- posts and sends stay
values-posts : (ring : Ring) (v : RingValues) (rings : Rings) → (with_values ring v rings).posts ≡ rings.posts
values-posts Receive v rings = refl
values-posts Transmit v rings = refl

values-sent : (ring : Ring) (v : RingValues) (rings : Rings) → (with_values ring v rings).sent ≡ rings.sent
values-sent Receive v rings = refl
values-sent Transmit v rings = refl

written-posts : (rings : Rings) (reg : Reg) (part : Option RingPart) (value : ℕ) → (written_to reg part value rings).posts ≡ rings.posts
written-posts rings reg None value = refl
written-posts rings reg (Some p) value = values-posts p.ring (values_written p.part value (values_in rings p.ring)) rings

written-sent : (rings : Rings) (reg : Reg) (part : Option RingPart) (value : ℕ) → (written_to reg part value rings).sent ≡ rings.sent
written-sent rings reg None value = refl
written-sent rings reg (Some p) value = values-sent p.ring (values_written p.part value (values_in rings p.ring)) rings

taken-written : (v : RingValues) (part : Part) (value : ℕ) → (values_written part value v).taken ≡ v.taken
taken-written v Base value = refl
taken-written v High value = refl
taken-written v Length value = refl
taken-written v HeadPart value = refl
taken-written v Tail value = refl
taken-written v Control value = refl

left-ring : (ring : Ring) (part : Part) (value : ℕ) (m : Mediated) (mem : Memory) (s : Outgoing) → unsent_frames mem (changed ring (Writes part value) m).transmit ≡ unsent_frames mem m.transmit → SendsLeft m (changed ring (Writes part value) m) mem mem s
left-ring Receive part value m mem s unsent = record { held = refl; done = refl; unsent = unsent; home = λ p there. refl; lent = λ p there. refl; posts = λ posts. record { posted = posts.posted; taken = posts.taken } }
left-ring Transmit part value m mem s unsent = record {
  held = refl;
  done = completed-written Transmit mem m.transmit part value;
  unsent = unsent;
  home = λ p there. refl;
  lent = λ p there. refl;
  posts = λ posts. record { posted = posted-written m.transmit.values part value ∙ posts.posted; taken = taken-written m.transmit.values part value ∙ posts.taken };
}

left-part : (part : Option RingPart) (value : ℕ) (m : Mediated) (mem : Memory) (s : Outgoing) → unsent_frames mem (written_in part value m).transmit ≡ unsent_frames mem m.transmit → SendsLeft m (written_in part value m) mem mem s
left-part None value m mem s unsent = left-same m mem mem s refl
left-part (Some p) value m mem s unsent = left-ring p.ring p.part value m mem s unsent

pub left-written : (offset value : ℕ) (found : Option Reg) (m m' : Mediated) (mem : Memory) (s : Outgoing) → ((mm : Mediated) (x : Memory) (reg : Reg) (v : ℕ) → unsent_frames x (after_writing reg v mm).transmit ≡ unsent_frames x mm.transmit)
    → of_reg found (λ reg. write_rule_of (values_of m) reg value) M1 ≡ None → IfSome found (λ reg. m' ≡ after_writing reg value m) → SendsLeft m m' mem mem s
left-written offset value None m m' mem s law none after = cc
left-written offset value (Some reg) m m' mem s law none after = subst (λ x. SendsLeft m x mem mem s) (sym after) (left-part (part_of reg) value m mem s (law m mem reg value))

-- a write that is refused
pub refused-serves : (local : Local) (life : Instance → Life) (remote : Instance → Endpoint) (n : Network) (t : NetState) (regs : Registers) (log : List LogEntry) (offset value : ℕ) (rule : Rule)
    → NetStands life remote n t → AreRegisters local n regs → write_rule (values_of t.med) offset value ≡ Some rule → NetMakes local life remote n (RegWrite offset value) (denied rule) t regs log log
refused-serves local life remote n t regs log offset value rule s each breaks = record {
  outcome = sym (ap answer (rule-same n.rings n.pending t.med t.mem s.rings offset value ∙ breaks));
  stands = s;
  registers = each;
  log = refl;
}

-- the whole is safe
pub written-safe : (t : NetState) (m' : Mediated) → IsSafe t → IsInMemory m' t.mem → ((ring : Ring) → AreOwned ring (ring_of m' ring) t.names) → AreUnheld m' t.names t.mem → SendsLeft t.med m' t.mem t.mem t.sends → IsSafe (with_med m' t)
written-safe t m' safe memory owned unheld left = record {
  memory = memory;
  owned = owned;
  unheld = unheld;
  hands = safe.hands;
  beside = safe.beside;
  sending = safe.sending;
  posts = left.posts safe.posts;
  told = safe.told ∙ sym left.done;
}

written-reg : (local : Local) (life : Instance → Life) (remote : Instance → Endpoint) (n : Network) (t : NetState) (m' : Mediated) (regs regs' : Registers) (log : List LogEntry) (offset value : ℕ) (found : Option Reg)
    → reg_at offset ≡ found → IsSafe t → NetStands life remote n t → AreRegisters local n regs
    → of_reg found (λ reg. write_rule_of (values_of t.med) reg value) M1 ≡ None → IfSome found (λ reg. m' ≡ after_writing reg value t.med) → IfSome found (λ reg. HasWritten reg value regs regs')
    → IsInMemory m' t.mem → IsAtDevice m' t.mem regs' → SendsLeft t.med m' t.mem t.mem t.sends → NetMakes local life remote n (RegWrite offset value) (accepted []) (with_med m' t) regs' log log
written-reg local life remote n t m' regs regs' log offset value None is safe s each none after has memory at left = cc
written-reg local life remote n t m' regs regs' log offset value (Some reg) is safe s each none after has memory at left =
    let rings : Option Reg → Rings = λ f. change_of f (λ reg. written_to reg (part_of reg) value n.rings) n.rings in
    let stand : RingsStand (rings (Some reg)) n.pending m' t.mem = subst (λ m. RingsStand (rings (Some reg)) n.pending m t.mem) (sym after) (rings-written n.rings n.pending t.med t.mem reg (part_of reg) value s.rings) in
    let stand' : RingsStand (rings (reg_at offset)) n.pending m' t.mem = subst (λ f. RingsStand (rings f) n.pending m' t.mem) (sym is) stand in
    let posts-kept : (rings (reg_at offset)).posts ≡ n.rings.posts = subst (λ f. (rings f).posts ≡ n.rings.posts) (sym is) (written-posts n.rings reg (part_of reg) value) in
    let sent-kept : (rings (reg_at offset)).sent ≡ n.rings.sent = subst (λ f. (rings f).sent ≡ n.rings.sent) (sym is) (written-sent n.rings reg (part_of reg) value) in
    let others : AreOthers local (rings (Some reg)) regs' = others-written local n.rings regs regs' (values_of t.med) reg value none has (others-of local n.rings regs each) in
    let others' : AreOthers local (rings (reg_at offset)) regs' = subst (λ f. AreOthers local (rings f) regs') (sym is) others in
    record {
      outcome = sym (ap answer (rule-same n.rings n.pending t.med t.mem s.rings offset value ∙ ap (λ f. of_reg f (λ reg. write_rule_of (values_of t.med) reg value) M1) is ∙ none));
      stands = record {
        rings = stand';
        ears = s.ears;
        unread = s.unread;
        closed = s.closed;
        unsending = s.unsending;
        counts = counts-moved n (record n { rings = rings (reg_at offset) }) t.sends refl posts-kept sent-kept s.counts;
        buffers = left-buffers t.med m' t.mem t.mem t.sends life n left s.buffers;
        unsent = left.unsent ∙ s.unsent ∙ sym (unsent-moved n (record n { rings = rings (reg_at offset) }) refl posts-kept sent-kept);
        areas = s.areas;
      };
      registers = from-device local (rings (reg_at offset)) n.pending m' t.mem regs' stand' memory at others';
      log = refl;
    }

pub written-serves : (local : Local) (life : Instance → Life) (remote : Instance → Endpoint) (n : Network) (t : NetState) (m' : Mediated) (regs regs' : Registers) (log : List LogEntry) (offset value : ℕ)
    → IsSafe t → NetStands life remote n t → AreRegisters local n regs
    → write_rule (values_of t.med) offset value ≡ None → IfSome (reg_at offset) (λ reg. m' ≡ after_writing reg value t.med) → IfSome (reg_at offset) (λ reg. HasWritten reg value regs regs')
    → IsInMemory m' t.mem → IsAtDevice m' t.mem regs' → SendsLeft t.med m' t.mem t.mem t.sends → NetMakes local life remote n (RegWrite offset value) (accepted []) (with_med m' t) regs' log log
written-serves local life remote n t m' regs regs' log offset value = written-reg local life remote n t m' regs regs' log offset value (reg_at offset) refl
