-- The counts of the rings stay in order.
use Rattle.std.proofs.Common.{◌≡◌, ◌≢◌, ℕ, ◌+◌, ◌-◌, ◌==◌, List, [], ◌∷◌, ◌++◌, Bool, true, false, not, ◌||◌, Option, Some, None, inl, inr, refl, sym, ◌∙◌, ap, subst, arith, length, append-nil, take}
use Rattle.std.specs.Prelude.{IsTrue, bit_and, if◌then◌else◌, ◌&&◌, slice_index}
use Rattle.std.specs.Option.{option_or}
use Rattle.std.specs.Int.{bytes_high_first}
use Rattle.std.proofs.lemmas.Bool.Decides.{nat_tests}
use Rattle.std.proofs.lemmas.List.{length-append, length-drop, length-set}
use Rattle.std.proofs.lemmas.Nat.{and_assoc}
use Rattle.ibos_kinds.specs.declared.act.Act.{Act}
use Rattle.ibos_kinds.specs.declared.act.Act.TheVariants.{RegRead, RegWrite, RxPost, RxBell, WireIn, TxPost, TxBell, WireOut}
use Rattle.ibos_kinds.specs.declared.names.Handle.{Handle}
use Rattle.ibos_kinds.specs.declared.names.Local.{Local}
use Rattle.ibos_kinds.specs.declared.names.Verdict.{Verdict}
use Rattle.ibos_kinds.specs.declared.names.Verdict.TheVariants.{Filtered, Missed, Heard}
use Rattle.ibos_kinds.specs.declared.outcome.Item.TheVariants.{Idle, SentIs, VerdictIs}
use Rattle.ibos_kinds.specs.declared.rule.Rule.{Rule}
use Rattle.ibos_kinds.specs.declared.rule.Rule.TheVariants.{M1}
use Rattle.ibos_pool.specs.declared.name.Name.{Name}
use Rattle.ibos_pool.specs.declared.name.Ring.{Ring}
use Rattle.ibos_pool.specs.declared.name.Ring.TheVariants.{Receive, Transmit}
use Rattle.ibos_nic.specs.declared.part.Part.{Part}
use Rattle.ibos_nic.specs.declared.part.Part.TheVariants.{Tail, Control}
use Rattle.ibos_nic.specs.declared.part.RingPart.{RingPart}
use Rattle.ibos_nic.specs.declared.reg.Reg.{Reg}
use Rattle.ibos_nic.specs.declared.reg.Reg.TheVariants.{Icr, Mpc}
use Rattle.ibos_nic.specs.Device.{is_let_in}
use Rattle.ibos_nic.specs.Parts.{part_of, reg_at}
use Rattle.ibos_nic.specs.Permits.{IsEnabling, MayPost, MayPostReceive, MayWrite, MayWriteIn, MayWritePart}
use Rattle.ibos_nic.specs.Registers.{is_enabled}
use Rattle.ibos_nic.specs.Rings.{RingValues, values_written}
use Rattle.ibos_nic.specs.Rules.{of_reg as of_reg_rule, receive_rule, slot_rule, transmit_rule, with_turn, write_rule, write_rule_of}
use Rattle.ibos_origin.specs.Hosts.{HostTable}
use Rattle.ibos_model.specs.Journal.{Entry, Journal, if_heard, is_ok}
use Rattle.ibos_model.specs.Laws.{AreOrdered, IsOrdered}
use Rattle.ibos_model.specs.Network.{network, waits}
use Rattle.ibos_model.specs.Outcomes.{accepted, answer, out}
use Rattle.ibos_model.specs.Rings.{Rings, arrived, belled, can_send, next_send, of_reg, posted, read_from, returned, send_posted, sent_by, sent_one, turns_after, values_in, verdict_at, with_values, written_to}
use Rattle.ibos_model.proofs.Entries.{as_entry, entry}

-- what ibos_nic says of its rules
abbrev pub WritesMay : Type 0
WritesMay = (values : Ring → RingValues) (reg : Reg) (value : ℕ) → write_rule_of values reg value ≡ None → MayWrite values reg value

abbrev pub PostsMay : Type 0
PostsMay = (v : RingValues) (names : List Name) (turns : List ℕ) (slot : ℕ) (handle : Handle) → receive_rule v names turns slot handle ≡ None → MayPostReceive v names turns slot handle

abbrev pub SlotsMay : Type 0
SlotsMay = (ring : Ring) (v : RingValues) (slot : ℕ) → slot_rule ring v slot ≡ None → MayPost ring v slot

-- a change where no rule is broken
unless_broken : (r s : Rings) (ws : List (List ℕ)) (rule : Option Rule) → (rule ≡ None → IsOrdered s ws) → IsOrdered r ws → IsOrdered (if is_ok (answer rule).head then s else r) ws
unless_broken r s ws None allowed is = allowed refl
unless_broken r s ws (Some rule) allowed is = is

-- ---- registers

-- other registers count nothing here
with_others : (r : Rings) (ws : List (List ℕ)) (mask causes missed : ℕ) → IsOrdered r ws → IsOrdered (record r { mask = mask; causes = causes; missed = missed }) ws
with_others r ws mask causes missed is = record { receive = is.receive; transmit = is.transmit; names = is.names; turns = is.turns; posts = is.posts; pending = is.pending }

read_ordered : (r : Rings) (ws : List (List ℕ)) (o : Option Reg) (ok : Bool) → IsOrdered r ws → IsOrdered (if ok then of_reg o (λ reg. read_from reg r) r else r) ws
read_ordered r ws o false is = is
read_ordered r ws None true is = is
read_ordered r ws (Some Icr) true is = with_others r ws r.mask 0 r.missed is
read_ordered r ws (Some Mpc) true is = with_others r ws r.mask r.causes 0 is
read_ordered r ws (Some other) true is = is

-- a value that enables a ring has EN
enabling_enables : (ring : Ring) (value : ℕ) → IsEnabling ring value → IsTrue (is_enabled value)
enabling_enables Receive value is = rw is refl
enabling_enables Transmit value is =
    let back : bit_and value 2 ≡ 2 = sym (and_assoc 2 value 0xffc0000f) ∙ ap (λ x. bit_and x 2) is in
    rw back refl

-- a control register that is written is that of a ring that was not enabled, or enables it
still_unused : (ring : Ring) (v : RingValues) (value count : ℕ) → MayWritePart ring v Control value → (is_enabled v.control ≡ false → count ≡ 0) → is_enabled value ≡ false → count ≡ 0
still_unused ring v value count (inl may) unused off = unused (grind (arith, may.1))
still_unused ring v value count (inr may) unused off = absurd (clash (sym (enabling_enables ring value may.0) ∙ off))
  where
    clash : true ≡ false → ⊥
    clash h = cc

part_written : (r : Rings) (ws : List (List ℕ)) (value : ℕ) (ring : Ring) (part : Part) → MayWritePart ring (values_in r ring) part value → IsOrdered r ws
    → IsOrdered (with_values ring (values_written part value (values_in r ring)) r) ws
part_written r ws value Receive Tail may is = record {
  receive = record { taken = is.receive.taken; passed = omega (arith, is.receive.passed); rung = may.2; posted = is.receive.posted; unused = is.receive.unused };
  transmit = is.transmit;
  names = is.names;
  turns = is.turns;
  posts = is.posts;
  pending = is.pending;
}
part_written r ws value Transmit Tail may is = record {
  receive = is.receive;
  transmit = record { taken = is.transmit.taken; passed = omega (arith, is.transmit.passed); rung = may.2; posted = is.transmit.posted; unused = is.transmit.unused };
  names = is.names;
  turns = is.turns;
  posts = is.posts;
  pending = is.pending;
}
part_written r ws value Receive Control may is = record {
  receive = record { taken = is.receive.taken; passed = is.receive.passed; rung = is.receive.rung; posted = is.receive.posted; unused = still_unused Receive r.receive value r.heard may is.receive.unused };
  transmit = is.transmit;
  names = is.names;
  turns = is.turns;
  posts = is.posts;
  pending = is.pending;
}
part_written r ws value Transmit Control may is = record {
  receive = is.receive;
  transmit = record { taken = is.transmit.taken; passed = is.transmit.passed; rung = is.transmit.rung; posted = is.transmit.posted; unused = still_unused Transmit r.transmit value r.sent may is.transmit.unused };
  names = is.names;
  turns = is.turns;
  posts = is.posts;
  pending = is.pending;
}
part_written r ws value Receive other may is = record {
  receive = record { taken = is.receive.taken; passed = is.receive.passed; rung = is.receive.rung; posted = is.receive.posted; unused = is.receive.unused };
  transmit = is.transmit;
  names = is.names;
  turns = is.turns;
  posts = is.posts;
  pending = is.pending;
}
part_written r ws value Transmit other may is = record {
  receive = is.receive;
  transmit = record { taken = is.transmit.taken; passed = is.transmit.passed; rung = is.transmit.rung; posted = is.transmit.posted; unused = is.transmit.unused };
  names = is.names;
  turns = is.turns;
  posts = is.posts;
  pending = is.pending;
}

written_ordered : (r : Rings) (ws : List (List ℕ)) (reg : Reg) (value : ℕ) (p : Option RingPart) → MayWriteIn (values_in r) reg p value → IsOrdered r ws → IsOrdered (written_to reg p value r) ws
written_ordered r ws reg value None may is = with_others r ws _ r.causes r.missed is
written_ordered r ws reg value (Some p) may is = part_written r ws value p.ring p.part may is

write_ordered : WritesMay → (r : Rings) (ws : List (List ℕ)) (value : ℕ) (o : Option Reg) → of_reg_rule o (λ reg. write_rule_of (values_in r) reg value) M1 ≡ None → IsOrdered r ws
    → IsOrdered (of_reg o (λ reg. written_to reg (part_of reg) value r) r) ws
write_ordered may r ws value None allowed is = is
write_ordered may r ws value (Some reg) allowed is = written_ordered r ws reg value (part_of reg) (may (values_in r) reg value allowed) is

-- ---- posts and bells

post_ordered : PostsMay → (r : Rings) (ws : List (List ℕ)) (slot : ℕ) (handle : Handle) → receive_rule r.receive r.names r.turns slot handle ≡ None → IsOrdered r ws → IsOrdered (posted handle r) ws
post_ordered may r ws slot handle allowed is =
    let room : r.receive.posted - r.receive.taken ≢ 63 = (may r.receive r.names r.turns slot handle allowed).post.room in
    record {
      receive = record {
        taken = is.receive.taken;
        passed = is.receive.passed;
        rung = omega (arith, is.receive.rung);
        posted = omega (arith, room, is.receive.posted);
        unused = is.receive.unused;
      };
      transmit = is.transmit;
      names = length-append r.names _ ∙ omega (arith, is.names, is.receive.taken, is.receive.passed, is.receive.rung);
      turns = is.turns;
      posts = is.posts;
      pending = is.pending;
    }

turns_stay : (names : List Name) (turns : List ℕ) → length (turns_after names turns) ≡ length turns
turns_stay [] turns = refl
turns_stay (name ∷ names) turns = turns_stay names (with_turn turns name.index) ∙ length-set turns name.index (slice_index turns name.index + 1)

bell_ordered : (r : Rings) (ws : List (List ℕ)) → IsOrdered r ws → IsOrdered (belled r) []
bell_ordered r ws is =
    let count = r.heard - r.receive.taken in
    record {
      receive = record {
        taken = omega (arith, is.receive.taken);
        passed = is.receive.passed;
        rung = is.receive.rung;
        posted = omega (arith, is.receive.posted);
        unused = is.receive.unused;
      };
      transmit = is.transmit;
      names = length-drop count r.names ∙ omega (arith, is.names, is.receive.taken, is.receive.passed, is.receive.rung);
      turns = turns_stay (take count r.names) r.turns ∙ is.turns;
      posts = is.posts;
      pending = omega (arith, is.receive.taken);
    }

-- ---- frames that come

missed_ordered : (r : Rings) (ws : List (List ℕ)) (enabled : Bool) (causes missed : ℕ) → IsOrdered r ws → IsOrdered (if enabled then record r { causes = causes; missed = missed } else r) ws
missed_ordered r ws true causes missed is = with_others r ws r.mask causes missed is
missed_ordered r ws false causes missed is = is

true_differs : true ≡ false → ⊥
true_differs h = cc

arrive_ordered : (r : Rings) (ws : List (List ℕ)) (w : List ℕ) (verdict : Verdict) → (verdict ≡ Heard → (is_enabled r.receive.control ≡ true) × (r.heard ≢ r.receive.rung)) → IsOrdered r ws
    → IsOrdered (arrived verdict r) (ws ++ if_heard (accepted (VerdictIs verdict ∷ [])) w)
arrive_ordered r ws w Filtered room is = subst (IsOrdered r) (sym (append-nil ws)) is
arrive_ordered r ws w Missed room is = subst (IsOrdered (arrived Missed r)) (sym (append-nil ws)) (missed_ordered r ws (is_enabled r.receive.control) _ _ is)
arrive_ordered r ws w Heard room is =
    let left = room refl in
    record {
      receive = record {
        taken = omega (arith, is.receive.taken);
        passed = omega (arith, left.1, is.receive.passed);
        rung = is.receive.rung;
        posted = is.receive.posted;
        unused = λ off. absurd (true_differs (sym left.0 ∙ off));
      };
      transmit = is.transmit;
      names = is.names;
      turns = is.turns;
      posts = is.posts;
      pending = length-append ws (w ∷ []) ∙ omega (arith, is.pending, is.receive.taken);
    }

heard_with : (let_in enabled all : Bool) → (if not let_in then Filtered else if not enabled || all then Missed else Heard) ≡ Heard → (enabled ≡ true) × (all ≡ false)
heard_with false enabled all is = cc
heard_with true false all is = cc
heard_with true true true is = cc
heard_with true true false is = (refl, refl)

-- receiving is enabled, and the device has a buffer, where a frame is heard
heard_room : (local : Local) (r : Rings) (frame : List ℕ) → verdict_at local r frame ≡ Heard → (is_enabled r.receive.control ≡ true) × (r.heard ≢ r.receive.rung)
unfolding verdict_at
heard_room local r frame is =
    let both = heard_with (is_let_in (bytes_high_first 6 local.mac) frame) (is_enabled r.receive.control) (r.heard == r.receive.rung) is in
    (both.0, differ r.heard r.receive.rung both.1)
  where
    differ : (m n : ℕ) → (m == n) ≡ false → m ≢ n
    differ m n is same = grind (arith, nat_tests)

-- ---- sends

first_none : (one other : Option Rule) → option_or one other ≡ None → one ≡ None
first_none None other is = refl
first_none (Some rule) other is = cc

send_post_ordered : SlotsMay → (r : Rings) (ws : List (List ℕ)) (waiting : Bool) (slot send : ℕ) → transmit_rule r.transmit waiting slot ≡ None → IsOrdered r ws
    → IsOrdered (send_posted send r) ws
send_post_ordered may r ws waiting slot send allowed is =
    let room : r.transmit.posted - r.transmit.taken ≢ 63 = (may Transmit r.transmit slot (first_none _ _ allowed)).room in
    record {
      receive = is.receive;
      transmit = record {
        taken = is.transmit.taken;
        passed = is.transmit.passed;
        rung = omega (arith, is.transmit.rung);
        posted = omega (arith, room, is.transmit.posted);
        unused = is.transmit.unused;
      };
      names = is.names;
      turns = is.turns;
      posts = length-append r.posts (send ∷ []) ∙ ap (λ n. n + 1) is.posts;
      pending = is.pending;
    }

return_ordered : (r : Rings) (ws : List (List ℕ)) → IsOrdered r ws → IsOrdered (returned r) ws
return_ordered r ws is = record {
  receive = is.receive;
  transmit = record {
    taken = omega (arith, is.transmit.taken);
    passed = is.transmit.passed;
    rung = is.transmit.rung;
    posted = omega (arith, is.transmit.posted);
    unused = is.transmit.unused;
  };
  names = is.names;
  turns = is.turns;
  posts = is.posts;
  pending = is.pending;
}

-- a frame can be sent where transmitting is enabled, and not all that was rung is sent
pub can_send_room : (r : Rings) → can_send r ≡ true → (is_enabled r.transmit.control ≡ true) × (r.sent ≢ r.transmit.rung)
can_send_room r can = by_tests (is_enabled r.transmit.control) (r.sent == r.transmit.rung) refl refl can
  where
    differ : (m n : ℕ) → (m == n) ≡ false → m ≢ n
    differ m n is same = grind (arith, nat_tests)

    by_tests : (enabled all : Bool) → is_enabled r.transmit.control ≡ enabled → (r.sent == r.transmit.rung) ≡ all → (enabled && not all) ≡ true
        → (is_enabled r.transmit.control ≡ true) × (r.sent ≢ r.transmit.rung)
    by_tests true false on is both = (on, differ r.sent r.transmit.rung is)
    by_tests true true on is both = cc
    by_tests false all on is both = cc

one_sent_ordered : (r : Rings) (ws : List (List ℕ)) → can_send r ≡ true → IsOrdered r ws → IsOrdered (sent_one r) ws
one_sent_ordered r ws can is =
    let left = can_send_room r can in
    record {
      receive = is.receive;
      transmit = record {
        taken = omega (arith, is.transmit.taken);
        passed = omega (arith, left.1, is.transmit.passed);
        rung = is.transmit.rung;
        posted = is.transmit.posted;
        unused = λ off. absurd (true_differs (sym left.0 ∙ off));
      };
      names = is.names;
      turns = is.turns;
      posts = is.posts;
      pending = is.pending;
    }

sent_ordered : (r : Rings) (ws : List (List ℕ)) (can : Bool) → can_send r ≡ can → IsOrdered r ws
    → let outcome = (if can then accepted (SentIs (next_send r) ∷ []) else accepted (Idle ∷ [])) in IsOrdered (if is_ok outcome.head then sent_by outcome.items r else r) ws
sent_ordered r ws true can is = one_sent_ordered r ws can is
sent_ordered r ws false can is = is

-- ---- runs

entry_ordered : WritesMay → PostsMay → SlotsMay → (H : HostTable) (J : Journal) (a : Act) (w : List ℕ) → IsOrdered (network J).rings (network J).pending
    → IsOrdered (network (entry H J a w ∷ J)).rings (network (entry H J a w ∷ J)).pending
unfolding network
entry_ordered writes posts slots H J (RegRead offset) w is = read_ordered (network J).rings (network J).pending (reg_at offset) (is_ok (out H J (RegRead offset)).head) is
entry_ordered writes posts slots H J (RegWrite offset value) w is =
    let r = (network J).rings in
    unless_broken r _ (network J).pending (write_rule (values_in r) offset value) (λ allowed. write_ordered writes r (network J).pending value (reg_at offset) allowed is) is
entry_ordered writes posts slots H J (RxPost slot handle) w is =
    let r = (network J).rings in
    unless_broken r _ (network J).pending (receive_rule r.receive r.names r.turns slot handle) (λ allowed. post_ordered posts r (network J).pending slot handle allowed is) is
entry_ordered writes posts slots H J RxBell w is = bell_ordered (network J).rings (network J).pending is
entry_ordered writes posts slots H J (WireIn frame) w is =
    let r = (network J).rings in
    arrive_ordered r (network J).pending w (verdict_at H.local r frame) (heard_room H.local r frame) is
entry_ordered writes posts slots H J (TxPost slot send) w is =
    let n = network J in
    unless_broken n.rings _ n.pending (transmit_rule n.rings.transmit (waits n send) slot) (λ allowed. send_post_ordered slots n.rings n.pending (waits n send) slot send allowed is) is
entry_ordered writes posts slots H J TxBell w is = return_ordered (network J).rings (network J).pending is
entry_ordered writes posts slots H J WireOut w is =
    let r = (network J).rings in
    sent_ordered r (network J).pending (can_send r) refl is
entry_ordered writes posts slots H J other w is = is

pub ordered : WritesMay → PostsMay → SlotsMay → AreOrdered
unfolding network
ordered writes posts slots H [] run = record {
  receive = record { taken = omega arith; passed = omega arith; rung = omega arith; posted = omega arith; unused = λ off. refl };
  transmit = record { taken = omega arith; passed = omega arith; rung = omega arith; posted = omega arith; unused = λ off. refl };
  names = refl;
  turns = refl;
  posts = refl;
  pending = refl;
}
ordered writes posts slots H (e ∷ J) run =
    let P : Entry → Type 0 = λ x. IsOrdered (network (x ∷ J)).rings (network (x ∷ J)).pending in
    subst P (as_entry H J e run.0.outcome) (entry_ordered writes posts slots H J e.act e.written (ordered writes posts slots H J run.1))
