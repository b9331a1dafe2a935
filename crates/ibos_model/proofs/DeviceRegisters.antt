-- The registers of journals are those of the device.
use Rattle.std.proofs.Common.{◌≡◌, ◌≢◌, ℕ, ◌+◌, ◌-◌, ◌*◌, ◌/◌, ◌%◌, ◌^◌, ◌<◌, ◌≤◌, ◌==◌, List, [], ◌∷◌, ◌++◌, Bool, true, false, not, ◌&&◌, ◌||◌, Option, Some, None, refl, sym, ◌∙◌, ap, subst, arith}
use Rattle.std.specs.Prelude.{if◌then◌else◌, bit_or, min}
use Rattle.std.specs.Int.{bytes_high_first, bytes_low_first}
use Rattle.std.proofs.lemmas.Bool.Decides.{nat_tests}
use Rattle.std.proofs.lemmas.Nat.{mod_below}
use Rattle.ibos_kinds.specs.declared.act.Act.{Act}
use Rattle.ibos_kinds.specs.declared.act.Act.TheVariants.{RegRead, RegWrite, RxPost, RxBell, WireIn, TxPost, TxBell, WireOut}
use Rattle.ibos_kinds.specs.declared.names.Local.{Local}
use Rattle.ibos_kinds.specs.declared.names.Verdict.{Verdict}
use Rattle.ibos_kinds.specs.declared.names.Verdict.TheVariants.{Filtered, Missed, Heard}
use Rattle.ibos_kinds.specs.declared.outcome.Item.TheVariants.{Idle, SentIs}
use Rattle.ibos_kinds.specs.declared.rule.Rule.{Rule}
use Rattle.ibos_kinds.specs.declared.rule.Rule.TheVariants.{M1}
use Rattle.ibos_nic.specs.declared.reg.Reg.{Reg}
use Rattle.ibos_nic.specs.declared.reg.Reg.TheVariants.{Ctrl, Icr, Ims, Imc, Rctl, Tctl, Rdbal, Rdbah, Rdlen, Rdh, Rdt, Tdbal, Tdbah, Tdlen, Tdh, Tdt, Mpc}
use Rattle.ibos_nic.specs.Bits.{overrun_cause}
use Rattle.ibos_nic.specs.Device.{is_let_in, is_for_us}
use Rattle.ibos_nic.specs.Parts.{part_of, reg_at}
use Rattle.ibos_nic.specs.Permits.{MayWrite}
use Rattle.ibos_nic.specs.Registers.{after_heard, after_read, after_sent, after_write, distance_among, is_enabled, slot_among, slot_behind, with_cause, with_reg}
use Rattle.ibos_nic.specs.Rules.{of_reg as of_reg_rule, write_rule, write_rule_of}
use Rattle.ibos_origin.specs.Hosts.{HostTable}
use Rattle.ibos_model.specs.Journal.{Entry, Journal, is_ok}
use Rattle.ibos_model.specs.Laws.{AreFirst, AreOrdered, AreTheDevices, IsOrdered, IsSentByTheDevice, IsTheDevices}
use Rattle.ibos_model.specs.Network.{network}
use Rattle.ibos_model.specs.Outcomes.{accepted, answer, out}
use Rattle.ibos_model.specs.Registers.{arrived_at, read_at, registers_by, registers_of, sent_at, written_at}
use Rattle.ibos_model.specs.Rings.{Rings, address_high, address_low, arrived, can_send, mac_byte, next_send, of_reg, posted, read_from, register, send_posted, sent_by, sent_one, values_in, verdict_at, written_to}
use Rattle.ibos_model.proofs.Entries.{as_entry, entry}
use Rattle.ibos_model.proofs.RingCounts.{WritesMay}

-- what ibos_nic says of slots
abbrev pub SlotsReach : Type 0
SlotsReach = (slots from to : ℕ) → 0 < slots → to < slots → slot_among slots (from + distance_among slots from to) ≡ to

abbrev pub SlotsGoOn : Type 0
SlotsGoOn = (slots number : ℕ) → slot_behind slots (slot_among slots number) ≡ slot_among slots (number + 1)

pub first_are : AreFirst
unfolding network
first_are H Ctrl = refl
first_are H other = refl

-- ---- reads

read_are : (local : Local) (r : Rings) (reg x : Reg) → register local (read_from reg r) x ≡ after_read reg (register local r) x
read_are local r Icr Icr = refl
read_are local r Icr other = refl
read_are local r Mpc Mpc = refl
read_are local r Mpc other = refl
read_are local r other x = refl

reads_are : (local : Local) (r : Rings) (o : Option Reg) (ok : Bool) (x : Reg)
    → register local (if ok then of_reg o (λ reg. read_from reg r) r else r) x ≡ (if ok then read_at o (register local r) else register local r) x
reads_are local r o false x = refl
reads_are local r None true x = refl
reads_are local r (Some reg) true x = read_are local r reg x

-- ---- writes

write_are : SlotsReach → (local : Local) (r : Rings) (ws : List (List ℕ)) (value : ℕ) (reg x : Reg) → MayWrite (values_in r) reg value → IsOrdered r ws
    → register local (written_to reg (part_of reg) value r) x ≡ after_write reg value (register local r) x
write_are reach local r ws value Ims Ims may is = refl
write_are reach local r ws value Ims x may is = refl
write_are reach local r ws value Imc Ims may is = refl
write_are reach local r ws value Imc x may is = refl
write_are reach local r ws value Rctl Rctl may is = refl
write_are reach local r ws value Rctl x may is = refl
write_are reach local r ws value Tctl Tctl may is = refl
write_are reach local r ws value Tctl x may is = refl
write_are reach local r ws value Rdbal Rdbal may is = refl
write_are reach local r ws value Rdbal x may is = refl
write_are reach local r ws value Tdbal Tdbal may is = refl
write_are reach local r ws value Tdbal x may is = refl
write_are reach local r ws value Rdlen Rdlen may is = refl
write_are reach local r ws value Rdlen x may is = refl
write_are reach local r ws value Tdlen Tdlen may is = refl
write_are reach local r ws value Tdlen x may is = refl
write_are reach local r ws value Rdbah Rdbah may is = sym may.0
write_are reach local r ws value Rdbah x may is = refl
write_are reach local r ws value Tdbah Tdbah may is = sym may.0
write_are reach local r ws value Tdbah x may is = refl
write_are reach local r ws value Rdh Rdh may is = ap (λ n. n % 64) (is.receive.unused may.1) ∙ sym may.0
write_are reach local r ws value Rdh x may is = refl
write_are reach local r ws value Tdh Tdh may is = ap (λ n. n % 64) (is.transmit.unused may.1) ∙ sym may.0
write_are reach local r ws value Tdh x may is = refl
write_are reach local r ws value Rdt Rdt may is = reach 64 r.receive.rung value (omega arith) may.0
write_are reach local r ws value Rdt x may is = refl
write_are reach local r ws value Tdt Tdt may is = reach 64 r.transmit.rung value (omega arith) may.0
write_are reach local r ws value Tdt x may is = refl
write_are reach local r ws value other x may is = absurd may

writes_are : WritesMay → SlotsReach → (local : Local) (r : Rings) (ws : List (List ℕ)) (value : ℕ) (o : Option Reg) (x : Reg) → IsOrdered r ws
    → (rule : Option Rule) → of_reg_rule o (λ reg. write_rule_of (values_in r) reg value) M1 ≡ rule
    → register local (if is_ok (answer rule).head then of_reg o (λ reg. written_to reg (part_of reg) value r) r else r) x
    ≡ (if is_ok (answer rule).head then written_at o value (register local r) else register local r) x
writes_are may reach local r ws value o x ordered (Some rule) is = refl
writes_are may reach local r ws value None x ordered None is = refl
writes_are may reach local r ws value (Some reg) x ordered None is = write_are reach local r ws value reg x (may (values_in r) reg value is) ordered

-- ---- posts, bells and frames that come

post_is : (local : Local) (r s : Rings) (ok : Bool) (x : Reg) → (register local s x ≡ register local r x) → register local (if ok then s else r) x ≡ register local r x
post_is local r s true x is = is
post_is local r s false x is = refl

missed_is : (local : Local) (r : Rings) (enabled : Bool) (x : Reg)
    → register local (if enabled then record r { causes = bit_or r.causes overrun_cause; missed = min (r.missed + 1) (2 ^ 32 - 1) } else r) x
    ≡ (if enabled then with_reg Mpc (min (r.missed + 1) (2 ^ 32 - 1)) (with_cause overrun_cause (register local r)) x else register local r x)
missed_is local r false x = refl
missed_is local r true Mpc = refl
missed_is local r true Icr = refl
missed_is local r true x = refl

heard_is : SlotsGoOn → (local : Local) (r : Rings) (x : Reg) → register local (arrived Heard r) x ≡ after_heard (register local r) x
heard_is go local r Rdh = sym (go 64 r.heard)
heard_is go local r Icr = refl
heard_is go local r x = refl

-- ---- sends

sent_is : SlotsGoOn → (local : Local) (r : Rings) (x : Reg) → register local (sent_one r) x ≡ after_sent (register local r) x
sent_is go local r Tdh = sym (go 64 r.sent)
sent_is go local r Icr = refl
sent_is go local r x = refl

sends_are : SlotsGoOn → (local : Local) (r : Rings) (x : Reg) (can : Bool) → let outcome = (if can then accepted (SentIs (next_send r) ∷ []) else accepted (Idle ∷ [])) in
    register local (if is_ok outcome.head then sent_by outcome.items r else r) x ≡ (if is_ok outcome.head then sent_at outcome.items (register local r) else register local r) x
sends_are go local r x true = sent_is go local r x
sends_are go local r x false = refl

-- ---- the law of one entry

entry_is : WritesMay → SlotsReach → SlotsGoOn → (H : HostTable) (J : Journal) (a : Act) (w : List ℕ) (x : Reg) → IsOrdered (network J).rings (network J).pending
    → registers_of H (entry H J a w ∷ J) x ≡ registers_by (is_ok (out H J a).head) a (out H J a).items (registers_of H J) x
unfolding network
entry_is may reach go H J (RegRead offset) w x ordered = reads_are H.local (network J).rings (reg_at offset) (is_ok (out H J (RegRead offset)).head) x
entry_is may reach go H J (RegWrite offset value) w x ordered =
    let r = (network J).rings in
    writes_are may reach H.local r (network J).pending value (reg_at offset) x ordered (write_rule (values_in r) offset value) refl
entry_is may reach go H J (RxPost slot handle) w x ordered =
    let r = (network J).rings in
    post_is H.local r (posted handle r) (is_ok (out H J (RxPost slot handle)).head) x (posted_is r x)
  where
    posted_is : (r : Rings) (x : Reg) → register H.local (posted handle r) x ≡ register H.local r x
    posted_is r Ctrl = refl
    posted_is r x = refl
entry_is may reach go H J RxBell w Ctrl ordered = refl
entry_is may reach go H J RxBell w x ordered = refl
entry_is may reach go H J (WireIn frame) w x ordered = by_verdict (verdict_at H.local (network J).rings frame)
  where
    by_verdict : (verdict : Verdict) → register H.local (arrived verdict (network J).rings) x ≡ arrived_at verdict (registers_of H J) x
    by_verdict Filtered = refl
    by_verdict Missed = missed_is H.local (network J).rings (is_enabled (network J).rings.receive.control) x
    by_verdict Heard = heard_is go H.local (network J).rings x
entry_is may reach go H J (TxPost slot send) w x ordered =
    let r = (network J).rings in
    post_is H.local r (send_posted send r) (is_ok (out H J (TxPost slot send)).head) x (posted_is r x)
  where
    posted_is : (r : Rings) (x : Reg) → register H.local (send_posted send r) x ≡ register H.local r x
    posted_is r Ctrl = refl
    posted_is r x = refl
entry_is may reach go H J TxBell w Ctrl ordered = refl
entry_is may reach go H J TxBell w x ordered = refl
entry_is may reach go H J WireOut w x ordered = sends_are go H.local (network J).rings x (can_send (network J).rings)
entry_is may reach go H J other w x ordered = refl

pub entries_are : WritesMay → SlotsReach → SlotsGoOn → AreOrdered → AreTheDevices
entries_are may reach go ordered H J e x run =
    let P : Entry → Type 0 = λ i. registers_of H (i ∷ J) x ≡ registers_by (is_ok i.outcome.head) i.act i.outcome.items (registers_of H J) x in
    subst P (as_entry H J e run.0.outcome) (entry_is may reach go H J e.act e.written x (ordered H J run.1))

-- ---- verdicts

low_bytes : (a b c d : ℕ) → a < 256 → b < 256 → c < 256 → d < 256 → bytes_low_first 0 4 (a + 256 * b + 256 ^ 2 * c + 256 ^ 3 * d) ≡ a ∷ b ∷ c ∷ d ∷ []
low_bytes a b c d a_is b_is c_is d_is = four (omega arith) (omega arith) (omega arith) (omega arith)
  where
    four : {e f g h : ℕ} → e ≡ a → f ≡ b → g ≡ c → h ≡ d → e ∷ f ∷ g ∷ h ∷ [] ≡ a ∷ b ∷ c ∷ d ∷ []
    four e_is f_is g_is h_is = rw (e_is, f_is, g_is, h_is) refl

high_bytes : (a b : ℕ) → a < 256 → b < 256 → bytes_low_first 0 2 (a + 256 * b + 2 ^ 31) ≡ a ∷ b ∷ []
high_bytes a b a_is b_is = two (omega arith) (omega arith)
  where
    two : {e f : ℕ} → e ≡ a → f ≡ b → e ∷ f ∷ [] ≡ a ∷ b ∷ []
    two e_is f_is = rw (e_is, f_is) refl

address_is : (mac : ℕ) → bytes_low_first 0 4 (address_low mac) ++ bytes_low_first 0 2 (address_high mac) ≡ bytes_high_first 6 mac
address_is mac =
    ap (λ bytes. bytes ++ bytes_low_first 0 2 (address_high mac)) (low_bytes (mac_byte mac 0) (mac_byte mac 1) (mac_byte mac 2) (mac_byte mac 3) (is_byte 0) (is_byte 1) (is_byte 2) (is_byte 3))
    ∙ ap (λ bytes. mac_byte mac 0 ∷ mac_byte mac 1 ∷ mac_byte mac 2 ∷ mac_byte mac 3 ∷ bytes) (high_bytes (mac_byte mac 4) (mac_byte mac 5) (is_byte 4) (is_byte 5))
    ∙ ap (λ last. mac_byte mac 0 ∷ mac_byte mac 1 ∷ mac_byte mac 2 ∷ mac_byte mac 3 ∷ mac_byte mac 4 ∷ last % 256 ∷ []) last_is
  where
    is_byte : (i : ℕ) → mac_byte mac i < 256
    is_byte i = mod_below (mac / 256 ^ (5 - i)) 256 (omega arith)

    last_is : mac / 1 ≡ mac
    last_is = omega arith

-- the counts of a ring are equal where their slots are
same_slots : (a b : ℕ) → a ≤ b → b ≤ a + 63 → (a % 64 == b % 64) ≡ (a == b)
same_slots a b low high = by_test (a == b) refl
  where
    differ : (m n : ℕ) → m ≢ n → (m == n) ≡ false
    differ m n apart = grind (arith, nat_tests)

    by_test : (t : Bool) → (a == b) ≡ t → (a % 64 == b % 64) ≡ t
    by_test true is = let here : a ≡ b = grind (arith, nat_tests) in ap (λ n. a % 64 == n % 64) (sym here) ∙ grind (arith, nat_tests)
    by_test false is = let apart : a ≢ b = (λ here. grind (arith, nat_tests)) in differ (a % 64) (b % 64) (λ same. omega (arith, apart, same))

by_tests : (let_in enabled full : Bool)
    → (if not let_in then Filtered else if not enabled || full then Missed else Heard) ≡ (if let_in then (if enabled && not full then Heard else Missed) else Filtered)
by_tests false enabled full = refl
by_tests true false full = refl
by_tests true true true = refl
by_tests true true false = refl

pub verdict_is : AreOrdered → IsTheDevices
unfolding verdict_at is_for_us
verdict_is ordered H J frame run =
    let r = (network J).rings in
    let is = ordered H J run in
    let full : (r.heard % 64 == r.receive.rung % 64) ≡ (r.heard == r.receive.rung) = same_slots r.heard r.receive.rung is.receive.passed (omega (arith, is.receive.rung, is.receive.posted, is.receive.taken)) in
    rw (full, address_is H.local.mac) (by_tests (is_let_in (bytes_high_first 6 H.local.mac) frame) (is_enabled r.receive.control) (r.heard == r.receive.rung))

-- ---- frames that go out

pub sent_by_the_device : AreOrdered → IsSentByTheDevice
sent_by_the_device ordered H J run =
    let r = (network J).rings in
    let is = ordered H J run in
    let all : (r.sent % 64 == r.transmit.rung % 64) ≡ (r.sent == r.transmit.rung) = same_slots r.sent r.transmit.rung is.transmit.passed (omega (arith, is.transmit.rung, is.transmit.posted, is.transmit.taken)) in
    ap (λ same. is_enabled r.transmit.control && not same) (sym all)
