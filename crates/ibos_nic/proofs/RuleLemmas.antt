-- A write, a read and a post break no rule exactly where the driver may make them.
use Rattle.std.proofs.Common.{◌≡◌, ◌≢◌, ℕ, ◌-◌, ◌%◌, ◌^◌, ◌<◌, ◌≤◌, ◌⊎◌, ◌==◌, ◌&&◌, ◌||◌, List, Bool, true, false, not, Option, None, Some, refl, sym, ◌∙◌, ap, inl, inr, ⊎_elim, subst, cond, arith}
use Rattle.std.proofs.lemmas.Bool.{cases_lt}
use Rattle.std.proofs.lemmas.Bool.Decides.{nat_tests}
use Rattle.std.proofs.lemmas.Nat.{and_assoc}
use Rattle.std.specs.Option.{option_or}
use Rattle.std.specs.Prelude.{◌↔◌, IsTrue, bit_and, nat_lt, slice_index}
use Rattle.ibos_kinds.specs.declared.names.Handle.{Handle}
use Rattle.ibos_kinds.specs.declared.rule.Rule.{Rule}
use Rattle.ibos_kinds.specs.declared.rule.Rule.TheVariants.{M2, M3, M4, M5, M6, M7, M8}
use Rattle.ibos_pool.specs.declared.name.Name.{Name}
use Rattle.ibos_pool.specs.declared.name.Ring.{Ring}
use Rattle.ibos_pool.specs.declared.name.Ring.TheVariants.{Receive, Transmit}
use Rattle.ibos_pool.specs.Places.{ring_base}
use Rattle.ibos_pool.specs.Sizes.{receive_buffers}
use Rattle.ibos_nic.specs.declared.part.Part.{Part}
use Rattle.ibos_nic.specs.declared.part.Part.TheVariants.{Base, High, Length, Head, Tail, Control}
use Rattle.ibos_nic.specs.declared.part.RingPart.{RingPart}
use Rattle.ibos_nic.specs.declared.reg.Reg.{Reg}
use Rattle.ibos_nic.specs.declared.reg.Reg.TheVariants.{Ims, Imc}
use Rattle.ibos_nic.specs.Bits.{cause_bits, transmit_control, transmit_fixed}
use Rattle.ibos_nic.specs.Parts.{part_of}
use Rattle.ibos_nic.specs.Permits.{IsConfigured, IsEnabling, MayPost, MayPostReceive, MayWrite, MayWriteIn, MayWritePart}
use Rattle.ibos_nic.specs.Registers.{is_enabled, ring_length, ring_size}
use Rattle.ibos_nic.specs.Rings.{RingValues, rung_count}
use Rattle.ibos_nic.specs.Rules.{is_after_enable, is_beyond_posted, is_configured, is_enabling, is_newest, is_unconfigured, is_value, part_rule, read_rule_of, receive_rule, rule_in, slot_rule, write_rule_of}

-- a chain of tests passes where each does
tests_pass : (b c d e : Bool) → cond (not b) (Some M2) (cond c (Some M3) (cond d (Some M8) (cond e (Some M4) None))) ≡ None
    → (b ≡ true) × (c ≡ false) × (d ≡ false) × (e ≡ false)
tests_pass true false false false none = (refl, refl, refl, refl)
tests_pass true false false true none = absurd (cc)
tests_pass true false true e none = absurd (cc)
tests_pass true true d e none = absurd (cc)
tests_pass false c d e none = absurd (cc)

number : (a b : ℕ) → (a == b) ≡ true → a ≡ b
number a b test = grind (arith, nat_tests)

number' : (a b : ℕ) → a ≡ b → (a == b) ≡ true
number' a b same = grind (arith, nat_tests)

differ' : (a b : ℕ) → (a ≡ b → ⊥) → (a == b) ≡ false
differ' a b differ = grind (arith, nat_tests, differ)

differ : (a b : ℕ) → (a == b) ≡ false → a ≢ b
differ a b test same = grind (arith, nat_tests)

both : (a b : Bool) → (a && b) ≡ true → (a ≡ true) × (b ≡ true)
both true b test = (refl, test)
both false b test = absurd (let clash : false ≡ true = test in cc)

both' : (a b : Bool) → a ≡ true → b ≡ true → (a && b) ≡ true
both' a b is is' = rw (is, is') refl

configured-is : (ring : Ring) (v : RingValues) → is_configured ring v ≡ true → IsConfigured ring v
configured-is ring v is =
    let two = both (v.base == ring_base ring) (v.len == ring_length) is in
    record { base = number _ _ two.0; len = number _ _ two.1 }

configured-from : (ring : Ring) (v : RingValues) → IsConfigured ring v → is_configured ring v ≡ true
configured-from ring v is = both' _ _ (number' v.base (ring_base ring) is.base) (number' v.len ring_length is.len)

enabling-is : (ring : Ring) (value : ℕ) → is_enabling ring value ≡ true → IsEnabling ring value
enabling-is Receive value test = number _ _ test
enabling-is Transmit value test = number (bit_and value transmit_fixed) transmit_control test

enabling-from : (ring : Ring) (value : ℕ) → IsEnabling ring value → is_enabling ring value ≡ true
enabling-from Receive value is = number' _ _ is
enabling-from Transmit value is = number' (bit_and value transmit_fixed) transmit_control is

-- a value that enables a ring has EN, and is not 0
pub enabling-enables : (ring : Ring) (value : ℕ) → IsEnabling ring value → IsTrue (is_enabled value)
enabling-enables Receive value is = rw is refl
enabling-enables Transmit value is =
    let back : bit_and value 2 ≡ 2 = sym (and_assoc 2 value 0xffc0000f) ∙ ap (λ x. bit_and x 2) is in
    rw back refl

enabling-some : (ring : Ring) (value : ℕ) → IsEnabling ring value → value ≡ 0 → ⊥
enabling-some ring value is none =
    let P : ℕ → Type 0 = λ x. is_enabled x ≡ true in
    let clash : false ≡ true = subst P none (enabling-enables ring value is) in
    cc

either : (a : Bool) (value : ℕ) → (a || value == 0) ≡ true → (a ≡ true) ⊎ (value ≡ 0)
either true value test = inl refl
either false value test = inr (number value 0 test)

off : (enabled : Bool) (value : ℕ) → (enabled && value == 0) ≡ false → value ≡ 0 → enabled ≡ false
off false value test none = refl
off true value test none = absurd (differ value 0 test none)

on : (enabled configured : Bool) → (enabled && not configured) ≡ false → enabled ≡ true → configured ≡ true
on enabled true test is = refl
on true false test is = absurd (let clash : true ≡ false = test in cc)
on false false test is = absurd (let clash : false ≡ true = is in cc)

set : (configured : Bool) → not configured ≡ false → configured ≡ true
set true test = refl
set false test = absurd (let clash : true ≡ false = test in cc)

none_of : (a b : Bool) → b ≡ false → (a && b) ≡ false
none_of true b is = is
none_of false b is = refl

or_left : (a b : Bool) → a ≡ true → (a || b) ≡ true
or_left a b is = rw is refl

or_right : (a b : Bool) → b ≡ true → (a || b) ≡ true
or_right true b is = refl
or_right false b is = is

pub may-from_tests : (ring : Ring) (v : RingValues) (part : Part) (value : ℕ) → is_value ring part value ≡ true → is_after_enable v part value ≡ false
    → is_unconfigured ring v part value ≡ false → is_beyond_posted v part value ≡ false → MayWritePart ring v part value
may-from_tests ring v Control value ok a u b = ⊎_elim
    (λ (enables : is_enabling ring value ≡ true).
    let is = enabling-is ring value enables in
    inr (is, configured-is ring v (on (is_enabled value) (is_configured ring v) u (enabling-enables ring value is))))
    (λ (none : value ≡ 0). inl (none, off (is_enabled v.control) value a none))
    (either (is_enabling ring value) value ok)
may-from_tests ring v Base value ok a u b = (number _ _ ok, a)
may-from_tests ring v High value ok a u b = (number _ _ ok, a)
may-from_tests ring v Length value ok a u b = (number _ _ ok, a)
may-from_tests ring v Head value ok a u b = (number _ _ ok, a)
may-from_tests ring v Tail value ok a u b = (grind (arith, nat_tests), configured-is ring v (set (is_configured ring v) u), grind (arith, nat_tests))

pass-from_may : (ring : Ring) (v : RingValues) (part : Part) (value : ℕ) → MayWritePart ring v part value
    → (is_value ring part value ≡ true) × (is_after_enable v part value ≡ false) × (is_unconfigured ring v part value ≡ false) × (is_beyond_posted v part value ≡ false)
pass-from_may ring v Base value may = (number' _ _ may.0, may.1, refl, refl)
pass-from_may ring v High value may = (number' _ _ may.0, may.1, refl, refl)
pass-from_may ring v Length value may = (number' _ _ may.0, may.1, refl, refl)
pass-from_may ring v Head value may = (number' _ _ may.0, may.1, refl, refl)
pass-from_may ring v Tail value may =
    let small = may.0 in
    let set = configured-from ring v may.1 in
    let fits = may.2 in
    (grind (arith, nat_tests), refl, rw set refl, not_past v.posted (rung_count v value) fits)
  where
    not_past : (a b : ℕ) → b ≤ a → nat_lt a b ≡ false
    not_past a b le = grind (arith, nat_tests)
pass-from_may ring v Control value (inl (none, off)) =
    (or_right (is_enabling ring value) (value == 0) (number' value 0 none), rw off refl, rw none refl, refl)
pass-from_may ring v Control value (inr (is, set)) = (
  or_left (is_enabling ring value) (value == 0) (enabling-from ring value is),
  none_of (is_enabled v.control) (value == 0) (differ' value 0 (enabling-some ring value is)),
  none_of (is_enabled value) (not (is_configured ring v)) (rw (configured-from ring v set) refl),
  refl,
)

pub part-is : (ring : Ring) (v : RingValues) (part : Part) (value : ℕ) → part_rule ring v part value ≡ None ↔ MayWritePart ring v part value
part-is ring v part value = (
  λ none.
      let pass = tests_pass (is_value ring part value) (is_after_enable v part value) (is_unconfigured ring v part value) (is_beyond_posted v part value) none in
      may-from_tests ring v part value pass.0 pass.1 pass.2 pass.3,
  λ may. let pass = pass-from_may ring v part value may in rw (pass.0, pass.1, pass.2, pass.3) refl,
)

mask : (value : ℕ) → cond (nat_lt value (2 ^ cause_bits)) None (Some M2) ≡ None ↔ (value < 2 ^ cause_bits)
mask value = (λ none. below value (2 ^ cause_bits) none, λ small. let test : nat_lt value (2 ^ cause_bits) ≡ true = grind (arith, nat_tests) in rw test refl)
  where
    below : (a b : ℕ) → cond (nat_lt a b) None (Some M2) ≡ None → a < b
    below a b none = ⊎_elim
        (λ (is : a < b). is)
        (λ (no' : b ≤ a). let test : nat_lt a b ≡ false = grind (arith, nat_tests) in absurd (let clash : Some M2 ≡ None = sym (ap (λ t. cond t None (Some M2)) test) ∙ none in cc))
        (cases_lt a b)

write-in : (values : Ring → RingValues) (reg : Reg) (part : Option RingPart) (value : ℕ) → rule_in values reg part value ≡ None ↔ MayWriteIn values reg part value
write-in values reg (Some p) value = part-is p.ring (values p.ring) p.part value
write-in values Ims None value = mask value
write-in values Imc None value = mask value
write-in values other None value = (λ none. absurd (cc), λ no'. absurd no')

pub write-is : (values : Ring → RingValues) (reg : Reg) (value : ℕ) → write_rule_of values reg value ≡ None ↔ MayWrite values reg value
write-is values reg value = write-in values reg (part_of reg) value

pub read-is : (reg : Reg) → read_rule_of reg ≡ None ↔ (reg ≢ Imc)
read-is Imc = (λ none. absurd (cc), λ differ. absurd (differ refl))
read-is other = (λ none is. cc, λ differ. refl)

slot_tests : (a b c : Bool) → cond (not a) (Some M8) (cond b (Some M7) (cond (not c) (Some M5) None)) ≡ None → (a ≡ true) × (b ≡ false) × (c ≡ true)
slot_tests true false true none = (refl, refl, refl)
slot_tests true false false none = absurd (cc)
slot_tests true true c none = absurd (cc)
slot_tests false b c none = absurd (cc)

pub slot-is : (ring : Ring) (v : RingValues) (slot : ℕ) → slot_rule ring v slot ≡ None ↔ MayPost ring v slot
slot-is ring v slot = (
  λ none.
      let pass = slot_tests (is_configured ring v) (v.posted - v.taken == ring_size - 1) (slot == v.posted % ring_size) none in
      record { configured = configured-is ring v pass.0; room = differ _ _ pass.1; next = number _ _ pass.2 },
  λ may.
      let room : (v.posted - v.taken == ring_size - 1) ≡ false = differ' _ _ may.room in
      rw (configured-from ring v may.configured, room, number' slot (v.posted % ring_size) may.next) refl,
)

none_or : (a : Option Rule) (b : Bool) → option_or a (cond b None (Some M6)) ≡ None → (a ≡ None) × (b ≡ true)
none_or None true none = (refl, refl)
none_or None false none = absurd (cc)
none_or (Some rule) b none = absurd (cc)

pub receive-is : (v : RingValues) (names : List Name) (turns : List ℕ) (slot : ℕ) (handle : Handle) → receive_rule v names turns slot handle ≡ None ↔ MayPostReceive v names turns slot handle
receive-is v names turns slot handle = (
  λ none.
      let two = none_or (slot_rule Receive v slot) _ none in
      let three = both (is_newest turns handle) _ two.1 in
      let four = both (nat_lt handle.name receive_buffers) _ three.0 in
      record { post = (slot-is Receive v slot).0 two.0; name = less handle.name receive_buffers four.0; newest = number _ _ four.1; outside = flip _ three.1 },
  λ may.
      let name : nat_lt handle.name receive_buffers ≡ true = less' handle.name receive_buffers may.name in
      rw ((slot-is Receive v slot).1 may.post, name, number' handle.turn (slice_index turns handle.name) may.newest, may.outside) refl,
)
  where
    less : (a b : ℕ) → nat_lt a b ≡ true → a < b
    less a b test = grind (arith, nat_tests)

    less' : (a b : ℕ) → a < b → nat_lt a b ≡ true
    less' a b is = grind (arith, nat_tests)

    flip : (a : Bool) → not a ≡ true → a ≡ false
    flip true test = absurd (let clash : false ≡ true = test in cc)
    flip false test = refl
