-- Numbers and slots, in a ring of any number of slots.
use Rattle.std.proofs.Common.{◌≡◌, ◌≢◌, ℕ, ◌+◌, ◌-◌, ◌%◌, ◌<◌, ◌≤◌, sym, ◌∙◌, ap, ⊎_elim, arith}
use Rattle.std.proofs.Math.Nat.{add-mod-mod, add-mod_right, mod-add-mod, mod-eq_of_lt, mod-mod}
use Rattle.std.proofs.lemmas.Bool.{cases_lt}
use Rattle.std.proofs.lemmas.Nat.{mod_below}
use Rattle.ibos_nic.specs.Registers.{distance_among, slot_among, slot_behind}

pub slot-next : (slots number : ℕ) → slot_behind slots (slot_among slots number) ≡ slot_among slots (number + 1)
slot-next slots number = mod-add-mod number slots 1

pub slot-add : (slots number k : ℕ) → slot_among slots (slot_among slots number + k) ≡ slot_among slots (number + k)
slot-add slots number k = mod-add-mod number slots k

pub distance-slot : (slots from to : ℕ) → distance_among slots (slot_among slots from) to ≡ distance_among slots from to
distance-slot slots from to = ap (λ x. (to + (slots - x)) % slots) (mod-mod from slots)

pub slot-below : (slots number : ℕ) → 0 < slots → slot_among slots number < slots
slot-below slots number some = mod_below number slots some

-- so far behind a number is the slot
pub distance-reaches : (slots from to : ℕ) → 0 < slots → to < slots → slot_among slots (from + distance_among slots from to) ≡ to
distance-reaches slots from to some small =
    add-mod-mod from (to + (slots - from % slots)) slots ∙ sym (mod-add-mod from slots (to + (slots - from % slots)))
    ∙ ap (λ x. x % slots) (whole (from % slots) (mod_below from slots some)) ∙ add-mod_right to slots ∙ mod-eq_of_lt small
  where
    whole : (a : ℕ) → a < slots → a + (to + (slots - a)) ≡ to + slots
    whole a below = omega arith

below-differ : (slots a d : ℕ) → a < slots → 0 < d → d < slots → (a + d) % slots ≡ a → ⊥
below-differ slots a d small some short same = ⊎_elim
    (λ (here : a + d < slots). let this : a + d ≡ a = sym (mod-eq_of_lt here) ∙ same in omega arith)
    (λ (there : slots ≤ a + d).
    let back : a + d - slots + slots ≡ a + d = omega arith in
    let less : a + d - slots < slots = omega arith in
    let this : a + d - slots ≡ a = sym (mod-eq_of_lt less) ∙ sym (add-mod_right (a + d - slots) slots) ∙ ap (λ x. x % slots) back ∙ same in
    omega arith)
    (cases_lt (a + d) slots)

later-differ : (slots j k : ℕ) → j < k → k < j + slots → slot_among slots j ≢ slot_among slots k
later-differ slots j k later near same =
    let sum : j + (k - j) ≡ k = omega arith in
    below-differ slots (j % slots) (k - j) (mod_below j slots (omega arith)) (omega arith) (omega arith)
    (mod-add-mod j slots (k - j) ∙ ap (λ x. x % slots) sum ∙ sym same)

-- two numbers that are less than a whole ring apart have two slots
pub slots-differ : (slots j k : ℕ) → j ≢ k → j < k + slots → k < j + slots → slot_among slots j ≢ slot_among slots k
slots-differ slots j k differ near near' same = ⊎_elim
    (λ (below : j < k). later-differ slots j k below near' same)
    (λ (above : k ≤ j). let above' : k < j = omega arith in later-differ slots k j above' near (sym same))
    (cases_lt j k)
