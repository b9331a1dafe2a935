-- An instance starts: its area has buffers to send from, which are zero, and the whole stays safe.
use Rattle.std.proofs.Common.{refl, sym, ◌∙◌, ap, subst, arith, get_or}
use Rattle.std.proofs.lemmas.Bool.Decides.{nat_tests}
use Rattle.std.proofs.lemmas.List.{get_or_past}
use Rattle.std.specs.Prelude.{replicate}
use Rattle.ibos_pool.specs.Memory.{Area, byte_at, bytes_at, is_lent_at, no_area}
use Rattle.ibos_pool.specs.Names.{home_of}
use Rattle.ibos_pool.specs.Places.{area_base, buffers_of}
use Rattle.ibos_recv.specs.Inboxes.{is_inbox_name}
use Rattle.ibos_send.specs.Buffers.{IsFresh as IsSendFresh, AreFreshIn as AreSendFreshIn, name_in}
use Rattle.ibos_send.specs.Sends.{AreSameSends}
use Rattle.ibos_net.proofs.AreasGrown.{IsGrown, GrowthLaw, HandsLaw, KeepsWhole, begun-beside, grown-hands, grown-whole, mediates, regs-for, safe-from, same-posts}
use Rattle.ibos_net.proofs.Words.{◌∷◌, ◌==◌, if◌then◌else◌, zero, suc, ℕ, ◌≡◌, ◌≢◌, ◌+◌, ◌<◌, ◌≤◌, ◌++◌, true, false, List, [], None, length, AreAtHand, Held, Inboxes, Instance, IsKept, IsNameIn, IsSafe, Memory, Name, Names, NetState, Outgoing, Place, Table, Transmit, address_of, bound_by, buffer_at, completed, fresh_buffer, hands_of, held_in, held_to_send, homes_by, inbox_by, is_taken, place_of}
use Rattle.std.specs.Prelude.{nat_le}

-- ---- the buffers to send from of an area that was added

not-of-inbox : (area index : ℕ) → index < 4 → is_inbox_name area (name_in area index) ≡ false
not-of-inbox area index low =
    let below : nat_le 4 index ≡ false = grind (arith, nat_tests) in
    let same : (area == area) ≡ true = grind (arith, nat_tests) in
    rw (same, below) refl

-- the inbox took none of them
pub send-fresh : (old names names' : Names) (area : ℕ) → area ≡ length old → 0 < length old → length names ≡ length old + 1 → ((name : Name) → length old ≤ name.area → is_taken names name ≡ false)
    → ((name : Name) → is_taken names' name ≡ (if is_inbox_name area name then true else is_taken names name)) → length names' ≡ length names → IsSendFresh names' area
send-fresh old names names' area is some more free taken same = record {
  some = omega (arith, is, some);
  within = omega (arith, is, more, same);
  free = λ index low. taken (name_in area index) ∙ ap (λ b. if b then true else is_taken names (name_in area index)) (not-of-inbox area index low) ∙ free (name_in area index) (omega (arith, is));
}

home-is : (old names names' : Names) (area : ℕ) → area ≡ length old → 0 < length old → length names ≡ length old + 1 → ((name : Name) → name.area ≡ length old → IsNameIn (length names) name → place_of names name ≡ home_of name)
    → ((name : Name) → place_of names' name ≡ place_of names name) → (index : ℕ) → index < 4 → place_of names' (name_in area index) ≡ home_of (name_in area index)
home-is old names names' area is some more home same index low =
    let other : area ≢ 0 = omega (arith, is, some) in
    let test : (area == 0) ≡ false = grind (arith, nat_tests) in
    let few : index < buffers_of area = rw test (omega (arith, low)) in
    same (name_in area index) ∙ home (name_in area index) is (record { area = omega (arith, is, more); index = few })

-- nothing is lent where there is no memory
lent-past : (mem : Memory) (p : Place) → length mem ≤ p.area → is_lent_at mem p ≡ false
unfolding is_lent_at
lent-past mem p past = ap (λ (a : Area). get_or a.lent p.index false) (get_or_past mem p.area no_area past)

pub send-kept : (old names names' : Names) (mem mem' : Memory) (area : ℕ) → area ≡ length old → 0 < length old → length mem ≡ length old → length names ≡ length old + 1 → length mem' ≡ length mem + 1
    → ((name : Name) → name.area ≡ length old → IsNameIn (length names) name → place_of names name ≡ home_of name) → ((name : Name) → place_of names' name ≡ place_of names name)
    → ((p : Place) → is_lent_at mem' p ≡ is_lent_at mem p) → AreSendFreshIn mem' names' area
send-kept old names names' mem mem' area is some same more more' home places lent index low =
    let other : area ≢ 0 = omega (arith, is, some) in
    let test : (area == 0) ≡ false = grind (arith, nat_tests) in
    let few : index < buffers_of area = rw test (omega (arith, low)) in
    let kept : IsKept mem' (home_of (name_in area index)) = record {
      place = record { area = omega (arith, is, same, more'); index = few };
      kept = lent (home_of (name_in area index)) ∙ lent-past mem (home_of (name_in area index)) (omega (arith, is, same));
    } in
    subst (IsKept mem') (sym (home-is old names names' area is some more home places index low)) kept

-- its bytes are zero
zero-bytes : (mem : Memory) (base : ℕ) → ((address : ℕ) → base ≤ address → byte_at mem address ≡ 0) → (n from : ℕ) → base ≤ from → bytes_at mem from n ≡ replicate n 0
unfolding bytes_at
zero-bytes mem base zeroed zero from low = refl
zero-bytes mem base zeroed (suc n) from low =
    ap (λ b. b ∷ bytes_at mem (from + 1) n) (zeroed from low) ∙ ap (λ bs. 0 ∷ bs) (zero-bytes mem base zeroed n (from + 1) (omega (arith, low)))

pub send-zero : (old names names' : Names) (mem mem' : Memory) (area : ℕ) → area ≡ length old → 0 < length old → length mem ≡ length old → length names ≡ length old + 1
    → ((name : Name) → name.area ≡ length old → IsNameIn (length names) name → place_of names name ≡ home_of name) → ((name : Name) → place_of names' name ≡ place_of names name)
    → ((address : ℕ) → area_base (length mem) ≤ address → byte_at mem' address ≡ 0) → (index : ℕ) → index < 4 → buffer_at mem' (place_of names' (name_in area index)) ≡ fresh_buffer
send-zero old names names' mem mem' area is some same more home places zeroed index low =
    let there : area ≡ length mem = is ∙ sym same in
    let base : area_base (length mem) ≤ area_base area = subst (λ a. area_base a ≤ area_base area) there (omega arith) in
    let from : area_base (length mem) ≤ address_of (home_of (name_in area index)) = omega (arith, base) in
    ap (buffer_at mem') (home-is old names names' area is some more home places index low) ∙ zero-bytes mem' (area_base (length mem)) zeroed 2048 (address_of (home_of (name_in area index))) from

-- ---- the whole is safe

-- after the inbox began
pub inbox-safe : GrowthLaw → HandsLaw → (t : NetState) (mem : Memory) (names names' : Names) (inboxes : Inboxes) (who : Instance) → IsSafe t → IsGrown t.names names t.mem mem → completed Transmit mem t.med.transmit ≡ completed Transmit t.mem t.med.transmit
    → KeepsWhole names names' → (AreAtHand names mem (hands_of t) → AreAtHand names' mem (held_in inboxes ++ held_to_send t.sends)) → inbox_by inboxes who ≢ None → ((q : Instance) → q ≢ who → inbox_by inboxes q ≡ inbox_by t.inboxes q)
    → IsSafe (record { med = t.med; mem = mem; names = names'; flows = t.flows; inboxes = inboxes; sends = t.sends })
inbox-safe law hands t mem names names' inboxes who safe grown done whole step own others =
    safe-from (record { med = t.med; mem = mem; names = names'; flows = t.flows; inboxes = inboxes; sends = t.sends }) (regs-for t.med t.mem) (whole t.med mem (regs-for t.med t.mem) [] (grown-whole law t mem names safe grown))
    (step (grown-hands hands t mem names safe grown)) (begun-beside t.flows t.flows (inbox_by t.inboxes) (inbox_by inboxes) who safe.beside own (λ q differ. refl) others) safe.sending safe.posts (safe.told ∙ sym done)

-- two lists at hand, in either order
abbrev pub SwapLaw : Type 0
SwapLaw = (names : Names) (mem : Memory) (held more : List Held) → AreAtHand names mem (held ++ more) → AreAtHand names mem (more ++ held)

-- after the buffers to send from were taken, and flows may be bound
pub sends-safe : SwapLaw → (t : NetState) (names' : Names) (flows : Table) (sends : Outgoing) (who : Instance) → IsSafe t → KeepsWhole t.names names'
    → (AreAtHand t.names t.mem (held_to_send t.sends ++ held_in t.inboxes) → AreAtHand names' t.mem (held_to_send sends ++ held_in t.inboxes))
    → inbox_by t.inboxes who ≢ None → homes_by sends who ≢ None → ((q : Instance) → q ≢ who → bound_by flows q ≡ bound_by t.flows q) → ((q : Instance) → q ≢ who → homes_by sends q ≡ homes_by t.sends q) → AreSameSends t.sends sends
    → IsSafe (record { med = t.med; mem = t.mem; names = names'; flows = flows; inboxes = t.inboxes; sends = sends })
sends-safe swap t names' flows sends who safe whole step inbox homes flows-others others same =
    safe-from (record { med = t.med; mem = t.mem; names = names'; flows = flows; inboxes = t.inboxes; sends = sends }) (regs-for t.med t.mem) (whole t.med t.mem (regs-for t.med t.mem) [] (mediates t safe))
    (swap names' t.mem (held_to_send sends) (held_in t.inboxes) (step (swap t.names t.mem (held_in t.inboxes) (held_to_send t.sends) safe.hands)))
    (begun-beside t.flows flows (inbox_by t.inboxes) (inbox_by t.inboxes) who safe.beside inbox flows-others (λ q differ. refl))
    (begun-beside t.flows flows (homes_by t.sends) (homes_by sends) who safe.sending homes flows-others others)
    (same-posts t.med t.sends sends same safe.posts) (same.told ∙ safe.told)
