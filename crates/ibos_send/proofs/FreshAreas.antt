-- The buffers of an area that was added.
use Rattle.std.proofs.Common.{◌≡◌, ◌≢◌, ◌+◌, ◌<◌, ◌≤◌, ◌==◌, false, length, refl, sym, ◌∙◌, ap, subst, arith, get_or}
use Rattle.std.proofs.lemmas.Bool.Decides.{nat_tests}
use Rattle.std.proofs.lemmas.List.{get_or_past}
use Rattle.ibos_pool.specs.Memory.{Area, is_lent_at, no_area}
use Rattle.ibos_pool.specs.Places.{buffers_of}
use Rattle.ibos_send.proofs.Words.{AreFreshIn, IsKept, IsNameIn, Memory, Name, Names, Place, home_of, name_in, place_of}

-- nothing is lent where there is no memory
lent-past : (mem : Memory) (p : Place) → length mem ≤ p.area → is_lent_at mem p ≡ false
unfolding is_lent_at
lent-past mem p past = ap (λ (a : Area). get_or a.lent p.index false) (get_or_past mem p.area no_area past)

pub fresh-memory : (old new : Names) (mem mem' : Memory) → 0 < length mem → length mem ≡ length old → length new ≡ length old + 1 → length mem' ≡ length mem + 1
    → ((name : Name) → name.area ≡ length old → IsNameIn (length new) name → place_of new name ≡ home_of name)
    → ((p : Place) → is_lent_at mem' p ≡ is_lent_at mem p) → AreFreshIn mem' new (length old)
fresh-memory old new mem mem' some same more more' home lent index high =
    let name : Name = name_in (length old) index in
    let other : length old ≢ 0 = omega (arith, some, same) in
    let test : (length old == 0) ≡ false = grind (arith, nat_tests) in
    let few : index < buffers_of (length old) = rw test (omega (arith, high)) in
    let is : place_of new name ≡ home_of name = home name refl (record { area = omega (arith, more); index = few }) in
    let kept : IsKept mem' (home_of name) = record {
      place = record { area = omega (arith, same, more'); index = few };
      kept = lent (home_of name) ∙ lent-past mem (home_of name) (omega (arith, same));
    } in
    subst (IsKept mem') (sym is) kept
