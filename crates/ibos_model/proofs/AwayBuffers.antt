-- While a buffer is away it has the bytes that it had at its submit.
use Rattle.std.proofs.Common.{◌≡◌, ℕ, ◌==◌, List, ◌∷◌, Bool, true, false, ◌&&◌, refl, ◌∙◌, ap, subst, arith}
use Rattle.std.specs.Prelude.{if◌then◌else◌}
use Rattle.std.proofs.lemmas.Bool.Decides.{nat_tests}
use Rattle.ibos_kinds.specs.declared.act.Act.{Act}
use Rattle.ibos_kinds.specs.declared.act.Act.TheVariants.{Fill}
use Rattle.ibos_kinds.specs.declared.names.Instance.{Instance}
use Rattle.ibos_kinds.specs.Sends.{overlaid}
use Rattle.ibos_origin.specs.Hosts.{HostTable}
use Rattle.ibos_model.specs.Journal.{Entry, Journal, is_ok, same}
use Rattle.ibos_model.specs.Laws.{AreFixed}
use Rattle.ibos_model.specs.Network.{at_buffer, network}
use Rattle.ibos_model.specs.Outcomes.{admitted, fill_outcome, out}
use Rattle.ibos_model.specs.Tabs.{Life, Unborn, Alive, Gone, life_of}
use Rattle.ibos_model.proofs.Entries.{as_entry, entry}
use Rattle.ibos_model.proofs.Equalities.{same-true}

-- a fill of a buffer that is away is denied
not_filled : (life : Life) (away : Bool) (place : ℕ) (bytes : List ℕ) → away ≡ true → is_ok (admitted life (fill_outcome away place bytes)).head ≡ false
not_filled Unborn away place bytes is = refl
not_filled Alive true place bytes is = refl
not_filled Alive false place bytes is = cc
not_filled Gone away place bytes is = refl

other_filled : (buffer b : ℕ) (bytes : List ℕ) (old : ℕ → List ℕ) (own ok : Bool) → (own ≡ true → buffer ≡ b → ok ≡ false) → (if own && ok then at_buffer buffer bytes old else old) b ≡ old b
other_filled buffer b bytes old false ok not_here = refl
other_filled buffer b bytes old true false not_here = refl
other_filled buffer b bytes old true true not_here = by_test (buffer == b) refl
  where
    equal : (m n : ℕ) → (m == n) ≡ true → m ≡ n
    equal m n is = grind (arith, nat_tests)

    clash : true ≡ false → ⊥
    clash h = cc

    by_test : (here : Bool) → (buffer == b) ≡ here → (if here then bytes else old b) ≡ old b
    by_test false is = refl
    by_test true is = absurd (clash (not_here refl (equal buffer b is)))

entry_fixed : (H : HostTable) (J : Journal) (a : Act) (w : List ℕ) (p : Instance) (b : ℕ) → (network J).away p b ≡ true
    → (network (entry H J a w ∷ J)).buffers p b ≡ (network J).buffers p b
unfolding network
entry_fixed H J (Fill who buffer place bytes) w p b away =
    let n = network J in
    other_filled buffer b (overlaid place bytes (n.buffers p buffer)) (n.buffers p) (same who p) (is_ok (out H J (Fill who buffer place bytes)).head) denied
  where
    denied : same who p ≡ true → buffer ≡ b → is_ok (out H J (Fill who buffer place bytes)).head ≡ false
    denied own here = not_filled (life_of H J who) ((network J).away who buffer) place bytes (ap (λ q. (network J).away q buffer) (same-true who p own) ∙ ap ((network J).away p) here ∙ away)
entry_fixed H J other w p b away = refl

pub away_fixed : AreFixed
away_fixed H J e p b run away =
    let P : Entry → Type 0 = λ x. (network (x ∷ J)).buffers p b ≡ (network J).buffers p b in
    subst P (as_entry H J e run.0.outcome) (entry_fixed H J e.act e.written p b away)
