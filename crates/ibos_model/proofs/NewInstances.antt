-- An instance keeps the page that it started with, so an origin that suits a run suits it one entry before.
use Rattle.std.proofs.Common.{◌≡◌, ◌≢◌, List, ◌∷◌, Bool, true, false, Option, Some, None, ℕ, refl, sym, ◌∙◌, ap, arith}
use Rattle.std.specs.Prelude.{if◌then◌else◌}
use Rattle.std.proofs.lemmas.Bool.Decides.{nat_tests}
use Rattle.ibos_kinds.specs.declared.names.Instance.{Instance}
use Rattle.ibos_origin.specs.Hosts.{HostTable}
use Rattle.ibos_origin.specs.Pages.{Page}
use Rattle.ibos_model.specs.Journal.{Entry, Journal, is_accepted}
use Rattle.ibos_model.specs.Focus.{focus_of}
use Rattle.ibos_model.specs.Tabs.{Tabs, Change, Opens, Moves, Ends, changed, changes, tabs, Unborn, Gone, Alive, life_of, life_with, origin_with}
use Rattle.ibos_model.specs.Facts.{Suits}
use Rattle.ibos_model.specs.Runs.{IsRun}
use Rattle.ibos_model.proofs.Equalities.{same-true}
use Rattle.ibos_model.proofs.ChangeFolds.{changed_by_keeps}
use Rattle.ibos_model.proofs.ChangesDue.{IsSound, Allows, changed_sound, next_ord, tabs_sound, entry_due}

-- a page stays
record Stays (p : Instance) (x : Page) (t : Tabs) : Type 0 where
  sound : IsSound t
  page : t.page p ≡ Some x

page_stays : (H : HostTable) (p : Instance) (x : Page) (t : Tabs) (c : Change) → Stays p x t → Allows H t c → Stays p x (changed t c)
page_stays H p x t (Moves who url) stays due = record { sound = changed_sound H t (Moves who url) stays.sound due; page = stays.page }
page_stays H p x t (Ends who) stays due = record { sound = changed_sound H t (Ends who) stays.sound due; page = stays.page }
page_stays H p x t (Opens who page) stays due = record {
  sound = changed_sound H t (Opens who page) stays.sound due;
  page = grind (arith, nat_tests, same-true who p, next_ord t who due.0, stays.sound.unborn who, stays.page);
}

suits_by : (o : List ℕ) (old new : Option Page) (was_gone is_gone : Bool) → ((x : Page) → old ≡ Some x → new ≡ Some x)
    → (life_with new is_gone ≢ Unborn → origin_with new ≡ o) → life_with old was_gone ≢ Unborn → origin_with old ≡ o
suits_by o None new was_gone is_gone stays suits there = absurd (there refl)
suits_by o (Some x) new was_gone is_gone stays suits there =
    let is = stays x refl in
    ap origin_with (sym is) ∙ suits (λ unborn. started_born is_gone (ap (λ page. life_with page is_gone) (sym is) ∙ unborn))
  where
    started_born : (gone : Bool) → (if gone then Gone else Alive) ≢ Unborn
    started_born true h = cc
    started_born false h = cc

-- an instance keeps its page
pub page_after : (H : HostTable) (J : Journal) (e : Entry) (p : Instance) (x : Page) → IsRun H (e ∷ J) → (tabs H J).page p ≡ Some x → (tabs H (e ∷ J)).page p ≡ Some x
unfolding tabs
page_after H J e p x run is =
    let sound : IsSound (tabs H J) = tabs_sound H J run.1 in
    (changed_by_keeps (Allows H) (Stays p x) (page_stays H p x) (tabs H J) (changes H (tabs H J) (focus_of J) (is_accepted e) e.act)
    (record { sound = sound; page = is }) (entry_due H J e run sound)).page

-- an origin that suits a journal suits it one entry before
pub suits_before : (H : HostTable) (p : Instance) (o : List ℕ) (J : Journal) (e : Entry) → IsRun H (e ∷ J) → Suits H p o (e ∷ J) → Suits H p o J
unfolding tabs
suits_before H p o J e run suits =
    suits_by o ((tabs H J).page p) ((tabs H (e ∷ J)).page p) ((tabs H J).is_gone p) ((tabs H (e ∷ J)).is_gone p) (λ x is. page_after H J e p x run is) suits

-- an instance that has not started had not started one entry before
pub unborn_before : (H : HostTable) (J : Journal) (e : Entry) (p : Instance) → IsRun H (e ∷ J) → life_of H (e ∷ J) p ≡ Unborn → life_of H J p ≡ Unborn
unfolding tabs
unborn_before H J e p run unborn = by_page ((tabs H J).page p) refl
  where
    started : (page : Option Page) (x : Page) (gone : Bool) → page ≡ Some x → life_with page gone ≢ Unborn
    started None x gone is = cc
    started (Some y) x true is = λ h. cc
    started (Some y) x false is = λ h. cc

    by_page : (page : Option Page) → (tabs H J).page p ≡ page → life_with page ((tabs H J).is_gone p) ≡ Unborn
    by_page None is = refl
    by_page (Some x) is = absurd (started ((tabs H (e ∷ J)).page p) x ((tabs H (e ∷ J)).is_gone p) (page_after H J e p x run is) unborn)
