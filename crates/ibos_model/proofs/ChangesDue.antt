-- What every change of the tabs is like, and what that keeps: instances start once, and a tab has one live instance.
use Rattle.std.proofs.Common.{◌≡◌, ◌≢◌, ℕ, ◌≤◌, List, [], ◌∷◌, Bool, true, false, Option, Some, None, Ok, Err, Result, refl, sym, ◌∙◌, ap, arith}
use Rattle.std.specs.Prelude.{if◌then◌else◌, bytes_eq, option_and_then}
use Rattle.std.proofs.lemmas.Bool.Decides.{nat_tests}
use Rattle.ibos_kinds.specs.declared.names.Instance.{Instance}
use Rattle.ibos_kinds.specs.declared.rule.Rule.{Rule}
use Rattle.ibos_kinds.specs.declared.act.Act.{Act}
use Rattle.ibos_kinds.specs.declared.act.Act.TheVariants.{Start, Close, Press, Go}
use Rattle.ibos_kinds.specs.declared.names.Key.TheVariants.{Enter}
use Rattle.ibos_kinds.specs.declared.outcome.Outcome.{Outcome}
use Rattle.ibos_origin.specs.Hosts.{HostTable}
use Rattle.ibos_origin.specs.Pages.{Page, allowed}
use Rattle.ibos_model.specs.Journal.{Entry, Journal, is_accepted, is_ok}
use Rattle.ibos_model.specs.Focus.{focus_of}
use Rattle.ibos_model.specs.Tabs.{Tabs, Change, Opens, Moves, Ends, changed, changes, opening, end, leave, entering, active_in, tabs, next_in, no_tabs, life_with, origin_in}
use Rattle.ibos_model.specs.Outcomes.{out, admitted, start_outcome}
use Rattle.ibos_model.specs.Runs.{IsRun}
use Rattle.ibos_model.proofs.Equalities.{same-true, same-refl}
use Rattle.ibos_model.proofs.ChangeFolds.{All, all_if_ok, tabs_keep}

-- what holds of the tabs after every run
pub record IsSound (t : Tabs) : Type 0 where
  pub unborn : (q : Instance) → t.count q.tab ≤ q.ord → t.page q ≡ None
  pub kept : (q : Instance) → t.page q ≡ None → t.is_gone q ≡ false
  pub lives : (tab : ℕ) (who : Instance) → t.live tab ≡ Some who → t.page who ≢ None
  pub alone : (q : Instance) → t.page q ≢ None → t.is_gone q ≡ false → t.live q.tab ≡ Some q
  pub home : (tab : ℕ) (q : Instance) → t.live tab ≡ Some q → q.tab ≡ tab

-- the page of a URL that may be shown
abbrev pub MayShow : HostTable → Page → Type 0
MayShow H page = (text : List ℕ) × (allowed H text ≡ Ok page)

-- the tab's live instance
pub record Lives (t : Tabs) (who : Instance) : Type 0 where
  pub there : t.page who ≢ None
  pub live : t.live who.tab ≡ Some who

-- A change: always of a page that may be shown, and in a run (R) of an instance that is where it should be.
abbrev pub IsDue : Type 0 → HostTable → Tabs → Change → Type 0
IsDue R H t (Opens who page) = (who ≡ next_in t who.tab) × (R → t.live who.tab ≡ None) × MayShow H page
IsDue R H t (Moves who url) = (R → Lives t who) × ((page : Page) × MayShow H page × (url ≡ page.url) × (bytes_eq page.origin (origin_in t who) ≡ true))
IsDue R H t (Ends who) = R → Lives t who

-- ---- the changes of each act

opening_due : (R : Type 0) (H : HostTable) (t : Tabs) (tab : ℕ) (text : List ℕ) (r : Result Page Rule) → allowed H text ≡ r → (R → t.live tab ≡ None) → All (IsDue R H) t (opening t tab r)
opening_due R H t tab text (Ok page) is empty = ((refl, empty, (text, is)), tt)
opening_due R H t tab text (Err rule) is empty = tt

end_due : (R : Type 0) (H : HostTable) (t : Tabs) (live : Option Instance) → ((who : Instance) → live ≡ Some who → R → Lives t who) → All (IsDue R H) t (end live)
end_due R H t None lives = tt
end_due R H t (Some who) lives = (lives who refl, tt)

leave_due : (R : Type 0) (H : HostTable) (t : Tabs) (who : Instance) (text : List ℕ) (r : Result Page Rule) → allowed H text ≡ r → (R → Lives t who) → All (IsDue R H) t (leave t who r)
leave_due R H t who text (Err rule) is lives = tt
leave_due R H t who text (Ok page) is lives = either (bytes_eq page.origin (origin_in t who)) refl
  where
    emptied : (changed t (Ends who)).live who.tab ≡ None
    emptied = grind (arith, nat_tests)

    either : (b : Bool) → bytes_eq page.origin (origin_in t who) ≡ b → All (IsDue R H) t (if b then Moves who page.url ∷ [] else Ends who ∷ Opens (next_in t who.tab) page ∷ [])
    either true same = ((lives, (page, (text, is), refl, same)), tt)
    either false same = (lives, ((refl, (λ r. emptied), (text, is)), tt))

entering_due : (R : Type 0) (H : HostTable) (t : Tabs) (active : Option Instance) (text : List ℕ) → ((who : Instance) → active ≡ Some who → R → Lives t who) → All (IsDue R H) t (entering t active (allowed H text))
entering_due R H t None text lives = tt
entering_due R H t (Some who) text lives = leave_due R H t who text (allowed H text) refl (lives who refl)

live_at : (t : Tabs) (tab : ℕ) (who : Instance) → t.live tab ≡ Some who → IsSound t → Lives t who
live_at t tab who is sound = record { there = sound.lives tab who is; live = ap t.live (sound.home tab who is) ∙ is }

active_at : (t : Tabs) (tab : Option ℕ) (who : Instance) → option_and_then t.live tab ≡ Some who → IsSound t → Lives t who
active_at t None who is sound = cc
active_at t (Some tab) who is sound = live_at t tab who is sound

-- who is admitted is its tab's live instance
pub admitted_lives : (t : Tabs) (who : Instance) (row : Outcome) → IsSound t → (page : Option Page) → t.page who ≡ page → (gone : Bool) → t.is_gone who ≡ gone
    → is_ok (admitted (life_with page gone) row).head ≡ true → Lives t who
admitted_lives t who row sound None none gone was ok = cc
admitted_lives t who row sound (Some page) there true was ok = cc
admitted_lives t who row sound (Some page) there false was ok =
    let started : t.page who ≢ None = λ none. clash (sym there ∙ none) in
    record { there = started; live = sound.alone who started was }
  where
    clash : Some page ≡ None → ⊥
    clash h = cc

start_empty : (t : Tabs) (tab : ℕ) (r : Result Page Rule) (live : Option Instance) → t.live tab ≡ live → is_ok (start_outcome live (next_in t tab) r).head ≡ true → t.live tab ≡ None
start_empty t tab r None is ok = is
start_empty t tab r (Some who) is ok = cc

-- R: the entry is that of a run
pub changes_due : (R : Type 0) (H : HostTable) (J : Journal) (a : Act) (ok : Bool) → (R → IsSound (tabs H J)) → (R → is_ok (out H J a).head ≡ ok)
    → All (IsDue R H) (tabs H J) (changes H (tabs H J) (focus_of J) ok a)
changes_due R H J (Start tab url) ok sound is = all_if_ok (IsDue R H) (tabs H J) ok (opening (tabs H J) tab (allowed H url))
    (λ yes. opening_due R H (tabs H J) tab url (allowed H url) refl (λ r. start_empty (tabs H J) tab (allowed H url) ((tabs H J).live tab) refl (is r ∙ yes)))
changes_due R H J (Close tab) ok sound is = all_if_ok (IsDue R H) (tabs H J) ok (end ((tabs H J).live tab))
    (λ yes. end_due R H (tabs H J) ((tabs H J).live tab) (λ who lives r. live_at (tabs H J) tab who lives (sound r)))
changes_due R H J (Press Enter) ok sound is = all_if_ok (IsDue R H) (tabs H J) _ (entering (tabs H J) (active_in (tabs H J) (focus_of J)) (allowed H (focus_of J).entry_line))
    (λ yes. entering_due R H (tabs H J) (active_in (tabs H J) (focus_of J)) (focus_of J).entry_line (λ who active r. active_at (tabs H J) (focus_of J).tab who active (sound r)))
changes_due R H J (Go who url) ok sound is = all_if_ok (IsDue R H) (tabs H J) ok (leave (tabs H J) who (allowed H url))
    (λ yes. leave_due R H (tabs H J) who url (allowed H url) refl
    (λ r. admitted_lives (tabs H J) who _ (sound r) ((tabs H J).page who) refl ((tabs H J).is_gone who) refl (is r ∙ yes)))
changes_due R H J other ok sound is = tt

-- ---- what they keep

pub next_ord : (t : Tabs) (who : Instance) → who ≡ next_in t who.tab → who.ord ≡ t.count who.tab
next_ord t who is = ap (λ (q : Instance). q.ord) is

pub changed_sound : (H : HostTable) (t : Tabs) (c : Change) → IsSound t → IsDue (Unit {0}) H t c → IsSound (changed t c)
changed_sound H t (Opens who page) sound due = record {
  unborn = λ q h. grind (arith, nat_tests, next_ord t who due.0, sound.unborn q);
  kept = λ q h. grind (arith, nat_tests, sound.kept q);
  lives = λ tab q h none. grind (arith, nat_tests, same-refl who, sound.lives tab q);
  alone = λ q there here. grind (arith, nat_tests, same-true who q, sound.alone q, there, here, due.1 tt);
  home = λ tab q lives. grind (arith, nat_tests, sound.home tab q, lives);
}
changed_sound H t (Moves who url) sound due = record { unborn = sound.unborn; kept = sound.kept; lives = sound.lives; alone = sound.alone; home = sound.home }
changed_sound H t (Ends who) sound due =
    let lives = due tt in
    record {
      unborn = sound.unborn;
      kept = λ q h. grind (arith, nat_tests, same-true who q, lives.there, h, sound.kept q h);
      lives = λ tab q h none. grind (arith, nat_tests, sound.lives tab q, none);
      alone = λ q there here. grind (arith, nat_tests, same-true who q, same-refl who, sound.alone q there, here, lives.live);
      home = λ tab q h. grind (arith, nat_tests, sound.home tab q, h);
    }

no_tabs_sound : IsSound no_tabs
no_tabs_sound = record { unborn = λ q h. refl; kept = λ q h. refl; lives = λ tab who h. cc; alone = λ q there. absurd (there refl); home = λ tab q h. cc }

pub entry_due : (H : HostTable) (J : Journal) (e : Entry) → IsRun H (e ∷ J) → IsSound (tabs H J) → All (IsDue (Unit {0}) H) (tabs H J) (changes H (tabs H J) (focus_of J) (is_accepted e) e.act)
entry_due H J e run sound = changes_due (Unit {0}) H J e.act (is_accepted e) (λ u. sound) (λ u. ap (λ (r : Outcome). is_ok r.head) (sym run.0.outcome))

pub tabs_sound : (H : HostTable) (J : Journal) → IsRun H J → IsSound (tabs H J)
tabs_sound H J run = tabs_keep H (IsRun H) (IsDue (Unit {0}) H) IsSound no_tabs_sound (changed_sound H) (λ K e good. good.1) (entry_due H) J run

-- ---- as proofs on entries use it

abbrev pub Allows : HostTable → Tabs → Change → Type 0
Allows H t c = IsDue (Unit {0}) H t c

abbrev pub AllowsAll : HostTable → Tabs → List Change → Type 0
AllowsAll H t cs = All (IsDue (Unit {0}) H) t cs

pub changes_allowed : (H : HostTable) (J : Journal) (a : Act) → IsSound (tabs H J) → AllowsAll H (tabs H J) (changes H (tabs H J) (focus_of J) (is_ok (out H J a).head) a)
changes_allowed H J a sound = changes_due (Unit {0}) H J a (is_ok (out H J a).head) (λ u. sound) (λ u. refl)
