-- Which acts leave the chrome's rows.
use Rattle.std.proofs.Common.{◌≡◌, ℕ, zero, suc, [], ◌∷◌, Bool, true, false, Option, Some, None, Ok, Err, Result, refl, sym, ◌∙◌, ap, arith}
use Rattle.std.specs.Prelude.{if◌then◌else◌, bytes_eq, option_and_then, ◌||◌, ◌==◌}
use Rattle.std.proofs.lemmas.Bool.Decides.{nat_tests}
use Rattle.ibos_kinds.specs.declared.names.Instance.{Instance}
use Rattle.ibos_kinds.specs.declared.rule.Rule.{Rule}
use Rattle.ibos_kinds.specs.declared.act.Act.{Act}
use Rattle.ibos_kinds.specs.declared.act.Act.TheVariants.{Start, Switch, Close, Press, Click, Look, Go}
use Rattle.ibos_kinds.specs.declared.outcome.Outcome.{Outcome}
use Rattle.ibos_origin.specs.Hosts.{HostTable}
use Rattle.ibos_origin.specs.Pages.{Page, allowed}
use Rattle.ibos_model.specs.Journal.{Journal, is_accepted, is_ok, same}
use Rattle.ibos_model.specs.Focus.{Focus, focus_by, focus_of, is_active}
use Rattle.ibos_model.specs.Tabs.{Tabs, Opens, Moves, Ends, changed, changed_by, changes, leave, active_in, active_of, tabs, next_in, origin_in}
use Rattle.ibos_model.specs.Screen.{bar_of, bar_text, chrome_in, chrome_of}
use Rattle.ibos_model.specs.Outcomes.{out}
use Rattle.ibos_model.specs.Laws.{IsChromeKept, is_users, goes_active}
use Rattle.ibos_model.proofs.Denials.{unchanged}
use Rattle.ibos_model.proofs.ChangesDue.{IsSound, admitted_lives, tabs_sound}

-- the same active instance at the same URL
chrome_from : (old new : Tabs) (f : Focus) → active_in new f ≡ active_in old f → ((a : Instance) → active_in old f ≡ Some a → new.url a ≡ old.url a)
    → (r : ℕ) → chrome_in new f r ≡ chrome_in old f r
chrome_from old new f active url zero = rw active refl
chrome_from old new f active url (suc zero) = rw active (by_active (active_in old f) url)
  where
    by_active : (a : Option Instance) → ((b : Instance) → a ≡ Some b → new.url b ≡ old.url b) → bar_of new a ≡ bar_of old a
    by_active None url = refl
    by_active (Some a) url = ap bar_text (url a refl)
chrome_from old new f active url (suc (suc r)) = refl

-- ---- an instance that is not the active one goes

left_chrome : (t : Tabs) (f : Focus) (who : Instance) (r : Result Page Rule) → IsSound t → t.live who.tab ≡ Some who → is_active who (active_in t f) ≡ false
    → (k : ℕ) → chrome_in (changed_by t (leave t who r)) f k ≡ chrome_in t f k
left_chrome t f who (Err rule) is lives other k = refl
left_chrome t f who (Ok page) is lives other k = by_origin (bytes_eq page.origin (origin_in t who))
  where
    not_who : (a : Instance) → active_in t f ≡ Some a → same who a ≡ false
    not_who a active =
        let differ : same a who ≡ false = ap (is_active who) (sym active) ∙ other in
        grind (arith, nat_tests, differ)

    -- the active tab is not the one of who goes
    other_tab : (tab : ℕ) → f.tab ≡ Some tab → (tab == who.tab) ≡ false
    other_tab tab at = by_test (tab == who.tab) refl
      where
        active_is : active_in t f ≡ t.live tab
        active_is = ap (λ (o : Option ℕ). option_and_then t.live o) at

        by_test : (b : Bool) → (tab == who.tab) ≡ b → b ≡ false
        by_test false same_tab = refl
        by_test true same_tab =
            let e : tab ≡ who.tab = grind (arith, nat_tests) in
            let it : active_in t f ≡ Some who = active_is ∙ ap t.live e ∙ lives in
            let no_one : same who who ≡ false = not_who who it in
            grind (arith, nat_tests, no_one)

    moved_chrome : chrome_in (changed t (Moves who page.url)) f k ≡ chrome_in t f k
    moved_chrome = chrome_from t (changed t (Moves who page.url)) f refl (λ a active. rw (not_who a active) refl) k

    gone : Tabs
    gone = changed (changed t (Ends who)) (Opens (next_in t who.tab) page)

    live_stays : (tab : Option ℕ) → f.tab ≡ tab → option_and_then (changed (changed t (Ends who)) (Opens (next_in t who.tab) page)).live tab ≡ option_and_then t.live tab
    live_stays None at = refl
    live_stays (Some tab) at = let differ = other_tab tab at in grind (arith, nat_tests, differ)

    url_stays : (tab : Option ℕ) → f.tab ≡ tab → (a : Instance) → option_and_then t.live tab ≡ Some a → (changed (changed t (Ends who)) (Opens (next_in t who.tab) page)).url a ≡ t.url a
    url_stays None at a active = cc
    url_stays (Some tab) at a active =
        let differ = other_tab tab at in
        let home : a.tab ≡ tab = is.home tab a active in
        grind (arith, nat_tests, differ, home)

    gone_chrome : chrome_in (changed (changed t (Ends who)) (Opens (next_in t who.tab) page)) f k ≡ chrome_in t f k
    gone_chrome = chrome_from t (changed (changed t (Ends who)) (Opens (next_in t who.tab) page)) f (live_stays f.tab refl) (url_stays f.tab refl) k

    by_origin : (b : Bool) → chrome_in (changed_by t (if b then Moves who page.url ∷ [] else Ends who ∷ Opens (next_in t who.tab) page ∷ [])) f k ≡ chrome_in t f k
    by_origin true = moved_chrome
    by_origin false = gone_chrome

-- ---- the law

accepted_kept : (H : HostTable) (J : Journal) (a : Act) (r : ℕ) → IsSound (tabs H J) → is_ok (out H J a).head ≡ true → (is_users a || goes_active (active_of H J) a) ≡ false
    → chrome_in (changed_by (tabs H J) (changes H (tabs H J) (focus_of J) true a)) (focus_by true a (focus_of J)) r ≡ chrome_in (tabs H J) (focus_of J) r
accepted_kept H J (Go who url) r is ok other = left_chrome (tabs H J) (focus_of J) who (allowed H url) is
    (admitted_lives (tabs H J) who _ is ((tabs H J).page who) refl ((tabs H J).is_gone who) refl ok).live other r
accepted_kept H J (Start tab url) r is ok other = cc
accepted_kept H J (Switch tab) r is ok other = cc
accepted_kept H J (Close tab) r is ok other = cc
accepted_kept H J (Press key) r is ok other = cc
accepted_kept H J (Click row col) r is ok other = cc
accepted_kept H J Look r is ok other = cc
accepted_kept H J act r is ok other = refl

pub chrome_kept : IsChromeKept
unfolding tabs focus_of
chrome_kept H J e r run other = by_ok (is_accepted e) refl
  where
    by_ok : (ok : Bool) → is_accepted e ≡ ok → chrome_of H (e ∷ J) r ≡ chrome_of H J r
    by_ok false is = ap (λ v. chrome_in v.tabs v.focus r) (unchanged H J e is)
    by_ok true is = rw is (accepted_kept H J e.act r (tabs_sound H J run.1) (ap (λ (o : Outcome). is_ok o.head) (sym run.0.outcome) ∙ is) (rw is at other))
