-- The acts that open, move and end instances agree with their facts.
use Rattle.std.proofs.Common.{◌≡◌, ◌≢◌, ℕ, ◌+◌, List, [], ◌∷◌, Bool, true, false, Option, Some, None, Ok, Err, Result, refl, sym, ◌∙◌, ap, subst, arith, map}
use Rattle.std.specs.Prelude.{if◌then◌else◌, bytes_eq}
use Rattle.std.proofs.lemmas.Bool.Decides.{nat_tests}
use Rattle.ibos_kinds.specs.declared.names.Instance.{Instance}
use Rattle.ibos_kinds.specs.declared.party.Party.TheVariants.{Page as PageOf}
use Rattle.ibos_kinds.specs.declared.rule.Rule.{Rule}
use Rattle.ibos_kinds.specs.declared.act.Act.TheVariants.{Start, Switch, Close, Go}
use Rattle.ibos_kinds.specs.declared.outcome.Item.TheVariants.{Opened, Moved, Ended}
use Rattle.ibos_origin.specs.Hosts.{HostTable}
use Rattle.ibos_origin.specs.Pages.{Page, allowed}
use Rattle.ibos_model.specs.Journal.{Journal, is_ok, same}
use Rattle.ibos_model.specs.Focus.{focus_of}
use Rattle.ibos_model.specs.Tabs.{Tabs, tabs, Opens, Moves, Ends, Life, Unborn, Alive, Gone, changes, changed_by, opening, end, leave, if_ok, next_in, life_with, life_of, origin_in, origin_with}
use Rattle.ibos_model.specs.Jars.{sets_of}
use Rattle.ibos_model.specs.Network.{network}
use Rattle.ibos_model.specs.Stored.{puts_of, requests_of}
use Rattle.ibos_model.specs.Outcomes.{accepted, denied, admitted, open_outcome, start_outcome, switch_outcome, close_outcome, go_outcome, out}
use Rattle.ibos_model.specs.Facts.{change_facts, Suits}
use Rattle.ibos_model.specs.Gives.{Mine, away_with, own_out, own_after, life_after_go}
use Rattle.ibos_model.specs.Delivered.{told}
use Rattle.ibos_model.proofs.Equalities.{same-true, same-refl}
use Rattle.ibos_model.proofs.ChangesDue.{IsSound, changes_allowed}
use Rattle.ibos_model.proofs.ChangesTold.{item_of, mine_in, mine_with, changes_told}
use Rattle.std.specs.Prelude.{nat_lt}
use Rattle.ibos_kinds.specs.declared.rule.Rule.TheVariants.{U3}
use Rattle.ibos_model.proofs.EntriesAgree.{held_of, mine_of, Agrees, entry, answers, told_own}

-- ---- acts that change tabs, and are not of the instance

start_items : (live : Option Instance) (t : Tabs) (tab : ℕ) (r : Result Page Rule) → (start_outcome live (next_in t tab) r).items ≡ map item_of (if_ok (is_ok (start_outcome live (next_in t tab) r).head) (opening t tab r))
start_items (Some who) t tab r = refl
start_items None t tab r = by_room (nat_lt (t.count tab) 32) r
  where
    by_room : (room : Bool) (r : Result Page Rule) → (if room then open_outcome (next_in t tab) r else denied U3).items ≡ map item_of (if_ok (is_ok (if room then open_outcome (next_in t tab) r else denied U3).head) (opening t tab r))
    by_room true (Ok page) = refl
    by_room true (Err rule) = refl
    by_room false r = refl

close_items : (live : Option Instance) → (close_outcome live).items ≡ map item_of (if_ok (is_ok (close_outcome live).head) (end live))
close_items (Some who) = refl
close_items None = refl

go_items : (life : Life) (t : Tabs) (who : Instance) (r : Result Page Rule)
    → (admitted life (go_outcome who (origin_in t who) (next_in t who.tab) r)).items ≡ map item_of (if_ok (is_ok (admitted life (go_outcome who (origin_in t who) (next_in t who.tab) r)).head) (leave t who r))
go_items Unborn t who r = refl
go_items Gone t who r = refl
go_items Alive t who (Err rule) = refl
go_items Alive t who (Ok page) = grind (arith, nat_tests)

pub start_agrees : (H : HostTable) (p : Instance) (o : List ℕ) (J : Journal) (tab : ℕ) (url w : List ℕ) → IsSound (tabs H J) → Agrees H p o J (entry H J (Start tab url) w)
unfolding tabs sets_of network puts_of requests_of
start_agrees H p o J tab url w sound =
    let law = changes_told H p o (tabs H J) (held_of H p o J) (changes H (tabs H J) (focus_of J) (is_ok (out H J (Start tab url)).head) (Start tab url)) sound (changes_allowed H J (Start tab url) sound) in
    record { told = ap (told (PageOf p)) (start_items ((tabs H J).live tab) (tabs H J) tab (allowed H url)) ∙ law.0; mine = law.1 }

pub close_agrees : (H : HostTable) (p : Instance) (o : List ℕ) (J : Journal) (tab : ℕ) (w : List ℕ) → IsSound (tabs H J) → Agrees H p o J (entry H J (Close tab) w)
unfolding tabs sets_of network puts_of requests_of
close_agrees H p o J tab w sound =
    let law = changes_told H p o (tabs H J) (held_of H p o J) (changes H (tabs H J) (focus_of J) (is_ok (out H J (Close tab)).head) (Close tab)) sound (changes_allowed H J (Close tab) sound) in
    record { told = ap (told (PageOf p)) (close_items ((tabs H J).live tab)) ∙ law.0; mine = law.1 }

-- switching tells nothing, and is no fact
switch_items : (live : Option Instance) → (switch_outcome live).items ≡ []
switch_items (Some who) = refl
switch_items None = refl

pub switch_agrees : (H : HostTable) (p : Instance) (o : List ℕ) (J : Journal) (tab : ℕ) (w : List ℕ) → Agrees H p o J (entry H J (Switch tab) w)
unfolding tabs sets_of network puts_of requests_of
switch_agrees H p o J tab w = record { told = ap (told (PageOf p)) (switch_items ((tabs H J).live tab)); mine = refl }

-- ---- acts of instances

go_other : (H : HostTable) (p : Instance) (o : List ℕ) (J : Journal) (who : Instance) (url w : List ℕ) → IsSound (tabs H J) → same who p ≡ false → Agrees H p o J (entry H J (Go who url) w)
unfolding tabs sets_of network puts_of requests_of
go_other H p o J who url w sound other =
    let law = changes_told H p o (tabs H J) (held_of H p o J) (changes H (tabs H J) (focus_of J) (is_ok (out H J (Go who url)).head) (Go who url)) sound (changes_allowed H J (Go who url) sound) in
    record { told = rw other (ap (told (PageOf p)) (go_items (life_of H J who) (tabs H J) who (allowed H url)) ∙ law.0); mine = rw other law.1 }

-- the next instance of a tab is not one that was there
next_differs : (t : Tabs) (p : Instance) (page : Page) → IsSound t → t.page p ≡ Some page → same (next_in t p.tab) p ≡ false
next_differs t p page sound is = grind (arith, nat_tests, sound.unborn p, is)

after_differs : (p : Instance) → same (record { tab = p.tab; ord = p.ord + 1 }) p ≡ false
after_differs p = grind (arith, nat_tests)

go_answers : (p next other : Instance) (origin : List ℕ) (r : Result Page Rule) → same next p ≡ false → same other p ≡ false
    → answers p (go_outcome p origin next r) ≡ answers p (go_outcome p origin other r)
go_answers p next other origin (Err rule) n m = refl
go_answers p next other origin (Ok page) n m = grind (arith, nat_tests)

-- what the instance's own going gives, and how it is counted
record OwnGo (H : HostTable) (p : Instance) (o : List ℕ) (t : Tabs) (url : List ℕ) (held : Mine) (page : Option Page) (gone : Bool) : Type 0 where
  told : answers p (admitted (life_with page gone) (go_outcome p (origin_with page) (next_in t p.tab) (allowed H url))) ≡ answers p (own_out H o (Go p url) (mine_with page gone held))
  silent : change_facts p true (if_ok (is_ok (admitted (life_with page gone) (go_outcome p (origin_with page) (next_in t p.tab) (allowed H url))).head) (leave t p (allowed H url))) ≡ []
  mine : mine_in (changed_by t (if_ok (is_ok (admitted (life_with page gone) (go_outcome p (origin_with page) (next_in t p.tab) (allowed H url))).head) (leave t p (allowed H url)))) p held ≡ own_after H o (Go p url) (mine_with page gone held)

own_go_alive_silent : (p : Instance) (t : Tabs) (page : Page) (r : Result Page Rule) → same (next_in t p.tab) p ≡ false
    → change_facts p true (if_ok (is_ok (go_outcome p page.origin (next_in t p.tab) r).head) (leave t p r)) ≡ []
own_go_alive_silent p t page (Err rule) differs = refl
own_go_alive_silent p t page (Ok to) differs = grind (arith, nat_tests)

own_go_alive_mine : (p : Instance) (o : List ℕ) (t : Tabs) (held : Mine) (page : Page) (r : Result Page Rule) → t.page p ≡ Some page → t.is_gone p ≡ false → page.origin ≡ o → same (next_in t p.tab) p ≡ false
    → mine_in (changed_by t (if_ok (is_ok (go_outcome p page.origin (next_in t p.tab) r).head) (leave t p r))) p held ≡ record held { life = life_after_go p o r; away = away_with (life_after_go p o r) held.away }
own_go_alive_mine p o t held page (Err rule) is gone origin differs = rw (is, gone) refl
own_go_alive_mine p o t held page (Ok to) is gone origin differs =
    let here : bytes_eq to.origin page.origin ≡ bytes_eq to.origin o = ap (bytes_eq to.origin) origin in
    let in_tabs : bytes_eq to.origin (origin_in t p) ≡ bytes_eq to.origin o = ap (bytes_eq to.origin) (ap origin_with is ∙ origin) in
    rw (here, in_tabs) (by_origin (bytes_eq to.origin o) (nat_lt p.ord 31))
  where
    next : Instance
    next = next_in t p.tab

    by_origin : (b room : Bool) → mine_in (changed_by t (if_ok (is_ok (if b then accepted (Moved p to.url ∷ []) else if room then accepted (Ended p ∷ Opened next to.url ∷ []) else denied U3).head) (if b then Moves p to.url ∷ [] else Ends p ∷ Opens next to ∷ []))) p held ≡ record held { life = if b then Alive else if room then Gone else Alive; away = away_with (if b then Alive else if room then Gone else Alive) held.away }
    by_origin true room = rw (is, gone) refl
    by_origin false true = rw (differs, same-refl p, is) refl
    by_origin false false = rw (is, gone) refl

own_go : (H : HostTable) (p : Instance) (o : List ℕ) (t : Tabs) (url : List ℕ) (held : Mine) (page : Option Page) (gone : Bool)
    → IsSound t → t.page p ≡ page → t.is_gone p ≡ gone → (life_with page gone ≢ Unborn → origin_with page ≡ o) → OwnGo H p o t url held page gone
own_go H p o t url held None gone sound is is_gone suits = record { told = refl; silent = refl; mine = rw is refl }
own_go H p o t url held (Some page) true sound is is_gone suits = record { told = refl; silent = refl; mine = rw (is, is_gone) refl }
own_go H p o t url held (Some page) false sound is is_gone suits =
    let differs = next_differs t p page sound is in
    let origin : page.origin ≡ o = suits (λ unborn. cc) in
    record {
      told = go_answers p (next_in t p.tab) (record { tab = p.tab; ord = p.ord + 1 }) page.origin (allowed H url) differs (after_differs p)
          ∙ ap (λ (x : List ℕ). answers p (go_outcome p x (record { tab = p.tab; ord = p.ord + 1 }) (allowed H url))) origin;
      silent = own_go_alive_silent p t page (allowed H url) differs;
      mine = own_go_alive_mine p o t held page (allowed H url) is is_gone origin differs;
    }

pub go_agrees : (H : HostTable) (p : Instance) (o : List ℕ) (J : Journal) (who : Instance) (url w : List ℕ) → IsSound (tabs H J) → Suits H p o J
    → (own : Bool) → same who p ≡ own → Agrees H p o J (entry H J (Go who url) w)
unfolding tabs sets_of network puts_of requests_of
go_agrees H p o J who url w sound suits false other = go_other H p o J who url w sound other
go_agrees H p o J who url w sound suits true own =
    let here : p ≡ who = sym (same-true who p own) in
    let t = tabs H J in
    let mine = own_go H p o t url (held_of H p o J) (t.page p) (t.is_gone p) sound refl refl suits in
    let P : Instance → Type 0 = λ q. Agrees H p o J (entry H J (Go q url) w) in
    subst P here (record {
      told = rw (same-refl p, mine.silent) (told_own H p o (mine_of H p o J) (Go p url) (out H J (Go p url)) mine.told);
      mine = rw (same-refl p, mine.silent) mine.mine;
    })
