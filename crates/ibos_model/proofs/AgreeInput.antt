-- The user's keys, clicks and looks, and the draws of pages, agree with their facts.
use Rattle.std.proofs.Common.{◌≡◌, ℕ, ◌+◌, zero, suc, List, [], ◌++◌, Bool, true, false, ◌&&◌, Option, Some, None, Ok, Err, Result, refl, sym, ◌∙◌, ap, subst, arith, map}
use Rattle.std.specs.Prelude.{if◌then◌else◌, not, nat_lt, ◌-◌}
use Rattle.std.proofs.lemmas.Bool.Decides.{nat_tests}
use Rattle.ibos_kinds.specs.declared.names.Instance.{Instance}
use Rattle.ibos_kinds.specs.declared.party.Party.TheVariants.{Page as PageOf}
use Rattle.ibos_kinds.specs.declared.names.Key.{Key}
use Rattle.ibos_kinds.specs.declared.names.Key.TheVariants.{Byte, Enter, Back}
use Rattle.ibos_kinds.specs.declared.rule.Rule.{Rule}
use Rattle.ibos_kinds.specs.declared.rule.Rule.TheVariants.{U12}
use Rattle.ibos_kinds.specs.declared.act.Act.TheVariants.{Press, Click, Look, Draw}
use Rattle.ibos_kinds.specs.Keyboard.{key_breaks, key_byte}
use Rattle.ibos_kinds.specs.Screens.{chrome_rows, content_rows, is_on_screen, draw_breaks}
use Rattle.ibos_kinds.specs.declared.outcome.Outcome.{Outcome}
use Rattle.ibos_origin.specs.Hosts.{HostTable}
use Rattle.ibos_origin.specs.Pages.{Page, allowed}
use Rattle.ibos_model.specs.Journal.{Journal, is_ok, same}
use Rattle.ibos_model.specs.Focus.{focus_of, is_active}
use Rattle.ibos_model.specs.Tabs.{Tabs, Change, tabs, changed_by, entering, if_ok, life_of, active_of}
use Rattle.ibos_model.specs.Jars.{sets_of}
use Rattle.ibos_model.specs.Network.{network}
use Rattle.ibos_model.specs.Stored.{puts_of, requests_of}
use Rattle.ibos_model.specs.Screen.{screen, seen_row}
use Rattle.ibos_model.specs.Outcomes.{accepted, denied, admitted, answer, page_key_outcome, enter_outcome, content_click_outcome, rows_from, draw_outcome, out}
use Rattle.ibos_model.specs.Facts.{Fact, KeyHit, ClickHit, when, change_facts}
use Rattle.ibos_model.specs.Gives.{Mine, gives_from, mine_from}
use Rattle.ibos_model.specs.Delivered.{told}
use Rattle.ibos_model.proofs.Equalities.{same-true}
use Rattle.ibos_model.proofs.ChangesDue.{IsSound, AllowsAll, changes_allowed}
use Rattle.ibos_model.proofs.ChangesTold.{item_of, mine_in, changes_told}
use Rattle.ibos_model.proofs.EntriesAgree.{held_of, mine_of, Agrees, answers, entry, told_own}
use Rattle.ibos_model.proofs.AgreeCookies.{answer_told, no_items}

-- ---- keys

-- a key at the entry line is no hit
no_hit : (ok x : Bool) (fact : Fact) → when (ok && (false && x)) fact ≡ []
no_hit true x fact = refl
no_hit false x fact = refl

-- a hit changes nothing that is counted
key_mine : (H : HostTable) (p : Instance) (o : List ℕ) (m : Mine) (b : Bool) (byte : ℕ) → m ≡ mine_from H p o m (when b (KeyHit byte) ++ [])
key_mine H p o m true byte = refl
key_mine H p o m false byte = refl

key_told : (H : HostTable) (p : Instance) (o : List ℕ) (m : Mine) (active : Option Instance) (key : Key)
    → told (PageOf p) (page_key_outcome active key).items ≡ gives_from H p o m (when (is_ok (page_key_outcome active key).head && (true && is_active p active)) (KeyHit (key_byte key)) ++ [])
key_told H p o m None key = refl
key_told H p o m (Some who) key = grind (arith, nat_tests, same-true who p)

enter_items : (t : Tabs) (active : Option Instance) (r : Result Page Rule)
    → (enter_outcome t active r).items ≡ map item_of (if_ok (is_ok (enter_outcome t active r).head && true) (entering t active r))
enter_items t None r = refl
enter_items t (Some who) (Err rule) = refl
enter_items t (Some who) (Ok page) = grind (arith, nat_tests)

-- what a key gives and what is counted after it, where it has this outcome and makes these changes
record Pressed (H : HostTable) (p : Instance) (o : List ℕ) (t : Tabs) (held : Mine) (active : Option Instance) (at_entry_line : Bool) (key : Key) (outcome : Outcome) (cs : List Change) : Type 0 where
  told : told (PageOf p) outcome.items ≡ gives_from H p o (mine_in t p held) (when (is_ok outcome.head && (not at_entry_line && is_active p active)) (KeyHit (key_byte key)) ++ change_facts p false cs)
  mine : mine_in (changed_by t cs) p held ≡ mine_from H p o (mine_in t p held) (when (is_ok outcome.head && (not at_entry_line && is_active p active)) (KeyHit (key_byte key)) ++ change_facts p false cs)

to_page : (H : HostTable) (p : Instance) (o : List ℕ) (t : Tabs) (held : Mine) (active : Option Instance) (key : Key)
    → Pressed H p o t held active false key (page_key_outcome active key) []
to_page H p o t held active key = record {
  told = key_told H p o (mine_in t p held) active key;
  mine = key_mine H p o (mine_in t p held) _ (key_byte key);
}

typed_in : (H : HostTable) (p : Instance) (o : List ℕ) (t : Tabs) (held : Mine) (active : Option Instance) (key : Key) (broken : Option Rule)
    → Pressed H p o t held active true key (answer broken) []
typed_in H p o t held active key broken = record {
  told = rw (no_hit (is_ok (answer broken).head) (is_active p active) (KeyHit (key_byte key))) (ap (told (PageOf p)) (no_items broken));
  mine = key_mine H p o (mine_in t p held) _ (key_byte key);
}

entered_page : (H : HostTable) (p : Instance) (o : List ℕ) (t : Tabs) (held : Mine) (active : Option Instance) (r : Result Page Rule) → IsSound t
    → AllowsAll H t (if_ok (is_ok (enter_outcome t active r).head && true) (entering t active r))
    → Pressed H p o t held active true Enter (enter_outcome t active r) (if_ok (is_ok (enter_outcome t active r).head && true) (entering t active r))
entered_page H p o t held active r sound allowed =
    let law = changes_told H p o t held (if_ok (is_ok (enter_outcome t active r).head && true) (entering t active r)) sound allowed in
    let none = no_hit (is_ok (enter_outcome t active r).head) (is_active p active) (KeyHit (key_byte Enter)) in
    record {
      told = rw none (ap (told (PageOf p)) (enter_items t active r) ∙ law.0);
      mine = rw none law.1;
    }

-- Enter at the content changes nothing
no_changes : (ok : Bool) (cs : List Change) → if_ok (ok && false) cs ≡ []
no_changes true cs = refl
no_changes false cs = refl

entered_at : (H : HostTable) (p : Instance) (o : List ℕ) (t : Tabs) (held : Mine) (active : Option Instance) (r : Result Page Rule) (at_entry_line : Bool) → IsSound t
    → AllowsAll H t (if_ok (is_ok (if at_entry_line then enter_outcome t active r else page_key_outcome active Enter).head && at_entry_line) (entering t active r))
    → Pressed H p o t held active at_entry_line Enter (if at_entry_line then enter_outcome t active r else page_key_outcome active Enter)
    (if_ok (is_ok (if at_entry_line then enter_outcome t active r else page_key_outcome active Enter).head && at_entry_line) (entering t active r))
entered_at H p o t held active r true sound allowed = entered_page H p o t held active r sound allowed
entered_at H p o t held active r false sound allowed =
    let P : List Change → Type 0 = Pressed H p o t held active false Enter (page_key_outcome active Enter) in
    subst P (sym (no_changes (is_ok (page_key_outcome active Enter).head) (entering t active r))) (to_page H p o t held active Enter)

typed_at : (H : HostTable) (p : Instance) (o : List ℕ) (t : Tabs) (held : Mine) (active : Option Instance) (key : Key) (broken : Option Rule) (at_entry_line : Bool)
    → Pressed H p o t held active at_entry_line key (if at_entry_line then answer broken else page_key_outcome active key) []
typed_at H p o t held active key broken true = typed_in H p o t held active key broken
typed_at H p o t held active key broken false = to_page H p o t held active key

pub press_agrees : (H : HostTable) (p : Instance) (o : List ℕ) (J : Journal) (key : Key) (w : List ℕ) → IsSound (tabs H J) → Agrees H p o J (entry H J (Press key) w)
unfolding tabs sets_of network puts_of requests_of
press_agrees H p o J (Byte byte) w sound =
    let is = typed_at H p o (tabs H J) (held_of H p o J) (active_of H J) (Byte byte) (key_breaks (focus_of J).entry_line (Byte byte)) (focus_of J).at_entry_line in
    record { told = is.told; mine = is.mine }
press_agrees H p o J Back w sound =
    let is = typed_at H p o (tabs H J) (held_of H p o J) (active_of H J) Back None (focus_of J).at_entry_line in
    record { told = is.told; mine = is.mine }
press_agrees H p o J Enter w sound =
    let is = entered_at H p o (tabs H J) (held_of H p o J) (active_of H J) (allowed H (focus_of J).entry_line) (focus_of J).at_entry_line sound (changes_allowed H J (Press Enter) sound) in
    record { told = is.told; mine = is.mine }

-- ---- clicks

click_mine : (H : HostTable) (p : Instance) (o : List ℕ) (m : Mine) (b : Bool) (row col : ℕ) → m ≡ mine_from H p o m (when b (ClickHit row col) ++ [])
click_mine H p o m true row col = refl
click_mine H p o m false row col = refl

clicked_told : (H : HostTable) (p : Instance) (o : List ℕ) (m : Mine) (active : Option Instance) (row col : ℕ) (off low : Bool)
    → told (PageOf p) (if off then denied U12 else if low then accepted [] else content_click_outcome active row col).items
    ≡ gives_from H p o m (when (is_ok (if off then denied U12 else if low then accepted [] else content_click_outcome active row col).head && (not low && is_active p active)) (ClickHit row col) ++ [])
clicked_told H p o m active row col true low = refl
clicked_told H p o m active row col false true = refl
clicked_told H p o m None row col false false = refl
clicked_told H p o m (Some who) row col false false = grind (arith, nat_tests, same-true who p)

pub click_agrees : (H : HostTable) (p : Instance) (o : List ℕ) (J : Journal) (row col : ℕ) (w : List ℕ) → Agrees H p o J (entry H J (Click row col) w)
unfolding tabs sets_of network puts_of requests_of
click_agrees H p o J row col w = record {
  told = clicked_told H p o (mine_of H p o J) (active_of H J) (row - chrome_rows) col (not (is_on_screen row col)) (nat_lt row chrome_rows);
  mine = click_mine H p o (mine_of H p o J) _ (row - chrome_rows) col;
}

-- ---- looks

no_rows : (p : Instance) (n r : ℕ) (f : ℕ → List ℕ) → told (PageOf p) (rows_from r n f) ≡ []
no_rows p zero r f = refl
no_rows p (suc n) r f = no_rows p n (r + 1) f

pub look_agrees : (H : HostTable) (p : Instance) (o : List ℕ) (J : Journal) (w : List ℕ) → Agrees H p o J (entry H J Look w)
unfolding tabs sets_of network puts_of requests_of
look_agrees H p o J w = record { told = no_rows p (chrome_rows + content_rows) 0 (seen_row (screen H J)); mine = refl }

-- ---- draws

pub draw_agrees : (H : HostTable) (p : Instance) (o : List ℕ) (J : Journal) (who : Instance) (row col height width : ℕ) (pixels w : List ℕ)
    → (own : Bool) → same who p ≡ own → Agrees H p o J (entry H J (Draw who row col height width pixels) w)
unfolding tabs sets_of network puts_of requests_of
draw_agrees H p o J who row col height width pixels w true own =
    let here : who ≡ p = same-true who p own in
    record {
      told = rw own (told_own H p o (mine_of H p o J) (Draw who row col height width pixels) (out H J (Draw who row col height width pixels))
          (ap (λ q. answers p (admitted (life_of H J q) (draw_outcome row col height width pixels))) here));
      mine = rw own refl;
    }
draw_agrees H p o J who row col height width pixels w false other = record {
  told = rw other (answer_told p (life_of H J who) (draw_breaks row col height width pixels));
  mine = rw other refl;
}
