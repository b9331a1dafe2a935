-- A change of the tabs, which is no act of the instance, gives what it tells.
use Rattle.std.proofs.Common.{◌≡◌, ◌≢◌, ℕ, List, [], ◌∷◌, ◌++◌, Bool, true, false, Option, Some, None, refl, sym, ◌∙◌, ap, subst, arith, map}
use Rattle.std.specs.Prelude.{if◌then◌else◌, filter}
use Rattle.std.proofs.lemmas.Bool.Decides.{nat_tests}
use Rattle.std.proofs.lemmas.List.Elements.{filter-append}
use Rattle.std.proofs.lemmas.List.{map-append}
use Rattle.ibos_kinds.specs.declared.names.Instance.{Instance}
use Rattle.ibos_kinds.specs.declared.party.Party.TheVariants.{Page as PageOf}
use Rattle.ibos_kinds.specs.declared.outcome.Item.{Item}
use Rattle.ibos_kinds.specs.declared.outcome.Item.TheVariants.{Opened as ItemOpened, Moved, Ended}
use Rattle.ibos_origin.specs.Hosts.{HostTable}
use Rattle.ibos_origin.specs.Pages.{Page}
use Rattle.ibos_model.specs.Journal.{same}
use Rattle.ibos_model.specs.Tabs.{Tabs, Change, Opens, Moves, Ends, changed, changed_by, life_with}
use Rattle.ibos_model.specs.Facts.{Opened, IsEnded, when, change_fact, change_facts}
use Rattle.ibos_model.specs.Gives.{Mine, away_with, deliveries, mine_after, gives_from, mine_from}
use Rattle.ibos_model.specs.Delivered.{Told, told}
use Rattle.ibos_kinds.specs.Parties.{is_to}
use Rattle.ibos_model.proofs.Equalities.{same-true}
use Rattle.ibos_model.proofs.Inductions.{given-append, counted-append}
use Rattle.ibos_model.proofs.ChangesDue.{IsSound, Allows, AllowsAll, changed_sound, next_ord}

-- what a change tells its instance
abbrev pub item_of : Change → Item
item_of (Opens who page) = ItemOpened who page.url
item_of (Moves who url) = Moved who url
item_of (Ends who) = Ended who

-- what is counted: held, but for the life, and the buffers that are away after it
abbrev pub mine_with : Option Page → Bool → Mine → Mine
mine_with page gone held = record held { life = life_with page gone; away = away_with (life_with page gone) held.away }

abbrev pub mine_in : Tabs → Instance → Mine → Mine
mine_in t p held = mine_with (t.page p) (t.is_gone p) held

change_told : (H : HostTable) (p : Instance) (o : List ℕ) (m : Mine) (c : Change) → told (PageOf p) (item_of c ∷ []) ≡ gives_from H p o m (change_fact p false c)
change_told H p o m (Opens who page) = grind (arith, nat_tests, same-true who p)
change_told H p o m (Moves who url) = grind (arith, nat_tests, same-true who p)
change_told H p o m (Ends who) = grind (arith, nat_tests, same-true who p)

mine_opened : (H : HostTable) (p : Instance) (o url : List ℕ) (here : Bool) (page : Page) (old : Option Page) (gone : Bool) (held : Mine) → (here ≡ true → gone ≡ false)
    → mine_with (if here then Some page else old) gone held ≡ mine_from H p o (mine_with old gone held) (when here (Opened url))
mine_opened H p o url true page None gone held new = rw (new refl) refl
mine_opened H p o url true page (Some x) gone held new = rw (new refl) refl
mine_opened H p o url false page old gone held new = refl

mine_ended : (H : HostTable) (p : Instance) (o : List ℕ) (here : Bool) (page : Option Page) (gone : Bool) (held : Mine) → (here ≡ true → page ≢ None)
    → mine_with page (if here then true else gone) held ≡ mine_from H p o (mine_with page gone held) (when here IsEnded)
mine_ended H p o true None gone held there = absurd (there refl refl)
mine_ended H p o true (Some page) gone held there = refl
mine_ended H p o false page gone held there = refl

change_mine : (H : HostTable) (p : Instance) (o : List ℕ) (t : Tabs) (held : Mine) (c : Change) → IsSound t → Allows H t c → mine_in (changed t c) p held ≡ mine_from H p o (mine_in t p held) (change_fact p false c)
change_mine H p o t held (Opens who page) sound allowed = mine_opened H p o page.url (same who p) page (t.page p) (t.is_gone p) held
    (λ here. sound.kept p (sound.unborn p (grind (arith, nat_tests, same-true who p here, next_ord t who allowed.0))))
change_mine H p o t held (Moves who url) sound allowed = grind (arith, nat_tests)
change_mine H p o t held (Ends who) sound allowed = mine_ended H p o (same who p) (t.page p) (t.is_gone p) held
    (λ here. subst (λ q. t.page q ≢ None) (same-true who p here) (allowed tt).there)

told-append : (p : Instance) (xs ys : List Item) → told (PageOf p) (xs ++ ys) ≡ told (PageOf p) xs ++ told (PageOf p) ys
told-append p xs ys = ap (map Told) (filter-append (is_to (PageOf p)) xs ys) ∙ map-append Told (filter (is_to (PageOf p)) xs) (filter (is_to (PageOf p)) ys)

pub changes_told : (H : HostTable) (p : Instance) (o : List ℕ) (t : Tabs) (held : Mine) (cs : List Change) → IsSound t → AllowsAll H t cs
    → (told (PageOf p) (map item_of cs) ≡ gives_from H p o (mine_in t p held) (change_facts p false cs))
    × (mine_in (changed_by t cs) p held ≡ mine_from H p o (mine_in t p held) (change_facts p false cs))
changes_told H p o t held [] sound allowed = (refl, refl)
changes_told H p o t held (c ∷ cs) sound allowed =
    let m = mine_in t p held in
    let is = change_mine H p o t held c sound allowed.0 in
    let rest = changes_told H p o (changed t c) held cs (changed_sound H t c sound allowed.0) allowed.1 in (
      told-append p (item_of c ∷ []) (map item_of cs)
          ∙ ap (λ ds. ds ++ told (PageOf p) (map item_of cs)) (change_told H p o m c)
          ∙ ap (λ ds. gives_from H p o m (change_fact p false c) ++ ds) (rest.0 ∙ ap (λ n. gives_from H p o n (change_facts p false cs)) is)
          ∙ sym (given-append (deliveries H p o) (mine_after H p o) m (change_fact p false c) (change_facts p false cs)),
      rest.1 ∙ ap (λ n. mine_from H p o n (change_facts p false cs)) is
          ∙ sym (counted-append (mine_after H p o) m (change_fact p false c) (change_facts p false cs)),
    )
