-- The address bar begins with the active instance's whole origin.
use Rattle.std.proofs.Common.{◌≡◌, ℕ, zero, suc, ◌≤◌, List, [], ◌∷◌, ◌++◌, Bool, true, false, Option, Some, Ok, refl, sym, ◌∙◌, ap, subst, append_assoc, arith}
use Rattle.std.specs.Prelude.{if◌then◌else◌, nat_lt, ◌&&◌, length, take, map, codes}
use Rattle.std.proofs.lemmas.Slice.Eq.{bytes_eq-Decides}
use Rattle.ibos_kinds.specs.declared.names.Instance.{Instance}
use Rattle.std.specs.List.{list_all}
use Rattle.ibos_kinds.specs.Screens.{columns, is_pixel}
use Rattle.ibos_origin.specs.Hosts.{HostTable}
use Rattle.ibos_origin.specs.Pages.{Page, allowed}
use Rattle.ibos_origin.specs.Tables.{HasPlainNames}
use Rattle.ibos_model.specs.Journal.{Journal, is_accepted, same}
use Rattle.ibos_model.specs.Tabs.{Tabs, Change, Opens, Moves, Ends, changed, tabs, origin_with, origin_in}
use Rattle.ibos_model.specs.Screen.{chrome_byte, bar_text, bar_of}
use Rattle.ibos_model.specs.Laws.{IsOriginShown}
use Rattle.ibos_model.proofs.Equalities.{same-true}
use Rattle.ibos_model.proofs.ChangeFolds.{tabs_keep}
use Rattle.ibos_model.proofs.ChangesDue.{MayShow, IsDue, changes_due}

-- the URL begins with the origin, which has at most 72 bytes, and these are printable
abbrev Fits : List ℕ → List ℕ → Type 0
Fits origin url = (((rest : List ℕ) × (url ≡ origin ++ rest)) × (length origin ≤ 72)) × (list_all is_pixel origin ≡ true)

-- each allowed URL fits, over a host table with plain names
abbrev pub DoPagesFit : Type 0
DoPagesFit = (H : HostTable) (text : List ℕ) (page : Page) → HasPlainNames H → allowed H text ≡ Ok page → Fits page.origin page.url

abbrev AllFit : Tabs → Type 0
AllFit t = (p : Instance) → Fits (origin_in t p) (t.url p)

-- ---- changes

opened_fits : (t : Tabs) (page : Page) (p : Instance) (here : Bool) → Fits page.origin page.url → Fits (origin_in t p) (t.url p)
    → Fits (origin_with (if here then Some page else t.page p)) (if here then page.url else t.url p)
opened_fits t page p true new old = new
opened_fits t page p false new old = old

moved_fits : (t : Tabs) (who p : Instance) (url : List ℕ) (here : Bool) → same who p ≡ here → Fits (origin_in t who) url → Fits (origin_in t p) (t.url p)
    → Fits (origin_in t p) (if here then url else t.url p)
moved_fits t who p url true is new old = subst (λ (q : Instance). Fits (origin_in t q) url) (same-true who p is) new
moved_fits t who p url false is new old = old

may_fit : DoPagesFit → (H : HostTable) → HasPlainNames H → (page : Page) → MayShow H page → Fits page.origin page.url
may_fit pages H plain page may = pages H may.0 page plain may.1

changed_fit : DoPagesFit → (H : HostTable) → HasPlainNames H → (t : Tabs) (c : Change) → AllFit t → IsDue ⊥ H t c → AllFit (changed t c)
changed_fit pages H plain t (Opens who page) fit due p = opened_fits t page p (same who p) (may_fit pages H plain page due.2) (fit p)
changed_fit pages H plain t (Moves who url) fit due p =
    let to = due.1 in
    let fits : Fits to.0.origin to.0.url = may_fit pages H plain to.0 to.1 in
    let here : Fits (origin_in t who) to.0.url = subst (λ (o : List ℕ). Fits o to.0.url) ((bytes_eq-Decides to.0.origin (origin_in t who)).0 to.3) fits in
    moved_fits t who p url (same who p) refl (subst (λ (u : List ℕ). Fits (origin_in t who) u) (sym to.2) here) (fit p)
changed_fit pages H plain t (Ends who) fit due p = fit p

tabs_fit : DoPagesFit → (H : HostTable) → HasPlainNames H → (J : Journal) → AllFit (tabs H J)
tabs_fit pages H plain J = tabs_keep H (λ K. Unit {0}) (IsDue ⊥ H) AllFit (λ p. ((([], refl), omega arith), refl)) (changed_fit pages H plain) (λ K e good. tt)
    (λ K e good fit. changes_due ⊥ H K e.act (is_accepted e) absurd absurd) J tt

-- ---- the bar

front : (f : ℕ → ℕ) (o more : List ℕ) → take (length o) (map f (o ++ more)) ≡ map f o
front f [] more = refl
front f (x ∷ o) more = ap (λ t. f x ∷ t) (front f o more)

cut : (o rest : List ℕ) (n : ℕ) → length o ≤ n → (more : List ℕ) × (take n (o ++ rest) ≡ o ++ more)
cut [] rest n h = (take n rest, refl)
cut (x ∷ o) rest zero h = absurd (omega (arith, h))
cut (x ∷ o) rest (suc n) h =
    let next = cut o rest n (omega (arith, h)) in
    (next.0, ap (λ t. x ∷ t) next.1)

either_fits : (o rest : List ℕ) (long : Bool) → length o ≤ 79 → (more : List ℕ) × ((if long then take 79 (o ++ rest) ++ codes ">" else o ++ rest) ≡ o ++ more)
either_fits o rest false h = (rest, refl)
either_fits o rest true h =
    let part = cut o rest 79 h in
    (part.0 ++ codes ">", ap (λ t. t ++ codes ">") part.1 ∙ append_assoc o part.0 (codes ">"))

-- a printable text is shown as it is
shown_whole : (o : List ℕ) → list_all is_pixel o ≡ true → map chrome_byte o ≡ o
shown_whole [] is = refl
shown_whole (b ∷ o) is = by_first (is_pixel b) refl (λ rest. shown_whole o rest) is
  where
    by_first : (first : Bool) → is_pixel b ≡ first → (list_all is_pixel o ≡ true → map chrome_byte o ≡ o) → (first && list_all is_pixel o) ≡ true → chrome_byte b ∷ map chrome_byte o ≡ b ∷ o
    by_first true h others rest = rw (h, others rest) refl
    by_first false h others rest = cc

bar_begins : (o url : List ℕ) → Fits o url → take (length o) (bar_text url) ≡ o
unfolding bar_text
bar_begins o url fits =
    let rest = fits.0.0.0 in
    let part = either_fits o rest (nat_lt columns (length (o ++ rest))) (omega (arith, fits.0.1)) in
    ap (λ (u : List ℕ). take (length o) (map chrome_byte (if nat_lt columns (length u) then take 79 u ++ codes ">" else u))) fits.0.0.1
    ∙ ap (λ (u : List ℕ). take (length o) (map chrome_byte u)) part.1
    ∙ front chrome_byte o part.0
    ∙ shown_whole o fits.1

pub origin_shown : DoPagesFit → IsOriginShown
origin_shown pages H J who plain active =
    ap (λ (a : Option Instance). take (length (origin_in (tabs H J) who)) (bar_of (tabs H J) a)) active
    ∙ bar_begins (origin_in (tabs H J) who) ((tabs H J).url who) (tabs_fit pages H plain J who)
