-- An instance that started is at the endpoint of its page.
use Rattle.std.proofs.Common.{◌≡◌, ℕ, List, Bool, true, false, Option, Some, ◌∙◌, ap, subst}
use Rattle.std.specs.Prelude.{if◌then◌else◌, unwrap_or, Ok}
use Rattle.ibos_kinds.specs.declared.names.Endpoint.{Endpoint}
use Rattle.ibos_kinds.specs.declared.names.Instance.{Instance}
use Rattle.ibos_origin.specs.Endpoints.{origin_endpoint}
use Rattle.ibos_origin.specs.Hosts.{HostTable}
use Rattle.ibos_origin.specs.Pages.{Page, allowed, endpoint_of}
use Rattle.ibos_origin.specs.Tables.{HasPlainNames}
use Rattle.ibos_model.specs.Journal.{Journal, is_accepted, same}
use Rattle.ibos_model.specs.Laws.{AreAtEndpoints}
use Rattle.ibos_model.specs.Network.{endpoint_for, no_endpoint}
use Rattle.ibos_model.specs.Tabs.{Tabs, Change, Opens, Moves, Ends, changed, origin_with, tabs}
use Rattle.ibos_model.proofs.ChangeFolds.{tabs_keep}
use Rattle.ibos_model.proofs.ChangesDue.{IsDue, MayShow, changes_due}

-- what ibos_origin says of endpoints
abbrev pub DoFollow : Type 0
DoFollow = (H : HostTable) (text : List ℕ) (page : Page) → HasPlainNames H → allowed H text ≡ Ok page → origin_endpoint H page.origin ≡ Some (endpoint_of page)

-- each page that was opened may be shown
abbrev MayAll : HostTable → Tabs → Type 0
MayAll H t = (p : Instance) (page : Page) → t.page p ≡ Some page → MayShow H page

opened_may : (H : HostTable) (here : Bool) (page shown : Page) (old : Option Page) → MayShow H page → (old ≡ Some shown → MayShow H shown)
    → (if here then Some page else old) ≡ Some shown → MayShow H shown
opened_may H true page shown old may before is = subst (MayShow H) (ap (λ o. unwrap_or o page) is) may
opened_may H false page shown old may before is = before is

changed_may : (H : HostTable) (t : Tabs) (c : Change) → MayAll H t → IsDue ⊥ H t c → MayAll H (changed t c)
changed_may H t (Opens who page) may due p shown is = opened_may H (same who p) page shown (t.page p) due.2 (may p shown) is
changed_may H t (Moves who url) may due p shown is = may p shown is
changed_may H t (Ends who) may due p shown is = may p shown is

pages_may : (H : HostTable) (J : Journal) → MayAll H (tabs H J)
pages_may H J = tabs_keep H (λ K. Unit {0}) (IsDue ⊥ H) (MayAll H) (λ p page is. cc) (changed_may H) (λ K e good. tt)
    (λ K e good may. changes_due ⊥ H K e.act (is_accepted e) absurd absurd) J tt

pub at_endpoints : DoFollow → AreAtEndpoints
at_endpoints follow H J p page plain is =
    let may = pages_may H J p page is in
    ap (λ o. endpoint_for H (origin_with o)) is ∙ ap (λ (e : Option Endpoint). unwrap_or e no_endpoint) (follow H may.0 page plain may.1)
