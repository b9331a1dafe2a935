-- Which instances started, live and ended, and what they show.
use Rattle.std.specs.Prelude.{ℕ, ◌+◌, List, [], ◌∷◌, Bool, true, false, ◌==◌, ◌&&◌, option_and_then}
use Rattle.std.specs.Prelude.{Option, Some, None, Ok, Err, Result, bytes_eq, if◌then◌else◌}
use Rattle.ibos_kinds.specs.declared.names.Instance.{Instance}
use Rattle.ibos_kinds.specs.declared.rule.Rule.{Rule}
use Rattle.ibos_kinds.specs.declared.act.Act.{Act}
use Rattle.ibos_kinds.specs.declared.act.Act.TheVariants.{Start, Close, Press, Go}
use Rattle.ibos_kinds.specs.declared.names.Key.TheVariants.{Enter}
use Rattle.ibos_origin.specs.Hosts.{HostTable}
use Rattle.ibos_origin.specs.Pages.{Page, allowed}
use Rattle.ibos_model.specs.Journal.{Journal, is_accepted, same}
use Rattle.ibos_model.specs.Focus.{Focus, focus_of}

-- what the user and the pages made of the tabs
pub record Tabs : Type 0 where
  -- how many instances a tab has had
  pub count : ℕ → ℕ
  -- the tab's live instance
  pub live : ℕ → Option Instance
  -- the page that an instance was opened with
  pub page : Instance → Option Page
  pub url : Instance → List ℕ
  pub is_gone : Instance → Bool

abbrev pub no_tabs : Tabs
no_tabs = record {
  count = λ tab. 0;
  live = λ tab. None;
  page = λ p. None;
  url = λ p. [];
  is_gone = λ p. false;
}

-- unborn, alive or gone
pub data Life : Type 0 where
  Unborn : Life
  Alive : Life
  Gone : Life

abbrev pub life_with : Option Page → Bool → Life
life_with None gone = Unborn
life_with (Some page) gone = if gone then Gone else Alive

abbrev pub life_in : Tabs → Instance → Life
life_in t p = life_with (t.page p) (t.is_gone p)

abbrev pub origin_with : Option Page → List ℕ
origin_with None = []
origin_with (Some page) = page.origin

abbrev pub origin_in : Tabs → Instance → List ℕ
origin_in t p = origin_with (t.page p)

-- a change to one instance
pub data Change : Type 0 where
  Opens : (who : Instance) (page : Page) → Change
  Moves : (who : Instance) (url : List ℕ) → Change
  Ends : (who : Instance) → Change

abbrev pub at_tab : {A : Type 0} → Instance → A → (ℕ → A) → ℕ → A
at_tab who x f tab = if who.tab == tab then x else f tab

abbrev pub at : {A : Type 0} → Instance → A → (Instance → A) → Instance → A
at who x f q = if same who q then x else f q

abbrev pub changed : Tabs → Change → Tabs
changed t (Opens who page) = record {
  count = at_tab who (t.count who.tab + 1) t.count;
  live = at_tab who (Some who) t.live;
  page = at who (Some page) t.page;
  url = at who page.url t.url;
  is_gone = t.is_gone;
}
changed t (Moves who url) = record t { url = at who url t.url }
changed t (Ends who) = record t { live = at_tab who None t.live; is_gone = at who true t.is_gone }

abbrev pub changed_by : Tabs → List Change → Tabs
changed_by t [] = t
changed_by t (c ∷ cs) = changed_by (changed t c) cs

abbrev pub next_in : Tabs → ℕ → Instance
next_in t tab = record { tab = tab; ord = t.count tab }

-- the page opens as the tab's next instance
abbrev pub opening : Tabs → ℕ → Result Page Rule → List Change
opening t tab (Ok page) = Opens (next_in t tab) page ∷ []
opening t tab (Err rule) = []

abbrev pub end : Option Instance → List Change
end None = []
end (Some who) = Ends who ∷ []

-- an instance goes to a page, within its origin or out of it
abbrev pub leave : Tabs → Instance → Result Page Rule → List Change
leave t who (Ok page) = if bytes_eq page.origin (origin_in t who) then Moves who page.url ∷ []
    else Ends who ∷ Opens (next_in t who.tab) page ∷ []
leave t who (Err rule) = []

abbrev pub if_ok : Bool → List Change → List Change
if_ok ok changes = if ok then changes else []

-- the live instance of the active tab
abbrev pub active_in : Tabs → Focus → Option Instance
active_in t f = option_and_then t.live f.tab

-- the active instance goes to the page of the entry line
abbrev pub entering : Tabs → Option Instance → Result Page Rule → List Change
entering t None r = []
entering t (Some who) r = leave t who r

-- what an act changes, if it is accepted
abbrev pub changes : HostTable → Tabs → Focus → Bool → Act → List Change
changes H t f ok (Start tab url) = if_ok ok (opening t tab (allowed H url))
changes H t f ok (Close tab) = if_ok ok (end (t.live tab))
changes H t f ok (Press Enter) = if_ok (ok
    && f.at_entry_line) (entering t (active_in t f) (allowed H f.entry_line))
changes H t f ok (Go who url) = if_ok ok (leave t who (allowed H url))
changes H t f ok other = []

-- the tabs after a journal
unfoldable pub tabs : HostTable → Journal → Tabs
tabs H [] = no_tabs
tabs H (e ∷ J) = changed_by (tabs H J) (changes H (tabs H J) (focus_of J) (is_accepted e) e.act)

abbrev pub life_of : HostTable → Journal → Instance → Life
life_of H J p = life_in (tabs H J) p

abbrev pub origin_of : HostTable → Journal → Instance → List ℕ
origin_of H J p = origin_in (tabs H J) p

-- the live instance of the active tab, after a journal
abbrev pub active_of : HostTable → Journal → Option Instance
active_of H J = active_in (tabs H J) (focus_of J)
