-- What concerns one instance of one origin.
use Rattle.std.specs.Prelude.{ℕ, ◌≡◌, ◌≢◌, List, [], ◌∷◌, ◌++◌, ◌-◌, Bool, not, ◌&&◌, nat_lt}
use Rattle.std.specs.Prelude.{bytes_eq, filter, map, Option, if◌then◌else◌}
use Rattle.ibos_kinds.specs.declared.names.Instance.{Instance}
use Rattle.ibos_kinds.specs.declared.act.Act.{Act}
use Rattle.ibos_kinds.specs.declared.act.Act.TheVariants.{Press, Click, CookieSet}
use Rattle.ibos_kinds.specs.declared.act.Act.TheVariants.{RxBell, WireIn, TxBell, Put}
use Rattle.ibos_kinds.specs.declared.act.Act.TheVariants.{StoreAnswer, StoreNone}
use Rattle.ibos_kinds.specs.declared.names.Local.{Local}
use Rattle.ibos_kinds.specs.declared.outcome.Outcome.{Outcome}
use Rattle.ibos_kinds.specs.declared.party.Party.TheVariants.{Page}
use Rattle.ibos_kinds.specs.Parties.{is_by}
use Rattle.ibos_origin.specs.Hosts.{HostTable}
use Rattle.ibos_model.specs.Folds.{in_order}
use Rattle.ibos_model.specs.Journal.{Entry, Journal, if_heard, is_accepted, same}
use Rattle.ibos_kinds.specs.Sends.{homes_of}
use Rattle.ibos_model.specs.Network.{network, over_in}
use Rattle.ibos_model.specs.OwnBell.{is_for}
use Rattle.ibos_model.specs.Rings.{outbound}
use Rattle.ibos_kinds.specs.Keyboard.{key_byte}
use Rattle.ibos_kinds.specs.Screens.{chrome_rows}
use Rattle.ibos_model.specs.Focus.{focus_of, is_active}
use Rattle.ibos_model.specs.Tabs.{Change, Opens, Moves, Ends, changes, tabs, Unborn, life_of}
use Rattle.ibos_model.specs.Tabs.{origin_of, active_of}

pub data Fact : Type 0 where
  Opened : (url : List ℕ) → Fact
  IsAt : (url : List ℕ) → Fact
  IsEnded : Fact
  Own : (act : Act) → Fact
  KeyHit : (byte : ℕ) → Fact
  ClickHit : (row col : ℕ) → Fact
  OtherSet : (text : List ℕ) → Fact
  OtherPut : (key bytes : List ℕ) → Fact
  Frame : (w : List ℕ) → Fact
  Bell : Fact
  HomeOf : (buffer : ℕ) → Fact
  Answered : (request : ℕ) → Fact
  NoneFor : (request : ℕ) → Fact

-- the fact, if the test holds
abbrev pub when : Bool → Fact → List Fact
when test fact = if test then fact ∷ [] else []

-- a change that the instance did not make; within its own act it is told by that
abbrev pub change_fact : Instance → Bool → Change → List Fact
change_fact p own (Opens who page) = when (same who p) (Opened page.url)
change_fact p own (Moves who url) = if own then [] else when (same who p) (IsAt url)
change_fact p own (Ends who) = if own then [] else when (same who p) IsEnded

abbrev pub change_facts : Instance → Bool → List Change → List Fact
change_facts p own [] = []
change_facts p own (c ∷ cs) = change_fact p own c ++ change_facts p own cs

abbrev pub others : (Instance → List ℕ) → Instance → List ℕ → Bool → Act → List Fact
others origins p o ok (CookieSet side who text) = if same who p then []
    else when (ok && bytes_eq (origins who) o) (OtherSet text)
others origins p o ok (Put who key bytes) = if same who p then []
    else when (ok && bytes_eq (origins who) o) (OtherPut key bytes)
others origins p o ok other = []

-- a key or a click that goes to the active instance
abbrev pub hits : Instance → Option Instance → Bool → Bool → Act → List Fact
hits p active at_entry_line ok (Press key) = when (ok
    && (not at_entry_line && is_active p active)) (KeyHit (key_byte key))
hits p active at_entry_line ok (Click row col) = when (ok
    && (not (nat_lt row chrome_rows) && is_active p active)) (ClickHit (row - chrome_rows) col)
hits p active at_entry_line ok other = []

-- what the device wrote for a frame that was heard
abbrev pub heard_by : Act → Outcome → List ℕ → List (List ℕ)
heard_by (WireIn frame) outcome written = if_heard outcome written
heard_by other outcome written = []

-- a heard frame for one of the instance's ports
abbrev pub arrivals : Local → Instance → Entry → List Fact
arrivals local p e = map Frame (filter (is_for local p) (heard_by e.act e.outcome e.written))

-- a receive bell, whatever it brings to whom
abbrev pub bells : Bool → Act → List Fact
bells ok RxBell = when ok Bell
bells ok other = []

-- the instance's buffers that a transmit bell returns to it, while it lives
abbrev pub homes : Bool → List ℕ → Bool → Act → List Fact
homes ended buffers ok TxBell = if ok && not ended then map HomeOf buffers else []
homes ended buffers ok other = []

-- an answer to a request of the instance, without its version and its bytes
abbrev pub replies : Instance → Bool → Act → List Fact
replies p ok (StoreAnswer who request origin key version) = when (ok
    && same who p) (Answered request)
replies p ok (StoreNone who request) = when (ok && same who p) (NoneFor request)
replies p ok other = []

-- what one entry adds
abbrev pub facts_at : HostTable → Instance → List ℕ → Journal → Entry → List Fact
facts_at H p o J e =
    when (is_by (Page p) e.act) (Own e.act)
    ++ (hits p (active_of H J) (focus_of J).at_entry_line (is_accepted e) e.act
    ++ (others (origin_of H J) p o (is_accepted e) e.act
    ++ (arrivals H.local p e
    ++ (bells (is_accepted e) e.act
    ++ (homes (over_in (tabs H J) p) (homes_of p (network J).sends (outbound (network J).rings))
    (is_accepted e) e.act
    ++ (replies p (is_accepted e) e.act
    ++ change_facts p (is_by (Page p) e.act)
    (changes H (tabs H J) (focus_of J) (is_accepted e) e.act)))))))

-- the facts in the journal's order
abbrev pub facts : HostTable → Instance → List ℕ → Journal → List Fact
facts H p o J = in_order (facts_at H p o) J

-- the instance never started, or it has this origin
abbrev pub Suits : HostTable → Instance → List ℕ → Journal → Type 0
Suits H p o J = life_of H J p ≢ Unborn → origin_of H J p ≡ o
