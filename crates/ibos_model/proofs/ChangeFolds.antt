-- One induction for what changes of the tabs keep.
use Rattle.std.proofs.Common.{List, [], ◌∷◌, Bool, true, false, ◌≡◌, refl}
use Rattle.ibos_origin.specs.Hosts.{HostTable}
use Rattle.ibos_model.specs.Journal.{Entry, Journal, is_accepted}
use Rattle.ibos_model.specs.Focus.{focus_of}
use Rattle.ibos_model.specs.Tabs.{Tabs, Change, changed, changed_by, changes, tabs, no_tabs, if_ok}

-- each change is so where it comes
abbrev pub All : (Tabs → Change → Type 0) → Tabs → List Change → Type 0
All Is t [] = Unit {0}
All Is t (c ∷ cs) = Is t c × All Is (changed t c) cs

pub all_if_ok : (Is : Tabs → Change → Type 0) (t : Tabs) (ok : Bool) (cs : List Change) → (ok ≡ true → All Is t cs) → All Is t (if_ok ok cs)
all_if_ok Is t true cs all = all refl
all_if_ok Is t false cs all = tt

-- changes keep what each of them keeps
pub changed_by_keeps : (Is : Tabs → Change → Type 0) (Holds : Tabs → Type 0) → ((t : Tabs) (c : Change) → Holds t → Is t c → Holds (changed t c))
    → (t : Tabs) (cs : List Change) → Holds t → All Is t cs → Holds (changed_by t cs)
changed_by_keeps Is Holds keeps t [] holds all = holds
changed_by_keeps Is Holds keeps t (c ∷ cs) holds all = changed_by_keeps Is Holds keeps (changed t c) cs (keeps t c holds all.0) all.1

-- and so do journals whose entries' changes are so
pub tabs_keep : (H : HostTable) (Good : Journal → Type 0) (Is : Tabs → Change → Type 0) (Holds : Tabs → Type 0) → Holds no_tabs
    → ((t : Tabs) (c : Change) → Holds t → Is t c → Holds (changed t c))
    → ((J : Journal) (e : Entry) → Good (e ∷ J) → Good J)
    → ((J : Journal) (e : Entry) → Good (e ∷ J) → Holds (tabs H J) → All Is (tabs H J) (changes H (tabs H J) (focus_of J) (is_accepted e) e.act))
    → (J : Journal) → Good J → Holds (tabs H J)
unfolding tabs
tabs_keep H Good Is Holds first keeps before all [] good = first
tabs_keep H Good Is Holds first keeps before all (e ∷ J) good =
    let holds : Holds (tabs H J) = tabs_keep H Good Is Holds first keeps before all J (before J e good) in
    changed_by_keeps Is Holds keeps (tabs H J) (changes H (tabs H J) (focus_of J) (is_accepted e) e.act) holds (all J e good holds)
