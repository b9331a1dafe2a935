-- What it takes that one entry agrees with its facts.
use Rattle.std.proofs.Common.{◌≡◌, ◌≢◌, ℕ, List, [], ◌∷◌, Bool, true, false, Option, Some, None, refl, sym, ◌∙◌, ap, append-nil}
use Rattle.ibos_kinds.specs.declared.names.Instance.{Instance}
use Rattle.std.specs.Prelude.{filter}
use Rattle.ibos_kinds.specs.declared.party.Party.TheVariants.{Page as PageOf}
use Rattle.ibos_kinds.specs.declared.act.Act.{Act}
use Rattle.ibos_kinds.specs.declared.outcome.Outcome.{Outcome}
use Rattle.ibos_origin.specs.Hosts.{HostTable}
use Rattle.ibos_origin.specs.Pages.{Page}
use Rattle.ibos_model.specs.Journal.{Entry, Journal}
use Rattle.ibos_model.specs.Tabs.{tabs, Unborn, life_with, origin_with}
use Rattle.ibos_model.specs.Jars.{sets_of}
use Rattle.ibos_model.specs.Network.{network}
use Rattle.ibos_model.specs.OwnBell.{is_for}
use Rattle.ibos_model.specs.Stored.{puts_of, requests_of}
use Rattle.ibos_model.specs.Outcomes.{admitted}
use Rattle.ibos_model.specs.Facts.{Fact, Own, facts_at}
use Rattle.ibos_model.specs.Gives.{Mine, own_out, deliveries, mine_after, gives_from}
use Rattle.ibos_model.specs.Delivered.{Delivery, Answer, told, told_at}
use Rattle.ibos_model.proofs.ChangesTold.{mine_in}
pub use Rattle.ibos_model.proofs.Entries.{entry}
use Rattle.ibos_model.proofs.Inductions.{Law, OneMore}

-- what the journal says, whatever the life
abbrev pub held_of : HostTable → Instance → List ℕ → Journal → Mine
held_of H p o J = record {
  life = Unborn;
  sets = sets_of H J o;
  flows = (network J).flows p;
  unread = (network J).unread p;
  pending = filter (is_for H.local p) (network J).pending;
  buffers = (network J).buffers p;
  away = (network J).away p;
  objects = puts_of H J o;
  requests = requests_of J p;
}

-- what is counted for p, read from the journal
abbrev pub mine_of : HostTable → Instance → List ℕ → Journal → Mine
mine_of H p o J = mine_in (tabs H J) p (held_of H p o J)

-- the law of an instance and an origin
abbrev pub own_law : HostTable → Instance → List ℕ → Law Entry Mine Fact Delivery
own_law H p o = record {
  facts = facts_at H p o;
  tells = λ J e. told_at (PageOf p) e;
  gives = deliveries H p o;
  after = mine_after H p o;
  state = mine_of H p o;
}

abbrev pub Agrees : HostTable → Instance → List ℕ → Journal → Entry → Type 0
Agrees H p o J e = OneMore (own_law H p o) J e

-- what an own act tells its instance
abbrev pub answers : Instance → Outcome → List Delivery
answers p outcome = Answer outcome.head ∷ told (PageOf p) outcome.items

-- the origin matters only where the instance is there
pub admit_same : (o : List ℕ) (row : List ℕ → Outcome) (page : Option Page) (gone : Bool) → (life_with page gone ≢ Unborn → origin_with page ≡ o)
    → admitted (life_with page gone) (row (origin_with page)) ≡ admitted (life_with page gone) (row o)
admit_same o row None gone suits = refl
admit_same o row (Some page) true suits = refl
admit_same o row (Some page) false suits = ap row (suits (λ unborn. cc))

pub told_own : (H : HostTable) (p : Instance) (o : List ℕ) (m : Mine) (a : Act) (outcome : Outcome) → answers p outcome ≡ answers p (own_out H o a m)
    → Answer outcome.head ∷ told (PageOf p) outcome.items ≡ gives_from H p o m (Own a ∷ [])
told_own H p o m a outcome is = is ∙ sym (append-nil _)
