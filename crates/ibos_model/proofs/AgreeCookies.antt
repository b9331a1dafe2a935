-- The acts on cookies agree with their facts.
use Rattle.std.proofs.Common.{◌≡◌, ◌≢◌, ℕ, List, [], ◌++◌, Bool, true, false, ◌&&◌, Option, Some, None, refl, ◌∙◌, ap, arith}
use Rattle.std.specs.Prelude.{bytes_eq}
use Rattle.std.proofs.lemmas.Bool.Decides.{nat_tests}
use Rattle.ibos_kinds.specs.declared.names.Instance.{Instance}
use Rattle.ibos_kinds.specs.declared.party.Party.TheVariants.{Page as PageOf}
use Rattle.ibos_kinds.specs.declared.names.Side.{Side}
use Rattle.ibos_kinds.specs.declared.outcome.Outcome.{Outcome}
use Rattle.ibos_kinds.specs.declared.rule.Rule.{Rule}
use Rattle.ibos_kinds.specs.declared.act.Act.TheVariants.{CookieSet, CookieGet}
use Rattle.ibos_kinds.specs.declared.cookies.Cookie.{Cookie}
use Rattle.ibos_origin.specs.Hosts.{HostTable}
use Rattle.ibos_origin.specs.Pages.{Page}
use Rattle.ibos_model.specs.Journal.{Journal, is_ok, is_accepted, same}
use Rattle.ibos_model.specs.Tabs.{tabs, Life, Unborn, Alive, Gone, life_with, life_of, origin_of, origin_with}
use Rattle.ibos_model.specs.Jars.{with_set, jar, sets_of}
use Rattle.ibos_model.specs.Network.{network}
use Rattle.ibos_model.specs.Stored.{puts_of, requests_of}
use Rattle.ibos_model.specs.Outcomes.{admitted, answer, set_outcome, get_outcome, out}
use Rattle.ibos_model.specs.Facts.{OtherSet, when, Suits}
use Rattle.ibos_model.specs.Gives.{Mine, gives_from, mine_from}
use Rattle.ibos_model.specs.Delivered.{told}
use Rattle.ibos_model.proofs.Equalities.{same-true, bytes_eq-refl, and-true}
use Rattle.ibos_kinds.specs.Cookies.{set_breaks}
use Rattle.ibos_model.proofs.EntriesAgree.{mine_of, Agrees, entry, answers, admit_same, told_own}

-- ---- cookies

-- an act of another tells nothing
pub no_items : (broken : Option Rule) → (answer broken).items ≡ []
no_items None = refl
no_items (Some rule) = refl

pub answer_told : (p : Instance) (life : Life) (broken : Option Rule) → told (PageOf p) (admitted life (answer broken)).items ≡ []
answer_told p Unborn broken = refl
answer_told p Gone broken = refl
answer_told p Alive broken = ap (told (PageOf p)) (no_items broken)

set_row_items : (text : List ℕ) (sets : List Cookie) → (set_outcome text sets).items ≡ []
set_row_items text sets = no_items (set_breaks text (jar sets))

other_set_told : (p who : Instance) (life : Life) (text : List ℕ) (sets : List Cookie) → told (PageOf p) (admitted life (set_outcome text sets)).items ≡ []
other_set_told p who Unborn text sets = refl
other_set_told p who Gone text sets = refl
other_set_told p who Alive text sets = ap (told (PageOf p)) (set_row_items text sets)

other_get_told : (p who : Instance) (life : Life) (sets : List Cookie) → same who p ≡ false → told (PageOf p) (admitted life (get_outcome who sets)).items ≡ []
other_get_told p who Unborn sets differ = refl
other_get_told p who Gone sets differ = refl
other_get_told p who Alive sets differ = grind (arith, nat_tests)

-- an accepted own act is one of an instance of the origin
pub counts_own : (o : List ℕ) (row : List ℕ → Outcome) (page : Option Page) (gone : Bool) → (life_with page gone ≢ Unborn → origin_with page ≡ o)
    → (is_ok (admitted (life_with page gone) (row (origin_with page))).head && bytes_eq (origin_with page) o) ≡ is_ok (admitted (life_with page gone) (row o)).head
counts_own o row None gone suits = refl
counts_own o row (Some page) true suits = refl
counts_own o row (Some page) false suits =
    let is : page.origin ≡ o = suits (λ unborn. cc) in
    rw (is, bytes_eq-refl o) (and-true _)

counts_other : (H : HostTable) (p : Instance) (o text : List ℕ) (counts : Bool) (m : Mine)
    → record m { sets = with_set counts text m.sets } ≡ mine_from H p o m (when counts (OtherSet text) ++ [])
counts_other H p o text true m = refl
counts_other H p o text false m = refl

silent_other : (H : HostTable) (p : Instance) (o : List ℕ) (m : Mine) (text : List ℕ) (counts : Bool) → [] ≡ gives_from H p o m (when counts (OtherSet text) ++ [])
silent_other H p o m text true = refl
silent_other H p o m text false = refl

pub set_agrees : (H : HostTable) (p : Instance) (o : List ℕ) (J : Journal) (side : Side) (who : Instance) (text w : List ℕ) → Suits H p o J
    → (own : Bool) → same who p ≡ own → Agrees H p o J (entry H J (CookieSet side who text) w)
unfolding tabs sets_of network puts_of requests_of
set_agrees H p o J side who text w suits true own =
    let here : who ≡ p = same-true who p own in
    record {
      told = rw own (told_own H p o (mine_of H p o J) (CookieSet side who text) (out H J (CookieSet side who text))
          (ap (answers p) (ap (λ q. out H J (CookieSet side q text)) here ∙ admit_same o (λ origin. set_outcome text (sets_of H J origin)) ((tabs H J).page p) ((tabs H J).is_gone p) suits)));
      mine = rw (own, here) (ap (λ counts. record (mine_of H p o J) { sets = with_set counts text (sets_of H J o) })
          (counts_own o (λ origin. set_outcome text (sets_of H J origin)) ((tabs H J).page p) ((tabs H J).is_gone p) suits));
    }
set_agrees H p o J side who text w suits false other =
    let counts = is_accepted (entry H J (CookieSet side who text) w) && bytes_eq (origin_of H J who) o in
    record {
      told = rw other (other_set_told p who (life_of H J who) text (sets_of H J (origin_of H J who)) ∙ silent_other H p o (mine_of H p o J) text counts);
      mine = rw other (counts_other H p o text counts (mine_of H p o J));
    }

pub get_agrees : (H : HostTable) (p : Instance) (o : List ℕ) (J : Journal) (side : Side) (who : Instance) (w : List ℕ) → Suits H p o J
    → (own : Bool) → same who p ≡ own → Agrees H p o J (entry H J (CookieGet side who) w)
unfolding tabs sets_of network puts_of requests_of
get_agrees H p o J side who w suits true own =
    let here : who ≡ p = same-true who p own in
    record {
      told = rw own (told_own H p o (mine_of H p o J) (CookieGet side who) (out H J (CookieGet side who))
          (ap (answers p) (ap (λ q. admitted (life_of H J q) (get_outcome who (sets_of H J (origin_of H J q)))) here ∙ admit_same o (λ origin. get_outcome who (sets_of H J origin)) ((tabs H J).page p) ((tabs H J).is_gone p) suits)));
      mine = rw own refl;
    }
get_agrees H p o J side who w suits false other = record {
  told = rw other (other_get_told p who (life_of H J who) (sets_of H J (origin_of H J who)) other);
  mine = rw other refl;
}
