-- The acts on stored objects, of renderers and of the storage process, agree with their facts.
use Rattle.std.proofs.Common.{◌≡◌, ◌≢◌, ℕ, List, [], ◌∷◌, ◌++◌, Bool, true, false, ◌&&◌, Option, Some, None, Ok, Err, Result, refl, sym, ◌∙◌, ap, subst, arith, append-nil, map}
use Rattle.std.specs.Prelude.{bytes_eq, if◌then◌else◌, not, unwrap_or, ◌==◌}
use Rattle.std.proofs.lemmas.Bool.Decides.{nat_tests}
use Rattle.std.proofs.lemmas.Slice.Eq.{bytes_eq-Decides}
use Rattle.ibos_kinds.specs.declared.act.Act.TheVariants.{Put, Ask, StoreAnswer, StoreNone, StoreLose}
use Rattle.ibos_kinds.specs.declared.names.Instance.{Instance}
use Rattle.ibos_kinds.specs.declared.outcome.Item.TheVariants.{NoObject, Object}
use Rattle.ibos_kinds.specs.declared.outcome.Outcome.{Outcome}
use Rattle.ibos_kinds.specs.declared.party.Party.TheVariants.{Page as PageOf}
use Rattle.ibos_kinds.specs.declared.rule.Rule.{Rule}
use Rattle.ibos_kinds.specs.declared.rule.Rule.TheVariants.{S6, S7, S8}
use Rattle.ibos_kinds.specs.Labels.{ask_answer, bytes_answer, label_answer, lose_answer, newest_answer, none_answer, put_answer}
use Rattle.ibos_kinds.specs.Objects.{Newest, newest_in, with_put}
use Rattle.ibos_kinds.specs.Requests.{Requests, key_in}
use Rattle.ibos_origin.specs.Hosts.{HostTable}
use Rattle.ibos_origin.specs.Pages.{Page}
use Rattle.ibos_model.specs.Delivered.{Told, told}
use Rattle.ibos_model.specs.Facts.{OtherPut, Suits, when}
use Rattle.ibos_model.specs.Gives.{Mine, answered_items, gives_from, mine_from, newest_item}
use Rattle.ibos_model.specs.Jars.{sets_of}
use Rattle.ibos_model.specs.Journal.{Journal, is_accepted, is_ok, same}
use Rattle.ibos_model.specs.Network.{network}
use Rattle.ibos_model.specs.Outcomes.{admitted, ask_outcome, asked_key, out, put_outcome, request_outcome, unless_denied, version_outcome}
use Rattle.ibos_model.specs.Stored.{objects_of, open_key, puts_of, requests_by, requests_of}
use Rattle.ibos_model.specs.Tabs.{Life, Unborn, Alive, Gone, life_of, life_with, origin_of, origin_with, tabs}
use Rattle.ibos_model.proofs.AgreeCookies.{counts_own}
use Rattle.ibos_model.proofs.EntriesAgree.{mine_of, Agrees, admit_same, answers, entry, told_own}
use Rattle.ibos_model.proofs.Equalities.{same-true, same-refl}
use Rattle.ibos_model.proofs.StoredSteps.{AreFound, found_left, objects_left, put_answer_same}

-- ---- puts

put_other_told : (p who : Instance) (life : Life) (origin key bytes : List ℕ) (r : Result ℕ Rule) → same who p ≡ false
    → told (PageOf p) (admitted life (version_outcome who origin key bytes r)).items ≡ []
put_other_told p who Unborn origin key bytes r other = refl
put_other_told p who Gone origin key bytes r other = refl
put_other_told p who Alive origin key bytes (Ok version) other = rw other refl
put_other_told p who Alive origin key bytes (Err rule) other = refl

other_put_told : (H : HostTable) (p : Instance) (o : List ℕ) (m : Mine) (key bytes : List ℕ) (counts : Bool) → [] ≡ gives_from H p o m (when counts (OtherPut key bytes) ++ [])
other_put_told H p o m key bytes true = refl
other_put_told H p o m key bytes false = refl

other_put_mine : (H : HostTable) (p : Instance) (o : List ℕ) (m : Mine) (key bytes : List ℕ) (counts : Bool)
    → record m { objects = if counts then with_put key bytes m.objects else m.objects } ≡ mine_from H p o m (when counts (OtherPut key bytes) ++ [])
other_put_mine H p o m key bytes true = refl
other_put_mine H p o m key bytes false = refl

pub put_agrees : (H : HostTable) (p : Instance) (o : List ℕ) (J : Journal) (who : Instance) (key bytes w : List ℕ) → Suits H p o J
    → (own : Bool) → same who p ≡ own → Agrees H p o J (entry H J (Put who key bytes) w)
unfolding tabs sets_of network puts_of requests_of
put_agrees H p o J who key bytes w suits true own =
    let P : Instance → Type 0 = λ q. Agrees H p o J (entry H J (Put q key bytes) w) in
    let m = mine_of H p o J in
    let life = life_of H J p in
    let left : put_answer key bytes (objects_of H J o) ≡ put_answer key bytes (puts_of H J o) = put_answer_same key bytes (objects_of H J o) (puts_of H J o) (objects_left H J o) in
    let of_puts : admitted life (put_outcome p o key bytes (objects_of H J o)) ≡ admitted life (put_outcome p o key bytes (puts_of H J o)) = ap (λ r. admitted life (version_outcome p o key bytes r)) left in
    let is : out H J (Put p key bytes) ≡ admitted life (put_outcome p o key bytes (puts_of H J o)) =
    admit_same o (λ origin. put_outcome p origin key bytes (objects_of H J origin)) ((tabs H J).page p) ((tabs H J).is_gone p) suits ∙ of_puts in
    let counts = counts_own o (λ origin. put_outcome p origin key bytes (objects_of H J origin)) ((tabs H J).page p) ((tabs H J).is_gone p) suits
    ∙ ap (λ (r : Outcome). is_ok r.head) of_puts in
    subst P (sym (same-true who p own)) (record {
      told = rw (same-refl p) (told_own H p o m (Put p key bytes) (out H J (Put p key bytes)) (ap (answers p) is));
      mine = rw (same-refl p) (ap (λ (ok : Bool). record m { objects = if ok then with_put key bytes m.objects else m.objects }) counts);
    })
put_agrees H p o J who key bytes w suits false other =
    let m = mine_of H p o J in
    let origin = origin_of H J who in
    let counts = is_accepted (entry H J (Put who key bytes) w) && bytes_eq origin o in
    record {
      told = rw other (put_other_told p who (life_of H J who) origin key bytes (put_answer key bytes (objects_of H J origin)) other ∙ other_put_told H p o m key bytes counts);
      mine = rw other (other_put_mine H p o m key bytes counts);
    }

-- ---- asks

ask_other_told : (p who : Instance) (life : Life) (origin key : List ℕ) (r : Result ℕ Rule) → same who p ≡ false
    → told (PageOf p) (admitted life (request_outcome who origin key r)).items ≡ []
ask_other_told p who Unborn origin key r other = refl
ask_other_told p who Gone origin key r other = refl
ask_other_told p who Alive origin key (Ok request) other = rw other refl
ask_other_told p who Alive origin key (Err rule) other = refl

pub ask_agrees : (H : HostTable) (p : Instance) (o : List ℕ) (J : Journal) (who : Instance) (key w : List ℕ) → Suits H p o J
    → (own : Bool) → same who p ≡ own → Agrees H p o J (entry H J (Ask who key) w)
unfolding tabs sets_of network puts_of requests_of
ask_agrees H p o J who key w suits true own =
    let P : Instance → Type 0 = λ q. Agrees H p o J (entry H J (Ask q key) w) in
    let m = mine_of H p o J in
    let is = admit_same o (λ origin. ask_outcome p origin key (requests_of J p)) ((tabs H J).page p) ((tabs H J).is_gone p) suits in
    subst P (sym (same-true who p own)) (record {
      told = rw (same-refl p) (told_own H p o m (Ask p key) (out H J (Ask p key)) (ap (answers p) is));
      mine = rw (same-refl p) (ap (λ (r : Outcome). record m { requests = requests_by true (is_ok r.head) (Ask p key) (requests_of J p) }) is);
    })
ask_agrees H p o J who key w suits false other = record {
  told = rw other (ask_other_told p who (life_of H J who) (origin_of H J who) key (ask_answer key (requests_of J who)) other);
  mine = rw other refl;
}

-- ---- answers

abbrev pub IsStoredAs : ℕ → List ℕ → Option Newest → Type 0
IsStoredAs version bytes None = ⊥
IsStoredAs version bytes (Some newest) = (newest.version ≡ version) × (newest.bytes ≡ Some bytes)

-- a label that is accepted is that of the newest version of what was asked for, in the instance's own origin
record IsLabelled (asked : Option (List ℕ)) (own origin key : List ℕ) (version : ℕ) (found : Option Newest) (bytes : List ℕ) : Type 0 where
  asked_is : asked ≡ Some key
  origin_is : origin ≡ own
  stored : IsStoredAs version bytes found

same_number : (x y : ℕ) → (x == y) ≡ true → x ≡ y
same_number x y h = grind (arith, nat_tests, h)

stored_as : (version : ℕ) (found : Option Newest) (bytes : List ℕ) → newest_answer version found ≡ Ok bytes → IsStoredAs version bytes found
stored_as version None bytes is = cc
stored_as version (Some newest) bytes is = by_version (newest.version == version) refl is
  where
    by_bytes : (left : Option (List ℕ)) → newest.bytes ≡ left → bytes_answer left ≡ Ok bytes → newest.bytes ≡ Some bytes
    by_bytes None there given = cc
    by_bytes (Some b) there given = there ∙ given_same b bytes given
      where
        given_same : (b c : List ℕ) → bytes_answer (Some b) ≡ Ok c → Some b ≡ Some c
        given_same b c h = cc

    by_version : (same : Bool) → (newest.version == version) ≡ same → (if same then bytes_answer newest.bytes else Err S8) ≡ Ok bytes → (newest.version ≡ version) × (newest.bytes ≡ Some bytes)
    by_version true same given = (same_number newest.version version same, by_bytes newest.bytes refl given)
    by_version false differs given = cc

labelled : (asked : Option (List ℕ)) (own origin key : List ℕ) (version : ℕ) (found : Option Newest) (bytes : List ℕ)
    → label_answer asked own origin key version found ≡ Ok bytes → IsLabelled asked own origin key version found bytes
labelled None own origin key version found bytes is = cc
labelled (Some was) own origin key version found bytes is = by_tests (bytes_eq origin own) (bytes_eq key was) refl refl is
  where
    by_tests : (home asked : Bool) → bytes_eq origin own ≡ home → bytes_eq key was ≡ asked
        → (if not home then Err S6 else if not asked then Err S7 else newest_answer version found) ≡ Ok bytes → IsLabelled (Some was) own origin key version found bytes
    by_tests false asked is_home is_asked given = cc
    by_tests true false is_home is_asked given = cc
    by_tests true true is_home is_asked given = record {
      asked_is = ap (λ k. Some k) (sym ((bytes_eq-Decides key was).0 is_asked));
      origin_is = (bytes_eq-Decides origin own).0 is_home;
      stored = stored_as version found bytes given;
    }

-- what is found among the puts is the same, with the bytes that are left
newest_given : (p : Instance) (request version : ℕ) (bytes : List ℕ) (now put : Option Newest) → IsStoredAs version bytes now → AreFound now put
    → Object p request version bytes ∷ [] ≡ newest_item p request put
newest_given p request version bytes None put stored found = absurd stored
newest_given p request version bytes (Some now) None stored found = absurd found
newest_given p request version bytes (Some now) (Some put) stored found =
    ap (λ v. Object p request v bytes ∷ []) (sym stored.0 ∙ found.version)
    ∙ ap (λ (b : Option (List ℕ)). Object p request put.version (unwrap_or b []) ∷ []) (sym (found.bytes bytes stored.1))

-- a request is open only while its instance lives
record IsOpen (o : List ℕ) (requests : Requests) (request : ℕ) (key : List ℕ) (page : Option Page) : Type 0 where
  asked : key_in requests request ≡ Some key
  origin : origin_with page ≡ o

opened : (o : List ℕ) (requests : Requests) (request : ℕ) (key : List ℕ) (page : Option Page) (gone : Bool) → (life_with page gone ≢ Unborn → origin_with page ≡ o)
    → open_key (life_with page gone) requests request ≡ Some key → IsOpen o requests request key page
opened o requests request key None gone suits is = cc
opened o requests request key (Some page) true suits is = cc
opened o requests request key (Some page) false suits is = record { asked = is; origin = suits (λ unborn. cc) }

-- what an accepted answer gives
answer_given : (H : HostTable) (p : Instance) (o : List ℕ) (J : Journal) (request : ℕ) (origin key : List ℕ) (version : ℕ) (bytes : List ℕ) → Suits H p o J
    → label_answer (asked_key H J p request) (origin_of H J p) origin key version (newest_in (objects_of H J origin) key) ≡ Ok bytes
    → Object p request version bytes ∷ [] ≡ answered_items p request (key_in (requests_of J p) request) (puts_of H J o)
answer_given H p o J request origin key version bytes suits is =
    let right = labelled (asked_key H J p request) (origin_of H J p) origin key version (newest_in (objects_of H J origin) key) bytes is in
    let asked = opened o (requests_of J p) request key ((tabs H J).page p) ((tabs H J).is_gone p) suits right.asked_is in
    let home : origin ≡ o = right.origin_is ∙ asked.origin in
    let stored : IsStoredAs version bytes (newest_in (objects_of H J o) key) = subst (λ (x : List ℕ). IsStoredAs version bytes (newest_in (objects_of H J x) key)) home right.stored in
    newest_given p request version bytes (newest_in (objects_of H J o) key) (newest_in (puts_of H J o) key) stored (found_left (objects_of H J o) (puts_of H J o) key (objects_left H J o))
    ∙ ap (λ (k : Option (List ℕ)). answered_items p request k (puts_of H J o)) (sym asked.asked)

answer_by : (H : HostTable) (p : Instance) (o : List ℕ) (J : Journal) (who : Instance) (request : ℕ) (origin key : List ℕ) (version : ℕ) (w : List ℕ) → Suits H p o J
    → (own : Bool) → same who p ≡ own → (r : Result (List ℕ) Rule)
    → label_answer (asked_key H J who request) (origin_of H J who) origin key version (newest_in (objects_of H J origin) key) ≡ r
    → Agrees H p o J (entry H J (StoreAnswer who request origin key version) w)
unfolding tabs sets_of network puts_of requests_of
answer_by H p o J who request origin key version w suits true own (Err rule) is = record { told = rw is refl; mine = rw (is, own) refl }
answer_by H p o J who request origin key version w suits false other (Err rule) is = record { told = rw is refl; mine = rw (is, other) refl }
answer_by H p o J who request origin key version w suits false other (Ok bytes) is = record { told = rw (is, other) refl; mine = rw (is, other) refl }
answer_by H p o J who request origin key version w suits true own (Ok bytes) is =
    let here : who ≡ p = same-true who p own in
    let mine_is = subst (λ (q : Instance). label_answer (asked_key H J q request) (origin_of H J q) origin key version (newest_in (objects_of H J origin) key) ≡ Ok bytes) here is in
    record {
      told = rw (is, own) (ap (λ (q : Instance). Told (Object q request version bytes) ∷ []) here ∙ ap (map Told) (answer_given H p o J request origin key version bytes suits mine_is) ∙ sym (append-nil _));
      mine = rw (is, own) refl;
    }

pub answer_agrees : (H : HostTable) (p : Instance) (o : List ℕ) (J : Journal) (who : Instance) (request : ℕ) (origin key : List ℕ) (version : ℕ) (w : List ℕ) → Suits H p o J
    → Agrees H p o J (entry H J (StoreAnswer who request origin key version) w)
answer_agrees H p o J who request origin key version w suits = answer_by H p o J who request origin key version w suits (same who p) refl _ refl

none_by : (H : HostTable) (p : Instance) (o : List ℕ) (J : Journal) (who : Instance) (request : ℕ) (w : List ℕ) → (own : Bool) → same who p ≡ own
    → (r : Result Unit Rule) → none_answer (asked_key H J who request) ≡ r → Agrees H p o J (entry H J (StoreNone who request) w)
unfolding tabs sets_of network puts_of requests_of
none_by H p o J who request w true own (Err rule) is = record { told = rw is refl; mine = rw (is, own) refl }
none_by H p o J who request w false other (Err rule) is = record { told = rw is refl; mine = rw (is, other) refl }
none_by H p o J who request w false other (Ok x) is = record { told = rw (is, other) refl; mine = rw (is, other) refl }
none_by H p o J who request w true own (Ok x) is = record {
  told = rw (is, own) (ap (λ (q : Instance). Told (NoObject q request) ∷ []) (same-true who p own));
  mine = rw (is, own) refl;
}

pub none_agrees : (H : HostTable) (p : Instance) (o : List ℕ) (J : Journal) (who : Instance) (request : ℕ) (w : List ℕ) → Agrees H p o J (entry H J (StoreNone who request) w)
none_agrees H p o J who request w = none_by H p o J who request w (same who p) refl _ refl

-- ---- losses

lose_told : (p : Instance) (r : Result Unit Rule) → told (PageOf p) (unless_denied r).items ≡ []
lose_told p (Ok x) = refl
lose_told p (Err rule) = refl

pub lose_agrees : (H : HostTable) (p : Instance) (o : List ℕ) (J : Journal) (origin key : List ℕ) (version : ℕ) (w : List ℕ) → Agrees H p o J (entry H J (StoreLose origin key version) w)
unfolding tabs sets_of network puts_of requests_of
lose_agrees H p o J origin key version w = record { told = lose_told p (lose_answer version (newest_in (objects_of H J origin) key)); mine = refl }
