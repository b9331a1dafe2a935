-- Stored objects and requests after an act stand for what the journal says after it.
use Rattle.std.proofs.Common.{◌≡◌, ℕ, ◌<◌, ◌≤◌, ◌^◌, Bool, true, false, List, [], ◌∷◌, length, suc, Option, Some, None, refl, sym, ◌∙◌, ap, subst, arith}
use Rattle.std.specs.Prelude.{bytes_eq, nat_lt, unwrap_or, ◌&&◌, if◌then◌else◌}
use Rattle.std.proofs.lemmas.Bool.Decides.{nat_tests}
use Rattle.std.proofs.lemmas.Slice.Eq.{bytes_eq-Decides}
use Rattle.ibos_kinds.specs.declared.names.Instance.{Instance}
use Rattle.ibos_kinds.specs.declared.act.Act.{Act}
use Rattle.ibos_kinds.specs.declared.act.Act.TheVariants.{Put, Ask, StoreAnswer, StoreNone, StoreLose}
use Rattle.ibos_kinds.specs.declared.outcome.Outcome.{Outcome}
use Rattle.ibos_kinds.specs.Limits.{Fits}
use Rattle.ibos_kinds.specs.Objects.{KeyObject, Newest, after_loss, after_put, newest_in, version_of, with_loss, with_loss_of, with_newest, with_put}
use Rattle.ibos_kinds.specs.Requests.{Requests, no_requests}
use Rattle.ibos_nic.specs.declared.log.LogEntry.{LogEntry}
use Rattle.ibos_origin.specs.Hosts.{HostTable}
use Rattle.ibos_page.specs.Tabs.{TabTable, admission, seat_at}
use Rattle.ibos_store.specs.Stores.{object_at, objects_of as objects_kept, requests_of as requests_kept}
use Rattle.ibos_model.specs.Journal.{Journal, is_accepted, is_ok}
use Rattle.ibos_model.specs.Laws.{AreUnbornQuiet}
use Rattle.ibos_model.specs.Outcomes.{put_outcome}
use Rattle.ibos_model.specs.Stored.{is_about, objects_by, objects_of, requests_by, requests_of}
use Rattle.ibos_model.specs.Tabs.{Unborn, origin_of}
use Rattle.ibos_kernel.specs.Standing.{PartsStand, entry, life_at}
use Rattle.ibos_kernel.specs.Storage.{IsFew, asked_by, kept_by}
use Rattle.ibos_kernel.specs.Tables.{Parts, Serves, is_live, let_in, objects_after, origin_at, tabs_after}
use Rattle.ibos_kernel.proofs.Outcomes.{lives_if, outcome_seen}
use Rattle.ibos_kernel.proofs.ScreenStands.{Grows, let_in_ok, tabs_grow}

-- ---- objects

ok_of : (outcome row : Outcome) → outcome ≡ row → (ok : Bool) → is_ok outcome.head ≡ ok → ok ≡ true → is_ok row.head ≡ true
ok_of outcome row is ok head accepted = ap (λ (o : Outcome). is_ok o.head) (sym is) ∙ head ∙ accepted

-- the objects of an origin after an act
pub objects_stand : (J : Journal) (t : Parts) (act : Act) (outcome : Outcome) (log : List LogEntry) → PartsStand J t → outcome ≡ outcome_seen t act → (o : List ℕ)
    → objects_after t (is_ok outcome.head) act o ≡ objects_of t.hosts (entry act outcome log ∷ J) o
unfolding objects_of
objects_stand J t (Put who key bytes) outcome log stands is o = put (is_ok outcome.head) (ok_of outcome _ is (is_ok outcome.head) refl)
  where
    put : (ok : Bool) → (ok ≡ true → is_ok (let_in (admission t.tabs who) (put_outcome who (origin_at t.tabs who) key bytes (objects_kept t.store (origin_at t.tabs who)))).head ≡ true)
        → (if ok && bytes_eq (origin_at t.tabs who) o then with_put key bytes (objects_kept t.store o) else objects_kept t.store o)
        ≡ (if ok && bytes_eq (origin_of t.hosts J who) o then with_put key bytes (objects_of t.hosts J o) else objects_of t.hosts J o)
    put false row = stands.objects o
    put true row =
        let admitted = let_in_ok (admission t.tabs who) _ (row refl) in
        rw (stands.tabs.origin who (lives_if t.tabs who admitted.0))
        (ap (λ (old : List KeyObject). if bytes_eq (origin_at t.tabs who) o then with_put key bytes old else old) (stands.objects o))
objects_stand J t (StoreLose origin key version) outcome log stands is o =
    ap (λ (old : List KeyObject). if is_ok outcome.head && bytes_eq origin o then with_loss key old else old) (stands.objects o)
objects_stand J t other outcome log stands is o = stands.objects o

-- ---- requests

asked_one : (about ok : Bool) (act : Act) (old : Requests) → asked_by about ok act (Some old) ≡ Some (requests_by about ok act old)
asked_one about ok (Ask who key) old = refl
asked_one about ok (StoreAnswer who request origin key version) old = refl
asked_one about ok (StoreNone who request) old = refl
asked_one about ok other old = refl

clash : (b : Bool) → b ≡ true → b ≡ false → ⊥
clash true h i = cc
clash false h i = cc

-- an act that starts an instance asks for nothing
started_asks : (t : Parts) (act : Act) (ok about : Bool) (q : Instance) (old : Requests) → is_live (tabs_after t ok act) q ≡ true → is_live t.tabs q ≡ false → requests_by about ok act old ≡ old
started_asks t (Ask who key) ok about q old now before = absurd (clash (is_live t.tabs q) now before)
started_asks t (StoreAnswer who request origin key version) ok about q old now before = absurd (clash (is_live t.tabs q) now before)
started_asks t (StoreNone who request) ok about q old now before = absurd (clash (is_live t.tabs q) now before)
started_asks t other ok about q old now before = refl

-- an instance that starts was not born before
unborn_if : (t : TabTable) (q : Instance) → is_live t q ≡ false → (seat_at t q.tab).count ≤ q.ord → life_at t q ≡ Unborn
unborn_if t q dead past = by_past (nat_lt q.ord (seat_at t q.tab).count) refl
  where
    by_past : (gone : Bool) → nat_lt q.ord (seat_at t q.tab).count ≡ gone → life_at t q ≡ Unborn
    by_past true is = let low : q.ord < (seat_at t q.tab).count = grind (arith, nat_tests) in absurd (omega (arith, low, past))
    by_past false is = rw (dead, is) refl

-- the requests of an instance after an act
pub requests_stand : AreUnbornQuiet → (J : Journal) (old new : Parts) (act : Act) (outcome : Outcome) (log : List LogEntry) → PartsStand J old → Fits act → Serves old act outcome new → outcome ≡ outcome_seen old act
    → (q : Instance) → requests_kept new.store q ≡ (if is_live new.tabs q then Some (requests_of (entry act outcome log ∷ J) q) else None)
unfolding requests_of
requests_stand law J old new act outcome log stands fits serves is q = serves.requests_are q ∙ by_lives (is_live new.tabs q) refl (is_live old.tabs q) refl
  where
    grows : Grows old.tabs (tabs_after old (is_ok outcome.head) act)
    grows = tabs_grow old act outcome stands.displays.tied.beside.room fits is

    kept_if : (lived : Bool) → is_live old.tabs q ≡ lived → requests_kept old.store q ≡ (if lived then Some (requests_of J q) else None)
    kept_if lived was = stands.requests q ∙ ap (λ (b : Bool). if b then Some (requests_of J q) else None) was

    by_lives : (lives : Bool) → is_live new.tabs q ≡ lives → (lived : Bool) → is_live old.tabs q ≡ lived
        → kept_by lived lives (asked_by (is_about q act) (is_ok outcome.head) act (requests_kept old.store q))
        ≡ (if lives then Some (requests_by (is_about q act) (is_ok outcome.head) act (requests_of J q)) else None)
    by_lives false now lived was = refl
    by_lives true now true was = rw (kept_if true was) (asked_one (is_about q act) (is_ok outcome.head) act (requests_of J q))
    by_lives true now false was =
        let there : is_live (tabs_after old (is_ok outcome.head) act) q ≡ true = ap (λ (t : TabTable). is_live t q) (sym serves.tabs_are) ∙ now in
        let unborn = stands.tabs.life q ∙ unborn_if old.tabs q was (grows.fresh q there was) in
        let quiet = (law old.hosts J q stands.run unborn).0 in
        ap (λ (r : Requests). Some r) (sym (started_asks old act (is_ok outcome.head) (is_about q act) q (requests_of J q) there was ∙ quiet))

-- ---- numbers

-- a newest version that is written is of one number more at most
newest_with : (objects : List KeyObject) (key k : List ℕ) (newest : Newest) (bound : ℕ) → newest.version ≤ bound → version_of (newest_in objects k) ≤ bound → version_of (newest_in (with_newest key newest objects) k) ≤ bound
newest_with [] key k newest bound low all = by_key (bytes_eq k key)
  where
    by_key : (one : Bool) → version_of (if one then Some newest else None) ≤ bound
    by_key true = low
    by_key false = all
newest_with (object ∷ objects) key k newest bound low all = by_first (newest_with objects key k newest bound low) (bytes_eq key object.key) refl (bytes_eq k object.key) refl all
  where
    by_key : (one : Bool) → bytes_eq k key ≡ one → (one ≡ false → version_of (newest_in objects k) ≤ bound) → version_of (if one then Some newest else newest_in objects k) ≤ bound
    by_key true is rest = low
    by_key false is rest = rest refl

    by_first : (version_of (newest_in objects k) ≤ bound → version_of (newest_in (with_newest key newest objects) k) ≤ bound) → (here : Bool) → bytes_eq key object.key ≡ here → (there : Bool) → bytes_eq k object.key ≡ there → version_of (if there then Some object.newest else newest_in objects k) ≤ bound
        → version_of (newest_in (if here then record { key = key; newest = newest } ∷ objects else object ∷ with_newest key newest objects) k) ≤ bound
    by_first later true here there is all =
        let one : key ≡ object.key = (bytes_eq-Decides key object.key).0 here in
        let there_is : bytes_eq k key ≡ there = ap (bytes_eq k) one ∙ is in
        by_key (bytes_eq k key) refl (λ no. let gone : there ≡ false = sym there_is ∙ no in subst (λ (b : Bool). version_of (if b then Some object.newest else newest_in objects k) ≤ bound) gone all)
    by_first later false here true is all = rw is all
    by_first later false here false is all = rw is (later all)

loss_with : (found : Option Newest) (key k : List ℕ) (objects : List KeyObject) (bound : ℕ) → version_of found ≤ bound → version_of (newest_in objects k) ≤ bound → version_of (newest_in (with_loss_of found key objects) k) ≤ bound
loss_with None key k objects bound low all = all
loss_with (Some newest) key k objects bound low all = newest_with objects key k (after_loss newest) bound low all

-- versions are counted by puts
versions_few : (H : HostTable) (J : Journal) (o k : List ℕ) → version_of (newest_in (objects_of H J o) k) ≤ length J
unfolding objects_of
versions_few H [] o k = omega arith
versions_few H (e ∷ J) o k = by_act (versions_few H J o) e.act
  where
    Few : Type 0
    Few = (key : List ℕ) → version_of (newest_in (objects_of H J o) key) ≤ length J

    more : Few → (key : List ℕ) → version_of (newest_in (objects_of H J o) key) ≤ suc (length J)
    more before key = let few = before key in omega (arith, few)

    put : Few → (key bytes : List ℕ) (does : Bool) → version_of (newest_in (if does then with_put key bytes (objects_of H J o) else objects_of H J o) k) ≤ suc (length J)
    put before key bytes true = newest_with (objects_of H J o) key k (after_put (newest_in (objects_of H J o) key) bytes) (suc (length J)) (let few = before key in omega (arith, few)) (more before k)
    put before key bytes false = more before k

    lose : Few → (key : List ℕ) (does : Bool) → version_of (newest_in (if does then with_loss key (objects_of H J o) else objects_of H J o) k) ≤ suc (length J)
    lose before key true = loss_with (newest_in (objects_of H J o) key) key k (objects_of H J o) (suc (length J)) (more before key) (more before k)
    lose before key false = more before k

    by_act : Few → (act : Act) → version_of (newest_in (objects_by (origin_of H J) o (is_accepted e) act (objects_of H J o)) k) ≤ suc (length J)
    by_act before (Put who key bytes) = put before key bytes (is_accepted e && bytes_eq (origin_of H J who) o)
    by_act before (StoreLose origin key version) = lose before key (is_accepted e && bytes_eq origin o)
    by_act before other = more before k

-- requests are counted by asks
requests_few : (J : Journal) (q : Instance) → (requests_of J q).count ≤ length J
unfolding requests_of
requests_few [] q = omega arith
requests_few (e ∷ J) q = let before = requests_few J q in by_act (is_about q e.act && is_accepted e) before e.act refl
  where
    by_act : (does : Bool) → (requests_of J q).count ≤ length J → (act : Act) → (is_about q act && is_accepted e) ≡ does → (requests_by (is_about q act) (is_accepted e) act (requests_of J q)).count ≤ suc (length J)
    by_act true before (Ask who key) is = rw is (omega (arith, before))
    by_act false before (Ask who key) is = rw is (omega (arith, before))
    by_act true before (StoreAnswer who request origin key version) is = rw is (omega (arith, before))
    by_act false before (StoreAnswer who request origin key version) is = rw is (omega (arith, before))
    by_act true before (StoreNone who request) is = rw is (omega (arith, before))
    by_act false before (StoreNone who request) is = rw is (omega (arith, before))
    by_act does before other is = omega (arith, before)

pub few_of : (J : Journal) (t : Parts) → PartsStand J t → length J < 2 ^ 31 → IsFew t.store
few_of J t stands short = record {
  versions = λ o key. let few = versions_few t.hosts J o key in let is : version_of (object_at t.store o key) ≡ version_of (newest_in (objects_of t.hosts J o) key) = ap (λ (objects : List KeyObject). version_of (newest_in objects key)) (stands.objects o) in
      omega (arith, few, is, short);
  requests = λ q. rw (stands.requests q) (by_lives q (is_live t.tabs q));
}
  where
    by_lives : (q : Instance) (lives : Bool) → (unwrap_or (if lives then Some (requests_of J q) else None) no_requests).count < 2 ^ 31
    by_lives q true = let few = requests_few J q in omega (arith, few, short)
    by_lives q false = let few = requests_few J q in omega (arith, few, short)
