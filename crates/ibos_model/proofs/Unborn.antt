-- An instance that never started has bound nothing, and has no frame; it has sent and asked for nothing.
use Rattle.std.proofs.Common.{◌≡◌, ℕ, List, [], ◌∷◌, ◌++◌, Bool, true, false, ◌&&◌, None, Ok, Err, Result, refl, ◌∙◌, ap, subst}
use Rattle.std.specs.Prelude.{filter, if◌then◌else◌, length, ◌==◌}
use Rattle.ibos_kinds.specs.declared.act.Act.{Act}
use Rattle.ibos_kinds.specs.declared.act.Act.TheVariants.{Bind, Unbind, Done, RxBell, Fill, Submit, TxBell, Ask, StoreAnswer, StoreNone}
use Rattle.ibos_kinds.specs.declared.names.Instance.{Instance}
use Rattle.ibos_kinds.specs.declared.names.Local.{Local}
use Rattle.ibos_kinds.specs.declared.outcome.Outcome.{Outcome}
use Rattle.ibos_kinds.specs.declared.rule.Rule.{Rule}
use Rattle.ibos_kinds.specs.Bells.{Aim, aim_of, frames_in}
use Rattle.ibos_kinds.specs.Requests.{Requests, no_requests, without_request}
use Rattle.ibos_kinds.specs.Sends.{fresh_buffer, homes_of}
use Rattle.ibos_origin.specs.Hosts.{HostTable}
use Rattle.ibos_model.specs.Journal.{Entry, Journal, is_ok, same}
use Rattle.ibos_model.specs.Laws.{AreUnbornBare, AreUnbornQuiet}
use Rattle.ibos_model.specs.Network.{at_buffer, ear_in, ear_with, endpoint_for, homed, network, unread_count}
use Rattle.ibos_model.specs.Outcomes.{admitted, act_outcome}
use Rattle.ibos_model.specs.OwnBell.{is_for, own_bell, own_heard, own_unread}
use Rattle.ibos_model.specs.Rings.{handles_after, outbound}
use Rattle.ibos_model.specs.Stored.{requests_of}
use Rattle.ibos_model.specs.Runs.{IsRun}
use Rattle.ibos_model.specs.Tabs.{Unborn, life_of, origin_in, tabs}
use Rattle.ibos_model.proofs.Bells.{bell_told}
use Rattle.ibos_model.proofs.Entries.{as_entry, entry}
use Rattle.ibos_model.proofs.Equalities.{same-true}
use Rattle.ibos_model.proofs.NewInstances.{unborn_before}

abbrev Bare : Instance → Journal → Type 0
Bare p J = ((network J).flows p ≡ []) × ((network J).unread p ≡ [])

-- its acts are denied
denied_own : (H : HostTable) (J : Journal) (p who : Instance) (outcome : Outcome) → life_of H J p ≡ Unborn
    → (same who p && is_ok (admitted (life_of H J who) outcome).head) ≡ false
denied_own H J p who outcome unborn = by_own (same who p) refl
  where
    by_own : (own : Bool) → same who p ≡ own → (own && is_ok (admitted (life_of H J who) outcome).head) ≡ false
    by_own false is = refl
    by_own true is = ap (λ q. is_ok (admitted (life_of H J q) outcome).head) (same-true who p is) ∙ ap (λ life. is_ok (admitted life outcome).head) unborn

-- a bell gives nothing to one that hears nothing
deaf_to : (p : Instance) (unread : ℕ) (w : List ℕ) (r : Result Aim Rule) → own_heard p None unread w r ≡ []
deaf_to p unread w (Ok aim) = refl
deaf_to p unread w (Err rule) = refl

deaf : (local : Local) (p : Instance) (unread : ℕ) (ws : List (List ℕ)) → own_bell local p None unread ws ≡ []
unfolding own_bell
deaf local p unread [] = refl
deaf local p unread (w ∷ ws) = rw (deaf_to p unread w (aim_of local w)) (deaf local p (own_unread None unread (aim_of local w)) ws)

bare_after : (H : HostTable) (J : Journal) (p : Instance) (a : Act) (w : List ℕ) → life_of H J p ≡ Unborn → Bare p J → Bare p (entry H J a w ∷ J)
unfolding network
bare_after H J p (Bind who proto) w unborn bare = (rw (denied_own H J p who (act_outcome H J (Bind who proto)) unborn) bare.0, bare.1)
bare_after H J p (Unbind who flow) w unborn bare = (rw (denied_own H J p who (act_outcome H J (Unbind who flow)) unborn) bare.0, bare.1)
bare_after H J p (Done who) w unborn bare = (bare.0, rw (denied_own H J p who (act_outcome H J (Done who)) unborn) bare.1)
bare_after H J p RxBell w unborn bare =
    let n = network J in
    let is = bell_told H.local p (ear_in H (tabs H J) n) (unread_count n) (handles_after n.rings) n.pending
    ∙ ap (λ life. own_bell H.local p (ear_with life (endpoint_for H (origin_in (tabs H J) p)) (n.flows p)) (length (n.unread p)) (filter (is_for H.local p) n.pending)) unborn
    ∙ deaf H.local p (length (n.unread p)) (filter (is_for H.local p) n.pending) in
    (bare.0, ap (λ items. n.unread p ++ frames_in items) is ∙ ap (λ ws. ws ++ []) bare.1)
bare_after H J p other w unborn bare = bare

pub unborn_bare : AreUnbornBare
unfolding tabs network
unborn_bare H [] p run unborn = (refl, refl)
unborn_bare H (e ∷ J) p run unborn =
    let before = unborn_before H J e p run unborn in
    let P : Entry → Type 0 = λ x. Bare p (x ∷ J) in
    subst P (as_entry H J e run.0.outcome) (bare_after H J p e.act e.written before (unborn_bare H J p run.1 before))

-- ---- sends and requests

record Quiet (p : Instance) (J : Journal) : Type 0 where
  requests : requests_of J p ≡ no_requests
  away : (b : ℕ) → (network J).away p b ≡ false
  buffers : (b : ℕ) → (network J).buffers p b ≡ fresh_buffer

-- a bell that brings buffers home leaves those that are at home there
home_stays : (buffer : ℕ) (away : ℕ → Bool) (b : ℕ) → away b ≡ false → at_buffer buffer false away b ≡ false
home_stays buffer away b home = by_test (buffer == b)
  where
    by_test : (t : Bool) → (if t then false else away b) ≡ false
    by_test true = refl
    by_test false = home

homed_stay : (buffers : List ℕ) (away : ℕ → Bool) → ((b : ℕ) → away b ≡ false) → (b : ℕ) → homed buffers away b ≡ false
homed_stay [] away home b = home b
homed_stay (buffer ∷ buffers) away home b = homed_stay buffers (at_buffer buffer false away) (λ c. home_stays buffer away c (home c)) b

-- an answer leaves no request where there was none
answered_none : (request : ℕ) (about ok : Bool) (old : Requests) → old ≡ no_requests → (if about && ok then without_request request old else old) ≡ no_requests
answered_none request true true old is = ap (without_request request) is
answered_none request true false old is = is
answered_none request false ok old is = is

quiet_after : (H : HostTable) (J : Journal) (p : Instance) (a : Act) (w : List ℕ) → life_of H J p ≡ Unborn → Quiet p J → Quiet p (entry H J a w ∷ J)
unfolding network requests_of
quiet_after H J p (Fill who buffer place bytes) w unborn quiet = record {
  requests = quiet.requests;
  away = quiet.away;
  buffers = rw (denied_own H J p who (act_outcome H J (Fill who buffer place bytes)) unborn) quiet.buffers;
}
quiet_after H J p (Submit who buffer len) w unborn quiet = record {
  requests = quiet.requests;
  away = rw (denied_own H J p who (act_outcome H J (Submit who buffer len)) unborn) quiet.away;
  buffers = quiet.buffers;
}
quiet_after H J p TxBell w unborn quiet = record {
  requests = quiet.requests;
  away = homed_stay (homes_of p (network J).sends (outbound (network J).rings)) ((network J).away p) quiet.away;
  buffers = quiet.buffers;
}
quiet_after H J p (Ask who key) w unborn quiet = record {
  requests = rw (denied_own H J p who (act_outcome H J (Ask who key)) unborn) quiet.requests;
  away = quiet.away;
  buffers = quiet.buffers;
}
quiet_after H J p (StoreAnswer who request origin key version) w unborn quiet = record {
  requests = answered_none request (same who p) (is_ok (act_outcome H J (StoreAnswer who request origin key version)).head) (requests_of J p) quiet.requests;
  away = quiet.away;
  buffers = quiet.buffers;
}
quiet_after H J p (StoreNone who request) w unborn quiet = record {
  requests = answered_none request (same who p) (is_ok (act_outcome H J (StoreNone who request)).head) (requests_of J p) quiet.requests;
  away = quiet.away;
  buffers = quiet.buffers;
}
quiet_after H J p other w unborn quiet = record { requests = quiet.requests; away = quiet.away; buffers = quiet.buffers }

all_quiet : (H : HostTable) (J : Journal) (p : Instance) → IsRun H J → life_of H J p ≡ Unborn → Quiet p J
unfolding tabs network requests_of
all_quiet H [] p run unborn = record { requests = refl; away = λ b. refl; buffers = λ b. refl }
all_quiet H (e ∷ J) p run unborn =
    let before = unborn_before H J e p run unborn in
    let P : Entry → Type 0 = λ x. Quiet p (x ∷ J) in
    subst P (as_entry H J e run.0.outcome) (quiet_after H J p e.act e.written before (all_quiet H J p run.1 before))

pub unborn_quiet : AreUnbornQuiet
unborn_quiet H J p run unborn = let is = all_quiet H J p run unborn in (is.requests, is.away, is.buffers)
