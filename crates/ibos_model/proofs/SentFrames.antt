-- The frames that go out are added one by one.
use Rattle.std.proofs.Common.{◌≡◌, ℕ, ◌<◌, ◌≤◌, zero, suc, List, [], ◌∷◌, ◌++◌, Bool, true, false, refl, sym, ◌∙◌, ap, subst, arith, append-nil, append_assoc, length, map, take}
use Rattle.std.specs.Prelude.{if◌then◌else◌}
use Rattle.std.specs.List.{All, slice_get}
use Rattle.std.proofs.lemmas.List.{map-append, take-append-le, take_more}
use Rattle.std.proofs.lemmas.List.Elements.{All-head, All-tail, All-take}
use Rattle.ibos_kinds.specs.declared.act.Act.{Act}
use Rattle.ibos_kinds.specs.declared.act.Act.TheVariants.{RegRead, RegWrite, RxPost, WireIn, Submit, TxPost, WireOut}
use Rattle.ibos_kinds.specs.declared.names.Verdict.{Verdict}
use Rattle.ibos_kinds.specs.declared.names.Verdict.TheVariants.{Filtered, Missed, Heard}
use Rattle.ibos_kinds.specs.declared.outcome.Item.TheVariants.{Idle, SentIs, VerdictIs}
use Rattle.ibos_kinds.specs.declared.party.Party.TheVariants.{Wire}
use Rattle.ibos_kinds.specs.Parties.{is_by}
use Rattle.ibos_kinds.specs.Sends.{Send, frame_of_send, send_at}
use Rattle.ibos_nic.specs.Parts.{reg_at}
use Rattle.ibos_nic.specs.Registers.{is_enabled}
use Rattle.ibos_origin.specs.Hosts.{HostTable}
use Rattle.ibos_model.specs.Journal.{Entry, Journal, is_heard, is_ok, is_sent, transmits}
use Rattle.ibos_model.specs.Laws.{AreOrdered, AreSentFronts, AreSentInTurn, IsOrdered, IsPostedOnce}
use Rattle.ibos_model.specs.Network.{network, next_frame, sent_frames}
use Rattle.ibos_model.specs.Outcomes.{accepted, out}
use Rattle.ibos_model.specs.Rings.{Rings, arrived, can_send, next_send, posted, send_posted, sent_by, verdict_at}
use Rattle.ibos_model.specs.Runs.{IsRun, entry_of, left_by}
use Rattle.ibos_model.proofs.Entries.{as_entry, entry}
use Rattle.ibos_model.proofs.GoingOn.{made_follows}
use Rattle.ibos_model.proofs.PostedSends.{posted_once}
use Rattle.ibos_model.proofs.QuietActs.{logged_alone}
use Rattle.ibos_model.proofs.RegisterActs.{Claim, missed_leaves, reads_leave, writes_leave}
use Rattle.ibos_model.proofs.RingCounts.{can_send_room}

-- the frames of the sends that were posted first
abbrev first_frames : List Send → List ℕ → ℕ → List (List ℕ)
first_frames sends posts sent = map (λ k. frame_of_send (send_at sends k)) (take sent posts)

abbrev AreFirst : List Send → List (List ℕ) → Claim
AreFirst sends frames heard count taken names turns posts sent = first_frames sends posts sent ≡ frames

-- ---- what adds no frame

get_append : {A : Type 0} (xs ys : List A) (i : ℕ) → i < length xs → slice_get (xs ++ ys) i ≡ slice_get xs i
get_append [] ys i low = absurd (omega (arith, low))
get_append (x ∷ xs) ys zero low = refl
get_append (x ∷ xs) ys (suc i) low = get_append xs ys i (omega (arith, low))

-- a send more leaves the frames of those before it
earlier_stay : (sends : List Send) (send : Send) (ks : List ℕ) → All (λ k. k < length sends) ks
    → map (λ k. frame_of_send (send_at (sends ++ send ∷ []) k)) ks ≡ map (λ k. frame_of_send (send_at sends k)) ks
earlier_stay sends send [] low = refl
earlier_stay sends send (k ∷ ks) low =
    rw (get_append sends (send ∷ []) k (All-head (λ j. j < length sends) k ks low))
    (ap (λ ws. frame_of_send (send_at sends k) ∷ ws) (earlier_stay sends send ks (All-tail (λ j. j < length sends) k ks low)))

submit_adds : (sends : List Send) (send : Send) (posts : List ℕ) (sent : ℕ) (ok : Bool) → IsPostedOnce posts sends
    → first_frames (if ok then sends ++ send ∷ [] else sends) posts sent ≡ first_frames sends posts sent
submit_adds sends send posts sent false is = refl
submit_adds sends send posts sent true is = earlier_stay sends send (take sent posts) (All-take (λ k. k < length sends) sent posts is.accepted)

post_adds : (sends : List Send) (r : Rings) (send : ℕ) (ok : Bool) → r.sent ≤ length r.posts
    → let s = (if ok then send_posted send r else r) in first_frames sends s.posts s.sent ≡ first_frames sends r.posts r.sent
post_adds sends r send false within = refl
post_adds sends r send true within = ap (map (λ k. frame_of_send (send_at sends k))) (take-append-le r.sent r.posts (send ∷ []) within)

others_add : (sends : List Send) (frames : List (List ℕ)) (r s : Rings) (ok : Bool) → first_frames sends s.posts s.sent ≡ frames → first_frames sends r.posts r.sent ≡ frames
    → let t = (if ok then s else r) in first_frames sends t.posts t.sent ≡ frames
others_add sends frames r s true new old = new
others_add sends frames r s false new old = old

arrive_adds : (sends : List Send) (r : Rings) (next : List ℕ) (verdict : Verdict) → let s = arrived verdict r in
    first_frames sends s.posts s.sent ≡ first_frames sends r.posts r.sent ++ (if is_sent (accepted (VerdictIs verdict ∷ [])) then next ∷ [] else [])
arrive_adds sends r next Filtered = sym (append-nil _)
arrive_adds sends r next Heard = sym (append-nil _)
arrive_adds sends r next Missed = missed_leaves (AreFirst sends (first_frames sends r.posts r.sent)) r (is_enabled r.receive.control) _ _ refl ∙ sym (append-nil _)

-- ---- a frame that is sent

sent_adds : (sends : List Send) (r : Rings) (can : Bool) → (can ≡ true → r.sent < length r.posts) → let outcome = (if can then accepted (SentIs (next_send r) ∷ []) else accepted (Idle ∷ [])) in
    let s = (if is_ok outcome.head then sent_by outcome.items r else r) in
    first_frames sends s.posts s.sent ≡ first_frames sends r.posts r.sent ++ (if is_sent outcome then frame_of_send (send_at sends (next_send r)) ∷ [] else [])
sent_adds sends r false within = sym (append-nil _)
sent_adds sends r true within =
    ap (map (λ k. frame_of_send (send_at sends k))) (take_more r.posts r.sent 0 (within refl))
    ∙ map-append (λ k. frame_of_send (send_at sends k)) (take r.sent r.posts) (next_send r ∷ [])

-- ---- runs

-- an act that is not the wire's sends no frame
none_sent : (H : HostTable) (J : Journal) (a : Act) (frames : List (List ℕ)) → is_by Wire a ≡ false → frames ≡ frames ++ (if is_sent (out H J a) then next_frame (network J) ∷ [] else [])
none_sent H J a frames other = sym (ap (λ kind. frames ++ (if transmits kind then next_frame (network J) ∷ [] else [])) (logged_alone H J a other) ∙ append-nil frames)

entry_adds : (H : HostTable) (J : Journal) (a : Act) (w : List ℕ) → IsOrdered (network J).rings (network J).pending → IsPostedOnce (network J).rings.posts (network J).sends
    → sent_frames (network (entry H J a w ∷ J)) ≡ sent_frames (network J) ++ (if is_sent (out H J a) then next_frame (network J) ∷ [] else [])
unfolding network
entry_adds H J (RegRead offset) w ordered once =
    let n = network J in
    reads_leave (AreFirst n.sends (sent_frames n)) n.rings (reg_at offset) (is_ok (out H J (RegRead offset)).head) refl ∙ none_sent H J (RegRead offset) (sent_frames n) refl
entry_adds H J (RegWrite offset value) w ordered once =
    let n = network J in
    writes_leave (AreFirst n.sends (sent_frames n)) n.rings value (reg_at offset) (is_ok (out H J (RegWrite offset value)).head) refl ∙ none_sent H J (RegWrite offset value) (sent_frames n) refl
entry_adds H J (RxPost slot handle) w ordered once =
    let n = network J in
    others_add n.sends (sent_frames n) n.rings (posted handle n.rings) (is_ok (out H J (RxPost slot handle)).head) refl refl ∙ none_sent H J (RxPost slot handle) (sent_frames n) refl
entry_adds H J (WireIn frame) w ordered once = let n = network J in arrive_adds n.sends n.rings (next_frame n) (verdict_at H.local n.rings frame)
entry_adds H J (Submit who buffer len) w ordered once =
    let n = network J in
    submit_adds n.sends (record { who = who; buffer = buffer; bytes = take len (n.buffers who buffer) }) n.rings.posts n.rings.sent (is_ok (out H J (Submit who buffer len)).head) once
    ∙ none_sent H J (Submit who buffer len) (sent_frames n) refl
entry_adds H J (TxPost slot send) w ordered once =
    let n = network J in
    post_adds n.sends n.rings send (is_ok (out H J (TxPost slot send)).head) (omega (arith, ordered.transmit.passed, ordered.transmit.rung, ordered.posts))
    ∙ none_sent H J (TxPost slot send) (sent_frames n) refl
entry_adds H J WireOut w ordered once = let n = network J in sent_adds n.sends n.rings (can_send n.rings) within
  where
    within : can_send (network J).rings ≡ true → (network J).rings.sent < length (network J).rings.posts
    within can = omega (arith, (can_send_room (network J).rings can).1, ordered.transmit.passed, ordered.transmit.rung, ordered.posts)
entry_adds H J other w ordered once = none_sent H J other (sent_frames (network J)) refl

pub sent_in_turn : AreOrdered → AreSentInTurn
sent_in_turn ordered H J e run =
    let P : Entry → Type 0 = λ x. sent_frames (network (x ∷ J)) ≡ sent_frames (network J) ++ (if is_sent x.outcome then next_frame (network J) ∷ [] else []) in
    subst P (as_entry H J e run.0.outcome) (entry_adds H J e.act e.written (ordered H J run.1) (posted_once H J run.1))

pub sent_fronts : AreOrdered → AreSentFronts
sent_fronts ordered H J [] W run = ([], append-nil (sent_frames (network J)))
sent_fronts ordered H J (a ∷ A) W run =
    let e = entry_of H J W a in
    let more = (if is_sent e.outcome then next_frame (network J) ∷ [] else []) in
    let longer : IsRun H (e ∷ J) = (made_follows H J W a, run) in
    let rest = sent_fronts ordered H (e ∷ J) A (left_by (is_heard (out H J a)) W) longer in
    (more ++ rest.0, sym (append_assoc (sent_frames (network J)) more rest.0) ∙ ap (λ ws. ws ++ rest.0) (sym (sent_in_turn ordered H J e longer)) ∙ rest.1)
