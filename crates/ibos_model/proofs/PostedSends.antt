-- Each number is posted at most once, and only where a send with it was accepted.
use Rattle.std.proofs.Common.{◌≡◌, ℕ, ◌<◌, ◌==◌, List, [], ◌∷◌, ◌++◌, Bool, true, false, not, ◌&&◌, ◌||◌, Option, Some, None, refl, sym, subst, arith, length}
use Rattle.std.specs.Prelude.{if◌then◌else◌, nat_lt, take}
use Rattle.std.specs.List.{AllByRecursion, IsDistinct, list_any}
use Rattle.std.specs.Option.{option_or}
use Rattle.std.proofs.lemmas.Bool.Decides.{nat_tests}
use Rattle.std.proofs.lemmas.List.{length-append}
use Rattle.std.proofs.lemmas.List.Elements.{All-nil, All-push, All-weaker}
use Rattle.ibos_kinds.specs.declared.act.Act.{Act}
use Rattle.ibos_kinds.specs.declared.act.Act.TheVariants.{RegRead, RegWrite, RxPost, RxBell, WireIn, Submit, TxPost, TxBell, WireOut}
use Rattle.ibos_kinds.specs.declared.names.Verdict.{Verdict}
use Rattle.ibos_kinds.specs.declared.names.Verdict.TheVariants.{Filtered, Missed, Heard}
use Rattle.ibos_kinds.specs.declared.outcome.Item.TheVariants.{Idle, SentIs}
use Rattle.ibos_kinds.specs.declared.rule.Rule.{Rule}
use Rattle.ibos_kinds.specs.declared.rule.Rule.TheVariants.{M6}
use Rattle.ibos_kinds.specs.Sends.{Send}
use Rattle.ibos_nic.specs.Parts.{reg_at}
use Rattle.ibos_nic.specs.Registers.{is_enabled}
use Rattle.ibos_nic.specs.Rules.{transmit_rule}
use Rattle.ibos_origin.specs.Hosts.{HostTable}
use Rattle.ibos_model.specs.Journal.{Entry, Journal, is_ok}
use Rattle.ibos_model.specs.Laws.{ArePostedOnce, IsPostedOnce}
use Rattle.ibos_model.specs.Network.{Network, network, waits}
use Rattle.ibos_model.specs.Outcomes.{accepted, answer, out}
use Rattle.ibos_model.specs.Rings.{Rings, arrived, can_send, next_send, posted, send_posted, sent_by, verdict_at}
use Rattle.ibos_model.proofs.Entries.{as_entry, entry}
use Rattle.ibos_model.proofs.RegisterActs.{Claim, missed_leaves, reads_leave, writes_leave}

-- ---- numbers that differ

neither : (a b : Bool) → (a || b) ≡ false → (a ≡ false) × (b ≡ false)
neither true b is = cc
neither false b is = (refl, is)

apart_push : (k x : ℕ) (ks : List ℕ) → (k == x) ≡ false → AllByRecursion (λ j. (k == j) ≡ false) ks → AllByRecursion (λ j. (k == j) ≡ false) (ks ++ x ∷ [])
apart_push k x [] differ is = (differ, tt)
apart_push k x (j ∷ ks) differ is = (is.0, apart_push k x ks differ is.1)

distinct_push : (x : ℕ) (ks : List ℕ) → list_any (λ k. k == x) ks ≡ false → IsDistinct (◌==◌) ks → IsDistinct (◌==◌) (ks ++ x ∷ [])
unfolding IsDistinct
distinct_push x [] absent is = (tt, tt)
distinct_push x (k ∷ ks) absent is =
    let both = neither (k == x) (list_any (λ j. j == x) ks) absent in
    (apart_push k x ks both.0 is.0, distinct_push x ks both.1 is.1)

-- ---- posts of sends

-- only a send that waits is posted
waited : (slot : Option Rule) (waiting : Bool) → option_or slot (if waiting then None else Some M6) ≡ None → waiting ≡ true
waited None true is = refl
waited None false is = cc
waited (Some rule) waiting is = cc

was_accepted : (n : Network) (send : ℕ) → waits n send ≡ true → (send < length n.sends) × (list_any (λ k. k == send) n.rings.posts ≡ false)
was_accepted n send is = by_tests (nat_lt send (length n.sends)) (list_any (λ k. k == send) n.rings.posts) refl refl is
  where
    below : (m k : ℕ) → nat_lt m k ≡ true → m < k
    below m k test = grind (arith, nat_tests)

    by_tests : (low there : Bool) → nat_lt send (length n.sends) ≡ low → list_any (λ k. k == send) n.rings.posts ≡ there → (low && not there) ≡ true
        → (send < length n.sends) × (list_any (λ k. k == send) n.rings.posts ≡ false)
    by_tests true false low there both = (below send (length n.sends) low, there)
    by_tests true true low there both = cc
    by_tests false any low there both = cc

post_once : (n : Network) (slot send : ℕ) (rule : Option Rule) → transmit_rule n.rings.transmit (waits n send) slot ≡ rule → IsPostedOnce n.rings.posts n.sends
    → IsPostedOnce (if is_ok (answer rule).head then send_posted send n.rings else n.rings).posts n.sends
post_once n slot send (Some rule) broken is = is
post_once n slot send None allowed is =
    let new = was_accepted n send (waited _ (waits n send) allowed) in
    record { once = distinct_push send n.rings.posts new.1 is.once; accepted = All-push (λ k. k < length n.sends) n.rings.posts send is.accepted new.0 }

submit_once : (posts : List ℕ) (sends : List Send) (send : Send) (ok : Bool) → IsPostedOnce posts sends → IsPostedOnce posts (if ok then sends ++ send ∷ [] else sends)
submit_once posts sends send false is = is
submit_once posts sends send true is = record {
  once = is.once;
  accepted = All-weaker (λ k. k < length sends) (λ k. k < length (sends ++ send ∷ [])) (λ k low. subst (λ n. k < n) (sym (length-append sends (send ∷ []))) (omega (arith, low))) posts is.accepted;
}

-- ---- other acts

abbrev IsOnceWith : List Send → Claim
IsOnceWith sends heard count taken names turns posts sent = IsPostedOnce posts sends

others_once : (r s : Rings) (sends : List Send) (ok : Bool) → IsPostedOnce s.posts sends → IsPostedOnce r.posts sends → IsPostedOnce (if ok then s else r).posts sends
others_once r s sends true new old = new
others_once r s sends false new old = old

arrive_once : (r : Rings) (sends : List Send) (verdict : Verdict) → IsPostedOnce r.posts sends → IsPostedOnce (arrived verdict r).posts sends
arrive_once r sends Filtered is = is
arrive_once r sends Heard is = is
arrive_once r sends Missed is = missed_leaves (IsOnceWith sends) r (is_enabled r.receive.control) _ _ is

sent_once : (r : Rings) (sends : List Send) (can : Bool) → IsPostedOnce r.posts sends → let outcome = (if can then accepted (SentIs (next_send r) ∷ []) else accepted (Idle ∷ [])) in
    IsPostedOnce (if is_ok outcome.head then sent_by outcome.items r else r).posts sends
sent_once r sends true is = is
sent_once r sends false is = is

-- ---- runs

entry_once : (H : HostTable) (J : Journal) (a : Act) (w : List ℕ) → IsPostedOnce (network J).rings.posts (network J).sends
    → IsPostedOnce (network (entry H J a w ∷ J)).rings.posts (network (entry H J a w ∷ J)).sends
unfolding network
entry_once H J (RegRead offset) w is = reads_leave (IsOnceWith (network J).sends) (network J).rings (reg_at offset) (is_ok (out H J (RegRead offset)).head) is
entry_once H J (RegWrite offset value) w is = writes_leave (IsOnceWith (network J).sends) (network J).rings value (reg_at offset) (is_ok (out H J (RegWrite offset value)).head) is
entry_once H J (RxPost slot handle) w is = let r = (network J).rings in others_once r (posted handle r) (network J).sends (is_ok (out H J (RxPost slot handle)).head) is is
entry_once H J RxBell w is = is
entry_once H J (WireIn frame) w is = arrive_once (network J).rings (network J).sends (verdict_at H.local (network J).rings frame) is
entry_once H J (Submit who buffer len) w is =
    let n = network J in
    submit_once n.rings.posts n.sends (record { who = who; buffer = buffer; bytes = take len (n.buffers who buffer) }) (is_ok (out H J (Submit who buffer len)).head) is
entry_once H J (TxPost slot send) w is = let n = network J in post_once n slot send (transmit_rule n.rings.transmit (waits n send) slot) refl is
entry_once H J TxBell w is = is
entry_once H J WireOut w is = sent_once (network J).rings (network J).sends (can_send (network J).rings) is
entry_once H J other w is = is

pub posted_once : ArePostedOnce
unfolding network IsDistinct
posted_once H [] run = record { once = tt; accepted = All-nil (λ k. k < 0) }
posted_once H (e ∷ J) run =
    let P : Entry → Type 0 = λ x. IsPostedOnce (network (x ∷ J)).rings.posts (network (x ∷ J)).sends in
    subst P (as_entry H J e run.0.outcome) (entry_once H J e.act e.written (posted_once H J run.1))
