-- Receive buffers come back under the handles of their posts, one turn higher.
use Rattle.std.proofs.Common.{◌≡◌, ◌≢◌, ℕ, ◌+◌, ◌-◌, zero, suc, List, [], ◌∷◌, ◌++◌, Bool, true, false, Option, Some, None, refl, sym, ◌∙◌, ap, subst, arith, length, append-nil, drop, take, map}
use Rattle.std.specs.Prelude.{if◌then◌else◌, slice_index}
use Rattle.std.specs.List.{list_any}
use Rattle.std.proofs.lemmas.Bool.Decides.{nat_tests}
use Rattle.std.proofs.lemmas.List.{drop-append-le, drop-drop, drop-map, get_or-set_other, length-append, map-append}
use Rattle.ibos_kinds.specs.declared.act.Act.{Act}
use Rattle.ibos_kinds.specs.declared.act.Act.TheVariants.{RegRead, RegWrite, RxPost, RxBell, WireIn, TxPost, TxBell, WireOut}
use Rattle.ibos_kinds.specs.declared.names.Handle.{Handle}
use Rattle.ibos_kinds.specs.declared.names.Verdict.{Verdict}
use Rattle.ibos_kinds.specs.declared.names.Verdict.TheVariants.{Filtered, Missed, Heard}
use Rattle.ibos_kinds.specs.declared.outcome.Item.TheVariants.{Idle, SentIs}
use Rattle.ibos_kinds.specs.declared.rule.Rule.{Rule}
use Rattle.ibos_pool.specs.declared.name.Name.{Name}
use Rattle.ibos_pool.specs.Names.{same_name}
use Rattle.ibos_nic.specs.Parts.{reg_at}
use Rattle.ibos_nic.specs.Registers.{is_enabled}
use Rattle.ibos_nic.specs.Rules.{receive_name, receive_rule, with_turn}
use Rattle.ibos_origin.specs.Hosts.{HostTable}
use Rattle.ibos_model.specs.Journal.{Entry, Journal, is_ok}
use Rattle.ibos_model.specs.Laws.{AreLentInOrder, AreOrdered, IsOrdered}
use Rattle.ibos_model.specs.Network.{network}
use Rattle.ibos_model.specs.Outcomes.{accepted, answer, out}
use Rattle.ibos_model.specs.Posts.{next_turn, posts}
use Rattle.ibos_model.specs.Rings.{Rings, arrived, belled, can_send, handle_after, next_send, posted, returned, send_posted, sent_by, turns_after, verdict_at}
use Rattle.ibos_model.specs.Runs.{IsRun}
use Rattle.ibos_model.proofs.Entries.{as_entry, entry}
use Rattle.ibos_model.proofs.RegisterActs.{Claim, missed_leaves, reads_leave, writes_leave}
use Rattle.ibos_model.proofs.RingCounts.{PostsMay}

-- names of receive buffers, each once
abbrev Apart : List Name → Type 0
Apart [] = Unit {0}
Apart (n ∷ ns) = (n.area ≡ 0) × (list_any (same_name n) ns ≡ false) × Apart ns

apart_drop : (c : ℕ) (ns : List Name) → Apart ns → Apart (drop c ns)
apart_drop zero ns is = is
apart_drop (suc c) [] is = tt
apart_drop (suc c) (n ∷ ns) is = apart_drop c ns is.2

apart_push : (x : Name) (ns : List Name) → x.area ≡ 0 → list_any (same_name x) ns ≡ false → Apart ns → Apart (ns ++ x ∷ [])
apart_push x [] at absent is = (at, refl, tt)
apart_push x (n ∷ ns) at absent is = (is.0, grind (arith, nat_tests, absent, absent_push n x ns is.1), apart_push x ns at (grind (arith, nat_tests, absent)) is.2)
  where
    absent_push : (n x : Name) (ns : List Name) → list_any (same_name n) ns ≡ false → same_name n x ≡ false → list_any (same_name n) (ns ++ x ∷ []) ≡ false
    absent_push n x [] absent differ = rw differ refl
    absent_push n x (m ∷ ns) absent differ = grind (arith, nat_tests, absent_push n x ns)

-- a turn of another name
handle_stays : (m n : Name) (turns : List ℕ) → n.area ≡ 0 → m.area ≡ 0 → same_name n m ≡ false → handle_after (with_turn turns n.index) m ≡ handle_after turns m
handle_stays m n turns n_at m_at differ =
    let apart : m.index ≢ n.index = (λ same. grind (arith, nat_tests)) in
    ap (λ turn. let handle : Handle = record { name = m.index; turn = turn + 1 } in handle) (get_or-set_other turns n.index m.index (slice_index turns n.index + 1) 0 apart)

handles_stay : (n : Name) (ns : List Name) (turns : List ℕ) → n.area ≡ 0 → list_any (same_name n) ns ≡ false → Apart ns → map (handle_after (with_turn turns n.index)) ns ≡ map (handle_after turns) ns
handles_stay n [] turns at absent is = refl
handles_stay n (m ∷ ns) turns at absent is =
    let differ : same_name n m ≡ false = grind (arith, nat_tests, absent) in
    let rest : list_any (same_name n) ns ≡ false = grind (arith, nat_tests, absent) in
    rw (handle_stays m n turns at is.0 differ) (ap (λ hs. handle_after turns m ∷ hs) (handles_stay n ns turns at rest is.2))

-- taking the first buffers back leaves the handles of the others
bell_handles : (c : ℕ) (ns : List Name) (turns : List ℕ) → Apart ns → map (handle_after (turns_after (take c ns) turns)) (drop c ns) ≡ map (handle_after turns) (drop c ns)
bell_handles zero ns turns is = refl
bell_handles (suc c) [] turns is = refl
bell_handles (suc c) (n ∷ ns) turns is =
    bell_handles c ns (with_turn turns n.index) is.2
    ∙ sym (drop-map (handle_after (with_turn turns n.index)) c ns)
    ∙ ap (drop c) (handles_stay n ns turns is.0 is.1 is.2)
    ∙ drop-map (handle_after turns) c ns

-- what is kept of a ring with these counts, names and turns, and of all posts
record IsPosted (count taken : ℕ) (names : List Name) (turns : List ℕ) (hs : List Handle) : Type 0 where
  counted : length hs ≡ count
  handles : map (handle_after turns) names ≡ map next_turn (drop taken hs)
  apart : Apart names

abbrev Posted : Rings → List Handle → Type 0
Posted r hs = IsPosted r.receive.posted r.receive.taken r.names r.turns hs

abbrev IsPostedWith : List Handle → Claim
IsPostedWith hs heard count taken names turns posts sent = IsPosted count taken names turns hs

arrive_keeps : (r : Rings) (hs : List Handle) (verdict : Verdict) → Posted r hs → Posted (arrived verdict r) hs
arrive_keeps r hs Filtered is = is
arrive_keeps r hs Heard is = is
arrive_keeps r hs Missed is = missed_leaves (IsPostedWith hs) r (is_enabled r.receive.control) _ _ is

-- ---- posts and bells

post_keeps : PostsMay → (r : Rings) (hs : List Handle) (ws : List (List ℕ)) (slot : ℕ) (handle : Handle) → IsOrdered r ws
    → (rule : Option Rule) → receive_rule r.receive r.names r.turns slot handle ≡ rule
    → Posted r hs → Posted (if is_ok (answer rule).head then posted handle r else r) (hs ++ (if is_ok (answer rule).head then handle ∷ [] else []))
post_keeps may r hs ws slot handle ordered (Some rule) broken is = subst (Posted r) (sym (append-nil hs)) is
post_keeps may r hs ws slot handle ordered None allowed is =
    let due = may r.receive r.names r.turns slot handle allowed in
    let old : drop r.receive.taken (hs ++ handle ∷ []) ≡ drop r.receive.taken hs ++ handle ∷ [] = drop-append-le r.receive.taken hs (handle ∷ [])
    (omega (arith, is.counted, ordered.receive.taken, ordered.receive.passed, ordered.receive.rung)) in
    let last : handle_after r.turns (receive_name handle.name) ≡ next_turn handle = ap (λ turn. let h : Handle = record { name = handle.name; turn = turn + 1 } in h) (sym due.newest) in
    record {
      counted = length-append hs (handle ∷ []) ∙ ap (λ n. n + 1) is.counted;
      handles = map-append (handle_after r.turns) r.names (receive_name handle.name ∷ [])
          ∙ ap (λ xs. xs ++ handle_after r.turns (receive_name handle.name) ∷ []) is.handles
          ∙ ap (λ x. map next_turn (drop r.receive.taken hs) ++ x ∷ []) last
          ∙ sym (map-append next_turn (drop r.receive.taken hs) (handle ∷ []))
          ∙ ap (map next_turn) (sym old);
      apart = apart_push (receive_name handle.name) r.names refl due.outside is.apart;
    }

bell_keeps : (r : Rings) (hs : List Handle) → Posted r hs → Posted (belled r) hs
bell_keeps r hs is =
    let count = r.heard - r.receive.taken in
    record {
      counted = is.counted;
      handles = bell_handles count r.names r.turns is.apart
          ∙ sym (drop-map (handle_after r.turns) count r.names)
          ∙ ap (drop count) is.handles
          ∙ drop-map next_turn count (drop r.receive.taken hs)
          ∙ ap (map next_turn) (drop-drop count r.receive.taken hs);
      apart = apart_drop count r.names is.apart;
    }

-- ---- sends

send_keeps : (r : Rings) (hs : List Handle) (send : ℕ) (ok : Bool) → Posted r hs → Posted (if ok then send_posted send r else r) hs
send_keeps r hs send true is = is
send_keeps r hs send false is = is

sent_keeps : (r : Rings) (hs : List Handle) (can : Bool) → Posted r hs → let outcome = (if can then accepted (SentIs (next_send r) ∷ []) else accepted (Idle ∷ [])) in
    Posted (if is_ok outcome.head then sent_by outcome.items r else r) hs
sent_keeps r hs true is = is
sent_keeps r hs false is = is

-- ---- runs

entry_keeps : PostsMay → (H : HostTable) (J : Journal) (a : Act) (w : List ℕ) → IsOrdered (network J).rings (network J).pending → Posted (network J).rings (posts J)
    → Posted (network (entry H J a w ∷ J)).rings (posts (entry H J a w ∷ J))
unfolding network
entry_keeps may H J (RegRead offset) w ordered is =
    subst (Posted (network (entry H J (RegRead offset) w ∷ J)).rings) (sym (append-nil (posts J))) (reads_leave (IsPostedWith (posts J)) (network J).rings (reg_at offset) (is_ok (out H J (RegRead offset)).head) is)
entry_keeps may H J (RegWrite offset value) w ordered is =
    subst (Posted (network (entry H J (RegWrite offset value) w ∷ J)).rings) (sym (append-nil (posts J))) (writes_leave (IsPostedWith (posts J)) (network J).rings value (reg_at offset) (is_ok (out H J (RegWrite offset value)).head) is)
entry_keeps may H J (RxPost slot handle) w ordered is =
    let r = (network J).rings in
    post_keeps may r (posts J) (network J).pending slot handle ordered (receive_rule r.receive r.names r.turns slot handle) refl is
entry_keeps may H J RxBell w ordered is =
    subst (Posted (belled (network J).rings)) (sym (append-nil (posts J))) (bell_keeps (network J).rings (posts J) is)
entry_keeps may H J (WireIn frame) w ordered is =
    let verdict = verdict_at H.local (network J).rings frame in
    subst (Posted (arrived verdict (network J).rings)) (sym (append-nil (posts J))) (arrive_keeps (network J).rings (posts J) verdict is)
entry_keeps may H J (TxPost slot send) w ordered is =
    subst (Posted (network (entry H J (TxPost slot send) w ∷ J)).rings) (sym (append-nil (posts J))) (send_keeps (network J).rings (posts J) send (is_ok (out H J (TxPost slot send)).head) is)
entry_keeps may H J TxBell w ordered is = subst (Posted (returned (network J).rings)) (sym (append-nil (posts J))) is
entry_keeps may H J WireOut w ordered is =
    subst (Posted (network (entry H J WireOut w ∷ J)).rings) (sym (append-nil (posts J))) (sent_keeps (network J).rings (posts J) (can_send (network J).rings) is)
entry_keeps may H J other w ordered is = subst (Posted (network J).rings) (sym (append-nil (posts J))) is

posted_is : PostsMay → AreOrdered → (H : HostTable) (J : Journal) → IsRun H J → Posted (network J).rings (posts J)
unfolding network
posted_is may ordered H [] run = record { counted = refl; handles = refl; apart = tt }
posted_is may ordered H (e ∷ J) run =
    let P : Entry → Type 0 = λ x. Posted (network (x ∷ J)).rings (posts (x ∷ J)) in
    subst P (as_entry H J e run.0.outcome) (entry_keeps may H J e.act e.written (ordered H J run.1) (posted_is may ordered H J run.1))

pub lent_in_order : PostsMay → AreOrdered → AreLentInOrder
lent_in_order may ordered H J run = (posted_is may ordered H J run).handles
