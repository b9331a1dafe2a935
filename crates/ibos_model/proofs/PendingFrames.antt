-- The frames that are pending are the last that were heard.
use Rattle.std.proofs.Common.{◌≡◌, ℕ, ◌+◌, ◌-◌, List, [], ◌∷◌, ◌++◌, Bool, true, false, refl, sym, ◌∙◌, ap, subst, arith, length, append-nil, drop}
use Rattle.std.specs.Prelude.{if◌then◌else◌}
use Rattle.std.proofs.Math.Seq.{drop-length}
use Rattle.std.proofs.lemmas.List.{drop-append-le, length-append}
use Rattle.ibos_kinds.specs.declared.act.Act.{Act}
use Rattle.ibos_kinds.specs.declared.act.Act.TheVariants.{RegRead, RegWrite, RxPost, RxBell, WireIn, TxPost, TxBell, WireOut}
use Rattle.ibos_kinds.specs.declared.names.Verdict.{Verdict}
use Rattle.ibos_kinds.specs.declared.names.Verdict.TheVariants.{Filtered, Missed, Heard}
use Rattle.ibos_kinds.specs.declared.outcome.Item.TheVariants.{Idle, SentIs, VerdictIs}
use Rattle.ibos_kinds.specs.declared.party.Party.TheVariants.{Wire}
use Rattle.ibos_kinds.specs.Parties.{is_by}
use Rattle.ibos_nic.specs.Parts.{reg_at}
use Rattle.ibos_nic.specs.Registers.{is_enabled}
use Rattle.ibos_origin.specs.Hosts.{HostTable}
use Rattle.ibos_model.specs.Journal.{Entry, Journal, heard, hears, if_heard, is_ok}
use Rattle.ibos_model.specs.Laws.{AreOrdered, ArePendingLast, IsOrdered}
use Rattle.ibos_model.specs.Network.{network}
use Rattle.ibos_model.specs.Outcomes.{accepted, out}
use Rattle.ibos_model.specs.Rings.{Rings, arrived, belled, can_send, next_send, posted, send_posted, sent_by, verdict_at}
use Rattle.ibos_model.specs.Runs.{IsRun}
use Rattle.ibos_model.proofs.Entries.{as_entry, entry}
use Rattle.ibos_model.proofs.RegisterActs.{Claim, missed_leaves, reads_leave, writes_leave}
use Rattle.ibos_model.proofs.QuietActs.{logged_alone}

-- of all frames heard, with these counts
record IsLast (count taken : ℕ) (pending all : List (List ℕ)) : Type 0 where
  counted : count ≡ length all
  last : pending ≡ drop taken all

abbrev Last : Rings → List (List ℕ) → List (List ℕ) → Type 0
Last r pending all = IsLast r.heard r.receive.taken pending all

abbrev IsLastWith : List (List ℕ) → List (List ℕ) → Claim
IsLastWith ws all count posted taken names turns posts sent = IsLast count taken ws all

post_keeps : (r s : Rings) (ws all : List (List ℕ)) (ok : Bool) → Last r ws all → Last s ws all → Last (if ok then s else r) ws all
post_keeps r s ws all true old new = new
post_keeps r s ws all false old new = old

-- ---- bells, and frames that come

bell_keeps : (r : Rings) (ws all : List (List ℕ)) → IsOrdered r ws → Last r ws all → Last (belled r) [] all
bell_keeps r ws all ordered is =
    let whole : r.receive.taken + (r.heard - r.receive.taken) ≡ length all = omega (arith, ordered.receive.taken, is.counted) in
    record { counted = is.counted; last = sym (drop-length all) ∙ ap (λ n. drop n all) (sym whole) }

arrive_keeps : (r : Rings) (ws all : List (List ℕ)) (w : List ℕ) (verdict : Verdict) → IsOrdered r ws → Last r ws all
    → Last (arrived verdict r) (ws ++ if_heard (accepted (VerdictIs verdict ∷ [])) w) (all ++ if_heard (accepted (VerdictIs verdict ∷ [])) w)
arrive_keeps r ws all w Filtered ordered is = rw (append-nil ws, append-nil all) is
arrive_keeps r ws all w Missed ordered is = rw (append-nil ws, append-nil all) (missed_leaves (IsLastWith ws all) r (is_enabled r.receive.control) _ _ is)
arrive_keeps r ws all w Heard ordered is = record {
  counted = ap (λ n. n + 1) is.counted ∙ sym (length-append all (w ∷ []));
  last = ap (λ xs. xs ++ w ∷ []) is.last ∙ sym (drop-append-le r.receive.taken all (w ∷ []) (omega (arith, ordered.receive.taken, is.counted)));
}

-- ---- sends

sent_keeps : (r : Rings) (ws all : List (List ℕ)) (w : List ℕ) (can : Bool) → Last r ws all → let outcome = (if can then accepted (SentIs (next_send r) ∷ []) else accepted (Idle ∷ [])) in
    Last (if is_ok outcome.head then sent_by outcome.items r else r) ws (all ++ if_heard outcome w)
sent_keeps r ws all w true is = rw (append-nil all) is
sent_keeps r ws all w false is = rw (append-nil all) is

-- ---- runs

-- an act that is not the wire's adds no frame
none_heard : (H : HostTable) (J : Journal) (a : Act) (w : List ℕ) → is_by Wire a ≡ false → heard (entry H J a w ∷ J) ≡ heard J
none_heard H J a w other = ap (λ kind. heard J ++ (if hears kind then w ∷ [] else [])) (logged_alone H J a other) ∙ append-nil (heard J)

entry_keeps : (H : HostTable) (J : Journal) (a : Act) (w : List ℕ) → IsOrdered (network J).rings (network J).pending → Last (network J).rings (network J).pending (heard J)
    → Last (network (entry H J a w ∷ J)).rings (network (entry H J a w ∷ J)).pending (heard (entry H J a w ∷ J))
unfolding network
entry_keeps H J (RegRead offset) w ordered is =
    rw (none_heard H J (RegRead offset) w refl) (reads_leave (IsLastWith (network J).pending (heard J)) (network J).rings (reg_at offset) (is_ok (out H J (RegRead offset)).head) is)
entry_keeps H J (RegWrite offset value) w ordered is =
    rw (none_heard H J (RegWrite offset value) w refl) (writes_leave (IsLastWith (network J).pending (heard J)) (network J).rings value (reg_at offset) (is_ok (out H J (RegWrite offset value)).head) is)
entry_keeps H J (RxPost slot handle) w ordered is =
    let r = (network J).rings in
    rw (none_heard H J (RxPost slot handle) w refl) (post_keeps r (posted handle r) (network J).pending (heard J) (is_ok (out H J (RxPost slot handle)).head) is is)
entry_keeps H J RxBell w ordered is =
    rw (none_heard H J RxBell w refl) (bell_keeps (network J).rings (network J).pending (heard J) ordered is)
entry_keeps H J (WireIn frame) w ordered is = arrive_keeps (network J).rings (network J).pending (heard J) w (verdict_at H.local (network J).rings frame) ordered is
entry_keeps H J (TxPost slot send) w ordered is =
    let r = (network J).rings in
    rw (none_heard H J (TxPost slot send) w refl) (post_keeps r (send_posted send r) (network J).pending (heard J) (is_ok (out H J (TxPost slot send)).head) is is)
entry_keeps H J TxBell w ordered is = rw (none_heard H J TxBell w refl) is
entry_keeps H J WireOut w ordered is = sent_keeps (network J).rings (network J).pending (heard J) w (can_send (network J).rings) is
entry_keeps H J other w ordered is = rw (none_heard H J other w refl) is

last_is : AreOrdered → (H : HostTable) (J : Journal) → IsRun H J → Last (network J).rings (network J).pending (heard J)
unfolding network
last_is ordered H [] run = record { counted = refl; last = refl }
last_is ordered H (e ∷ J) run =
    let P : Entry → Type 0 = λ x. Last (network (x ∷ J)).rings (network (x ∷ J)).pending (heard (x ∷ J)) in
    subst P (as_entry H J e run.0.outcome) (entry_keeps H J e.act e.written (ordered H J run.1) (last_is ordered H J run.1))

pub pending_last : AreOrdered → ArePendingLast
pending_last ordered H J run = let is = last_is ordered H J run in (is.counted, is.last)
