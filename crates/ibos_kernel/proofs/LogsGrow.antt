-- The log after an act is that of the journal with its entry.
use Rattle.std.proofs.Common.{◌≡◌, Bool, true, false, ℕ, List, [], ◌∷◌, ◌++◌, refl, sym, ◌∙◌, ap}
use Rattle.std.specs.Prelude.{if◌then◌else◌}
use Rattle.std.proofs.lemmas.List.{append-nil}
use Rattle.ibos_kinds.specs.declared.act.Act.{Act}
use Rattle.ibos_kinds.specs.declared.outcome.Outcome.{Outcome}
use Rattle.ibos_nic.specs.declared.log.LogEntry.{LogEntry}
use Rattle.ibos_origin.specs.Hosts.{HostTable}
use Rattle.ibos_model.specs.Journal.{Journal, Kind, Hears, Sends, Nothing, frame_of, heard, hears, is_heard, is_sent, kind_of, transmits}
use Rattle.ibos_model.specs.Laws.{AreSentInTurn}
use Rattle.ibos_model.specs.Logs.{got_for, log_after, log_by, newest_in, sent_in, written_in}
use Rattle.ibos_model.specs.Network.{network, next_frame, sent_frames}
use Rattle.ibos_model.specs.Runs.{IsRun, IsWritten}
use Rattle.ibos_kernel.specs.Standing.{entry}

-- what the device wrote stands in the entry, where the frame was heard
pub written_fits : (outcome : Outcome) (log : List LogEntry) → IsWritten (is_heard outcome) (got_for outcome log)
written_fits outcome log = by_test (is_heard outcome)
  where
    by_test : (test : Bool) → IsWritten test (if test then newest_in log else [])
    by_test true = tt
    by_test false = refl

pub written_grows : (J : Journal) (act : Act) (outcome : Outcome) (b : List ℕ) (log log' : List LogEntry) → written_in log ≡ heard J
    → log' ≡ log_after outcome (frame_of act) (got_for outcome log') b log → written_in log' ≡ heard (entry act outcome log' ∷ J)
written_grows J act outcome b log log' same is = ap written_in is ∙ by_kind (kind_of outcome)
  where
    by_kind : (kind : Kind) → written_in (log_by kind (frame_of act) (if hears (kind_of outcome) then newest_in log' else []) b log)
        ≡ heard J ++ (if hears kind then (if hears (kind_of outcome) then newest_in log' else []) ∷ [] else [])
    by_kind Hears = ap (λ (W : List (List ℕ)). W ++ (if hears (kind_of outcome) then newest_in log' else []) ∷ []) same
    by_kind Sends = same ∙ sym (append-nil (heard J))
    by_kind Nothing = same ∙ sym (append-nil (heard J))

-- the frames that went out, with the one that the act sends
pub sent_grows : (H : HostTable) (J : Journal) (act : Act) (outcome : Outcome) (w : List ℕ) (log log' : List LogEntry) → AreSentInTurn → IsRun H (entry act outcome log' ∷ J)
    → sent_in log ≡ sent_frames (network J) → log' ≡ log_after outcome (frame_of act) w (next_frame (network J)) log
    → sent_in log' ≡ sent_frames (network (entry act outcome log' ∷ J))
sent_grows H J act outcome w log log' law run same is =
    ap sent_in is ∙ by_kind (kind_of outcome) ∙ ap (λ (B : List (List ℕ)). B ++ (if is_sent outcome then next_frame (network J) ∷ [] else [])) same
    ∙ sym (law H J (entry act outcome log') run)
  where
    by_kind : (kind : Kind) → sent_in (log_by kind (frame_of act) w (next_frame (network J)) log) ≡ sent_in log ++ (if transmits kind then next_frame (network J) ∷ [] else [])
    by_kind Hears = sym (append-nil (sent_in log))
    by_kind Sends = refl
    by_kind Nothing = sym (append-nil (sent_in log))
