-- A session, act by act.
use Rattle.std.proofs.Common.{◌≡◌, ℕ, ◌+◌, List, [], ◌∷◌, ◌++◌, Bool, true, false, Option, refl, sym, ◌∙◌, ap, subst, length, append-nil, inl, inr}
use Rattle.std.specs.Prelude.{if◌then◌else◌}
use Rattle.ibos_kinds.specs.declared.act.Act.{Act}
use Rattle.ibos_kinds.specs.declared.outcome.Outcome.{Outcome}
use Rattle.ibos_outcome.specs.Printed.{outcome_text}
use Rattle.ibos_origin.specs.Hosts.{HostTable}
use Rattle.ibos_nic.specs.declared.log.LogEntry.{LogEntry}
use Rattle.ibos_nic.specs.Registers.{Registers}
use Rattle.ibos_model.specs.Journal.{Entry, Journal, Kind, Hears, Sends, Nothing, frame_of, frames, heard, hears, if_heard, is_heard, is_sent, kind_of, transmits}
use Rattle.ibos_model.specs.Logs.{Loses, frames_in, got_for, log_after, log_by, newest_in, sent_in, written_in}
use Rattle.ibos_model.specs.Network.{network, next_frame, sent_frames}
use Rattle.ibos_model.specs.Outcomes.{out}
use Rattle.ibos_model.specs.Rings.{register}
use Rattle.ibos_model.specs.Runs.{Follows, GoesOn, IsRun, IsWritten, entry_of, left_by, run, run_from, written_by}
use Rattle.ibos_model.specs.Text.{text_of}
use Rattle.ibos_model.specs.Laws.{AreFrameFronts, AreFronts, AreSentFronts, AreSentInTurn, DoGoOn}
use Rattle.ibos_run.specs.Inputs.{journal_of, last_line, session_text}
use Rattle.ibos_run.specs.Readings.{Reading, onto_acts}
use Rattle.ibos_run.specs.Refusals.{Refusal}
use Rattle.ibos_kernel.specs.Tables.{Tables}
use Rattle.ibos_kernel.specs.Standing.{Agrees, AreTogether, Stands, entry}
use Rattle.ibos_run.specs.Session.{IsCut, IsMade, IsOver, IsServing, IsStopped}
use Rattle.ibos_run.specs.Took.{Took, TookFront}
use Rattle.ibos_run.proofs.Taken.{front_more, front_of, front_then, took_more, took_none, took_then}

pub start_serving : (whole : Reading) (first : Option (List ℕ)) (gathered : List ℕ) (k : Tables) (f : Registers) (l : List LogEntry)
    → Stands [] k → Agrees k.hosts [] f l → l ≡ [] → gathered ≡ [] → IsServing k.hosts whole whole first first gathered k f l []
start_serving whole first gathered k f l stands agrees none empty = record {
  stands = stands;
  table = refl;
  agrees = agrees;
  text = subst (λ g. Took first first g []) (sym empty) (took_none first []);
  goes = λ W. refl;
  came = ap frames_in none;
  refuses = refl;
}

-- the device agrees, over the kernel's own table
pub agrees_there : (H : HostTable) (whole left : Reading) (first now : Option (List ℕ)) (gathered : List ℕ) (k : Tables) (f : Registers) (l : List LogEntry) (J : Journal)
    → IsServing H whole left first now gathered k f l J → Agrees k.hosts J f l
agrees_there H whole left first now gathered k f l J serving = subst (λ (T : HostTable). Agrees T J f l) (sym serving.table) serving.agrees

pub together : (H : HostTable) (whole left : Reading) (first now : Option (List ℕ)) (gathered : List ℕ) (k : Tables) (f : Registers) (l : List LogEntry) (J : Journal)
    → IsServing H whole left first now gathered k f l J → AreTogether k f l
together H whole left first now gathered k f l J serving = (J, serving.stands, agrees_there H whole left first now gathered k f l J serving)

-- the journal is that of a run
run_there : (H : HostTable) (whole left : Reading) (first now : Option (List ℕ)) (gathered : List ℕ) (k : Tables) (f : Registers) (l : List LogEntry) (J : Journal)
    → IsServing H whole left first now gathered k f l J → IsRun H J
run_there H whole left first now gathered k f l J serving = subst (λ (T : HostTable). IsRun T J) serving.table serving.stands.parts.run

-- ---- one act

got_written : (h : Bool) (w : List ℕ) → IsWritten h (if h then w else [])
got_written true w = tt
got_written false w = refl

follows : (H : HostTable) (J : Journal) (act : Act) (l : List LogEntry) → Follows H J (entry act (out H J act) l)
follows H J act l = record { outcome = refl; written = got_written (is_heard (out H J act)) (newest_in l) }

frames_grow : (k : Kind) (frame w b : List ℕ) (l : List LogEntry) → frames_in (log_by k frame w b l) ≡ frames_in l ++ (if hears k then frame ∷ [] else [])
frames_grow Hears frame w b l = refl
frames_grow Sends frame w b l = sym (append-nil (frames_in l))
frames_grow Nothing frame w b l = sym (append-nil (frames_in l))

-- one act was made
pub next_serving : DoGoOn → (H : HostTable) (whole left after : Reading) (first now new : Option (List ℕ)) (gathered more : List ℕ) (k k' : Tables) (f f' : Registers) (l l' : List LogEntry) (act : Act) (J : Journal)
    → IsServing H whole left first now gathered k f l J → left ≡ onto_acts act after
    → IsMade k.hosts J act now new gathered more k' f' l l' → k'.hosts ≡ k.hosts
    → IsServing H whole after first new more k' f' l' (entry act (out H J act) l' ∷ J)
next_serving goes_on H whole left after first now new gathered more k k' f f' l l' act J serving split made-there same =
    let made : IsMade H J act now new gathered more k' f' l l' = subst (λ (T : HostTable). IsMade T J act now new gathered more k' f' l l') serving.table made-there in
    let e : Entry = entry act (out H J act) l' in
    let line : List ℕ = outcome_text (length J + 1) (out H J act) in
    record {
      stands = made.stands;
      table = same ∙ serving.table;
      agrees = made.agrees;
      text = took_then first now new (gathered ++ line) more (text_of J ++ line) (took_more first now gathered (text_of J) line serving.text) made.text;
      goes = goes_on H J e after.acts whole.acts (follows H J act l') (subst (λ (r : Reading). GoesOn H J r.acts whole.acts) split serving.goes);
      came = ap frames_in made.log ∙ frames_grow (kind_of (out H J act)) (frame_of act) (got_for (out H J act) l') (next_frame (network J)) l
          ∙ ap (λ fs. fs ++ if_heard (out H J act) (frame_of act)) serving.came;
      refuses = ap (λ (r : Reading). r.refused) (sym split) ∙ serving.refuses;
    }

-- an act that was made is no loss
pub made_loses : (H : HostTable) (J : Journal) (act : Act) (o : Outcome) (w b : List ℕ) (l l' : List LogEntry) → o ≡ out H J act → l' ≡ log_after o (frame_of act) w b l → Loses (out H J act) act b l l'
made_loses H J act o w b l l' is log = subst (λ (o : Outcome). Loses o act b l l') is (by_kind (kind_of o) refl log)
  where
    by_kind : (k : Kind) → kind_of o ≡ k → l' ≡ log_by k (frame_of act) w b l → Loses o act b l l'
    by_kind Hears is log = inr (inl (w, ap hears is, log))
    by_kind Sends is log = inr (inr (ap transmits is, log))
    by_kind Nothing is log = inl log

-- ---- an early end

-- the run goes on to the whole, by way of one journal for the text, of one for what came in and of
-- one for what went out
stopped_by : AreFronts → AreFrameFronts → AreSentFronts → (H : HostTable) (whole : Reading) (first now : Option (List ℕ)) (gathered : List ℕ) (l : List LogEntry) (J K L : Journal) (A B C : List Act) (V W X : List (List ℕ))
    → TookFront first now gathered (text_of J) → run_from H J A V ≡ journal_of H whole (written_in l)
    → frames_in l ≡ frames K → run_from H K B W ≡ journal_of H whole (written_in l)
    → sent_in l ≡ sent_frames (network L) → IsRun H L → run_from H L C X ≡ journal_of H whole (written_in l)
    → IsStopped H whole first now gathered l
unfolding session_text
stopped_by fronts frame_fronts sent_fronts H whole first now gathered l J K L A B C V W X took text-on came came-on sent is-run sent-on =
    let text = fronts H J A V in
    let log = frame_fronts H K B W in
    let out = sent_fronts H L C X is-run in
    let journal : Journal = journal_of H whole (written_in l) in
    record {
      text = front_more first now gathered (text_of journal) (last_line (length journal) whole.refused)
          (subst (λ t. TookFront first now gathered t) (text.1 ∙ ap (λ (j : Journal). text_of j) text-on) (front_more first now gathered (text_of J) text.0 took));
      logged = record {
        came = (log.0, ap (λ fs. fs ++ log.0) came ∙ log.1 ∙ ap (λ (j : Journal). frames j) came-on);
        sent = (out.0, ap (λ fs. fs ++ out.0) sent ∙ out.1 ∙ ap (λ (j : Journal). sent_frames (network j)) sent-on);
      };
    }

-- the run from here on, where X will be heard
rest_is : (H : HostTable) (whole : Reading) (J : Journal) (A : List Act) (W X : List (List ℕ)) → GoesOn H J A whole.acts → W ≡ heard J ++ X → run_from H J A X ≡ journal_of H whole W
rest_is H whole J A W X goes is = goes X ∙ ap (run H whole.acts) (sym is)

-- between two acts
pub paused : AreFronts → AreFrameFronts → AreSentFronts → (H : HostTable) (whole left : Reading) (first now : Option (List ℕ)) (gathered : List ℕ) (k : Tables) (f : Registers) (l : List LogEntry) (J : Journal)
    → IsServing H whole left first now gathered k f l J → IsStopped H whole first now gathered l
paused fronts frame_fronts sent_fronts H whole left first now gathered k f l J serving =
    let on : run_from H J left.acts [] ≡ journal_of H whole (written_in l) =
    rest_is H whole J left.acts (written_in l) [] serving.goes (serving.agrees.written ∙ sym (append-nil (heard J))) in
    stopped_by fronts frame_fronts sent_fronts H whole first now gathered l J J J left.acts left.acts left.acts [] [] [] (front_of first now gathered (text_of J) serving.text) on serving.came on
    serving.agrees.sent (run_there H whole left first now gathered k f l J serving) on

sent_so : (s : Bool) (b : List ℕ) (B : List (List ℕ)) → s ≡ true → B ++ b ∷ [] ≡ B ++ (if s then b ∷ [] else [])
sent_so s b B is = rw is refl

came_so : (h : Bool) (frame : List ℕ) (F : List (List ℕ)) → h ≡ true → F ++ frame ∷ [] ≡ F ++ (if h then frame ∷ [] else [])
came_so h frame F is = rw is refl

next_written : (h : Bool) (W : List (List ℕ)) → IsWritten h (written_by h W)
next_written true W = tt
next_written false W = refl

-- within an act
pub cut_stopped : AreFronts → AreFrameFronts → AreSentFronts → AreSentInTurn → (H : HostTable) (whole left after : Reading) (first now new : Option (List ℕ)) (gathered more : List ℕ) (k : Tables) (f : Registers) (l l' : List LogEntry) (act : Act) (J : Journal)
    → IsServing H whole left first now gathered k f l J → left ≡ onto_acts act after
    → IsCut k.hosts J act now new gathered more l l' → IsStopped H whole first new more l'
cut_stopped fronts frame_fronts sent_fronts in_turn H whole left after first now new gathered more k f l l' act J serving split cut-there = by_log cut.loses
  where
    cut : IsCut H J act now new gathered more l l'
    cut = subst (λ (T : HostTable). IsCut T J act now new gathered more l l') serving.table cut-there

    line : List ℕ
    line = outcome_text (length J + 1) (out H J act)

    goes : GoesOn H J (act ∷ after.acts) whole.acts
    goes = subst (λ (r : Reading). GoesOn H J r.acts whole.acts) split serving.goes

    took : TookFront first new more (text_of J ++ line)
    took =
        front_then first now new (gathered ++ line) more (text_of J ++ line)
        (front_of first now (gathered ++ line) (text_of J ++ line) (took_more first now gathered (text_of J) line serving.text)) cut.text

    is-run : IsRun H J
    is-run = run_there H whole left first now gathered k f l J serving

    -- where nothing more was heard
    on_to : written_in l' ≡ written_in l → run_from H J (act ∷ after.acts) [] ≡ journal_of H whole (written_in l')
    on_to same = rest_is H whole J (act ∷ after.acts) (written_in l') [] goes (same ∙ serving.agrees.written ∙ sym (append-nil (heard J)))

    by_log : Loses (out H J act) act (next_frame (network J)) l l' → IsStopped H whole first new more l'
    by_log (inl same) =
        let on = on_to (ap written_in same) in
        stopped_by fronts frame_fronts sent_fronts H whole first new more l' (entry_of H J [] act ∷ J) J J after.acts (act ∷ after.acts) (act ∷ after.acts) (left_by (is_heard (out H J act)) []) [] [] took on
        (ap frames_in same ∙ serving.came) on (ap sent_in same ∙ serving.agrees.sent) is-run on
    by_log (inr (inl grown)) =
        let W = grown.0 ∷ [] in
        let on : run_from H J (act ∷ after.acts) W ≡ journal_of H whole (written_in l') =
        rest_is H whole J (act ∷ after.acts) (written_in l') W goes (ap written_in grown.2 ∙ ap (λ ws. ws ++ W) serving.agrees.written) in
        stopped_by fronts frame_fronts sent_fronts H whole first new more l' (entry_of H J W act ∷ J) (entry_of H J W act ∷ J) J after.acts after.acts (act ∷ after.acts)
        (left_by (is_heard (out H J act)) W) (left_by (is_heard (out H J act)) W) W took on
        (ap frames_in grown.2 ∙ ap (λ fs. fs ++ frame_of act ∷ []) serving.came ∙ came_so (is_heard (out H J act)) (frame_of act) (frames J) grown.1) on
        (ap sent_in grown.2 ∙ serving.agrees.sent) is-run on
    by_log (inr (inr sent)) =
        let on = on_to (ap written_in sent.1) in
        let e : Entry = entry_of H J [] act in
        let b : List ℕ = next_frame (network J) in
        let after-run : IsRun H (e ∷ J) = (record { outcome = refl; written = next_written (is_heard (out H J act)) [] }, is-run) in
        stopped_by fronts frame_fronts sent_fronts H whole first new more l' (e ∷ J) J (e ∷ J) after.acts (act ∷ after.acts) after.acts
        (left_by (is_heard (out H J act)) []) [] (left_by (is_heard (out H J act)) []) took on
        (ap frames_in sent.1 ∙ serving.came) on
        (ap sent_in sent.1 ∙ ap (λ fs. fs ++ b ∷ []) serving.agrees.sent ∙ sent_so (is_sent (out H J act)) b (sent_frames (network J)) sent.0 ∙ sym (in_turn H J e after-run)) after-run on

-- ---- the script's end

pub over : (H : HostTable) (whole left : Reading) (first now : Option (List ℕ)) (gathered : List ℕ) (k : Tables) (f : Registers) (l : List LogEntry) (J : Journal) (refused : Option Refusal)
    → IsServing H whole left first now gathered k f l J → left ≡ record { acts = []; refused = refused } → IsOver H whole first now gathered f l k.acts refused
over H whole left first now gathered k f l J refused serving ends =
    let all : J ≡ journal_of H whole (written_in l) =
    rest_is H whole J [] (written_in l) [] (subst (λ (r : Reading). GoesOn H J r.acts whole.acts) ends serving.goes) (serving.agrees.written ∙ sym (append-nil (heard J))) in
    record {
      served = record {
        text = subst (λ (j : Journal). Took first now gathered (text_of j)) all serving.text;
        logged = record { came = serving.came ∙ ap (λ (j : Journal). frames j) all; sent = serving.agrees.sent ∙ ap (λ (j : Journal). sent_frames (network j)) all };
        registers = λ r. serving.agrees.registers r ∙ ap (λ (j : Journal). register H.local (network j).rings r) all;
      };
      counted = sym serving.stands.acts ∙ ap (λ (j : Journal). length j) all;
      refuses = ap (λ (r : Reading). r.refused) (sym ends) ∙ serving.refuses;
    }
