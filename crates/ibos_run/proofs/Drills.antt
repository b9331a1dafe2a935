-- A drill, act by act: a session whose text nobody takes, and whose outcomes are counted.
use Rattle.std.proofs.Common.{◌≡◌, ℕ, ◌+◌, ◌≤◌, List, [], ◌∷◌, ◌++◌, Bool, true, false, Option, None, refl, sym, ◌∙◌, ap, subst, length, append-nil, arith}
use Rattle.ibos_kinds.specs.declared.act.Act.{Act}
use Rattle.ibos_kinds.specs.declared.outcome.Outcome.{Outcome}
use Rattle.ibos_outcome.specs.Printed.{outcome_text}
use Rattle.ibos_origin.specs.Hosts.{HostTable}
use Rattle.ibos_nic.specs.declared.log.LogEntry.{LogEntry}
use Rattle.ibos_nic.specs.Registers.{Registers}
use Rattle.ibos_make.specs.Drill.{drill_acts, drill_table}
use Rattle.ibos_model.specs.Journal.{Entry, Journal, frame_of, frames, heard, is_heard, is_sent}
use Rattle.ibos_model.specs.Laws.{AreFrameFronts, AreFronts, AreSentFronts, AreSentInTurn, DoGoOn}
use Rattle.ibos_model.specs.Logs.{Loses, frames_in, got_for, log_after, sent_in, written_in}
use Rattle.ibos_model.specs.Network.{network, next_frame, sent_frames}
use Rattle.ibos_model.specs.Outcomes.{out}
use Rattle.ibos_model.specs.Rings.{register}
use Rattle.ibos_model.specs.Runs.{GoesOn, run}
use Rattle.ibos_model.specs.Text.{text_of}
use Rattle.ibos_kernel.specs.Standing.{Agrees, Stands, entry}
use Rattle.ibos_kernel.specs.Tables.{Tables}
use Rattle.ibos_run.specs.Device.{IsLogFront, IsLogOf}
use Rattle.ibos_run.specs.Inputs.{Drill, wanted}
use Rattle.ibos_run.specs.Readings.{Reading}
use Rattle.ibos_run.specs.Session.{IsBroken, IsCut, IsDrilled, IsMade, IsServing, IsTold}
use Rattle.ibos_run.specs.Summaries.{IsTally, count_of, drill_journal, drill_text, is_denied, is_done, is_missed, one_if, summary_line, tally_after, tally_of}
use Rattle.ibos_run.specs.Took.{Took, TookFront}
use Rattle.ibos_run.specs.declared.tally.Tally.{Tally}
use Rattle.ibos_run.proofs.Sessions.{agrees_there, cut_stopped, next_serving, paused, start_serving}
use Rattle.ibos_run.proofs.Taken.{front_kept, took_none}

-- ---- counts

one_more : (is : Bool) (n m : ℕ) → n ≤ m → one_if is n ≤ m + 1
one_more true n m few = omega arith
one_more false n m few = omega arith

count_few : (is : Outcome → Bool) (J : Journal) → count_of is J ≤ length J
count_few is [] = omega arith
count_few is (e ∷ J) = omega (arith, one_more (is e.outcome) (count_of is J) (length J) (count_few is J))

-- what was counted of a journal is of its acts
pub is_tally : (J : Journal) → IsTally (tally_of J)
is_tally J = record {
  done = count_few _ J;
  denied = count_few _ J;
  heard = count_few _ J;
  missed = count_few _ J;
  sent = count_few _ J;
}

-- one act more is counted
tally_grows : (J : Journal) (e : Entry) → tally_after (tally_of J) e.outcome ≡ tally_of (e ∷ J)
tally_grows J e = ap (with_acts J e) more
  where
    more : length J + 1 ≡ length (e ∷ J)
    more = omega arith

    with_acts : Journal → Entry → ℕ → Tally
    with_acts J e n = record {
      acts = n;
      done = count_of is_done (e ∷ J);
      denied = count_of is_denied (e ∷ J);
      heard = count_of is_heard (e ∷ J);
      missed = count_of is_missed (e ∷ J);
      sent = count_of is_sent (e ∷ J);
    }

-- ---- where a drill stands

-- acts, as what a script gives
abbrev pub of_acts : List Act → Reading
of_acts A = record { acts = A; refused = None }

-- the journal so far, what it counts, and the acts that are left
pub record IsDrilling (H : HostTable) (all left : List Act) (tally : Tally) (k : Tables) (f : Registers) (l : List LogEntry) (J : Journal) : Type 0 where
  pub serving : IsServing H (of_acts all) (of_acts left) None None (text_of J) k f l J
  pub counted : tally ≡ tally_of J

pub start_drilling : (all : List Act) (tally : Tally) (k : Tables) (f : Registers) (l : List LogEntry)
    → Stands [] k → Agrees k.hosts [] f l → l ≡ [] → tally ≡ tally_of [] → IsDrilling k.hosts all all tally k f l []
start_drilling all tally k f l stands agrees none counted = record {
  serving = start_serving (of_acts all) None [] k f l stands agrees none refl;
  counted = counted;
}

-- the device agrees, over the kernel's own table
pub drill_agrees : (H : HostTable) (all left : List Act) (tally : Tally) (k : Tables) (f : Registers) (l : List LogEntry) (J : Journal)
    → IsDrilling H all left tally k f l J → Agrees k.hosts J f l
drill_agrees H all left tally k f l J drilling = agrees_there H (of_acts all) (of_acts left) None None (text_of J) k f l J drilling.serving

-- ---- one act

-- one act was made, and its outcome is this
pub record IsStepped (H : HostTable) (J : Journal) (act : Act) (o : Outcome) (k : Tables) (f : Registers) (l l' : List LogEntry) : Type 0 where
  pub outcome : o ≡ out H J act
  pub stands : Stands (entry act o l' ∷ J) k
  pub agrees : Agrees H (entry act o l' ∷ J) f l'
  pub log : l' ≡ log_after o (frame_of act) (got_for o l') (next_frame (network J)) l

made_of : (H : HostTable) (J : Journal) (act : Act) (o : Outcome) (k : Tables) (f : Registers) (l l' : List LogEntry)
    → IsStepped H J act o k f l l' → IsMade H J act None None (text_of J) (text_of (entry act (out H J act) l' ∷ J)) k f l l'
made_of H J act o k f l l' stepped = record {
  stands = subst (λ (x : Outcome). Stands (entry act x l' ∷ J) k) stepped.outcome stepped.stands;
  agrees = subst (λ (x : Outcome). Agrees H (entry act x l' ∷ J) f l') stepped.outcome stepped.agrees;
  text = took_none None (text_of (entry act (out H J act) l' ∷ J));
  log = subst (λ (x : Outcome). l' ≡ log_after x (frame_of act) (got_for x l') (next_frame (network J)) l) stepped.outcome stepped.log;
}

pub next_drilling : DoGoOn → (H : HostTable) (all left after : List Act) (tally tally' : Tally) (k k' : Tables) (f f' : Registers) (l l' : List LogEntry) (act : Act) (o : Outcome) (J : Journal)
    → IsDrilling H all left tally k f l J → left ≡ act ∷ after → IsStepped k.hosts J act o k' f' l l' → k'.hosts ≡ k.hosts → tally' ≡ tally_after tally o
    → IsDrilling H all after tally' k' f' l' (entry act (out H J act) l' ∷ J)
next_drilling goes_on H all left after tally tally' k k' f f' l l' act o J drilling split stepped same counts =
    let there : IsStepped H J act o k' f' l l' = subst (λ (T : HostTable). IsStepped T J act o k' f' l l') drilling.serving.table stepped in
    let e : Entry = entry act (out H J act) l' in
    let made : IsMade k.hosts J act None None (text_of J) (text_of (e ∷ J)) k' f' l l' =
    subst (λ (T : HostTable). IsMade T J act None None (text_of J) (text_of (e ∷ J)) k' f' l l') (sym drilling.serving.table) (made_of H J act o k' f' l l' there) in
    record {
      serving = next_serving goes_on H (of_acts all) (of_acts left) (of_acts after) None None None (text_of J) (text_of (e ∷ J)) k k' f f' l l' act J drilling.serving (ap of_acts split) made same;
      counted = counts ∙ ap (λ (x : Outcome). tally_after tally x) there.outcome ∙ ap (λ (t : Tally). tally_after t (out H J act)) drilling.counted ∙ tally_grows J e;
    }

-- ---- an early end

-- between two acts
pub drill_paused : AreFronts → AreFrameFronts → AreSentFronts → (H : HostTable) (all left : List Act) (tally : Tally) (k : Tables) (f : Registers) (l : List LogEntry) (J : Journal)
    → IsDrilling H all left tally k f l J → IsLogFront (run H all (written_in l)) l
drill_paused fronts frame_fronts sent_fronts H all left tally k f l J drilling =
    (paused fronts frame_fronts sent_fronts H (of_acts all) (of_acts left) None None (text_of J) k f l J drilling.serving).logged

-- within an act
pub drill_cut : AreFronts → AreFrameFronts → AreSentFronts → AreSentInTurn → (H : HostTable) (all left after : List Act) (tally : Tally) (k : Tables) (f : Registers) (l l' : List LogEntry) (act : Act) (J : Journal)
    → IsDrilling H all left tally k f l J → left ≡ act ∷ after → Loses (out k.hosts J act) act (next_frame (network J)) l l' → IsLogFront (run H all (written_in l')) l'
drill_cut fronts frame_fronts sent_fronts in_turn H all left after tally k f l l' act J drilling split loses =
    let cut : IsCut k.hosts J act None None (text_of J) (text_of J) l l' =
    record { loses = loses; text = front_kept None (text_of J) (text_of J) (outcome_text (length J + 1) (out k.hosts J act)) refl } in
    (cut_stopped fronts frame_fronts sent_fronts in_turn H (of_acts all) (of_acts left) (of_acts after) None None None (text_of J) (text_of J) k f l l' act J drilling.serving (ap of_acts split) cut).logged

-- ---- the end of the acts

pub record IsThrough (H : HostTable) (all : List Act) (tally : Tally) (f : Registers) (l : List LogEntry) : Type 0 where
  pub drilled : IsDrilled H all f l
  pub counted : tally ≡ tally_of (run H all (written_in l))

pub drill_over : (H : HostTable) (all left : List Act) (tally : Tally) (k : Tables) (f : Registers) (l : List LogEntry) (J : Journal)
    → IsDrilling H all left tally k f l J → left ≡ [] → IsThrough H all tally f l
drill_over H all left tally k f l J drilling none =
    let agrees : Agrees H J f l = drilling.serving.agrees in
    let goes : GoesOn H J [] all = subst (λ (A : List Act). GoesOn H J A all) none drilling.serving.goes in
    let whole : J ≡ run H all (written_in l) = goes [] ∙ ap (run H all) (append-nil (heard J) ∙ sym agrees.written) in
    record {
      drilled = record {
        logged = record { came = drilling.serving.came ∙ ap (λ (j : Journal). frames j) whole; sent = agrees.sent ∙ ap (λ (j : Journal). sent_frames (network j)) whole };
        registers = λ r. agrees.registers r ∙ ap (λ (j : Journal). register H.local (network j).rings r) whole;
      };
      counted = drilling.counted ∙ ap tally_of whole;
    }

-- ---- the drill of a number

-- before its acts
pub drill_untouched : (seed rounds : ℕ) (first : Option (List ℕ)) (l : List LogEntry) → l ≡ [] → IsBroken (Drill seed rounds) first first [] l
drill_untouched seed rounds first l none = record {
  text = front_kept first [] [] (wanted (Drill seed rounds) (written_in l)) refl;
  logged = record {
    came = (frames (drill_journal seed rounds (written_in l)), ap (λ (m : List LogEntry). frames_in m ++ frames (drill_journal seed rounds (written_in l))) none);
    sent = (sent_frames (network (drill_journal seed rounds (written_in l))), ap (λ (m : List LogEntry). sent_in m ++ sent_frames (network (drill_journal seed rounds (written_in l)))) none);
  };
}

-- no line is written
pub drill_broken : (seed rounds : ℕ) (H : HostTable) (A : List Act) (first : Option (List ℕ)) (l : List LogEntry)
    → H ≡ drill_table → A ≡ drill_acts seed rounds → IsLogFront (run H A (written_in l)) l → IsBroken (Drill seed rounds) first first [] l
drill_broken seed rounds H A first l table acts front = record {
  text = front_kept first [] [] (wanted (Drill seed rounds) (written_in l)) refl;
  logged = subst (λ (B : List Act). IsLogFront (run drill_table B (written_in l)) l) acts (subst (λ (T : HostTable). IsLogFront (run T A (written_in l)) l) table front);
}

-- what was counted is that of the drill
pub drill_through : (seed rounds : ℕ) (H : HostTable) (A : List Act) (tally : Tally) (f : Registers) (l : List LogEntry)
    → H ≡ drill_table → A ≡ drill_acts seed rounds → IsDrilled H A f l → tally ≡ tally_of (run H A (written_in l)) → IsThrough drill_table (drill_acts seed rounds) tally f l
drill_through seed rounds H A tally f l table acts drilled counted =
    let there : IsThrough H A tally f l = record { drilled = drilled; counted = counted } in
    subst (λ (B : List Act). IsThrough drill_table B tally f l) acts (subst (λ (T : HostTable). IsThrough T A tally f l) table there)

-- its line is that of its journal
line_is : (seed rounds : ℕ) (tally : Tally) (f : Registers) (l : List LogEntry) (line : List ℕ)
    → IsThrough drill_table (drill_acts seed rounds) tally f l → line ≡ summary_line seed rounds tally → line ≡ drill_text seed rounds (written_in l)
unfolding drill_text
line_is seed rounds tally f l line through is = is ∙ ap (summary_line seed rounds) through.counted

pub drill_told : (seed rounds : ℕ) (tally : Tally) (first now : Option (List ℕ)) (f : Registers) (l : List LogEntry) (line : List ℕ)
    → IsThrough drill_table (drill_acts seed rounds) tally f l → line ≡ summary_line seed rounds tally → Took first now [] line → IsTold (Drill seed rounds) first now f l
drill_told seed rounds tally first now f l line through is took = record {
  text = subst (λ (t : List ℕ). Took first now [] t) (line_is seed rounds tally f l line through is) took;
  logged = through.drilled.logged;
  registers = through.drilled.registers;
}

all_logged : (J : Journal) (l : List LogEntry) → IsLogOf J l → IsLogFront J l
all_logged J l is = record { came = ([], append-nil (frames_in l) ∙ is.came); sent = ([], append-nil (sent_in l) ∙ is.sent) }

-- the line could not be made
pub drill_unsaid : (seed rounds : ℕ) (tally : Tally) (first : Option (List ℕ)) (f : Registers) (l : List LogEntry)
    → IsThrough drill_table (drill_acts seed rounds) tally f l → IsBroken (Drill seed rounds) first first [] l
drill_unsaid seed rounds tally first f l through = record {
  text = front_kept first [] [] (wanted (Drill seed rounds) (written_in l)) refl;
  logged = all_logged (drill_journal seed rounds (written_in l)) l through.drilled.logged;
}

-- a write of it failed
pub drill_unhanded : (seed rounds : ℕ) (tally : Tally) (first now : Option (List ℕ)) (f : Registers) (l : List LogEntry) (line : List ℕ)
    → IsThrough drill_table (drill_acts seed rounds) tally f l → line ≡ summary_line seed rounds tally → TookFront first now [] line → IsBroken (Drill seed rounds) first now [] l
drill_unhanded seed rounds tally first now f l line through is front = record {
  text = subst (λ (t : List ℕ). TookFront first now [] t) (line_is seed rounds tally f l line through is) front;
  logged = all_logged (drill_journal seed rounds (written_in l)) l through.drilled.logged;
}
