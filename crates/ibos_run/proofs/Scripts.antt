-- A session, line by line, where the cabinet tells its script.
use Rattle.std.proofs.Common.{◌≡◌, ℕ, ◌+◌, ◌≤◌, List, [], Bool, true, false, Option, Some, None, refl, sym, subst, take, length, length-take, arith}
use Rattle.std.specs.Prelude.{IfSome, nat_lt, if◌then◌else◌}
use Rattle.ibos_origin.specs.Hosts.{HostTable}
use Rattle.ibos_nic.specs.declared.log.LogEntry.{LogEntry}
use Rattle.ibos_nic.specs.Registers.{Registers}
use Rattle.ibos_kernel.specs.Standing.{Agrees, Stands}
use Rattle.ibos_kernel.specs.Tables.{Tables}
use Rattle.ibos_model.specs.Journal.{Journal}
use Rattle.ibos_model.specs.Laws.{AreFrameFronts, AreFronts, AreSentFronts}
use Rattle.ibos_script.specs.Lines.{line_in}
use Rattle.ibos_text.specs.Lines.{lines_of, without_return}
use Rattle.ibos_run.specs.Inputs.{Input, Session, script_with}
use Rattle.ibos_run.specs.Readings.{Reading, reading_by, reading_from, reading_of, refused_by, script_in}
use Rattle.ibos_run.specs.Refusals.{too_long}
use Rattle.ibos_run.specs.Script.{behind_end, ended_by, refusal_of}
use Rattle.ibos_run.specs.Session.{IsOver, IsServing, IsStopped, Serves, Stops}
use Rattle.ibos_run.specs.Sources.{IsLine, IsReadOf, ReadsOn, Unread, is_past, nothing_read, passed, reading_after}
use Rattle.ibos_run.specs.declared.script.End.{End}
use Rattle.ibos_run.specs.declared.script.End.TheVariants.{TooLong, Whole}
use Rattle.ibos_run.proofs.FirstLines.{line_read, none_read}
use Rattle.ibos_run.proofs.Sessions.{over, paused, start_serving}

-- behind so many lines of the file, where these frames are left
pub record IsSoFar (H : HostTable) (frames : List (List ℕ)) (file : List ℕ) (u : Unread) (lines : ℕ) (left : List (List ℕ)) (first now : Option (List ℕ)) (gathered : List ℕ) (k : Tables) (f : Registers) (l : List LogEntry) : Type 0 where
  pub of : IsReadOf (script_in file) u
  pub serving : (J : Journal) × IsServing H (reading_of frames (script_in file)) (reading_after lines left (script_in file) u) first now gathered k f l J

few : (file : List ℕ) → length (script_in file) ≤ 67108865
unfolding script_in
few file = omega (arith, length-take 67108865 file)

whole_left : (frames : List (List ℕ)) (text : List ℕ) → reading_of frames text ≡ reading_after 0 frames text nothing_read
unfolding reading_of
whole_left frames text = refl

none_of : (text : List ℕ) → IsReadOf text nothing_read
none_of text = record { within = omega arith; over = λ is. cc }

start_with : (held : Option (List ℕ)) (frames : List (List ℕ)) (first : Option (List ℕ)) (gathered : List ℕ) (k : Tables) (f : Registers) (l : List LogEntry)
    → Stands [] k → Agrees k.hosts [] f l → l ≡ [] → gathered ≡ [] → IfSome held (λ file. IsSoFar k.hosts frames file nothing_read 0 frames first first gathered k f l)
start_with None frames first gathered k f l stands agrees none empty = tt
start_with (Some file) frames first gathered k f l stands agrees none empty =
    let whole : Reading = reading_of frames (script_in file) in
    record {
      of = none_of (script_in file);
      serving = ([], subst (λ (r : Reading). IsServing k.hosts whole r first first gathered k f l []) (whole_left frames (script_in file)) (start_serving whole first gathered k f l stands agrees none empty));
    }

pub so_far_start : (held : Option (List ℕ)) (frames : List (List ℕ)) (u : Unread) (first : Option (List ℕ)) (gathered : List ℕ) (k : Tables) (f : Registers) (l : List LogEntry)
    → u ≡ nothing_read → Stands [] k → Agrees k.hosts [] f l → l ≡ [] → gathered ≡ [] → IfSome held (λ file. IsSoFar k.hosts frames file u 0 frames first first gathered k f l)
so_far_start held frames u first gathered k f l is stands agrees none empty =
    let P : Unread → Type 0 = λ u. IfSome held (λ file. IsSoFar k.hosts frames file u 0 frames first first gathered k f l) in
    subst P (sym is) (start_with held frames first gathered k f l stands agrees none empty)

-- more was read
pub so_far_read : (held now : Option (List ℕ)) (H : HostTable) (frames : List (List ℕ)) (u u' : Unread) (lines : ℕ) (left : List (List ℕ)) (first taken : Option (List ℕ)) (gathered : List ℕ) (k : Tables) (f : Registers) (l : List LogEntry)
    → now ≡ held → IfSome held (λ file. IsSoFar H frames file u lines left first taken gathered k f l) → IfSome now (λ file. ReadsOn (script_in file) u u')
    → IfSome held (λ file. IsSoFar H frames file u' lines left first taken gathered k f l)
so_far_read None now H frames u u' lines left first taken gathered k f l same so_far more = tt
so_far_read (Some file) now H frames u u' lines left first taken gathered k f l same so_far more =
    let text : List ℕ = script_in file in
    let reads : ReadsOn text u u' = subst (λ (h : Option (List ℕ)). IfSome h (λ file. ReadsOn (script_in file) u u')) same more in
    let read = reads so_far.of in
    let J : Journal = so_far.serving.0 in
    let P : List ℕ → Type 0 = λ bytes. IsServing H (reading_of frames text) (reading_from (nat_lt 67108864 (length text)) (lines + 1) (lines_of bytes) left) first taken gathered k f l J in
    record { of = read.0; serving = (J, subst P (sym read.1) so_far.serving.1) }

passed_of : (text : List ℕ) (u : Unread) (len : ℕ) → IsReadOf text u → IsReadOf text (passed len u)
passed_of text u len of = record { within = of.within; over = of.over }

-- what the next line asks for, where it doesn't hold the byte after the limit
abbrev asks : ℕ → List ℕ → List (List ℕ) → List ℕ → Unread → ℕ → Reading
asks lines line left text u len = reading_by (lines + 1) (line_in line) left (λ fs. reading_after (lines + 1) fs text (passed len u))

asked : (t : Bool) (a b whole : Reading) → whole ≡ (if t then a else b) → t ≡ false → whole ≡ b
asked true a b whole is past = cc
asked false a b whole is past = is

refused : (t : Bool) (a b whole : Reading) → whole ≡ (if t then a else b) → t ≡ true → whole ≡ a
refused true a b whole is past = is
refused false a b whole is past = cc

-- the next line, where it was found in the bytes that were read
pub record IsNext (u : Unread) (len : ℕ) (line : List ℕ) : Type 0 where
  pub found : IsLine len u
  pub cut : line ≡ without_return (take len u.bytes)
  pub here : is_past len u ≡ false

at_line : (H : HostTable) (whole : Reading) (text : List ℕ) (u : Unread) (len lines : ℕ) (line : List ℕ) (left : List (List ℕ)) (first now : Option (List ℕ)) (gathered : List ℕ) (k : Tables) (f : Registers) (l : List LogEntry) (J : Journal)
    → IsReadOf text u → length text ≤ 67108865 → IsNext u len line → IsServing H whole (reading_after lines left text u) first now gathered k f l J → IsServing H whole (asks lines line left text u len) first now gathered k f l J
at_line H whole text u len lines line left first now gathered k f l J of most next serving =
    subst (λ (r : Reading). IsServing H whole r first now gathered k f l J)
    (asked (is_past len u) _ _ _ (line_read text lines left u len line of most next.found next.cut) next.here) serving

-- a line was served
pub so_far_line : (held : Option (List ℕ)) (H : HostTable) (frames : List (List ℕ)) (u : Unread) (len lines : ℕ) (line : List ℕ) (left left' : List (List ℕ)) (served : Option End) (first now new : Option (List ℕ)) (gathered more : List ℕ) (k k' : Tables) (f f' : Registers) (l l' : List LogEntry)
    → IfSome held (λ file. IsSoFar H frames file u lines left first now gathered k f l) → IsNext u len line → served ≡ None
    → ((behind : List (List ℕ) → Reading) → Serves (reading_by (lines + 1) (line_in line) left behind) (behind_end served (behind left')) now new gathered more k k' f f' l l')
    → IfSome held (λ file. IsSoFar H frames file (passed len u) (lines + 1) left' first new more k' f' l')
so_far_line None H frames u len lines line left left' served first now new gathered more k k' f f' l l' so_far next is serves = tt
so_far_line (Some file) H frames u len lines line left left' served first now new gathered more k k' f f' l l' so_far next is serves =
    let text : List ℕ = script_in file in
    let whole : Reading = reading_of frames text in
    let behind : List (List ℕ) → Reading = λ fs. reading_after (lines + 1) fs text (passed len u) in
    let after = serves behind H whole first so_far.serving.0 (at_line H whole text u len lines line left first now gathered k f l so_far.serving.0 so_far.of (few file) next so_far.serving.1) in
    let P : Option End → Type 0 = λ s. (J : Journal) × IsServing H whole (behind_end s (behind left')) first new more k' f' l' J in
    record { of = passed_of text u len so_far.of; serving = subst P is after }

-- the script ends with a line
pub so_far_end : (held : Option (List ℕ)) (H : HostTable) (frames : List (List ℕ)) (u : Unread) (len lines : ℕ) (line : List ℕ) (left left' : List (List ℕ)) (served : Option End) (end : End) (first now new : Option (List ℕ)) (gathered more : List ℕ) (k k' : Tables) (f f' : Registers) (l l' : List LogEntry)
    → IfSome held (λ file. IsSoFar H frames file u lines left first now gathered k f l) → IsNext u len line → served ≡ Some end
    → ((behind : List (List ℕ) → Reading) → Serves (reading_by (lines + 1) (line_in line) left behind) (behind_end served (behind left')) now new gathered more k k' f f' l l')
    → IfSome held (λ file. IsOver H (reading_of frames (script_in file)) first new more f' l' k'.acts (refusal_of end))
so_far_end None H frames u len lines line left left' served end first now new gathered more k k' f f' l l' so_far next is serves = tt
so_far_end (Some file) H frames u len lines line left left' served end first now new gathered more k k' f f' l l' so_far next is serves =
    let text : List ℕ = script_in file in
    let whole : Reading = reading_of frames text in
    let behind : List (List ℕ) → Reading = λ fs. reading_after (lines + 1) fs text (passed len u) in
    let after = serves behind H whole first so_far.serving.0 (at_line H whole text u len lines line left first now gathered k f l so_far.serving.0 so_far.of (few file) next so_far.serving.1) in
    let P : Option End → Type 0 = λ s. (J : Journal) × IsServing H whole (behind_end s (behind left')) first new more k' f' l' J in
    let last : (J : Journal) × IsServing H whole (ended_by end) first new more k' f' l' J = subst P is after in
    over H whole (ended_by end) first new more k' f' l' last.0 (refusal_of end) last.1 refl

-- a line was cut off
pub so_far_cut : (held : Option (List ℕ)) (H : HostTable) (frames : List (List ℕ)) (u : Unread) (len lines : ℕ) (line : List ℕ) (left : List (List ℕ)) (first now new : Option (List ℕ)) (gathered more : List ℕ) (k : Tables) (f : Registers) (l l' : List LogEntry)
    → IfSome held (λ file. IsSoFar H frames file u lines left first now gathered k f l) → IsNext u len line
    → ((behind : List (List ℕ) → Reading) → Stops (reading_by (lines + 1) (line_in line) left behind) now new gathered more k f l l')
    → IfSome held (λ file. IsStopped H (reading_of frames (script_in file)) first new more l')
so_far_cut None H frames u len lines line left first now new gathered more k f l l' so_far next stops = tt
so_far_cut (Some file) H frames u len lines line left first now new gathered more k f l l' so_far next stops =
    let text : List ℕ = script_in file in
    let whole : Reading = reading_of frames text in
    stops (λ fs. reading_after (lines + 1) fs text (passed len u)) H whole first so_far.serving.0
    (at_line H whole text u len lines line left first now gathered k f l so_far.serving.0 so_far.of (few file) next so_far.serving.1)

-- a line holds the byte after the limit
pub so_far_past : (held : Option (List ℕ)) (H : HostTable) (frames : List (List ℕ)) (u : Unread) (len lines : ℕ) (left : List (List ℕ)) (first now : Option (List ℕ)) (gathered : List ℕ) (k : Tables) (f : Registers) (l : List LogEntry)
    → IfSome held (λ file. IsSoFar H frames file u lines left first now gathered k f l) → IsLine len u → is_past len u ≡ true
    → IfSome held (λ file. IsOver H (reading_of frames (script_in file)) first now gathered f l k.acts (refusal_of (TooLong (lines + 1))))
so_far_past None H frames u len lines left first now gathered k f l so_far found is = tt
so_far_past (Some file) H frames u len lines left first now gathered k f l so_far found is =
    let text : List ℕ = script_in file in
    let ends : reading_after lines left text u ≡ refused_by (too_long (lines + 1)) =
    refused (is_past len u) _ _ _ (line_read text lines left u len (without_return (take len u.bytes)) so_far.of (few file) found refl) is in
    over H (reading_of frames text) (reading_after lines left text u) first now gathered k f l so_far.serving.0 (Some (too_long (lines + 1))) so_far.serving.1 ends

-- no line is left
pub so_far_none : (held : Option (List ℕ)) (H : HostTable) (frames : List (List ℕ)) (u : Unread) (lines : ℕ) (left : List (List ℕ)) (first now : Option (List ℕ)) (gathered : List ℕ) (k : Tables) (f : Registers) (l : List LogEntry)
    → IfSome held (λ file. IsSoFar H frames file u lines left first now gathered k f l) → u.bytes ≡ [] → u.over ≡ true
    → IfSome held (λ file. IsOver H (reading_of frames (script_in file)) first now gathered f l k.acts (refusal_of Whole))
so_far_none None H frames u lines left first now gathered k f l so_far none ended = tt
so_far_none (Some file) H frames u lines left first now gathered k f l so_far none ended =
    let text : List ℕ = script_in file in
    over H (reading_of frames text) (reading_after lines left text u) first now gathered k f l so_far.serving.0 None so_far.serving.1 (none_read text lines left u so_far.of none ended)

-- a read failed
pub so_far_paused : AreFronts → AreFrameFronts → AreSentFronts → (held : Option (List ℕ)) (H : HostTable) (frames : List (List ℕ)) (u : Unread) (lines : ℕ) (left : List (List ℕ)) (first now : Option (List ℕ)) (gathered : List ℕ) (k : Tables) (f : Registers) (l : List LogEntry)
    → IfSome held (λ file. IsSoFar H frames file u lines left first now gathered k f l) → IfSome held (λ file. IsStopped H (reading_of frames (script_in file)) first now gathered l)
so_far_paused fronts frame_fronts sent_fronts None H frames u lines left first now gathered k f l so_far = tt
so_far_paused fronts frame_fronts sent_fronts (Some file) H frames u lines left first now gathered k f l so_far =
    paused fronts frame_fronts sent_fronts H _ _ first now gathered k f l so_far.serving.0 so_far.serving.1

-- ---- the whole session

-- what holds of the script's reading holds of the input
pub script_if : (H : HostTable) (frames : List (List ℕ)) (held : Option (List ℕ)) (P : List ℕ → Type 0) (Q : Input → Type 0) → IfSome held P
    → ((file : List ℕ) → P file → Q (Session H (reading_of frames (script_in file)))) → IfSome (script_with H frames held) Q
script_if H frames None P Q holds each = tt
script_if H frames (Some file) P Q holds each = each file holds
