-- What is read when the headers of some entries are.
use Rattle.std.proofs.Common.{◌≡◌, ◌∙◌, ℕ, zero, suc, ◌+◌, ◌-◌, ◌≤◌, ◌<◌, List, [], ◌∷◌, ◌++◌, length, take, drop, refl, ap, sym, subst, arith, Result, Ok, Err}
use Rattle.std.specs.List.{All}
use Rattle.std.proofs.lemmas.Bool.Decides.{nat_tests}
use Rattle.std.proofs.lemmas.List.{append-nil, append_assoc, length-append, drop-drop, length-drop, length-take}
use Rattle.std.proofs.lemmas.List.Elements.{All-push, All-weaker}
use Rattle.ibos_capture.specs.declared.fault.CapFault.{CapFault}
use Rattle.ibos_capture.specs.declared.fault.CapFault.TheVariants.{Cut, TooLong}
use Rattle.ibos_capture.specs.declared.fields.Endian.{Endian}
use Rattle.ibos_capture.specs.declared.index.Entry.{Entry}
use Rattle.ibos_capture.specs.Captures.{IsWithin, capture_in, capture_with, captured_len, entries_from, entries_in, entry, frames_at, header_in, index_in, index_with, with_entry}
use Rattle.ibos_capture.specs.Progress.{AreBefore, HasNext, IsFront, IsReadTo, Progress, behind, said_len, with_entries}
use Rattle.ibos_capture.proofs.Fronts.{header_of_front, len_cut, len_refused, len_there, said_of_front}

with_entries-nil : (rest : Result (List Entry) (ℕ × CapFault)) → rest ≡ with_entries [] rest
with_entries-nil (Ok entries) = refl
with_entries-nil (Err fault) = refl

with_entries-with_entry : (front : List Entry) (e : Entry) (rest : Result (List Entry) (ℕ × CapFault)) → with_entries front (with_entry e rest) ≡ with_entries (front ++ e ∷ []) rest
with_entries-with_entry front e (Ok entries) = ap (λ es. Ok es) (sym (append_assoc front (e ∷ []) entries))
with_entries-with_entry front e (Err fault) = refl

pub entries_from-next : (endian : Endian) (most n place len : ℕ) (rest : List ℕ) → captured_len endian rest ≡ Ok len → 0 < length rest →
    entries_from endian (suc most) n place rest ≡ with_entry (entry (place + 16) len) (entries_from endian most (n + 1) (place + 16 + len) (drop (16 + len) rest))
unfolding entries_from
entries_from-next endian most n place len [] there some = absurd (omega arith)
entries_from-next endian most n place len (b ∷ rest) there some = rw there refl

entries_from-refused : (endian : Endian) (most n place : ℕ) (fault : CapFault) (rest : List ℕ) → captured_len endian rest ≡ Err fault → 0 < length rest →
    entries_from endian (suc most) n place rest ≡ Err (n, fault)
unfolding entries_from
entries_from-refused endian most n place fault [] there some = absurd (omega arith)
entries_from-refused endian most n place fault (b ∷ rest) there some = rw there refl

pub entries_from-end : (endian : Endian) (most n place : ℕ) (rest : List ℕ) → length rest ≡ 0 → entries_from endian most n place rest ≡ Ok []
unfolding entries_from
entries_from-end endian zero n place rest none = refl
entries_from-end endian (suc most) n place [] none = refl
entries_from-end endian (suc most) n place (b ∷ rest) none = absurd (omega arith)

-- ---- the header

index_of : (file : List ℕ) (endian : Endian) → header_in file ≡ Ok endian → index_in file ≡ entries_in endian file
unfolding index_in
index_of file endian header = ap (λ h. index_with h file) header

index_refused : (file : List ℕ) (fault : CapFault) → header_in file ≡ Err fault → index_in file ≡ Err (0, fault)
unfolding index_in
index_refused file fault header = ap (λ h. index_with h file) header

-- the file has more bytes than a capture may
pub too_long : (file : List ℕ) → 67108864 < length file → index_in file ≡ Err (0, TooLong)
unfolding header_in
too_long file more = index_refused file TooLong (grind (arith, nat_tests, more))

-- it is read
pub begun : (file front : List ℕ) (endian : Endian) (p : Progress) → length file ≤ 67108864 → IsFront file 0 24 front → 24 ≤ length front → header_in front ≡ Ok endian
    → p ≡ record { endian = endian; place = 24; entries = [] } → IsReadTo file p
begun file front endian p short is long header at =
    let read : header_in file ≡ Ok endian = sym (header_of_front file front short is) ∙ header in
    let start : Progress = record { endian = endian; place = 24; entries = [] } in
    let from : IsReadTo file start = record {
      place = omega (arith, long, ap length is, length-take 24 file);
      limit = short;
      most = length file;
      enough = omega arith;
      entries = index_of file endian read ∙ with_entries-nil (entries_in endian file);
    } in
    subst (IsReadTo file) (sym at) from

-- it has a fault
pub begin_refused : (file front : List ℕ) (fault : CapFault) → length file ≤ 67108864 → IsFront file 0 24 front → header_in front ≡ Err fault → index_in file ≡ Err (0, fault)
begin_refused file front fault short is header = index_refused file fault (sym (header_of_front file front short is) ∙ header)

-- ---- entries

abbrev left : Progress → List ℕ → ℕ → Result (List Entry) (ℕ × CapFault)
left p file most = entries_from p.endian most (length p.entries + 1) p.place (drop p.place file)

-- one more entry is read
next_by : (file : List ℕ) (p : Progress) (most len : ℕ) → captured_len p.endian (drop p.place file) ≡ Ok len → p.place + 16 + len ≤ length file → length file ≤ 67108864 → length file ≤ p.place + most →
    index_in file ≡ with_entries p.entries (left p file most) → IsReadTo file (behind len p)
next_by file p zero len there within short enough same = absurd (omega (arith, within, enough))
next_by file p (suc most) len there within short enough same =
    let e = entry (p.place + 16) len in
    let next = entries_from-next p.endian most (length p.entries + 1) p.place len (drop p.place file) there (omega (arith, within, length-drop p.place file)) in
    let number : length p.entries + 1 + 1 ≡ length (p.entries ++ e ∷ []) + 1 = omega (arith, length-append p.entries (e ∷ [])) in
    let sum : p.place + (16 + len) ≡ p.place + 16 + len = omega arith in
    let rest : drop (16 + len) (drop p.place file) ≡ drop (p.place + 16 + len) file = drop-drop (16 + len) p.place file ∙ ap (λ i. drop i file) sum in
    record {
      place = within;
      limit = short;
      most = most;
      enough = omega (arith, enough);
      entries =
          same ∙ ap (with_entries p.entries) next ∙ with_entries-with_entry p.entries e (entries_from p.endian most (length p.entries + 1 + 1) (p.place + 16 + len) (drop (16 + len) (drop p.place file)))
          ∙ ap (λ n. with_entries (p.entries ++ e ∷ []) (entries_from p.endian most n (p.place + 16 + len) (drop (16 + len) (drop p.place file)))) number
          ∙ ap (λ r. with_entries (p.entries ++ e ∷ []) (entries_from p.endian most (length (p.entries ++ e ∷ []) + 1) (p.place + 16 + len) r)) rest;
    }

pub next_read : (file : List ℕ) (p q : Progress) (len : ℕ) → q ≡ behind len p → IsReadTo file p → HasNext file p len → p.place + 16 + len ≤ length file → IsReadTo file q
next_read file p q len at read says within =
    let there = len_there p.endian (drop p.place file) len says (omega (arith, within, length-drop p.place file)) in
    subst (IsReadTo file) (sym at) (next_by file p read.most len there within read.limit read.enough read.entries)

-- an entry is refused
refused_by : (file : List ℕ) (p : Progress) (most : ℕ) (fault : CapFault) → captured_len p.endian (drop p.place file) ≡ Err fault → p.place < length file → length file ≤ p.place + most →
    index_in file ≡ with_entries p.entries (left p file most) → index_in file ≡ Err (length p.entries + 1, fault)
refused_by file p zero fault there more enough same = absurd (omega (arith, more, enough))
refused_by file p (suc most) fault there more enough same =
    same ∙ ap (with_entries p.entries) (entries_from-refused p.endian most (length p.entries + 1) p.place fault (drop p.place file) there (omega (arith, more, length-drop p.place file)))

pub next_refused : (file front : List ℕ) (p : Progress) (fault : CapFault) → IsReadTo file p → IsFront file p.place 16 front → 0 < length front → said_len p.endian front ≡ Err fault →
    index_in file ≡ Err (length p.entries + 1, fault)
next_refused file front p fault read is some said =
    let there = len_refused p.endian (drop p.place file) fault (sym (said_of_front p.endian file front p.place is) ∙ said) in
    refused_by file p read.most fault there (omega (arith, some, ap length is, length-take 16 (drop p.place file), length-drop p.place file)) read.enough read.entries

header_there : (endian : Endian) (rest : List ℕ) (len : ℕ) → said_len endian rest ≡ Ok len → 16 ≤ length rest
unfolding said_len
header_there endian rest len said = grind (arith, nat_tests, said)

pub next_cut : (file : List ℕ) (p : Progress) (len : ℕ) → IsReadTo file p → HasNext file p len → length file < p.place + 16 + len → index_in file ≡ Err (length p.entries + 1, Cut)
next_cut file p len read says cut =
    let there = len_cut p.endian (drop p.place file) len says (omega (arith, cut, read.place, length-drop p.place file)) in
    refused_by file p read.most Cut there (omega (arith, header_there p.endian (drop p.place file) len says, length-drop p.place file)) read.enough read.entries

-- all entries are read
pub all_read : (file : List ℕ) (p : Progress) → IsReadTo file p → length file ≤ p.place → index_in file ≡ Ok p.entries
all_read file p read done =
    read.entries ∙ ap (with_entries p.entries) (entries_from-end p.endian read.most (length p.entries + 1) p.place (drop p.place file) (omega (arith, done, length-drop p.place file)))
    ∙ ap (λ es. Ok es) (append-nil p.entries)

pub all_frames : (file : List ℕ) (es : List Entry) → index_in file ≡ Ok es → capture_in file ≡ Ok (frames_at file es)
unfolding capture_in
all_frames file es read = ap (capture_with file) read

-- ---- places

-- the captured bytes are in the file
pub all_within : (file : List ℕ) (place : ℕ) (es : List Entry) → AreBefore place es → place ≤ length file → All (IsWithin file) es
all_within file place es before within =
    All-weaker (λ (e : Entry). e.place + e.len ≤ place) (IsWithin file) (λ e h. omega (arith, h, within)) es before

pub before_more : (place more : ℕ) (es : List Entry) → AreBefore place es → place ≤ more → AreBefore more es
before_more place more es before within =
    All-weaker (λ (e : Entry). e.place + e.len ≤ place) (λ (e : Entry). e.place + e.len ≤ more) (λ e h. omega (arith, h, within)) es before

pub before_push : (place len : ℕ) (es : List Entry) → AreBefore place es → AreBefore (place + 16 + len) (es ++ entry (place + 16) len ∷ [])
before_push place len es before =
    All-push (λ (e : Entry). e.place + e.len ≤ place + 16 + len) es (entry (place + 16) len) (before_more place (place + 16 + len) es before (omega arith)) (omega arith)
