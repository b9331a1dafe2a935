-- Entries as they are read are entries one after the other, and the other way round.
use Rattle.std.proofs.Common.{◌≡◌, ◌∙◌, ℕ, zero, suc, ◌+◌, ◌-◌, ◌≤◌, List, [], ◌∷◌, ◌++◌, length, take, drop, refl, ap, sym, subst, arith, Result, Ok, Err}
use Rattle.std.proofs.lemmas.Bool.Decides.{nat_tests}
use Rattle.std.proofs.lemmas.List.{append_assoc, take-append-drop, length-append, length-take, length-drop, drop-drop}
use Rattle.std.proofs.Math.Seq.{drop-append_seam, drop-append-add, take-append_seam}
use Rattle.ibos_capture.specs.declared.fault.CapFault.{CapFault}
use Rattle.ibos_capture.specs.declared.fields.Endian.{Endian}
use Rattle.ibos_capture.specs.declared.index.Entry.{Entry}
use Rattle.ibos_capture.specs.Fields.{number}
use Rattle.ibos_capture.specs.Captures.{entry, with_entry, entry_then, captured_by, captured_len, entries_from, frame_at, frames_at}
use Rattle.ibos_capture.specs.Layouts.{Entries, Nothing, Before}
use Rattle.ibos_capture.proofs.EntriesRead.{entries_from-next, entries_from-end}
use Rattle.ibos_capture.proofs.Numbers.{number-append, number-take}

-- an entry's captured length, where it has no fault
pub record HasLen (endian : Endian) (rest : List ℕ) (len : ℕ) : Type 0 where
  pub says : number endian 4 (drop 8 rest) ≡ len
  pub fits : len ≤ 262144
  pub whole : 16 + len ≤ length rest

by_len : (said len : ℕ) (rest : List ℕ) → captured_by said rest ≡ Ok len → (said ≡ len) × (len ≤ 262144) × (16 + len ≤ length rest)
by_len said len rest there = (grind (arith, nat_tests, there), grind (arith, nat_tests, there), grind (arith, nat_tests, there))

pub has_len : (endian : Endian) (rest : List ℕ) (len : ℕ) → captured_len endian rest ≡ Ok len → HasLen endian rest len
unfolding captured_len
has_len endian rest len there =
    let by : captured_by (number endian 4 (drop 8 rest)) rest ≡ Ok len = grind (arith, nat_tests, there) in
    let has = by_len (number endian 4 (drop 8 rest)) len rest by in
    record { says = has.0; fits = has.1; whole = has.2 }

pub has_len-read : (endian : Endian) (rest : List ℕ) (len : ℕ) → HasLen endian rest len → captured_len endian rest ≡ Ok len
unfolding captured_len
has_len-read endian rest len has = grind (arith, nat_tests, has.says, has.fits, has.whole)

-- bytes past the first n, and the first n
past : (n : ℕ) (xs ys : List ℕ) → length xs ≡ n → drop n (xs ++ ys) ≡ ys
past n xs ys len = subst (λ k. drop k (xs ++ ys) ≡ ys) len (drop-append_seam xs ys)

past_more : (n m : ℕ) (xs ys : List ℕ) → length xs ≡ n → drop (n + m) (xs ++ ys) ≡ drop m ys
past_more n m xs ys len = subst (λ k. drop (k + m) (xs ++ ys) ≡ drop m ys) len (drop-append-add xs ys m)

first : (n : ℕ) (xs ys : List ℕ) → length xs ≡ n → take n (xs ++ ys) ≡ xs
first n xs ys len = subst (λ k. take k (xs ++ ys) ≡ xs) len (take-append_seam xs ys)

-- an entry from its parts

abbrev joined : (time captured original frame rest : List ℕ) → List ℕ
joined time captured original frame rest = time ++ captured ++ original ++ frame ++ rest

nested : (time captured original frame rest : List ℕ) → joined time captured original frame rest ≡ time ++ (captured ++ (original ++ (frame ++ rest)))
nested time captured original frame rest =
    append_assoc (time ++ captured ++ original) frame rest ∙ append_assoc (time ++ captured) original (frame ++ rest) ∙ append_assoc time captured (original ++ (frame ++ rest))

past_header : (time captured original frame rest : List ℕ) (m : ℕ) → length time ≡ 8 → length captured ≡ 4 → length original ≡ 4 →
    drop (16 + m) (joined time captured original frame rest) ≡ drop m (frame ++ rest)
past_header time captured original frame rest m a b c =
    ap (drop (16 + m)) (nested time captured original frame rest) ∙ more 8 8 time (captured ++ (original ++ (frame ++ rest))) a ∙ more 4 4 captured (original ++ (frame ++ rest)) b ∙ past_more 4 m original (frame ++ rest) c
  where
    more : (n k : ℕ) (xs ys : List ℕ) → length xs ≡ n → drop (n + k + m) (xs ++ ys) ≡ drop (k + m) ys
    more n k xs ys len =
        let sum : n + k + m ≡ n + (k + m) = omega arith in
        ap (λ i. drop i (xs ++ ys)) sum ∙ past_more n (k + m) xs ys len

joined_len : (time captured original frame rest : List ℕ) → length time ≡ 8 → length captured ≡ 4 → length original ≡ 4 →
    length (joined time captured original frame rest) ≡ 16 + length frame + length rest
joined_len time captured original frame rest a b c =
    omega (arith, length-append (time ++ captured ++ original ++ frame) rest, length-append (time ++ captured ++ original) frame, length-append (time ++ captured) original, length-append time captured)

has_len-joined : (endian : Endian) (time captured original frame rest : List ℕ) → length time ≡ 8 → length captured ≡ 4 → length original ≡ 4 → number endian 4 captured ≡ length frame → length frame ≤ 262144 →
    HasLen endian (joined time captured original frame rest) (length frame)
has_len-joined endian time captured original frame rest a b c says fits = record {
  says =
      ap (λ w. number endian 4 (drop 8 w)) (nested time captured original frame rest) ∙ ap (number endian 4) (past 8 time (captured ++ (original ++ (frame ++ rest))) a) ∙ number-append endian 4 captured (original ++ (frame ++ rest)) (omega arith) ∙ says;
  fits = fits;
  whole = omega (arith, joined_len time captured original frame rest a b c);
}

-- the parts of an entry that is whole

cut : (i n : ℕ) (xs : List ℕ) → drop i xs ≡ take n (drop i xs) ++ drop (i + n) xs
cut i n xs = sym (take-append-drop n (drop i xs)) ∙ ap (λ t. take n (drop i xs) ++ t) (drop-drop n i xs)

cut_entry : (len : ℕ) (rest : List ℕ) → rest ≡ joined (take 8 rest) (take 4 (drop 8 rest)) (take 4 (drop 12 rest)) (take len (drop 16 rest)) (drop (16 + len) rest)
cut_entry len rest =
    cut 0 8 rest ∙ ap (λ t. take 8 rest ++ t) (cut 8 4 rest) ∙ ap (λ t. take 8 rest ++ (take 4 (drop 8 rest) ++ t)) (cut 12 4 rest)
    ∙ ap (λ t. take 8 rest ++ (take 4 (drop 8 rest) ++ (take 4 (drop 12 rest) ++ t))) (cut 16 len rest)
    ∙ sym (nested (take 8 rest) (take 4 (drop 8 rest)) (take 4 (drop 12 rest)) (take len (drop 16 rest)) (drop (16 + len) rest))

taken : (i n : ℕ) (xs : List ℕ) → i + n ≤ length xs → length (take n (drop i xs)) ≡ n
taken i n xs h = omega (arith, length-take n (drop i xs), length-drop i xs)

entry_before : (endian : Endian) (rest : List ℕ) (len : ℕ) (frames : List (List ℕ)) → HasLen endian rest len → Entries endian (drop (16 + len) rest) frames → Entries endian rest (take len (drop 16 rest) ∷ frames)
entry_before endian rest len frames has behind =
    let whole = has.whole in
    let len_is : length (take len (drop 16 rest)) ≡ len = taken 16 len rest whole in
    let before = Before (take 8 rest) (take 4 (drop 8 rest)) (take 4 (drop 12 rest)) (take len (drop 16 rest)) (drop (16 + len) rest) frames
    (taken 0 8 rest (omega arith)) (taken 8 4 rest (omega arith)) (taken 12 4 rest (omega arith)) (number-take endian 4 (drop 8 rest) ∙ has.says ∙ sym len_is) (omega (arith, len_is, has.fits)) behind in
    subst (λ bytes. Entries endian bytes (take len (drop 16 rest) ∷ frames)) (sym (cut_entry len rest)) before

-- what is read is entries one after the other

frame_is : (bytes rest : List ℕ) (place len : ℕ) → drop place bytes ≡ rest → frame_at bytes (entry (place + 16) len) ≡ take len (drop 16 rest)
frame_is bytes rest place len is =
    let size : place + 16 + len - (place + 16) ≡ len = omega arith in
    ap (λ n. take n (drop (place + 16) bytes)) size ∙ ap (take len) (sym (drop-drop 16 place bytes) ∙ ap (drop 16) is)

behind_is : (bytes rest : List ℕ) (place len : ℕ) → drop place bytes ≡ rest → drop (place + 16 + len) bytes ≡ drop (16 + len) rest
behind_is bytes rest place len is =
    let sum : place + 16 + len ≡ place + (16 + len) = omega arith in
    ap (λ i. drop i bytes) sum ∙ sym (drop-drop (16 + len) place bytes) ∙ ap (drop (16 + len)) is

abbrev all_of : List Entry → Result (List Entry) (ℕ × CapFault)
all_of es = Ok es

same_ok : (xs ys : List Entry) → all_of xs ≡ Ok ys → xs ≡ ys
same_ok xs ys same = grind (arith, same)

sound_behind : (endian : Endian) (bytes rest : List ℕ) (place len : ℕ) (es : List Entry) (later : Result (List Entry) (ℕ × CapFault)) → HasLen endian rest len → drop place bytes ≡ rest →
    ((behind : List Entry) → later ≡ Ok behind → Entries endian (drop (16 + len) rest) (frames_at bytes behind)) → with_entry (entry (place + 16) len) later ≡ Ok es → Entries endian rest (frames_at bytes es)
sound_behind endian bytes rest place len es (Err fault) has is later read = absurd (cc read)
sound_behind endian bytes rest place len es (Ok behind) has is later read =
    let before = entry_before endian rest len (frames_at bytes behind) has (later behind refl) in
    let here = subst (λ frame. Entries endian rest (frame ∷ frames_at bytes behind)) (sym (frame_is bytes rest place len is)) before in
    subst (λ all. Entries endian rest (frames_at bytes all)) (same_ok (entry (place + 16) len ∷ behind) es read) here

sound_by : (endian : Endian) (bytes rest : List ℕ) (n place : ℕ) (es : List Entry) (later : ℕ → Result (List Entry) (ℕ × CapFault)) (got : Result ℕ CapFault) → captured_len endian rest ≡ got → drop place bytes ≡ rest →
    ((len : ℕ) (behind : List Entry) → later len ≡ Ok behind → Entries endian (drop (16 + len) rest) (frames_at bytes behind)) → entry_then n place got later ≡ Ok es → Entries endian rest (frames_at bytes es)
sound_by endian bytes rest n place es later (Err fault) there is behind read = absurd (cc read)
sound_by endian bytes rest n place es later (Ok len) there is behind read = sound_behind endian bytes rest place len es (later len) (has_len endian rest len there) is (behind len) read

pub sound : (endian : Endian) (bytes : List ℕ) (most n place : ℕ) (rest : List ℕ) (es : List Entry) → length rest ≤ most → drop place bytes ≡ rest → entries_from endian most n place rest ≡ Ok es →
    Entries endian rest (frames_at bytes es)
unfolding entries_from
sound endian bytes zero n place [] es h is read = subst (λ all. Entries endian [] (frames_at bytes all)) (same_ok [] es read) Nothing
sound endian bytes zero n place (b ∷ rest) es h is read = absurd (omega arith)
sound endian bytes (suc most) n place [] es h is read = subst (λ all. Entries endian [] (frames_at bytes all)) (same_ok [] es read) Nothing
sound endian bytes (suc most) n place (b ∷ rest) es h is read =
    sound_by endian bytes (b ∷ rest) n place es (λ len. entries_from endian most (n + 1) (place + 16 + len) (drop (16 + len) (b ∷ rest))) (captured_len endian (b ∷ rest)) refl is
    (λ len behind. sound endian bytes most (n + 1) (place + 16 + len) (drop (16 + len) (b ∷ rest)) behind (omega (arith, length-drop (16 + len) (b ∷ rest))) (behind_is bytes (b ∷ rest) place len is)) read

-- entries one after the other are read

pub complete : (endian : Endian) (bytes rest : List ℕ) (frames : List (List ℕ)) → Entries endian rest frames → (most n place : ℕ) → length rest ≤ most → drop place bytes ≡ rest →
    (es : List Entry) × (entries_from endian most n place rest ≡ Ok es) × (frames_at bytes es ≡ frames)
complete endian bytes _ _ Nothing most n place h is = ([], entries_from-end endian most n place [] refl, refl)
complete endian bytes _ _ (Before time captured original frame rest frames a b c says fits behind) zero n place h is =
    absurd (omega (arith, joined_len time captured original frame rest a b c))
complete endian bytes _ _ (Before time captured original frame rest frames a b c says fits behind) (suc most) n place h is =
    let all = joined time captured original frame rest in
    let len = length frame in
    let size : length all ≡ 16 + length frame + length rest = joined_len time captured original frame rest a b c in
    let there : captured_len endian all ≡ Ok len = has_len-read endian all len (has_len-joined endian time captured original frame rest a b c says fits) in
    let past_it : drop (16 + len) all ≡ rest = past_header time captured original frame rest len a b c ∙ past len frame rest refl in
    let later = complete endian bytes rest frames behind most (n + 1) (place + 16 + len) (omega (arith, size)) (behind_is bytes all place len is ∙ past_it) in
    let next = entries_from-next endian most n place len all there (omega (arith, size)) in
    let read = ap (λ r. with_entry (entry (place + 16) len) (entries_from endian most (n + 1) (place + 16 + len) r)) past_it ∙ ap (with_entry (entry (place + 16) len)) later.1 in
    let frame_read : frame_at bytes (entry (place + 16) len) ≡ frame =
    frame_is bytes all place len is ∙ ap (take len) (past_header time captured original frame rest 0 a b c) ∙ first len frame rest refl in
    (entry (place + 16) len ∷ later.0, next ∙ read, ap (λ f. f ∷ frames_at bytes later.0) frame_read ∙ ap (λ fs. frame ∷ fs) later.2)
