-- What is read is a capture, and each capture is read.
use Rattle.std.proofs.Common.{◌≡◌, ◌∙◌, ℕ, List, length, drop, refl, ap, subst, arith, Result, Ok, Err}
use Rattle.std.proofs.lemmas.List.{length-drop}
use Rattle.ibos_kinds.specs.Frames.{IsBytes}
use Rattle.ibos_capture.specs.declared.fault.CapFault.{CapFault}
use Rattle.ibos_capture.specs.declared.fields.Endian.{Endian}
use Rattle.ibos_capture.specs.declared.index.Entry.{Entry}
use Rattle.ibos_capture.specs.Captures.{header_in, entries_in, index_with, index_in, frames_at, capture_with, capture_in}
use Rattle.ibos_capture.specs.Layouts.{Entries, IsCapture}
use Rattle.ibos_capture.proofs.Headers.{has_header, header_read}
use Rattle.ibos_capture.proofs.Layouts.{sound, complete}

same_frames : (bytes : List ℕ) (es : List Entry) (frames : List (List ℕ)) → capture_with bytes (Ok es) ≡ Ok frames → frames_at bytes es ≡ frames
same_frames bytes es frames read = grind (arith, read)

entries_are : (endian : Endian) (bytes : List ℕ) (frames : List (List ℕ)) (found : Result (List Entry) (ℕ × CapFault)) → entries_in endian bytes ≡ found → capture_with bytes found ≡ Ok frames → Entries endian (drop 24 bytes) frames
entries_are endian bytes frames (Err fault) is read = absurd (cc read)
entries_are endian bytes frames (Ok es) is read =
    subst (Entries endian (drop 24 bytes)) (same_frames bytes es frames read)
    (sound endian bytes (length bytes) 1 24 (drop 24 bytes) es (omega (arith, length-drop 24 bytes)) refl is)

capture_by : (bytes : List ℕ) (frames : List (List ℕ)) (header : Result Endian CapFault) → header_in bytes ≡ header → capture_with bytes (index_with header bytes) ≡ Ok frames → IsCapture bytes frames
capture_by bytes frames (Err fault) is read = absurd (cc read)
capture_by bytes frames (Ok endian) is read =
    let has = has_header endian bytes is in
    record {
      limit = has.0;
      endian = endian;
      header = has.1;
      entries = entries_are endian bytes frames (entries_in endian bytes) refl read;
    }

pub is_capture : (bytes : List ℕ) (frames : List (List ℕ)) → capture_in bytes ≡ Ok frames → IsCapture bytes frames
unfolding capture_in index_in
is_capture bytes frames read = capture_by bytes frames (header_in bytes) refl read

pub is_read : (bytes : List ℕ) (frames : List (List ℕ)) → IsBytes bytes → IsCapture bytes frames → capture_in bytes ≡ Ok frames
unfolding capture_in index_in
is_read bytes frames small is =
    let header = header_read is.endian bytes small is.limit is.header in
    let found = complete is.endian bytes (drop 24 bytes) frames is.entries (length bytes) 1 24 (omega (arith, length-drop 24 bytes)) refl in
    ap (λ o. capture_with bytes (index_with o bytes)) header ∙ ap (capture_with bytes) found.1 ∙ ap (λ fs. Ok fs) found.2
