-- Headers that are read from the first bytes of a file, or of what is left of it.
use Rattle.std.proofs.Common.{◌≡◌, ◌∙◌, ℕ, ◌+◌, ◌≤◌, ◌<◌, List, length, take, drop, refl, ap, sym, arith, inl, inr, Bool, Option, Some, None, Result, Ok, Err, nat_lt, not, ◌&&◌}
use Rattle.std.specs.Prelude.{if◌then◌else◌, ◌==◌}
use Rattle.std.proofs.lemmas.Bool.{cases_lt}
use Rattle.std.proofs.lemmas.Bool.Decides.{nat_tests}
use Rattle.std.proofs.lemmas.List.{length-take, take_all}
use Rattle.ibos_capture.specs.declared.fault.CapFault.{CapFault}
use Rattle.ibos_capture.specs.declared.fault.CapFault.TheVariants.{Cut, Version, Link}
use Rattle.ibos_capture.specs.declared.fields.Endian.{Endian}
use Rattle.ibos_capture.specs.declared.fields.Endian.TheVariants.{Big, Little}
use Rattle.ibos_capture.specs.Fields.{number}
use Rattle.ibos_capture.specs.Captures.{captured_by, captured_len, endian_of, header_in, header_with, is_magic}
use Rattle.ibos_capture.specs.Progress.{IsFront, said_by, said_len}
use Rattle.ibos_capture.proofs.Numbers.{number_front}

-- ---- the header of the file

abbrev endian_by : Bool → ℕ → ℕ → Option Endian
endian_by short big little = if short then None else if is_magic big then Some Big else if is_magic little then Some Little else None

endian_front : (file : List ℕ) → 24 ≤ length file → endian_of (take 24 file) ≡ endian_of file
unfolding endian_of
endian_front file long =
    let short : nat_lt (length (take 24 file)) 4 ≡ nat_lt (length file) 4 = grind (arith, nat_tests, long, length-take 24 file) in
    ap (λ b. endian_by b (number Big 4 (take 24 file)) (number Little 4 (take 24 file))) short
    ∙ ap (λ n. endian_by (nat_lt (length file) 4) n (number Little 4 (take 24 file))) (number_front Big 0 4 24 file (omega arith))
    ∙ ap (λ n. endian_by (nat_lt (length file) 4) (number Big 4 file) n) (number_front Little 0 4 24 file (omega arith))

abbrev header_by : Endian → Bool → ℕ → ℕ → ℕ → Result Endian CapFault
header_by endian short major minor link =
    if short then Err Cut
    else if not (major == 2 && minor == 4) then Err Version
    else if not (link == 1) then Err Link
    else Ok endian

with_front : (found : Option Endian) (file : List ℕ) → 24 ≤ length file → header_with found (take 24 file) ≡ header_with found file
with_front None file long = refl
with_front (Some e) file long =
    let short : nat_lt (length (take 24 file)) 24 ≡ nat_lt (length file) 24 = grind (arith, nat_tests, long, length-take 24 file) in
    let b = nat_lt (length file) 24 in
    ap (λ t. header_by e t (number e 2 (drop 4 (take 24 file))) (number e 2 (drop 6 (take 24 file))) (number e 4 (drop 20 (take 24 file)))) short
    ∙ ap (λ n. header_by e b n (number e 2 (drop 6 (take 24 file))) (number e 4 (drop 20 (take 24 file)))) (number_front e 4 2 20 file (omega arith))
    ∙ ap (λ n. header_by e b (number e 2 (drop 4 file)) n (number e 4 (drop 20 (take 24 file)))) (number_front e 6 2 18 file (omega arith))
    ∙ ap (λ n. header_by e b (number e 2 (drop 4 file)) (number e 2 (drop 6 file)) n) (number_front e 20 4 4 file (omega arith))

header_long : (file : List ℕ) → length file ≤ 67108864 → 24 ≤ length file → header_in (take 24 file) ≡ header_in file
unfolding header_in
header_long file most long =
    let one : nat_lt 67108864 (length (take 24 file)) ≡ nat_lt 67108864 (length file) = grind (arith, nat_tests, long, most, length-take 24 file) in
    rw (one, endian_front file long, with_front (endian_of file) file long) refl

-- the header is that of the front
pub header_of_front : (file front : List ℕ) → length file ≤ 67108864 → IsFront file 0 24 front → header_in front ≡ header_in file
header_of_front file front most is =
    ap header_in is ∙ elim (cases_lt (length file) 24) [
      | inl short ↦ ap header_in (take_all 24 file (omega (arith, short)))
      | inr long ↦ header_long file most long
    ]

-- ---- the header of an entry

said_long : (endian : Endian) (rest : List ℕ) → 16 ≤ length rest → said_len endian (take 16 rest) ≡ said_len endian rest
unfolding said_len
said_long endian rest long =
    let one : nat_lt (length (take 16 rest)) 16 ≡ nat_lt (length rest) 16 = grind (arith, nat_tests, long, length-take 16 rest) in
    rw (one, number_front endian 8 4 8 rest (omega arith)) refl

-- the length that is said is that of the front
pub said_of_front : (endian : Endian) (file front : List ℕ) (place : ℕ) → IsFront file place 16 front → said_len endian front ≡ said_len endian (drop place file)
said_of_front endian file front place is =
    let rest : List ℕ = drop place file in
    ap (said_len endian) is ∙ elim (cases_lt (length rest) 16) [
      | inl short ↦ ap (said_len endian) (take_all 16 rest (omega (arith, short)))
      | inr long ↦ said_long endian rest long
    ]

-- what is said is true where the bytes are there
pub len_there : (endian : Endian) (rest : List ℕ) (len : ℕ) → said_len endian rest ≡ Ok len → 16 + len ≤ length rest → captured_len endian rest ≡ Ok len
unfolding captured_len said_len
len_there endian rest len said whole = grind (arith, nat_tests, said, whole)

pub len_cut : (endian : Endian) (rest : List ℕ) (len : ℕ) → said_len endian rest ≡ Ok len → length rest < 16 + len → captured_len endian rest ≡ Err Cut
unfolding captured_len said_len
len_cut endian rest len said cut = grind (arith, nat_tests, said, cut)

pub len_refused : (endian : Endian) (rest : List ℕ) (fault : CapFault) → said_len endian rest ≡ Err fault → captured_len endian rest ≡ Err fault
unfolding captured_len said_len
len_refused endian rest fault said = grind (arith, nat_tests, said)
