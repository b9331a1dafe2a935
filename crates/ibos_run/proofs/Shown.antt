-- A piece of a file in its window.
use Rattle.std.proofs.Common.{◌≡◌, ℕ, ◌+◌, ◌-◌, ◌≤◌, ◌<◌, List, [], ◌++◌, Bool, true, false, sym, ◌∙◌, ap, inl, inr, take, drop, length, length-take, length-take-le, length-drop, length-append, arith, min}
use Rattle.std.specs.Prelude.{◌&&◌, nat_le, nat_lt, slice_range}
use Rattle.std.proofs.Math.Seq.{take-add}
use Rattle.std.proofs.lemmas.Bool.{cases_lt}
use Rattle.std.proofs.lemmas.Bool.Decides.{nat_tests}
use Rattle.std.proofs.lemmas.List.{drop-drop, drop-take, take-take, take_all}
use Rattle.ibos_kinds.specs.Outside.{ReadsFrom}
use Rattle.ibos_run.specs.Captured.{IsAt, IsPieceOf, Piece, ReadsMore, Shows}

-- no byte is a piece of any file
pub piece_none : (file : List ℕ) (piece : Piece) → piece.bytes ≡ [] → IsPieceOf file piece
piece_none file piece none = none ∙ sym (ap (λ (bs : List ℕ). take (length bs) (drop piece.place file)) none)

-- the bytes from a place on
pub left_is : (items : List ℕ) (k len : ℕ) → k ≤ len → take (len - k) (drop k items) ≡ drop k (slice_range items 0 len)
left_is items k len within =
    let parts : len - 0 ≡ k + (len - k) = omega (arith, within) in
    sym (ap (λ n. drop k (take n items)) parts ∙ drop-take k (len - k) items)

behind : (file : List ℕ) (place : ℕ) (piece : Piece) → IsAt place piece → IsPieceOf file piece
    → drop (place - piece.place) piece.bytes ≡ take (length piece.bytes - (place - piece.place)) (drop place file)
behind file place piece at of =
    let k : ℕ = place - piece.place in
    let more : ℕ = length piece.bytes - k in
    let parts : length piece.bytes ≡ k + more = omega (arith, at.from, at.to) in
    let sum : piece.place + k ≡ place = omega (arith, at.from) in
    ap (drop k) of ∙ ap (λ n. drop k (take n (drop piece.place file))) parts ∙ drop-take k more (drop piece.place file)
    ∙ ap (take more) (drop-drop k piece.place file ∙ ap (λ i. drop i file) sum)

-- they are those of the file, as far as they are shown
pub front_is : (file : List ℕ) (place least : ℕ) (piece : Piece) → IsAt place piece → Shows file place least piece
    → take least (drop (place - piece.place) piece.bytes) ≡ take least (drop place file)
front_is file place least piece at shows =
    let more : ℕ = length piece.bytes - (place - piece.place) in
    let rest : List ℕ = drop place file in
    ap (take least) (behind file place piece at shows.of) ∙ elim (cases_lt more least) [
      | inl few ↦ ap (take least) (take_all more rest (omega (arith, few, at.from, at.to, shows.enough, length-drop place file)))
      | inr fits ↦ take-take least more rest fits
    ]

taken_is : (n : ℕ) (xs : List ℕ) → take n xs ≡ take (length (take n xs)) xs
taken_is n xs = elim (cases_lt (length xs) n) [
  | inl few ↦ take_all n xs (omega (arith, few)) ∙ sym (take_all (length (take n xs)) xs (omega (arith, few, length-take n xs)))
  | inr fits ↦ ap (λ m. take m xs) (sym (length-take-le n xs fits))
]

part_is : (most more : ℕ) (rest : List ℕ) → take most (take more rest) ≡ take (length (take most (take more rest))) rest
part_is most more rest = elim (cases_lt more most) [
  | inl few ↦
      let whole : take most (take more rest) ≡ take more rest = take_all most (take more rest) (omega (arith, few, length-take more rest)) in
      whole ∙ taken_is more rest ∙ ap (λ (xs : List ℕ). take (length xs) rest) (sym whole)
  | inr fits ↦
      let whole : take most (take more rest) ≡ take most rest = take-take most more rest fits in
      whole ∙ taken_is most rest ∙ ap (λ (xs : List ℕ). take (length xs) rest) (sym whole)
]

-- and those that are there are the file's in any case
pub part_of_file : (file : List ℕ) (place most : ℕ) (piece : Piece) (part : List ℕ) → IsAt place piece → IsPieceOf file piece → part ≡ take most (drop (place - piece.place) piece.bytes)
    → part ≡ take (length part) (drop place file)
part_of_file file place most piece part at of is =
    let more : ℕ = length piece.bytes - (place - piece.place) in
    let same : part ≡ take most (take more (drop place file)) = is ∙ ap (take most) (behind file place piece at of) in
    same ∙ part_is most more (drop place file) ∙ ap (λ (xs : List ℕ). take (length xs) (drop place file)) (sym same)

-- ---- reading

-- more was read behind it
pub piece_grown : (file : List ℕ) (old new : Piece) (into : List ℕ) (got : ℕ) → new.place ≡ old.place → new.bytes ≡ old.bytes ++ take got into → got ≤ length into → 0 < length into
    → IsPieceOf file old → ReadsFrom file (old.place + length old.bytes) got into → ReadsMore file got new
piece_grown file old new into got same grown within some of read =
    let n : ℕ = length old.bytes in
    let rest : List ℕ = drop old.place file in
    let long : length new.bytes ≡ n + got = ap (λ (bs : List ℕ). length bs) grown ∙ length-append old.bytes (take got into) ∙ ap (λ m. n + m) (length-take-le got into within) in
    let more : take got into ≡ take got (drop n rest) = read.front ∙ ap (take got) (sym (drop-drop n old.place file)) in
    record {
      of =
          grown ∙ ap (λ (bs : List ℕ). bs ++ take got into) of ∙ ap (λ (bs : List ℕ). take n rest ++ bs) more ∙ sym (take-add n got rest)
          ∙ ap (λ m. take m rest) (sym long) ∙ ap (λ i. take (length new.bytes) (drop i file)) (sym same);
      ends = λ none. let ends = read.ends none some in omega (arith, same, long, ends);
    }

-- the test tells where enough is in the window
pub at_when : (place least : ℕ) (piece : Piece) (has : Bool) → has ≡ (nat_le piece.place place && nat_le (place + least) (piece.place + length piece.bytes)) → has ≡ true → IsAt place piece
at_when place least piece has is there = record { from = grind (arith, nat_tests, is, there); to = grind (arith, nat_tests, is, there) }

pub shows_when : (file : List ℕ) (place least : ℕ) (piece : Piece) (has : Bool) → has ≡ (nat_le piece.place place && nat_le (place + least) (piece.place + length piece.bytes)) → has ≡ true → IsPieceOf file piece
    → Shows file place least piece
shows_when file place least piece has is there of =
    let enough : place + least ≤ piece.place + length piece.bytes = grind (arith, nat_tests, is, there) in
    record { of = of; enough = omega (arith, enough) }

-- and where not
pub few_when : (place least : ℕ) (piece : Piece) (has : Bool) → has ≡ (nat_le piece.place place && nat_le (place + least) (piece.place + length piece.bytes)) → has ≡ false → piece.place ≡ place
    → length piece.bytes < least
few_when place least piece has is there at = grind (arith, nat_tests, is, there, at)

pub shows_ended : (file : List ℕ) (place least got : ℕ) (piece : Piece) → ReadsMore file got piece → got ≡ 0 → Shows file place least piece
shows_ended file place least got piece reads none =
    let ends = reads.ends none in
    record { of = reads.of; enough = omega (arith, ends) }

-- whether the file has a byte there
pub has_is : (file : List ℕ) (place : ℕ) (piece : Piece) (has : Bool) → IsAt place piece → Shows file place 1 piece
    → has ≡ (nat_le piece.place place && nat_le (place + 1) (piece.place + length piece.bytes)) → has ≡ nat_lt place (length file)
has_is file place piece has at shows is =
    let long : length piece.bytes ≡ min (length piece.bytes) (length (drop piece.place file)) = ap (λ (bs : List ℕ). length bs) shows.of ∙ length-take (length piece.bytes) (drop piece.place file) in
    let from = at.from in
    let enough = shows.enough in
    let dropped = length-drop piece.place file in
    same has (length piece.bytes) (length file) piece.place place is from (omega (arith, long, dropped)) enough
  where
    same : (has : Bool) (len file from place : ℕ) → has ≡ (nat_le from place && nat_le (place + 1) (from + len)) → from ≤ place → len ≤ file - from → min (place + 1) file ≤ from + len → has ≡ nat_lt place file
    same has len file from place is first within enough = grind (arith, nat_tests, is, first, within, enough)

-- ---- bytes that are read part by part

pub parts_joined : (file : List ℕ) (place : ℕ) (bytes part : List ℕ) → bytes ≡ take (length bytes) (drop place file) → part ≡ take (length part) (drop (place + length bytes) file)
    → bytes ++ part ≡ take (length (bytes ++ part)) (drop place file)
parts_joined file place bytes part front next =
    let rest : List ℕ = drop place file in
    ap (λ (bs : List ℕ). bs ++ part) front ∙ ap (λ (bs : List ℕ). take (length bytes) rest ++ bs) (next ∙ ap (take (length part)) (sym (drop-drop (length bytes) place file)))
    ∙ sym (take-add (length bytes) (length part) rest) ∙ ap (λ m. take m rest) (sym (length-append bytes part))

-- all that are wanted
pub parts_done : (file : List ℕ) (place len : ℕ) (bytes : List ℕ) → bytes ≡ take (length bytes) (drop place file) → length bytes ≤ len → len ≤ length bytes → bytes ≡ take len (drop place file)
parts_done file place len bytes front within all =
    let same : length bytes ≡ len = omega (arith, within, all) in
    front ∙ ap (λ m. take m (drop place file)) same

-- or all that the file has
pub parts_ended : (file : List ℕ) (place len : ℕ) (bytes part : List ℕ) (piece : Piece) → bytes ≡ take (length bytes) (drop place file) → length bytes < len → IsAt (place + length bytes) piece → Shows file (place + length bytes) 1 piece
    → part ≡ take (len - length bytes) (drop (place + length bytes - piece.place) piece.bytes) → length part ≡ 0 → bytes ≡ take len (drop place file)
parts_ended file place len bytes part piece front within at shows is none =
    let k : ℕ = place + length bytes - piece.place in
    let size : length part ≡ min (len - length bytes) (length (drop k piece.bytes)) = ap (λ (bs : List ℕ). length bs) is ∙ length-take (len - length bytes) (drop k piece.bytes) in
    let ended : length file ≤ place + length bytes = omega (arith, size, none, within, at.from, at.to, shows.enough, length-drop k piece.bytes) in
    let short : length (drop place file) ≤ length bytes = omega (arith, ended, length-drop place file) in
    front ∙ take_all (length bytes) (drop place file) short ∙ sym (take_all len (drop place file) (omega (arith, short, within)))
