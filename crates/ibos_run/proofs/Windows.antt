-- What was read of a script, in its window.
use Rattle.std.proofs.Common.{◌≡◌, ℕ, ◌+◌, ◌-◌, ◌≤◌, ◌<◌, List, [], ◌∷◌, ◌++◌, Bool, true, false, not, cond, Option, Some, None, refl, sym, ◌∙◌, ap, subst, inl, inr, append_assoc, take, drop, length, length-take, length-take-le, arith, min}
use Rattle.std.specs.Prelude.{◌⊎◌, ◌||◌, ◌==◌, IfSome, nat_lt, slice_range}
use Rattle.std.proofs.Math.Seq.{take-append-add, take-append_seam}
use Rattle.std.proofs.lemmas.Bool.{cases_lt}
use Rattle.std.proofs.lemmas.Bool.Decides.{nat_tests}
use Rattle.std.proofs.lemmas.List.{drop-drop, drop-take, drop_all, take-append-drop, take-append-le, take-take}
use Rattle.ibos_kinds.specs.Outside.{ReadsFrom}
use Rattle.ibos_text.specs.Parts.{len_before}
use Rattle.ibos_run.specs.Readings.{script_in}
use Rattle.ibos_run.specs.Sources.{ReadsOn, Unread}

-- behind a line
pub slice_passed : (xs : List ℕ) (start end len : ℕ) → start ≤ end → slice_range xs (min (start + len + 1) end) end ≡ drop (len + 1) (slice_range xs start end)
slice_passed xs start end len ordered = elim (cases_lt end (start + len + 1)) [ inl past ↦ outside past | inr fits ↦ inside fits ]
  where
    inside : start + len + 1 ≤ end → slice_range xs (min (start + len + 1) end) end ≡ drop (len + 1) (slice_range xs start end)
    inside fits =
        let at : min (start + len + 1) end ≡ start + (len + 1) = omega (arith, fits) in
        let parts : end - start ≡ (len + 1) + (end - (start + (len + 1))) = omega (arith, fits) in
        ap (λ n. slice_range xs n end) at
        ∙ sym (ap (λ j. drop (len + 1) (take j (drop start xs))) parts ∙ drop-take (len + 1) (end - (start + (len + 1))) (drop start xs)
        ∙ ap (take (end - (start + (len + 1)))) (drop-drop (len + 1) start xs))

    outside : end < start + len + 1 → slice_range xs (min (start + len + 1) end) end ≡ drop (len + 1) (slice_range xs start end)
    outside past =
        let at : min (start + len + 1) end ≡ end = omega (arith, past) in
        let none : end - end ≡ 0 = omega arith in
        ap (λ n. slice_range xs n end) at ∙ ap (λ n. take n (drop end xs)) none
        ∙ sym (drop_all (len + 1) (slice_range xs start end) (omega (arith, length-take (end - start) (drop start xs), past)))

-- ---- a piece that was read

-- it was read behind the bytes at the window's front
pub slice_grown : (xs items into post : List ℕ) (end got : ℕ) → end ≤ length xs → got ≤ length into → items ≡ take end xs ++ (into ++ post) → slice_range items 0 (end + got) ≡ slice_range xs 0 end ++ take got into
slice_grown xs items into post end got within fits is =
    let front : length (take end xs) ≡ end = length-take-le end xs within in
    let all : end + got - 0 ≡ length (take end xs) + got = omega (arith, front) in
    let none : end - 0 ≡ end = omega arith in
    ap (λ n. take n items) all ∙ ap (λ ys. take (length (take end xs) + got) ys) is ∙ take-append-add (take end xs) (into ++ post) got
    ∙ ap (λ ys. take end xs ++ ys) (take-append-le got into post fits) ∙ ap (λ n. take n xs ++ take got into) (sym none)

none_over : (got place : ℕ) → got ≤ 0 → (got == 0 || nat_lt 67108864 place) ≡ true
none_over got place none = grind (arith, nat_tests, none)

past_over : (got place : ℕ) → 0 < got → (got == 0 || nat_lt 67108864 place) ≡ true → 67108864 < place
past_over got place some is = grind (arith, nat_tests, some, is)

-- it has a byte, or there is no more
pub some_or_over : (got place : ℕ) (over : Bool) → over ≡ (got == 0 || nat_lt 67108864 place) → (0 < got) ⊎ (over ≡ true)
some_or_over got place over is = elim (cases_lt 0 got) [ inl some ↦ inl some | inr none ↦ inr (is ∙ none_over got place none) ]

pub over_after : (got place : ℕ) (over : Bool) → over ≡ (got == 0 || nat_lt 67108864 place) → over ≡ true → (got ≡ 0) ⊎ (67108864 < place)
over_after got place over is ended = elim (cases_lt 0 got) [ inl some ↦ inr (past_over got place some (sym is ∙ ended)) | inr none ↦ inl (omega (arith, none)) ]

-- it joins what was read, and leaves what is left of the text
read_on : (file : List ℕ) (old new : Unread) (into : List ℕ) (got : ℕ) → new.bytes ≡ old.bytes ++ take got into → new.place ≡ old.place + got → (new.over ≡ true → (got ≡ 0) ⊎ (67108864 < new.place))
    → got ≤ 67108865 - old.place → 0 < length into → ReadsFrom file old.place got into → ReadsOn (script_in file) old new
unfolding script_in
read_on file old new into got grown place over fits some read of =
    let text : List ℕ = take 67108865 file in
    let long : length text ≡ min 67108865 (length file) = length-take 67108865 file in
    let rest : ℕ = 67108865 - old.place in
    let parts : 67108865 ≡ old.place + rest = omega (arith, long, of.within) in
    let left : drop old.place text ≡ take rest (drop old.place file) = ap (λ n. drop old.place (take n file)) parts ∙ drop-take old.place rest file in
    let piece : take got into ≡ take got (drop old.place text) = read.front ∙ sym (ap (take got) left ∙ take-take got rest (drop old.place file) fits) in
    let behind : drop new.place text ≡ drop got (drop old.place text) = ap (λ n. drop n text) place ∙ sym (drop-drop got old.place text) in (
      record {
        within = omega (arith, long, of.within, place, fits, read.within);
        over = λ is. elim (over is) [ inl none ↦ let ends = read.ends none some in omega (arith, long, place, ends) | inr past ↦ omega (arith, long, past) ];
      },
      ap (λ bs. bs ++ drop new.place text) grown ∙ append_assoc old.bytes (take got into) (drop new.place text)
          ∙ ap (λ bs. old.bytes ++ bs) (ap (λ bs. bs ++ drop new.place text) piece ∙ ap (λ bs. take got (drop old.place text) ++ bs) behind ∙ take-append-drop got (drop old.place text)),
    )

-- the same, where the cabinet may not tell the file
pub read_on_if : (held : Option (List ℕ)) (old new : Unread) (into : List ℕ) (got : ℕ) → new.bytes ≡ old.bytes ++ take got into → new.place ≡ old.place + got → (new.over ≡ true → (got ≡ 0) ⊎ (67108864 < new.place))
    → got ≤ 67108865 - old.place → 0 < length into → IfSome held (λ file. ReadsFrom file old.place got into) → IfSome held (λ file. ReadsOn (script_in file) old new)
read_on_if None old new into got grown place over fits some read = tt
read_on_if (Some file) old new into got grown place over fits some read = read_on file old new into got grown place over fits some read

-- and one more
pub reads_then : (held now : Option (List ℕ)) (a b c : Unread) → now ≡ held → IfSome held (λ file. ReadsOn (script_in file) a b) → IfSome now (λ file. ReadsOn (script_in file) b c) → IfSome held (λ file. ReadsOn (script_in file) a c)
reads_then None now a b c same first next = tt
reads_then (Some file) now a b c same first next = λ of.
    let more : ReadsOn (script_in file) b c = subst (λ (h : Option (List ℕ)). IfSome h (λ file. ReadsOn (script_in file) b c)) same next in
    let before = first of in
    let after = more before.0 in (after.0, after.1 ∙ before.1)

pub reads_none : (held : Option (List ℕ)) (a : Unread) → IfSome held (λ file. ReadsOn (script_in file) a a)
reads_none None a = tt
reads_none (Some file) a = λ of. (of, refl)

-- ---- where its line ends

behind_front : (t : Bool) (n len m r : ℕ) → cond (not t) (1 + n) 0 ≡ 1 + len → (n ≡ len → r ≡ len + m) → cond (not t) (1 + r) 0 ≡ 1 + len + m
behind_front true n len m r is rest = absurd (omega (arith, is))
behind_front false n len m r is rest = let e = rest (omega (arith, is)) in omega (arith, e)

not_in_front : (front rest : List ℕ) → len_before 10 front ≡ length front → len_before 10 (front ++ rest) ≡ length front + len_before 10 rest
not_in_front [] rest whole = omega arith
not_in_front (b ∷ front) rest whole =
    behind_front (b == 10) (len_before 10 front) (length front) (len_before 10 rest) (len_before 10 (front ++ rest)) (whole ∙ omega arith) (not_in_front front rest) ∙ omega arith

-- none ends in the first so many bytes
pub found_behind : (bytes part : List ℕ) (searched more : ℕ) → searched ≤ length bytes → len_before 10 (take searched bytes) ≡ searched
    → part ≡ drop searched bytes → more ≡ len_before 10 part → searched + more ≡ len_before 10 bytes
found_behind bytes part searched more within none is found =
    let long : length (take searched bytes) ≡ searched = length-take-le searched bytes within in
    let all = not_in_front (take searched bytes) (drop searched bytes) (none ∙ sym long) in
    omega (arith, all, long, found, ap (len_before 10) is) ∙ ap (len_before 10) (take-append-drop searched bytes)

pub searched_all : (old new piece : List ℕ) (len : ℕ) → new ≡ old ++ piece → len ≡ len_before 10 old → len ≡ length old → len_before 10 (take len new) ≡ len
searched_all old new piece len grown is whole =
    let front : take len new ≡ old = ap (take len) grown ∙ ap (λ n. take n (old ++ piece)) whole ∙ take-append_seam old piece in
    ap (len_before 10) front ∙ sym is

pub no_bytes : (bytes : List ℕ) → length bytes ≡ 0 → bytes ≡ []
no_bytes [] none = refl
no_bytes (b ∷ bytes) none = absurd (omega (arith, none))
