-- What was taken of a text, piece by piece.
use Rattle.std.proofs.Common.{◌≡◌, ℕ, ◌+◌, List, [], ◌++◌, Option, Some, None, Result, Ok, Err, refl, sym, ◌∙◌, ap, append_assoc, append-nil, subst, take, drop}
use Rattle.std.specs.Prelude.{OnErr}
use Rattle.std.proofs.Math.Seq.{take-add}
use Rattle.std.proofs.lemmas.List.{take-append-drop}
use Rattle.ibos_kinds.specs.Outside.{taken_after}
use Rattle.ibos_outcome.specs.Printed.{IsCutShort}
use Rattle.ibos_run.specs.Took.{Took, TookFront}

-- what is said where a call failed
pub on_err : {T E : Type 0} (r : Result T E) (P : Type 0) → P → OnErr r P
on_err (Ok v) P p = tt
on_err (Err e) P p = p

taken_none : (first : Option (List ℕ)) → first ≡ taken_after first []
taken_none None = refl
taken_none (Some t) = ap Some (sym (append-nil t))

taken_after-append : (before : Option (List ℕ)) (xs ys : List ℕ) → taken_after (taken_after before xs) ys ≡ taken_after before (xs ++ ys)
taken_after-append None xs ys = refl
taken_after-append (Some t) xs ys = ap Some (append_assoc t xs ys)

-- the front, and then the next bytes
pub taken_more : (first before now : Option (List ℕ)) (bytes : List ℕ) (at got : ℕ) → before ≡ taken_after first (take at bytes)
    → now ≡ taken_after before (take got (drop at bytes)) → now ≡ taken_after first (take (at + got) bytes)
taken_more first before now bytes at got so_far more =
    more ∙ ap (λ t. taken_after t (take got (drop at bytes))) so_far
    ∙ taken_after-append first (take at bytes) (take got (drop at bytes))
    ∙ ap (taken_after first) (sym (take-add at got bytes))

-- nothing was taken
pub took_none : (first : Option (List ℕ)) (whole : List ℕ) → Took first first whole whole
took_none first whole = record { front = []; taken = taken_none first; is = refl }

-- a front, and then a front of what was left
pub took_then : (a b c : Option (List ℕ)) (left rest whole : List ℕ) → Took a b left whole → Took b c rest left → Took a c rest whole
took_then a b c left rest whole first next = record {
  front = first.front ++ next.front;
  taken = next.taken ∙ ap (λ t. taken_after t next.front) first.taken ∙ taken_after-append a first.front next.front;
  is = append_assoc first.front next.front rest ∙ ap (λ xs. first.front ++ xs) next.is ∙ first.is;
}

-- more stands behind the whole
pub took_more : (a b : Option (List ℕ)) (rest whole more : List ℕ) → Took a b rest whole → Took a b (rest ++ more) (whole ++ more)
took_more a b rest whole more took = record {
  front = took.front;
  taken = took.taken;
  is = sym (append_assoc took.front rest more) ∙ ap (λ xs. xs ++ more) took.is;
}

rest_is : (a b : Option (List ℕ)) (rest same whole : List ℕ) → Took a b rest whole → rest ≡ same → Took a b same whole
rest_is a b rest same whole took is = subst (λ r. Took a b r whole) is took

-- all that is left is gathered
pub front_of : (a b : Option (List ℕ)) (rest whole : List ℕ) → Took a b rest whole → TookFront a b rest whole
front_of a b rest whole took = ([], rest_is a b rest (rest ++ []) whole took (sym (append-nil rest)))

-- a front, and then a front of what was gathered
pub front_then : (a b c : Option (List ℕ)) (gathered left whole : List ℕ) → TookFront a b gathered whole → TookFront b c left gathered → TookFront a c left whole
front_then a b c gathered left whole first next =
    let behind : List ℕ = (left ++ next.0) ++ first.0 in
    let after : Took b c behind (gathered ++ first.0) = took_more b c (left ++ next.0) gathered first.0 next.1 in
    let all : Took a c behind whole = took_then a b c (gathered ++ first.0) behind whole first.1 after in
    (next.0 ++ first.0, rest_is a c behind (left ++ (next.0 ++ first.0)) whole all (append_assoc left next.0 first.0))

-- more stands behind the whole
pub front_more : (a b : Option (List ℕ)) (gathered whole more : List ℕ) → TookFront a b gathered whole → TookFront a b gathered (whole ++ more)
front_more a b gathered whole more took =
    let behind : List ℕ = (gathered ++ took.0) ++ more in
    let all : Took a b behind (whole ++ more) = took_more a b (gathered ++ took.0) whole more took.1 in
    (took.0 ++ more, rest_is a b behind (gathered ++ (took.0 ++ more)) (whole ++ more) all (append_assoc gathered took.0 more))

-- a write failed behind a front
pub front_failed : (first before now : Option (List ℕ)) (bytes : List ℕ) (at : ℕ) → before ≡ taken_after first (take at bytes)
    → now ≡ taken_after before [] → TookFront first now [] bytes
front_failed first before now bytes at so_far failed =
    (drop at bytes, record { front = take at bytes; taken = failed ∙ sym (taken_none before) ∙ so_far; is = take-append-drop at bytes })

-- nothing was taken, and what was gathered stays
pub front_kept : (first : Option (List ℕ)) (gathered old more : List ℕ) → gathered ≡ old → TookFront first first gathered (old ++ more)
front_kept first gathered old more same =
    let P : List ℕ → Type 0 = λ g. Took first first (g ++ more) (old ++ more) in
    (more, subst P (sym same) (took_none first (old ++ more)))

-- nothing was taken, and of what was to be gathered next a front was
pub front_cut_short : (first : Option (List ℕ)) (old gathered more : List ℕ) → IsCutShort old gathered more → TookFront first first gathered (old ++ more)
front_cut_short first old gathered more cut = (
  cut.rest,
  rest_is first first (old ++ more) (gathered ++ cut.rest) (old ++ more) (took_none first (old ++ more))
      (ap (λ xs. old ++ xs) (sym cut.whole) ∙ sym (append_assoc old cut.front cut.rest) ∙ ap (λ xs. xs ++ cut.rest) (sym cut.written)),
)
