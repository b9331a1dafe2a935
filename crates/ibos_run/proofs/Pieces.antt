-- What was read of a file, piece by piece.
use Rattle.std.proofs.Common.{◌≡◌, ℕ, ◌+◌, ◌≤◌, List, ◌++◌, Option, Some, None, sym, ◌∙◌, ap, take, subst, length, length-append, length-take-le}
use Rattle.std.specs.Prelude.{IfSome}
use Rattle.std.proofs.Math.Seq.{take-add}
use Rattle.ibos_kinds.specs.Outside.{ReadsFrom}

-- a piece joins the text that was read
pub read_more : (text piece file : List ℕ) (got : ℕ) → text ≡ take (length text) file → got ≤ length piece → ReadsFrom file (length text) got piece
    → text ++ take got piece ≡ take (length (text ++ take got piece)) file
read_more text piece file got front within read =
    let long : length (take got piece) ≡ got = length-take-le got piece within in
    let all : length (text ++ take got piece) ≡ length text + got = length-append text (take got piece) ∙ ap (λ n. length text + n) long in
    ap (λ t. t ++ take got piece) front ∙ ap (λ t. take (length text) file ++ t) read.front
    ∙ sym (take-add (length text) got file) ∙ ap (λ n. take n file) (sym all)

-- the same, where the cabinet may not tell the file
pub read_more_if : (first now : Option (List ℕ)) (text after piece : List ℕ) (got : ℕ) → now ≡ first → after ≡ text ++ take got piece → got ≤ length piece
    → IfSome first (λ file. text ≡ take (length text) file) → IfSome now (λ file. ReadsFrom file (length text) got piece)
    → IfSome first (λ file. after ≡ take (length after) file)
read_more_if None now text after piece got same is within front read = tt
read_more_if (Some file) now text after piece got same is within front read =
    let read-there : ReadsFrom file (length text) got piece = subst (λ (held : Option (List ℕ)). IfSome held (λ f. ReadsFrom f (length text) got piece)) same read in
    rw is (read_more text piece file got front within read-there)
