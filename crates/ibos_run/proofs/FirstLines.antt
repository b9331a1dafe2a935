-- The next line of a script of which a piece was read.
use Rattle.std.proofs.Common.{◌≡◌, ℕ, ◌+◌, ◌-◌, ◌≤◌, ◌<◌, List, [], ◌∷◌, ◌++◌, Bool, true, false, not, cond, suc, refl, sym, ◌∙◌, ap, add-one, take, drop, length, length-append, length-drop, arith, None}
use Rattle.std.proofs.lemmas.Bool.Decides.{nat_tests}
use Rattle.std.proofs.lemmas.List.{drop_all}
use Rattle.std.specs.Prelude.{if◌then◌else◌, ◌==◌, ◌&&◌, nat_le, nat_lt}
use Rattle.ibos_script.specs.Lines.{line_in}
use Rattle.ibos_text.specs.Lines.{lines_of, pieces_of, onto_first, without_return}
use Rattle.ibos_text.specs.Parts.{len_before}
use Rattle.ibos_run.specs.Readings.{Reading, is_last, reading_by, reading_from, refused_by}
use Rattle.ibos_run.specs.Refusals.{too_long}
use Rattle.ibos_run.specs.Sources.{IsLine, IsReadOf, Unread, is_past, left_of, passed, reading_after}
use Rattle.ibos_run.proofs.Readings.{is_last-lines_of}

cut_first : (t : Bool) (b n : ℕ) (w rest : List ℕ) → (length (b ∷ w) ≤ cond (not t) (1 + n) 0 → rest ≡ []) → (length w ≡ 0 → n ≡ 0)
    → (0 < length w → (length w ≤ n → rest ≡ []) → pieces_of (w ++ rest) ≡ take n w ∷ pieces_of (drop (n + 1) w ++ rest))
    → (if t then [] ∷ pieces_of (w ++ rest) else onto_first b (pieces_of (w ++ rest)))
    ≡ take (cond (not t) (1 + n) 0) (b ∷ w) ∷ pieces_of (drop (cond (not t) (1 + n) 0 + 1) (b ∷ w) ++ rest)
unfolding pieces_of
cut_first true b n w rest ends none more = refl
cut_first false b n [] rest ends none more =
    let is : n ≡ 0 = none refl in
    let nothing : rest ≡ [] = ends (omega (arith, is)) in
    rw (is, nothing) refl
cut_first false b n (x ∷ w) rest ends none more =
    let is : pieces_of (x ∷ w ++ rest) ≡ take n (x ∷ w) ∷ pieces_of (drop (n + 1) (x ∷ w) ++ rest) = more (omega arith) (λ whole. ends (omega (arith, whole))) in
    let e : 1 + n ≡ suc n = omega arith in
    rw (is, e, add-one n) (rw (add-one (suc n)) refl)

none_before : (w : List ℕ) → length w ≡ 0 → len_before 10 w ≡ 0
none_before [] none = refl
none_before (b ∷ w) none = absurd (omega arith)

piece_first : (w rest : List ℕ) → 0 < length w → (length w ≤ len_before 10 w → rest ≡ []) → pieces_of (w ++ rest) ≡ take (len_before 10 w) w ∷ pieces_of (drop (len_before 10 w + 1) w ++ rest)
unfolding pieces_of
piece_first [] rest some ends = absurd (omega arith)
piece_first (b ∷ w) rest some ends = cut_first (b == 10) b (len_before 10 w) w rest ends (none_before w) (piece_first w rest)

-- the line ends in what was read, or nothing follows
line_first : (w rest : List ℕ) (n : ℕ) → 0 < length w → n ≡ len_before 10 w → (length w ≤ n → rest ≡ []) → lines_of (w ++ rest) ≡ without_return (take n w) ∷ lines_of (drop (n + 1) w ++ rest)
unfolding lines_of
line_first w rest n some is ends = rw is (rw (piece_first w rest some (λ whole. ends (omega (arith, is, whole)))) refl)

past_is : (p t b l : ℕ) → p ≤ t → t ≤ 67108865 → (nat_lt 67108864 t && ((b - (l + 1)) + (t - p) == 0)) ≡ (nat_lt 67108864 p && nat_le b (l + 1))
past_is p t b l within most = grind (arith, nat_tests)

-- the last line of a text that passes the limit is the one that holds the byte behind it
past_last : (text : List ℕ) (u : Unread) (len : ℕ) → IsReadOf text u → length text ≤ 67108865 → (nat_lt 67108864 (length text) && is_last (lines_of (left_of text (passed len u)))) ≡ is_past len u
past_last text u len of most =
    let long : length (left_of text (passed len u)) ≡ (length u.bytes - (len + 1)) + (length text - u.place) =
    length-append (drop (len + 1) u.bytes) (drop u.place text) ∙ ap (λ n. n + length (drop u.place text)) (length-drop (len + 1) u.bytes)
    ∙ ap (λ n. (length u.bytes - (len + 1)) + n) (length-drop u.place text) in
    ap (λ b. nat_lt 67108864 (length text) && b) (is_last-lines_of (left_of text (passed len u)) ∙ ap (λ n. n == 0) long)
    ∙ past_is u.place (length text) (length u.bytes) len of.within most

-- what is left of a script is its next line, and what is left behind that
pub line_read : (text : List ℕ) (lines : ℕ) (frames : List (List ℕ)) (u : Unread) (len : ℕ) (line : List ℕ) → IsReadOf text u → length text ≤ 67108865 → IsLine len u → line ≡ without_return (take len u.bytes)
    → reading_after lines frames text u
    ≡ (if is_past len u then refused_by (too_long (lines + 1)) else reading_by (lines + 1) (line_in line) frames (λ fs. reading_after (lines + 1) fs text (passed len u)))
line_read text lines frames u len line of most is same =
    let passes : Bool = nat_lt 67108864 (length text) in
    let first : lines_of (left_of text u) ≡ line ∷ lines_of (left_of text (passed len u)) =
    line_first u.bytes (drop u.place text) len is.some is.is (λ whole. drop_all u.place text (of.over (is.ends whole)))
    ∙ ap (λ (l : List ℕ). l ∷ lines_of (left_of text (passed len u))) (sym same) in
    let asks : Reading = reading_by (lines + 1) (line_in line) frames (λ fs. reading_after (lines + 1) fs text (passed len u)) in
    ap (λ (ls : List (List ℕ)). reading_from passes (lines + 1) ls frames) first
    ∙ ap (λ (past : Bool). if past then refused_by (too_long (lines + 1)) else asks) (past_last text u len of most)

-- no line is left
pub none_read : (text : List ℕ) (lines : ℕ) (frames : List (List ℕ)) (u : Unread) → IsReadOf text u → u.bytes ≡ [] → u.over ≡ true → reading_after lines frames text u ≡ record { acts = []; refused = None }
unfolding lines_of pieces_of
none_read text lines frames u of none over =
    let nothing : left_of text u ≡ [] = ap (λ bs. bs ++ drop u.place text) none ∙ drop_all u.place text (of.over over) in
    ap (λ bs. reading_from (nat_lt 67108864 (length text)) (lines + 1) (lines_of bs) frames) nothing
