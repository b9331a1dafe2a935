-- What a line of a draw changes in a content.
use Rattle.std.proofs.Common.{◌≡◌, ◌≢◌, ℕ, ◌+◌, ◌-◌, ◌*◌, ◌<◌, ◌≤◌, Bool, true, false, List, length, refl, sym, ◌∙◌, ap, subst, arith, get_or, take, drop}
use Rattle.std.specs.Prelude.{nat_lt, nat_le, ◌==◌, ◌&&◌, if◌then◌else◌}
use Rattle.std.proofs.lemmas.Bool.Decides.{nat_tests}
use Rattle.std.proofs.lemmas.List.{places, length-drop, length-take-le, get_or-take, get_or-drop}
use Rattle.std.proofs.Math.Nat.{mul-le-mul_right}
use Rattle.ibos_kinds.specs.Screens.{covers, pixel_at, cell_after}
use borrow.Rule.Slice.PartMut.{put_mid}

-- the elements of a list, a part of which was written
pub mid-within : (xs ys : List ℕ) (a k i : ℕ) → a + k ≤ length xs → length ys ≡ k → a ≤ i → i < a + k → get_or (put_mid a k xs ys) i 0 ≡ get_or ys (i - a) 0
mid-within xs ys a k i within size low high = grind (arith, places, within, size, low, high)

pub mid-below : (xs ys : List ℕ) (a k i : ℕ) → a + k ≤ length xs → length ys ≡ k → i < a → get_or (put_mid a k xs ys) i 0 ≡ get_or xs i 0
mid-below xs ys a k i within size low = grind (arith, places, within, size, low)

pub mid-above : (xs ys : List ℕ) (a k i : ℕ) → a + k ≤ length xs → length ys ≡ k → a + k ≤ i → get_or (put_mid a k xs ys) i 0 ≡ get_or xs i 0
mid-above xs ys a k i within size high = grind (arith, places, within, size, high)

covers-other : (row col k width r c : ℕ) → r ≢ row + k → covers row col (k + 1) width r c ≡ covers row col k width r c
unfolding covers
covers-other row col k width r c other = grind (arith, nat_tests, other)

covers-line : (row col k width r c : ℕ) → r ≡ row + k → covers row col (k + 1) width r c ≡ (nat_le col c && nat_lt c (col + width))
unfolding covers
covers-line row col k width r c here = grind (arith, nat_tests, here)

covers-next : (row col k width r c : ℕ) → r ≡ row + k → covers row col k width r c ≡ false
unfolding covers
covers-next row col k width r c here = grind (arith, nat_tests, here)

covers-none : (row col width r c : ℕ) → covers row col 0 width r c ≡ false
unfolding covers
covers-none row col width r c = grind (arith, nat_tests)

-- a content of which k lines are drawn, and then the next
pub drawn_more : (old target pixels line : List ℕ) (row col k width at : ℕ)
    → at ≡ (row + k) * 80 + col → col + width ≤ 80 → at + width ≤ length target → length line ≡ width
    → ((j : ℕ) → j < width → get_or line j 0 ≡ get_or pixels (k * width + j) 0)
    → ((r c : ℕ) → c < 80 → get_or target (80 * r + c) 0 ≡ cell_after row col k width pixels r c (get_or old (80 * r + c) 0))
    → (r c : ℕ) → c < 80 → get_or (put_mid at width target line) (80 * r + c) 0 ≡ cell_after row col (k + 1) width pixels r c (get_or old (80 * r + c) 0)
unfolding pixel_at
drawn_more old target pixels line row col k width at is narrow within size given before r c low = by_row (r == row + k) refl
  where
    here_by : (in_line : Bool) → r ≡ row + k → (nat_le col c && nat_lt c (col + width)) ≡ in_line → get_or (put_mid at width target line) (80 * r + c) 0 ≡ (if in_line then get_or pixels ((r - row) * width + (c - col)) 0 else get_or old (80 * r + c) 0)
    here_by true here inside =
        let left : col ≤ c = grind (arith, nat_tests, inside) in
        let right : c < col + width = grind (arith, nat_tests, inside) in
        let line_of : r - row ≡ k = omega (arith, here) in
        let low_end : at ≤ 80 * r + c = omega (arith, here, is, left) in
        let high_end : 80 * r + c < at + width = omega (arith, here, is, right) in
        let place : 80 * r + c - at ≡ c - col = omega (arith, here, is, left) in
        let short : c - col < width = omega (arith, left, right) in
        mid-within target line at width (80 * r + c) within size low_end high_end ∙ ap (λ j. get_or line j 0) place ∙ given (c - col) short ∙ ap (λ n. get_or pixels (n * width + (c - col)) 0) (sym line_of)
    here_by false here outside = outside_by (nat_le col c) refl
      where
        kept : get_or target (80 * r + c) 0 ≡ get_or old (80 * r + c) 0
        kept = before r c low ∙ ap (λ (b : Bool). if b then get_or pixels ((r - row) * width + (c - col)) 0 else get_or old (80 * r + c) 0) (covers-next row col k width r c here)

        outside_by : (left : Bool) → nat_le col c ≡ left → get_or (put_mid at width target line) (80 * r + c) 0 ≡ get_or old (80 * r + c) 0
        outside_by false left =
            let under : c < col = grind (arith, nat_tests, left) in
            let below : 80 * r + c < at = omega (arith, here, is, under) in
            mid-below target line at width (80 * r + c) within size below ∙ kept
        outside_by true left =
            let over : col + width ≤ c = grind (arith, nat_tests, left, outside) in
            let above : at + width ≤ 80 * r + c = omega (arith, here, is, over) in
            mid-above target line at width (80 * r + c) within size above ∙ kept

    other_by : (above : Bool) → nat_lt r (row + k) ≡ above → r ≢ row + k → get_or (put_mid at width target line) (80 * r + c) 0 ≡ get_or target (80 * r + c) 0
    other_by true above differs =
        let earlier : r + 1 ≤ row + k = grind (arith, nat_tests, above) in
        let below : 80 * r + c < at = omega (arith, is, earlier, low) in
        mid-below target line at width (80 * r + c) within size below
    other_by false under differs =
        let later : row + k + 1 ≤ r = grind (arith, nat_tests, under, differs) in
        let above : at + width ≤ 80 * r + c = omega (arith, is, later, narrow) in
        mid-above target line at width (80 * r + c) within size above

    by_row : (here : Bool) → (r == row + k) ≡ here → get_or (put_mid at width target line) (80 * r + c) 0 ≡ cell_after row col (k + 1) width pixels r c (get_or old (80 * r + c) 0)
    by_row true here =
        let this : r ≡ row + k = grind (arith, nat_tests, here) in
        rw (covers-line row col k width r c this) (here_by (nat_le col c && nat_lt c (col + width)) this refl)
    by_row false other =
        let differs : r ≢ row + k = grind (arith, nat_tests, other) in
        rw (covers-other row col k width r c differs) (other_by (nat_lt r (row + k)) refl differs ∙ before r c low)

-- a content of which no line is drawn
pub drawn_none : (old pixels : List ℕ) (row col width : ℕ) (r c : ℕ) → c < 80 → get_or old (80 * r + c) 0 ≡ cell_after row col 0 width pixels r c (get_or old (80 * r + c) 0)
drawn_none old pixels row col width r c low = rw (covers-none row col width r c) refl

-- the same, as the code writes the line's bounds
pub drawn_next : (old target pixels line : List ℕ) (row col height width k n m : ℕ)
    → row + height ≤ 22 → col + width ≤ 80 → k < height → length target ≡ 1760 → length pixels ≡ height * width
    → n ≡ width → m ≡ width → line ≡ take m (drop (k * width) pixels)
    → ((r c : ℕ) → c < 80 → get_or target (80 * r + c) 0 ≡ cell_after row col k width pixels r c (get_or old (80 * r + c) 0))
    → (r c : ℕ) → c < 80 → get_or (put_mid ((row + k) * 80 + col) n target line) (80 * r + c) 0 ≡ cell_after row col (k + 1) width pixels r c (get_or old (80 * r + c) 0)
drawn_next old target pixels line row col height width k n m rows columns more target_size pixels_size n_is m_is line_is before r c low =
    let last : k + 1 ≤ height = omega (arith, more) in
    let product : (k + 1) * width ≤ height * width = mul-le-mul_right width last in
    let enough : k * width + width ≤ length pixels = omega (arith, product, pixels_size) in
    let within : (row + k) * 80 + col + width ≤ length target = omega (arith, rows, columns, more, target_size) in
    let size : length line ≡ width = ap length line_is ∙ ap (λ i. length (take i (drop (k * width) pixels))) m_is ∙ length-take-le width (drop (k * width) pixels) (simp length-drop (omega (arith, enough))) in
    let P : ℕ → Type 0 = λ i. get_or (put_mid ((row + k) * 80 + col) i target line) (80 * r + c) 0 ≡ cell_after row col (k + 1) width pixels r c (get_or old (80 * r + c) 0) in
    subst P (sym n_is) (drawn_more old target pixels line row col k width ((row + k) * 80 + col) refl columns within size given before r c low)
  where
    given : (j : ℕ) → j < width → get_or line j 0 ≡ get_or pixels (k * width + j) 0
    given j short =
        let inside : j < m = omega (arith, m_is, short) in
        ap (λ xs. get_or xs j 0) line_is ∙ get_or-take m (drop (k * width) pixels) j 0 inside ∙ get_or-drop (k * width) pixels j 0
