-- The screen's pixels, after its rows below the chrome or one of the chrome's were written.
use Rattle.std.proofs.Common.{◌≡◌, ◌≢◌, ℕ, ◌+◌, ◌-◌, ◌*◌, ◌<◌, ◌≤◌, Bool, true, false, List, [], length, refl, sym, ◌∙◌, ap, arith, get_or, take, drop, replicate, ◌++◌}
use Rattle.std.specs.Prelude.{nat_lt, Option, Some, None, unwrap_or, if◌then◌else◌}
use Rattle.std.proofs.lemmas.Bool.Decides.{nat_tests}
use Rattle.std.proofs.lemmas.List.{append-nil, length-append, length-replicate, length-take-le, length-drop, drop_at, drop_all, drop-take, take-take, drop-replicate, take-replicate, get_or-replicate, get_or-take, get_or-drop, get_or_append_left, get_or-append_right}
use Rattle.std.proofs.lemmas.Slice.{take-put_mid_below, drop-put_mid, between-put_mid}
use Rattle.ibos_kinds.specs.Screens.{space, padded}
use Rattle.ibos_frame.specs.ScreenStates.{ScreenState, shown_content, seen_at, pixel_in, chrome_at}
use borrow.Rule.Slice.PartMut.{put_mid}

-- a list whose end was written
pub drop-put_mid_end : (xs ys : List ℕ) (a k : ℕ) → a ≤ length xs → length xs ≤ a + k → drop a (put_mid a k xs ys) ≡ ys
drop-put_mid_end xs ys a k within whole =
    let rest : drop k (drop a xs) ≡ [] = drop_all k (drop a xs) (simp length-drop (omega arith)) in
    drop_at (take a xs) (ys ++ drop k (drop a xs)) a (length-take-le a xs within) ∙ ap (λ zs. ys ++ zs) rest ∙ append-nil ys

-- a row of the chrome is a row of the screen
pub line-front : (zs : List ℕ) (r : ℕ) → r < 3 → take 80 (drop (80 * r) (take 240 zs)) ≡ take 80 (drop (80 * r) zs)
line-front zs r low =
    let split : 240 ≡ 80 * r + (240 - 80 * r) = omega (arith, low) in
    ap (λ n. take 80 (drop (80 * r) (take n zs))) split ∙ ap (λ ws. take 80 ws) (drop-take (80 * r) (240 - 80 * r) zs) ∙ take-take 80 (240 - 80 * r) (drop (80 * r) zs) (omega (arith, low))

-- the row that was written, the others of the chrome, and the rows below it
module _ (xs ys : List ℕ) (row a k : ℕ) (at : a ≡ 80 * row) (count : k ≡ 80) (low : row < 3) (size : length xs ≡ 2000) (line : length ys ≡ 80) where
  pub line-written : take 80 (drop (80 * row) (take 240 (put_mid a k xs ys))) ≡ ys
  line-written =
      let first : a ≤ length xs = omega (arith, at, low, size) in
      let span : length ys ≡ a + 80 - a = omega (arith, line) in
      let width : a + 80 - a ≡ 80 = omega arith in
      line-front (put_mid a k xs ys) row low ∙ ap (λ n. take 80 (drop n (put_mid a k xs ys))) (sym at) ∙ ap (λ n. take n (drop a (put_mid a k xs ys))) (sym width) ∙ between-put_mid a k xs ys (a + 80) first span

  pub line-other : (r : ℕ) → r < 3 → r ≢ row → take 80 (drop (80 * r) (take 240 (put_mid a k xs ys))) ≡ take 80 (drop (80 * r) (take 240 xs))
  line-other r high other = line-front (put_mid a k xs ys) r high ∙ by_side (nat_lt r row) refl ∙ sym (line-front xs r high)
    where
      first : a ≤ length xs
      first = omega (arith, at, low, size)

      by_side : (above : Bool) → nat_lt r row ≡ above → take 80 (drop (80 * r) (put_mid a k xs ys)) ≡ take 80 (drop (80 * r) xs)
      by_side true above =
          let earlier : r + 1 ≤ row = grind (arith, nat_tests, above) in
          let below : 80 * r + 80 ≤ a = omega (arith, earlier, at) in
          sym (drop-take (80 * r) 80 (put_mid a k xs ys)) ∙ ap (λ ws. drop (80 * r) ws) (take-put_mid_below a k xs ys (80 * r + 80) below first) ∙ drop-take (80 * r) 80 xs
      by_side false under =
          let later : row + 1 ≤ r = grind (arith, nat_tests, under, other) in
          let past : a + k ≤ 80 * r = omega (arith, later, at, count) in
          ap (λ ws. take 80 ws) (drop-put_mid a k xs ys (80 * r) past first (line ∙ sym count))

  pub body-kept : drop 240 (put_mid a k xs ys) ≡ drop 240 xs
  body-kept = drop-put_mid a k xs ys 240 (omega (arith, at, count, low)) (omega (arith, at, low, size)) (line ∙ sym count)

pub length-padded : (text : List ℕ) → length text ≤ 80 → length (padded text) ≡ 80
length-padded text fits = length-append text (replicate (80 - length text) 32) ∙ ap (λ n. length text + n) (length-replicate (80 - length text) 32) ∙ omega (arith, fits)

-- a row of a screen that has spaces alone
pub line-blank : (r : ℕ) → r < 3 → take 80 (drop (80 * r) (replicate 240 space)) ≡ replicate 80 space
line-blank r low = ap (λ ws. take 80 ws) (drop-replicate (80 * r) 240 space) ∙ take-replicate 80 (240 - 80 * r) space (omega (arith, low))

-- a pixel of a content that has spaces alone
pub pixel-blank : (r c : ℕ) → r < 22 → c < 80 → get_or (replicate 1760 space) (80 * r + c) 0 ≡ space
pixel-blank r c rows columns = get_or-replicate 1760 (80 * r + c) space 0 (omega (arith, rows, columns))

-- a pixel of the screen: it is one of the chrome, or of the content shown
pub pixel-seen : (f : ScreenState) (body : List ℕ) → length f.chrome ≡ 240 → body ≡ unwrap_or (shown_content f) (replicate 1760 space)
    → (r c : ℕ) → r < 25 → c < 80 → get_or (f.chrome ++ body) (80 * r + c) 0 ≡ seen_at f r c
unfolding seen_at
pixel-seen f body count is r c rows columns = by_row (nat_lt r 3) refl
  where
    below : (shown : Option (List ℕ)) → 3 ≤ r → get_or (unwrap_or shown (replicate 1760 space)) (80 * (r - 3) + c) 0 ≡ pixel_in shown (r - 3) c
    below None high = pixel-blank (r - 3) c (omega (arith, high, rows)) columns
    below (Some pixels) high = refl

    by_row : (above : Bool) → nat_lt r 3 ≡ above → get_or (f.chrome ++ body) (80 * r + c) 0 ≡ (if above then get_or (chrome_at f r) c 0 else pixel_in (shown_content f) (r - 3) c)
    by_row true above =
        let low : r < 3 = grind (arith, nat_tests, above) in
        let inside : 80 * r + c < length f.chrome = omega (arith, low, columns, count) in
        get_or_append_left f.chrome body 0 (80 * r + c) inside ∙ sym (get_or-drop (80 * r) f.chrome c 0) ∙ sym (get_or-take 80 (drop (80 * r) f.chrome) c 0 columns)
    by_row false under =
        let high : 3 ≤ r = grind (arith, nat_tests, under) in
        let past : 240 ≤ 80 * r + c = omega (arith, high) in
        let place : 80 * r + c - 240 ≡ 80 * (r - 3) + c = omega (arith, high) in
        get_or-append_right f.chrome body 240 (80 * r + c) 0 count past ∙ ap (λ k. get_or body k 0) place ∙ ap (λ xs. get_or xs (80 * (r - 3) + c) 0) is ∙ below (shown_content f) high
