-- The rows below the chrome, drawn as the content that they show.
use Rattle.std.proofs.Common.{◌≡◌, ◌≢◌, ℕ, ◌+◌, ◌*◌, ◌/◌, ◌%◌, ◌<◌, Bool, true, List, length, Option, Some, None, refl, sym, ◌∙◌, ap, subst, arith, get_or, replicate}
use Rattle.std.specs.Prelude.{IfSome, is_some, unwrap_or}
use Rattle.std.proofs.lemmas.List.{ext_get_or}
use Rattle.std.proofs.Math.Nat.{div-add-mod}
use Rattle.ibos_kinds.specs.declared.names.Instance.{Instance}
use Rattle.ibos_kinds.specs.Screens.{cell_after, space}
use Rattle.ibos_frame.specs.ScreenStates.{body_of, content_in, pixel_in}

-- 22 rows are known by their cells
cells_one : (xs ys : List ℕ) → length xs ≡ 1760 → length ys ≡ 1760 → ((r c : ℕ) → c < 80 → get_or xs (80 * r + c) 0 ≡ get_or ys (80 * r + c) 0) → xs ≡ ys
cells_one xs ys size long same = ext_get_or 0 xs ys (size ∙ sym long) (λ i within.
    let place : 80 * (i / 80) + i % 80 ≡ i = omega arith in
    let left : i % 80 < 80 = omega arith in
    subst (λ k. get_or xs k 0 ≡ get_or ys k 0) place (same (i / 80) (i % 80) left))

module _ (row col height width : ℕ) (pixels before after : List ℕ) (drawn : (r c : ℕ) → c < 80 → get_or after (80 * r + c) 0 ≡ cell_after row col height width pixels r c (get_or before (80 * r + c) 0)) (size : length after ≡ 1760) where
  content_drawn : (old new : Option (List ℕ)) → is_some old ≡ true → new ≢ None → IfSome new (λ xs. length xs ≡ 1760) → before ≡ unwrap_or old (replicate 1760 space)
      → ((r c : ℕ) → c < 80 → pixel_in new r c ≡ cell_after row col height width pixels r c (pixel_in old r c)) → after ≡ unwrap_or new (replicate 1760 space)
  content_drawn None new there kept long is cells = absurd (cc there)
  content_drawn (Some xs) None there kept long is cells = absurd (kept refl)
  content_drawn (Some xs) (Some ys) there kept long is cells = cells_one after ys size long (λ r c low.
      drawn r c low ∙ ap (λ zs. cell_after row col height width pixels r c (get_or zs (80 * r + c) 0)) is ∙ sym (cells r c low))

  -- the rows stay those of the content that they show
  pub body_drawn : (contents new : List (Option (List ℕ))) (shown : Option Instance) (who : Instance) → shown ≡ Some who → before ≡ body_of contents shown
      → is_some (content_in contents who) ≡ true → content_in new who ≢ None → IfSome (content_in new who) (λ xs. length xs ≡ 1760)
      → ((r c : ℕ) → c < 80 → pixel_in (content_in new who) r c ≡ cell_after row col height width pixels r c (pixel_in (content_in contents who) r c)) → after ≡ body_of new shown
  body_drawn contents new shown who shows is there kept long cells =
      let P : Option Instance → Type 0 = λ o. before ≡ body_of contents o → after ≡ body_of new o in
      subst P (sym shows) (λ was. content_drawn (content_in contents who) (content_in new who) there kept long was cells) is
