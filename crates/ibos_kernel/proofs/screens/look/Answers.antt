use Rattle.std.proofs.Common.{◌+◌, ◌*◌, ◌-◌, ◌<◌, List, [], ◌∷◌, ◌++◌, ◌∙◌, ap, arith}
use Rattle.ibos_kinds.specs.declared.outcome.Item.{Item}
use Rattle.ibos_kinds.specs.declared.outcome.Item.TheVariants.{RowIs}
use Rattle.ibos_frame.specs.ScreenStates.{seen_at}
use Rattle.ibos_model.specs.Screen.{seen_row}
use Rattle.ibos_kernel.proofs.RowsTrimmed.{seen_text, rows-next}
use Rattle.ibos_kernel.proofs.screens.look.Goals as goal

pub rows-preserved : goal.rows-preserved
rows-preserved c =
    let row = c.rows.row in
    let within : row < 25 = c.rows-test.true in
    let pushed = c.in_ok-push.ensures in
    let text = c.in_ok-text.ensures ∙ seen_text c.pixels-pixels.result.now (seen_at c.args.screen.now) row (80 * row + 80 - 80 * row) (omega arith) c.pixels-pixels.ensures.count c.pixels-pixels.ensures.pixels within in (
      omega (arith, within),
      pushed.head ∙ c.rows.invariant.1,
      pushed.ok ∙ ap (λ (items : List Item). items ++ RowIs row c.in_ok-text.text ∷ []) c.rows.invariant.2 ∙ rows-next row (seen_row (seen_at c.args.screen.now)) c.in_ok-text.text text,
    )
