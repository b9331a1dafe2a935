use Rattle.std.proofs.Common.{ℕ, List, subst}
use Rattle.ibos_kinds.specs.declared.outcome.Item.{Item}
use Rattle.ibos_outcome.specs.Printed.{line_text, item_text, IsCutShort}
use Rattle.std.proofs.lemmas.Result.{err_from_is_err_and}
use Rattle.ibos_outcome.proofs.CutTexts.{IsCutShort-in_piece}
use Rattle.ibos_outcome.proofs.printed.write_items.Goals as goal

pub returns-in_err-write_item : goal.returns-in_err-write_item
returns-in_err-write_item c =
    let f : Item → List ℕ = λ item. line_text c.args.digits.now (item_text item) in
    let p = err_from_is_err_and c.from_residual.result c.from_residual.ensures.1 in rw p.1
    (IsCutShort-in_piece f c.args.items.now c.loop-item.item-index c.item-item.result _ _ _ c.loop-item-test.true c.loop-item.invariant
    (subst (λ item. IsCutShort c.loop-item.text c.write_item.new.text (f item)) c.item-item.is c.in_err-write_item.ensures))
