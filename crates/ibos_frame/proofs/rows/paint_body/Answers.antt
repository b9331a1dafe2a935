use Rattle.std.proofs.Common.{◌≡◌, ℕ, ◌+◌, ◌-◌, ◌*◌, ◌<◌, ◌∙◌, List, length, arith, ap, sym, drop, take}
use Rattle.std.specs.Prelude.{slice_index}
use Rattle.std.proofs.lemmas.List.{length-drop, length-take-le, take_all}
use Rattle.std.proofs.lemmas.Slice.{take-put_mid_below}
use Rattle.ibos_kinds.specs.Screens.{cell_after}
use Rattle.ibos_frame.proofs.ScreenPixels.{drop-put_mid_end}
use Rattle.ibos_frame.proofs.rows.paint_body.Goals as goal

pub returns-clause-chrome : goal.returns-clause-chrome
returns-clause-chrome c = take-put_mid_below 240 (length c.args.screen.now - 240) c.args.screen.now c.paint.new.target 240 (omega arith) (omega arith)

pub returns-clause-body : goal.returns-clause-body
returns-clause-body c r col low =
    let a = c.args in
    let n = length a.screen.now - 240 in
    let whole : take n (drop 240 a.screen.now) ≡ drop 240 a.screen.now = take_all n (drop 240 a.screen.now) (simp length-drop (omega arith)) in
    ap (λ xs. slice_index xs (80 * r + col)) (drop-put_mid_end a.screen.now c.paint.new.target 240 n (omega arith) (omega arith)) ∙ c.paint.ensures r col low
    ∙ ap (λ xs. cell_after a.row a.col a.height a.width a.pixels.now r col (slice_index xs (80 * r + col))) whole

pub returns-clause-size : goal.returns-clause-size
returns-clause-size c =
    let n = length c.args.screen.now - 240 in
    let count : length (take n (drop 240 c.args.screen.now)) ≡ 1760 = length-take-le n (drop 240 c.args.screen.now) (simp length-drop (omega arith)) ∙ omega arith in
    ap length (drop-put_mid_end c.args.screen.now c.paint.new.target 240 n (omega arith) (omega arith)) ∙ c.paint.auto.target ∙ count
