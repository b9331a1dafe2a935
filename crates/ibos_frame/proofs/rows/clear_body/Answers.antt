use Rattle.std.proofs.Common.{◌≡◌, ◌-◌, ◌∙◌, length, arith, ap, replicate, take, drop}
use Rattle.std.proofs.lemmas.List.{length-take-le, length-drop}
use Rattle.std.proofs.lemmas.Slice.{take-put_mid_below}
use Rattle.ibos_frame.proofs.ScreenPixels.{drop-put_mid_end}
use Rattle.ibos_frame.proofs.rows.clear_body.Goals as goal

pub returns-clause-chrome : goal.returns-clause-chrome
returns-clause-chrome c = take-put_mid_below 240 (length c.args.pixels.now - 240) c.args.pixels.now c.fill.new.self 240 (omega arith) (omega arith)

pub returns-clause-body : goal.returns-clause-body
returns-clause-body c =
    let count : length (take (length c.args.pixels.now - 240) (drop 240 c.args.pixels.now)) ≡ 1760 = length-take-le (length c.args.pixels.now - 240) (drop 240 c.args.pixels.now) (simp length-drop (omega arith)) ∙ omega arith in
    drop-put_mid_end c.args.pixels.now c.fill.new.self 240 (length c.args.pixels.now - 240) (omega arith) (omega arith) ∙ c.fill.ensures.after (λ y e. e) ∙ ap (λ n. replicate n 32) count
