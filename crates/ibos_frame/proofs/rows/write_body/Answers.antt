use Rattle.std.proofs.Common.{◌-◌, ◌∙◌, length, arith}
use Rattle.std.proofs.lemmas.Slice.{take-put_mid_below}
use Rattle.ibos_frame.proofs.ScreenPixels.{drop-put_mid_end}
use Rattle.ibos_frame.proofs.rows.write_body.Goals as goal

pub returns-clause-chrome : goal.returns-clause-chrome
returns-clause-chrome c = take-put_mid_below 240 (length c.args.pixels.now - 240) c.args.pixels.now c.copy_from_slice.new.self 240 (omega arith) (omega arith)

pub returns-clause-body : goal.returns-clause-body
returns-clause-body c = drop-put_mid_end c.args.pixels.now c.copy_from_slice.new.self 240 (length c.args.pixels.now - 240) (omega arith) (omega arith) ∙ c.copy_from_slice.ensures.after
