use Rattle.std.proofs.Common.{◌+◌, ◌-◌, ◌*◌, ◌∙◌, length, arith, ap}
use Rattle.ibos_frame.proofs.ScreenPixels.{line-written, line-other, body-kept, length-padded}
use Rattle.ibos_frame.proofs.rows.write_row.Goals as goal

pub returns-clause-row : goal.returns-clause-row
returns-clause-row c =
    let row = c.args.row in
    line-written c.args.pixels.now c.write_line.new.line row (row * 80) (row * 80 + 80 - row * 80) (omega arith) (omega arith) c.requires.row c.requires.screen (ap length c.write_line.ensures ∙ length-padded c.args.text.now c.requires.fits) ∙ c.write_line.ensures

pub returns-clause-rows : goal.returns-clause-rows
returns-clause-rows c =
    let row = c.args.row in
    line-other c.args.pixels.now c.write_line.new.line row (row * 80) (row * 80 + 80 - row * 80) (omega arith) (omega arith) c.requires.row c.requires.screen (ap length c.write_line.ensures ∙ length-padded c.args.text.now c.requires.fits)

pub returns-clause-body : goal.returns-clause-body
returns-clause-body c =
    let row = c.args.row in
    body-kept c.args.pixels.now c.write_line.new.line row (row * 80) (row * 80 + 80 - row * 80) (omega arith) (omega arith) c.requires.row c.requires.screen (ap length c.write_line.ensures ∙ length-padded c.args.text.now c.requires.fits)
