use Rattle.std.proofs.Common.{sym, ◌∙◌, ap}
use Rattle.std.specs.Option.{option_map}
use Rattle.ibos_run.specs.Inputs.{input_by}
use Rattle.ibos_run.specs.Forms.{form_of}
use Rattle.ibos_run.proofs.Ends.{broken_right, on_whole, told_registers, told_right}
use Rattle.ibos_run.proofs.run_words.run.Goals as goal

pub returns-in-Ok-run_form-clause-sends : goal.returns-in-Ok-run_form-clause-sends
returns-in-Ok-run_form-clause-sends g c =
    let same = ap (λ form. input_by form (g.C.Cabinet.holds c.args.cabinet.now)) (sym c.read_form.ensures.form ∙ ap (option_map form_of) c.in-Some.is) in
    told_right c.acts_make_runs.ensures c.sends_are_right.ensures.sent _ _ same _ _ _ _ c.in-Ok-run_form.ensures.told

pub returns-in-Err-clause-sends : goal.returns-in-Err-clause-sends
returns-in-Err-clause-sends g c =
    let same = ap (λ form. input_by form (g.C.Cabinet.holds c.args.cabinet.now)) (sym c.read_form.ensures.form ∙ ap (option_map form_of) c.in-Some.is) in
    broken_right c.acts_make_runs.ensures c.sends_are_right.ensures.sent _ _ same _ _ _ _ c.in-Err.ensures.broken

pub returns-in-Ok-run_form-clause-registers : goal.returns-in-Ok-run_form-clause-registers
returns-in-Ok-run_form-clause-registers g c =
    let same = ap (λ form. input_by form (g.C.Cabinet.holds c.args.cabinet.now)) (sym c.read_form.ensures.form ∙ ap (option_map form_of) c.in-Some.is) in
    on_whole _ _ (told_registers _ _ same _ _ _ _ c.in-Ok-run_form.ensures.told)
