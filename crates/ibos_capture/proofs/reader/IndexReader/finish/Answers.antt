use Rattle.std.proofs.Common.{◌≡◌, ◌∙◌, Ok, List, ap, sym}
use Rattle.ibos_capture.specs.Progress.{Progress}
use Rattle.ibos_capture.specs.declared.index.Entry.{Entry}
use Rattle.ibos_capture.proofs.EntriesRead.{all_frames, all_read}
use Rattle.ibos_capture.proofs.reader.IndexReader.finish.Goals as goal

pub returns-clause-reads : goal.returns-clause-reads
returns-clause-reads c = λ file read done. all_read file c.args.self read done ∙ ap (λ (p : Progress). Ok p.entries) (sym c.self.view_is) ∙ ap (λ (es : List Entry). Ok es) (sym c.new.ensures)

pub returns-clause-frames : goal.returns-clause-frames
returns-clause-frames c = λ file read done.
    all_frames file c.new.result (all_read file c.args.self read done ∙ ap (λ (p : Progress). Ok p.entries) (sym c.self.view_is) ∙ ap (λ (es : List Entry). Ok es) (sym c.new.ensures))
