use Rattle.std.proofs.Common.{◌≡◌, ◌∙◌, ◌+◌, ◌++◌, [], ◌∷◌, List, ap}
use Rattle.ibos_capture.specs.Captures.{entry}
use Rattle.ibos_capture.specs.Progress.{Progress, behind}
use Rattle.ibos_capture.specs.declared.index.Entry.{Entry}
use Rattle.ibos_capture.proofs.EntriesRead.{next_read}
use Rattle.ibos_capture.proofs.reader.IndexReader.push.Goals as goal

pub returns-clause-pushed : goal.returns-clause-pushed
returns-clause-pushed c = λ file read says within.
    let with_entries : List Entry → Progress = λ es. record { endian = c.self.inside.endian; place = c.self.inside.place + 16 + c.args.len; entries = es } in
    let grown = c.in_ok-push.ensures.items ∙ ap (λ (e : Entry). c.self.inside.entries.items ++ e ∷ []) c.new-next.ensures in
    next_read file c.args.self.now _ c.args.len (ap with_entries grown ∙ ap (behind c.args.len) c.self.view_is) read says within
