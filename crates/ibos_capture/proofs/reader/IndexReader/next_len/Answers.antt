use Rattle.std.proofs.Common.{◌≡◌, ◌∙◌, List, ℕ, Err, ap, subst, sym}
use Rattle.ibos_capture.specs.Captures.{index_in}
use Rattle.ibos_capture.specs.Progress.{Progress, said_len}
use Rattle.ibos_capture.specs.Reads.{Reads}
use Rattle.ibos_capture.specs.declared.fault.CaptureFault.{CaptureFault}
use Rattle.ibos_capture.specs.declared.index.Entry.{Entry}
use Rattle.ibos_capture.proofs.EntriesRead.{next_refused}
use Rattle.ibos_capture.proofs.Fronts.{said_of_front}
use Rattle.ibos_capture.proofs.reader.IndexReader.next_len.Goals as goal

pub returns-in-Ok-clause-len : goal.returns-in-Ok-clause-len
returns-in-Ok-clause-len c = λ file is.
    let p : Progress = c.args.self.now in
    sym (said_of_front p.endian file c.args.header.now p.place is) ∙ ap (λ (q : Progress). said_len q.endian c.args.header.now) (sym c.self.view_is) ∙ sym c.in-Ok.ensures.exact

pub returns-in-Err-clause-refused : goal.returns-in-Err-clause-refused
returns-in-Err-clause-refused c = λ file read is.
    let P : CaptureFault → Type 0 = λ fault. Reads {T = List Entry} (Err fault) (index_in file) in
    let said = ap (λ (q : Progress). said_len q.endian c.args.header.now) (sym c.self.view_is) ∙ sym c.in-Err.ensures.exact in
    subst P (sym c.at_next.ensures) (next_refused file c.args.header.now c.args.self.now c.in-Err.fault read is c.requires said)
