use Rattle.std.proofs.Common.{◌≡◌, List, ℕ, Err, subst, sym}
use Rattle.ibos_capture.specs.Captures.{index_in}
use Rattle.ibos_capture.specs.Reads.{Reads}
use Rattle.ibos_capture.specs.declared.fault.CaptureFault.{CaptureFault}
use Rattle.ibos_capture.specs.declared.index.Entry.{Entry}
use Rattle.ibos_capture.proofs.EntriesRead.{next_cut}
use Rattle.ibos_capture.proofs.reader.IndexReader.cut.Goals as goal

pub returns-clause-refused : goal.returns-clause-refused
returns-clause-refused c = λ file len read says cut.
    let P : CaptureFault → Type 0 = λ fault. Reads {T = List Entry} (Err fault) (index_in file) in
    subst P (sym c.at_next.ensures) (next_cut file c.args.self.now len read says cut)
