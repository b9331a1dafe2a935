use Rattle.std.proofs.Common.{◌≡◌, List, ap, sym}
use Rattle.ibos_capture.specs.Progress.{Progress}
use Rattle.ibos_capture.specs.declared.index.Entry.{Entry}
use Rattle.ibos_capture.proofs.EntriesRead.{begin_refused, begun}
use Rattle.ibos_capture.proofs.reader.IndexReader.begin.Goals as goal

pub returns-in-Ok-clause-begun : goal.returns-in-Ok-clause-begun
returns-in-Ok-clause-begun c = λ file short is.
    let with_entries : List Entry → Progress = λ es. record { endian = c.in-Ok.endian; place = 24; entries = es } in
    begun file c.args.front.now c.in-Ok.endian _ short is c.in-Ok.ensures.header (sym c.in-Ok.ensures.exact) (ap with_entries c.new.ensures.items)

pub returns-in-Err-clause-refused : goal.returns-in-Err-clause-refused
returns-in-Err-clause-refused c = λ file short is. begin_refused file c.args.front.now c.in-Err.fault short is (sym c.in-Err.ensures.exact)
