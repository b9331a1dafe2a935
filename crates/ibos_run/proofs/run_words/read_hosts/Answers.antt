use Rattle.std.proofs.Common.{List, ℕ, subst}
use Rattle.ibos_origin.specs.Reads.{Reads}
use Rattle.ibos_origin.specs.Tables.{hosts_in}
use Rattle.ibos_run.proofs.Files.{table_file}
use Rattle.ibos_run.proofs.run_words.read_hosts.Goals as goal

pub returns-clause-hosts : goal.returns-clause-hosts
returns-clause-hosts g c =
    let P : List ℕ → Type 0 = λ text. Reads c.read-hosts.result (hosts_in text) in
    table_file _ _ P c.in_ok-table.ensures.bytes (subst P c.as_slice.ensures c.read-hosts.ensures)
