use Rattle.std.proofs.Common.{◌≡◌, Ok, Err, subst}
use Rattle.ibos_origin.specs.declared.fault.HostsFault.{HostsFault}
use Rattle.ibos_origin.specs.Reads.{Refuses}
use Rattle.ibos_origin.specs.Tables.{hosts_in}
use Rattle.ibos_make.proofs.DrillHosts.{table_text, table-read}
use Rattle.ibos_make.proofs.drilling.drill_hosts.Goals as goal

pub unreachable-requires : goal.unreachable-requires
unreachable-requires c =
    let P : HostsFault → Type 0 = λ fault. Refuses fault (hosts_in table_text) in
    let refused : hosts_in table_text ≡ Err (c.in-Err-At.field-0-0, c.in-Err-At.field-0-1) = subst P c.in-Err-At.field-0-is c.in-Err-At.ensures in
    cc table-read

pub returns-in-Ok : goal.returns-in-Ok
returns-in-Ok c =
    let read : hosts_in table_text ≡ Ok c.in-Ok.hosts = c.in-Ok.ensures in
    cc table-read
