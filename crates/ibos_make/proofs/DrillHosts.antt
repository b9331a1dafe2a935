-- The host table of a drill is what its text says.
use Rattle.std.proofs.Common.{◌≡◌, ℕ, List, Ok, codes, refl}
use Rattle.std.specs.Fmt.{digits}
use Rattle.ibos_text.specs.Lines.{pieces_of, lines_of}
use Rattle.ibos_text.specs.Words.{words_of}
use Rattle.ibos_origin.specs.Addresses.{addr_in, mac_in}
use Rattle.ibos_origin.specs.HostLines.{host_line_by, host_line_in}
use Rattle.ibos_origin.specs.Tables.{hosts_in}
use Rattle.ibos_make.specs.Drill.{host_name, drill_table}

abbrev pub table_text : List ℕ
table_text = codes "self 192.0.2.10 02:00:00:00:00:01\ngateway 02:00:00:00:00:fe\nhost h0.example 198.51.100.0\nhost h1.example 198.51.100.1\nhost h2.example 198.51.100.2\nhost h3.example 198.51.100.3\nhost h4.example 198.51.100.4\nhost h5.example 198.51.100.5\nhost h6.example 198.51.100.6\nhost h7.example 198.51.100.7\n"

pub table-read : hosts_in table_text ≡ Ok drill_table
unfolding digits pieces_of lines_of words_of addr_in mac_in host_line_by host_line_in hosts_in host_name
table-read = refl
