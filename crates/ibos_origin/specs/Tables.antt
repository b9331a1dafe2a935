-- The host table that a text writes, or its first fault and the line of that.
use Rattle.std.specs.Prelude.{◌≡◌, ℕ, ◌+◌, ◌^◌, ◌<◌, true, bytes_eq, List, [], ◌∷◌, ◌++◌, nat_lt}
use Rattle.std.specs.Prelude.{nat_le, length, fold, Option, Some, None, is_some, Result, Ok, Err}
use Rattle.std.specs.Prelude.{if◌then◌else◌}
use Rattle.ibos_origin.specs.declared.fault.HostFault.{HostFault}
use Rattle.ibos_origin.specs.declared.fault.HostFault.TheVariants.{Form, Twice, Many, NoSelf}
use Rattle.ibos_origin.specs.declared.fault.HostFault.TheVariants.{TooLong}
use Rattle.ibos_text.specs.Lines.{lines_of}
use Rattle.std.specs.List.{list_all, IsDistinct}
use Rattle.ibos_origin.specs.HostLines.{HostLine, is_name_byte, is_name, Nothing, Own, Gateway}
use Rattle.ibos_origin.specs.HostLines.{Named, host_line_in}
use Rattle.ibos_origin.specs.Hosts.{Host, HostTable, address_of, host_of, names_of}

-- each host's name has the bytes of a name
abbrev pub HasPlainNames : HostTable → Type 0
HasPlainNames H = list_all (λ host. list_all is_name_byte host.name) H.hosts ≡ true

-- What holds of each host table that was read.
pub record IsSound (H : HostTable) : Type 0 where
  -- a MAC address has 48 bits
  pub mac : H.local.mac < 2 ^ 48
  pub gateway : H.local.gateway < 2 ^ 48
  -- each name is one: its length too
  pub names : list_all (λ host. is_name host.name) H.hosts ≡ true
  pub plain : HasPlainNames H
  -- no two hosts have one name
  pub distinct : IsDistinct bytes_eq (names_of H.hosts)

-- what lines have said
pub record PartialTable : Type 0 where
  -- how many lines there were
  pub lines : ℕ
  -- the own address and MAC address
  pub own : Option (ℕ × ℕ)
  pub gateway : Option ℕ
  pub hosts : List Host

abbrev pub nothing_read : PartialTable
nothing_read = record { lines = 0; own = None; gateway = None; hosts = [] }

-- one more line that was read, or why it is refused
abbrev pub with_host_line : PartialTable → Option HostLine → Result PartialTable HostFault
with_host_line table None = Err Form
with_host_line table (Some Nothing) = Ok table
with_host_line table (Some (Own addr mac)) =
    if is_some table.own then Err Twice else Ok (record table { own = Some (addr, mac) })
with_host_line table (Some (Gateway mac)) =
    if is_some table.gateway then Err Twice else Ok (record table { gateway = Some mac })
with_host_line table (Some (Named name addr)) =
    if is_some (address_of table.hosts name) then Err Twice
    else if nat_le 4096 (length table.hosts) then Err Many
    else Ok (record table { hosts = table.hosts ++ host_of name addr ∷ [] })

-- a fault with its line
abbrev pub at_line : {T : Type 0} → ℕ → Result T HostFault → Result T (ℕ × HostFault)
at_line number (Ok table) = Ok table
at_line number (Err fault) = Err (number, fault)

-- one more line, unless an earlier one has a fault
abbrev pub with_line : Result PartialTable (ℕ × HostFault) → List ℕ
    → Result PartialTable (ℕ × HostFault)
with_line (Err fault) line = Err fault
with_line (Ok table) line =
    at_line (table.lines + 1) (with_host_line (record table { lines = table.lines + 1 })
    (host_line_in line))

-- both the own addresses and the gateway have to be there in the end
abbrev pub table_with : ℕ → Option (ℕ × ℕ) → Option ℕ → List Host → Result HostTable (ℕ × HostFault)
table_with lines (Some own) (Some gateway) hosts =
    Ok (record { local = record { addr = own.0; mac = own.1; gateway = gateway }; hosts = hosts })
table_with lines own gateway hosts = Err (lines + 1, NoSelf)

abbrev pub table_of : Result PartialTable (ℕ × HostFault) → Result HostTable (ℕ × HostFault)
table_of (Err fault) = Err fault
table_of (Ok table) = table_with table.lines table.own table.gateway table.hosts

-- the host table of a text
unfoldable pub hosts_in : List ℕ → Result HostTable (ℕ × HostFault)
hosts_in text =
    if nat_lt 4194304 (length text) then Err (0, TooLong)
    else table_of (fold with_line (Ok nothing_read) (lines_of text))
