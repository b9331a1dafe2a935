-- The host table: this machine's addresses, and the hosts with theirs.
use Rattle.std.specs.Prelude.{ℕ, List, Option, map, option_map, find, bytes_eq}
use Rattle.ibos_kinds.specs.declared.names.Local.{Local}

pub record Host : Type 0 where
  pub name : List ℕ
  pub addr : ℕ

pub record HostTable : Type 0 where
  pub local : Local
  -- in the order of their lines
  pub hosts : List Host

-- the address of the first line of that name
abbrev pub address_of : List Host → List ℕ → Option ℕ
address_of hosts name = option_map (λ host.
    host.addr) (find (λ host. bytes_eq host.name name) hosts)

abbrev pub host_of : List ℕ → ℕ → Host
host_of name addr = record { name = name; addr = addr }

abbrev pub names_of : List Host → List (List ℕ)
names_of hosts = map (λ host. host.name) hosts
