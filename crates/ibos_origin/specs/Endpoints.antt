-- Where the pages of an origin are, by the origin's text alone (RFC 6454, section 6.2).
use Rattle.std.specs.Prelude.{ℕ, List, [], ◌∷◌, take, drop, codes, bytes_eq, Option, None}
use Rattle.std.specs.Prelude.{option_map, if◌then◌else◌}
use Rattle.std.specs.Str.Parse.{digits_value}
use Rattle.ibos_kinds.specs.declared.names.Endpoint.{Endpoint}
use Rattle.ibos_text.specs.Parts.{len_before}
use Rattle.ibos_origin.specs.Hosts.{HostTable, address_of}

-- the number behind the colon, or the scheme's own where nothing follows the host
abbrev pub port_behind : ℕ → List ℕ → ℕ
port_behind standard [] = standard
port_behind standard (colon ∷ digits) = digits_value 10 digits

abbrev pub endpoint_behind : HostTable → ℕ → List ℕ → Option Endpoint
endpoint_behind H standard text =
    let len = len_before 58 text in
    option_map (λ addr. record { addr = addr; port = port_behind standard (drop len text) })
    (address_of H.hosts (take len text))

-- the table's address of the origin's host, and the origin's port
unfoldable pub origin_endpoint : HostTable → List ℕ → Option Endpoint
origin_endpoint H origin =
    if bytes_eq (take 7 origin) (codes "http://") then endpoint_behind H 80 (drop 7 origin)
    else if bytes_eq (take 8 origin) (codes "https://") then endpoint_behind H 443 (drop 8 origin)
    else None
