-- Which URLs are allowed, and the page of each.
use Rattle.std.specs.Prelude.{ℕ, List, not, nat_lt, length, Option, Some, None, option_map}
use Rattle.std.specs.Prelude.{unwrap_or, Result, Ok, Err, if◌then◌else◌}
use Rattle.std.specs.Option.{option_or}
use Rattle.std.specs.Str.{is_utf8}
use Rattle.url.specs.Parser.{Parsed, parse_url}
use Rattle.url.specs.Parts.{Parts, serialize, has_credentials, nonempty_host}
use Rattle.url.specs.Host.{host_text}
use Rattle.url.specs.Scheme.{default_port}
use Rattle.url.specs.Origin.{is_http, origin_of, ascii_serialization}
use Rattle.ibos_kinds.specs.declared.names.Endpoint.{Endpoint}
use Rattle.ibos_kinds.specs.declared.rule.Rule.{Rule}
use Rattle.ibos_kinds.specs.declared.rule.Rule.TheVariants.{U4, U5, U6, U7, U8, U9}
use Rattle.ibos_origin.specs.Hosts.{HostTable, address_of}

-- what contracts see of a page
pub record Page : Type 0 where
  pub url : List ℕ
  pub origin : List ℕ
  pub addr : ℕ
  pub port : ℕ

-- where the page's host is
abbrev pub endpoint_of : Page → Endpoint
endpoint_of page = record { addr = page.addr; port = page.port }

-- scheme, host, and the port where it isn't the scheme's default
unfoldable pub origin_text : Parts → List ℕ
origin_text url = ascii_serialization (origin_of url)

abbrev pub port_of : Parts → ℕ
port_of url = unwrap_or (option_or url.port (default_port url.scheme)) 0

abbrev pub page_at : Parts → Option ℕ → Result Page Rule
page_at url None = Err U9
page_at url (Some addr) = Ok (record {
  url = serialize url;
  origin = origin_text url;
  addr = addr;
  port = port_of url;
})

abbrev pub address_at : HostTable → Option (List ℕ) → Option ℕ
address_at H None = None
address_at H (Some name) = address_of H.hosts name

-- the serialized host of a URL
abbrev pub host_of : Parts → Option (List ℕ)
host_of url = option_map host_text (nonempty_host url)

-- the first broken rule of a URL, or its page
unfoldable pub allowed_url : HostTable → Parts → Result Page Rule
allowed_url H url =
    if not (is_http url.scheme) then Err U5
    else if has_credentials url then Err U6
    else if nat_lt 1024 (length (serialize url)) then Err U7
    else if nat_lt 72 (length (origin_text url)) then Err U8
    else page_at url (address_at H (host_of url))

abbrev pub allowed_parsed : HostTable → Parsed Parts → Result Page Rule
allowed_parsed H (Err error) = Err U4
allowed_parsed H (Ok url) = allowed_url H url

-- the first broken rule of a text, or its page
unfoldable pub allowed : HostTable → List ℕ → Result Page Rule
allowed H text = if is_utf8 text then allowed_parsed H (parse_url None text) else Err U4
