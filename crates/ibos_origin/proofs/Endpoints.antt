-- Where a page is follows from its origin.
use Rattle.std.proofs.Common.{◌≡◌, ℕ, ◌+◌, ◌++◌, List, [], ◌∷◌, Bool, true, false, not, cond, Option, Some, None, Ok, Err, Result, length, take, drop, refl, sym, ◌∙◌, ap, subst, arith}
use Rattle.std.specs.Prelude.{◌&&◌, ◌==◌, nat_lt, length, if◌then◌else◌, option_map, unwrap_or, codes, IfOk}
use Rattle.std.specs.List.{list_all}
use Rattle.std.specs.Option.{option_or}
use Rattle.std.specs.Str.{is_utf8}
use Rattle.std.proofs.Math.Seq.{take-append_seam, drop-append_seam}
use Rattle.std.proofs.lemmas.Bool.Decides.{nat_tests}
use Rattle.std.proofs.lemmas.Fmt.{decimal_is_IsNumeral}
use Rattle.url.specs.declared.host.Host.{Host as UrlHost}
use Rattle.url.specs.declared.host.Host.TheVariants.{Domain}
use Rattle.url.specs.Host.{host_text}
use Rattle.url.specs.Parts.{Parts, has_credentials, has_host, host_or_empty, serialize}
use Rattle.url.specs.Parser.{Parsed, parse_url}
use Rattle.url.specs.Scheme.{default_port}
use Rattle.url.specs.Origin.{is_http}
use Rattle.ibos_kinds.specs.declared.names.Endpoint.{Endpoint}
use Rattle.ibos_kinds.specs.declared.rule.Rule.{Rule}
use Rattle.ibos_kinds.specs.declared.rule.Rule.TheVariants.{U4, U5, U6, U7, U8}
use Rattle.ibos_text.specs.Parts.{len_before}
use Rattle.ibos_origin.specs.Hosts.{HostTable, address_of}
use Rattle.ibos_origin.specs.HostLines.{is_name_byte}
use Rattle.ibos_origin.specs.Tables.{HasPlainNames}
use Rattle.ibos_origin.specs.Pages.{Page, endpoint_of, origin_text, port_of, page_at, address_at, host_of, allowed_url, allowed_parsed, allowed}
use Rattle.ibos_origin.specs.Endpoints.{port_behind, endpoint_behind, origin_endpoint}
use Rattle.ibos_origin.proofs.UrlFronts.{IsSmall, IsWeb, Suits, by_web, reads_url, port_text, origin_spelled}
use Rattle.ibos_origin.proofs.OriginTexts.{found_plain}

-- ---- texts of origins

passed : (t : Bool) (n len more : ℕ) → t ≡ false → n ≡ len + more → cond (not t) (1 + n) 0 ≡ 1 + len + more
passed false n len more is same = omega (arith, same)
passed true n len more is same = cc

-- a name has no colon
len_before-name : (name rest : List ℕ) → list_all is_name_byte name ≡ true → len_before 58 (name ++ rest) ≡ length name + len_before 58 rest
len_before-name [] rest is = omega arith
len_before-name (b ∷ name) rest is = by_first (is_name_byte b) refl (λ others. len_before-name name rest others) is
  where
    by_first : (first : Bool) → is_name_byte b ≡ first → (list_all is_name_byte name ≡ true → len_before 58 (name ++ rest) ≡ length name + len_before 58 rest)
        → (first && list_all is_name_byte name) ≡ true → len_before 58 ((b ∷ name) ++ rest) ≡ length (b ∷ name) + len_before 58 rest
    by_first true h more others =
        let no : (b == 58) ≡ false = grind (arith, nat_tests, h) in
        passed (b == 58) (len_before 58 (name ++ rest)) (length name) (len_before 58 rest) no (more others) ∙ omega arith
    by_first false h more others = cc

len_before-port : (port : Option ℕ) → len_before 58 (port_text port) ≡ 0
len_before-port None = refl
len_before-port (Some n) = refl

port_behind-text : (standard : ℕ) (port : Option ℕ) → IsSmall port → port_behind standard (port_text port) ≡ unwrap_or (option_or port (Some standard)) 0
port_behind-text standard None small = refl
port_behind-text standard (Some n) small = (decimal_is_IsNumeral n (omega (arith, small))).1

-- what stands behind the scheme
endpoint_behind-text : (H : HostTable) (standard : ℕ) (host : List ℕ) (port : Option ℕ) (addr : ℕ) → list_all is_name_byte host ≡ true → IsSmall port → address_of H.hosts host ≡ Some addr
    → endpoint_behind H standard (host ++ port_text port) ≡ Some (record { addr = addr; port = unwrap_or (option_or port (Some standard)) 0 })
endpoint_behind-text H standard host port addr plain small found =
    let text = host ++ port_text port in
    let len : len_before 58 text ≡ length host = len_before-name host (port_text port) plain ∙ ap (λ n. length host + n) (len_before-port port) ∙ omega arith in
    let name : take (len_before 58 text) text ≡ host = ap (λ n. take n text) len ∙ take-append_seam host (port_text port) in
    let tail : drop (len_before 58 text) text ≡ port_text port = ap (λ n. drop n text) len ∙ drop-append_seam host (port_text port) in
    at_parts (take (len_before 58 text) text) (drop (len_before 58 text) text) name tail
  where
    at_parts : (name tail : List ℕ) → name ≡ host → tail ≡ port_text port
        → option_map {T = ℕ} {U = Endpoint} (λ a. record { addr = a; port = port_behind standard tail }) (address_of H.hosts name) ≡ Some (record { addr = addr; port = unwrap_or (option_or port (Some standard)) 0 })
    at_parts name tail is ends = rw (is, ends) (rw found (ap (λ p. Some (record { addr = addr; port = p })) (port_behind-text standard port small)))

-- the scheme decides the port that is not written
behind_scheme : (H : HostTable) (scheme : List ℕ) → is_http scheme ≡ true
    → (standard : ℕ) × ((default_port scheme ≡ Some standard) × ((text : List ℕ) → origin_endpoint H (scheme ++ (codes "://" ++ text)) ≡ endpoint_behind H standard text))
unfolding origin_endpoint default_port
behind_scheme H = by_web (λ scheme. (standard : ℕ) × ((default_port scheme ≡ Some standard) × ((text : List ℕ) → origin_endpoint H (scheme ++ (codes "://" ++ text)) ≡ endpoint_behind H standard text)))
    (80, (refl, λ text. refl)) (443, (refl, λ text. refl))

-- ---- pages

host_found : (H : HostTable) (url : Parts) (addr : ℕ) → address_at H (host_of url) ≡ Some addr → address_of H.hosts (host_text (host_or_empty url)) ≡ Some addr
host_found H url addr found = by_host (has_host url) url.host refl found
  where
    by_host : (some : Bool) (host : Option (UrlHost (List ℕ))) → url.host ≡ host → address_at H (option_map host_text (if some then host else None)) ≡ Some addr → address_of H.hosts (host_text (unwrap_or url.host (Domain []))) ≡ Some addr
    by_host true (Some host) is h = rw is h
    by_host true None is h = cc
    by_host false host is h = cc

abbrev Follows : HostTable → Page → Type 0
Follows H page = origin_endpoint H page.origin ≡ Some (endpoint_of page)

url_follows : (H : HostTable) (url : Parts) (addr : ℕ) → HasPlainNames H → is_http url.scheme ≡ true → IsWeb url → address_at H (host_of url) ≡ Some addr
    → origin_endpoint H (origin_text url) ≡ Some (record { addr = addr; port = port_of url })
url_follows H url addr plain web is at =
    let host = host_text (host_or_empty url) in
    let found = host_found H url addr at in
    let scheme = behind_scheme H url.scheme web in
    ap (origin_endpoint H) (origin_spelled url url.port refl web is.port)
    ∙ scheme.1.1 (host ++ port_text url.port)
    ∙ endpoint_behind-text H scheme.0 host url.port addr (found_plain H.hosts host addr plain found) is.small found
    ∙ ap (λ (p : Option ℕ). Some (record { addr = addr; port = unwrap_or (option_or url.port p) 0 })) (sym scheme.1.0)

page_follows : (H : HostTable) (url : Parts) → HasPlainNames H → is_http url.scheme ≡ true → IsWeb url → (addr : Option ℕ) → address_at H (host_of url) ≡ addr → IfOk (page_at url addr) (Follows H)
page_follows H url plain web is None found = tt
page_follows H url plain web is (Some addr) found = url_follows H url addr plain web is found

allowed_url_follows : (H : HostTable) (url : Parts) → HasPlainNames H → Suits url → IfOk (allowed_url H url) (Follows H)
unfolding allowed_url
allowed_url_follows H url plain suits = by_tests (is_http url.scheme) refl (has_credentials url) (nat_lt 1024 (length (serialize url))) (nat_lt 72 (length (origin_text url)))
  where
    by_tests : (web : Bool) → is_http url.scheme ≡ web → (credentials long_url long_origin : Bool)
        → IfOk (if not web then Err U5 else if credentials then Err U6 else if long_url then Err U7 else if long_origin then Err U8 else page_at url (address_at H (host_of url))) (Follows H)
    by_tests false is credentials long_url long_origin = tt
    by_tests true is true long_url long_origin = tt
    by_tests true is false true long_origin = tt
    by_tests true is false false true = tt
    by_tests true is false false false = page_follows H url plain is (suits is) (address_at H (host_of url)) refl

allowed_parsed_follows : (H : HostTable) (r : Parsed Parts) → HasPlainNames H → IfOk r Suits → IfOk (allowed_parsed H r) (Follows H)
allowed_parsed_follows H (Err error) plain suits = tt
allowed_parsed_follows H (Ok url) plain suits = allowed_url_follows H url plain suits

allowed_follows : (H : HostTable) (text : List ℕ) → HasPlainNames H → IfOk (allowed H text) (Follows H)
unfolding allowed
allowed_follows H text plain = by_test (is_utf8 text)
  where
    by_test : (test : Bool) → IfOk (if test then allowed_parsed H (parse_url None text) else Err U4) (Follows H)
    by_test true = allowed_parsed_follows H (parse_url None text) plain (reads_url text).holds
    by_test false = tt

pub endpoint_follows : (H : HostTable) (text : List ℕ) (page : Page) → HasPlainNames H → allowed H text ≡ Ok page → origin_endpoint H page.origin ≡ Some (endpoint_of page)
endpoint_follows H text page plain is = let P : Result Page Rule → Type 0 = λ r. IfOk r (Follows H) in subst P is (allowed_follows H text plain)

-- two pages of one origin are at one place
pub one_endpoint : (H : HostTable) (first second : List ℕ) (p q : Page) → HasPlainNames H → allowed H first ≡ Ok p → allowed H second ≡ Ok q → p.origin ≡ q.origin → endpoint_of p ≡ endpoint_of q
one_endpoint H first second p q plain one other same =
    ap (λ e. unwrap_or e (endpoint_of p)) (sym (endpoint_follows H first p plain one) ∙ ap (origin_endpoint H) same ∙ endpoint_follows H second q plain other)
