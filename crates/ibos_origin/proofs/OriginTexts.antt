-- The origins of allowed URLs are printable.
use Rattle.std.proofs.Common.{◌≡◌, ℕ, ◌<◌, ◌++◌, List, [], ◌∷◌, Bool, true, false, not, Option, Some, None, Ok, Err, Result, refl, ◌∙◌, ap, subst, arith}
use Rattle.std.specs.Prelude.{◌^◌, ◌&&◌, nat_lt, length, if◌then◌else◌, option_map, unwrap_or, codes, decimal, bytes_eq, find, IfOk}
use Rattle.std.specs.List.{list_all}
use Rattle.std.specs.Int.{IsInRange}
use Rattle.std.specs.Str.{is_utf8}
use Rattle.std.proofs.lemmas.Bool.Decides.{nat_tests}
use Rattle.std.proofs.lemmas.Slice.Eq.{bytes_eq-Decides}
use Rattle.std.proofs.lemmas.List.Folds.{list_all-append}
use Rattle.std.proofs.lemmas.List.Elements.{All-weaker}
use Rattle.url.specs.declared.host.Host.{Host as UrlHost}
use Rattle.url.specs.declared.host.Host.TheVariants.{Domain}
use Rattle.url.specs.Host.{host_text}
use Rattle.url.specs.Parts.{Parts, has_credentials, has_host, host_or_empty, serialize}
use Rattle.url.specs.Parser.{Parsed, parse_url}
use Rattle.url.specs.Origin.{is_http}
use Rattle.url.proofs.HostRoundTrip.{All-decimal}
use Rattle.url.proofs.InputLemmas.{Passes, list_all_from_All}
use Rattle.ibos_kinds.specs.Screens.{is_pixel}
use Rattle.ibos_kinds.specs.declared.rule.Rule.{Rule}
use Rattle.ibos_kinds.specs.declared.rule.Rule.TheVariants.{U4, U5, U6, U7, U8}
use Rattle.ibos_origin.specs.Hosts.{Host, HostTable, address_of}
use Rattle.ibos_origin.specs.HostLines.{is_name_byte}
use Rattle.ibos_origin.specs.Tables.{HasPlainNames}
use Rattle.ibos_origin.specs.Pages.{Page, origin_text, page_at, address_at, host_of, allowed_url, allowed_parsed, allowed}
use Rattle.ibos_origin.proofs.UrlFronts.{IsSmall, IsWeb, Suits, by_web, reads_url, port_text, origin_spelled}

abbrev Plain : List Host → Type 0
Plain hosts = list_all (λ host. list_all is_name_byte host.name) hosts ≡ true

pub both : (p : ℕ → Bool) (xs ys : List ℕ) → list_all p xs ≡ true → list_all p ys ≡ true → list_all p (xs ++ ys) ≡ true
both p xs ys first second = list_all-append p xs ys ∙ rw (first, second) refl

-- the bytes of names and of numbers are printable
name_pixels : (name : List ℕ) → list_all is_name_byte name ≡ true → list_all is_pixel name ≡ true
name_pixels [] is = refl
name_pixels (b ∷ name) is = by_first (is_name_byte b) refl (λ rest. name_pixels name rest) is
  where
    pixel : is_name_byte b ≡ true → is_pixel b ≡ true
    pixel h = grind (arith, nat_tests, h)

    by_first : (first : Bool) → is_name_byte b ≡ first → (list_all is_name_byte name ≡ true → list_all is_pixel name ≡ true)
        → (first && list_all is_name_byte name) ≡ true → (is_pixel b && list_all is_pixel name) ≡ true
    by_first true h others rest = rw (pixel h) (others rest)
    by_first false h others rest = cc

number_pixels : (n : ℕ) → n < 2 ^ 16 → list_all is_pixel (decimal n) ≡ true
number_pixels n small = list_all_from_All is_pixel (decimal n)
    (All-weaker (IsInRange 48 57) (Passes is_pixel) (λ b h. grind (arith, nat_tests, h)) (decimal n) (All-decimal n (omega (arith, small))))

port_pixels : (port : Option ℕ) → IsSmall port → list_all is_pixel (port_text port) ≡ true
port_pixels None small = refl
port_pixels (Some n) small = both is_pixel (codes ":") (decimal n) refl (number_pixels n small)

scheme_pixels : (scheme : List ℕ) → is_http scheme ≡ true → list_all is_pixel scheme ≡ true
scheme_pixels = by_web (λ scheme. list_all is_pixel scheme ≡ true) refl refl

-- a host of the table
pub found_plain : (hosts : List Host) (name : List ℕ) (addr : ℕ) → Plain hosts → address_of hosts name ≡ Some addr → list_all is_name_byte name ≡ true
found_plain [] name addr plain found = cc
found_plain (host ∷ hosts) name addr plain found = by_first (list_all is_name_byte host.name) refl (λ rest h. found_plain hosts name addr rest h) plain
  where
    by_name : list_all is_name_byte host.name ≡ true → (address_of hosts name ≡ Some addr → list_all is_name_byte name ≡ true) → (here : Bool) → bytes_eq host.name name ≡ here
        → option_map {U = ℕ} (λ (h : Host). h.addr) (if here then Some host else find (λ h. bytes_eq h.name name) hosts) ≡ Some addr → list_all is_name_byte name ≡ true
    by_name first others true is h = let P : List ℕ → Type 0 = λ n. list_all is_name_byte n ≡ true in subst P ((bytes_eq-Decides host.name name).0 is) first
    by_name first others false is h = others h

    by_first : (first : Bool) → list_all is_name_byte host.name ≡ first → (Plain hosts → address_of hosts name ≡ Some addr → list_all is_name_byte name ≡ true)
        → (first && list_all (λ (h : Host). list_all is_name_byte h.name) hosts) ≡ true → list_all is_name_byte name ≡ true
    by_first true is others rest = by_name is (others rest) (bytes_eq host.name name) refl found
    by_first false is others rest = cc

host_pixels : (H : HostTable) (url : Parts) (addr : ℕ) → HasPlainNames H → address_at H (host_of url) ≡ Some addr → list_all is_pixel (host_text (host_or_empty url)) ≡ true
host_pixels H url addr plain found = by_host (has_host url) url.host refl found
  where
    by_host : (some : Bool) (host : Option (UrlHost (List ℕ))) → url.host ≡ host → address_at H (option_map host_text (if some then host else None)) ≡ Some addr → list_all is_pixel (host_text (unwrap_or url.host (Domain []))) ≡ true
    by_host true (Some host) is h = rw is (name_pixels (host_text host) (found_plain H.hosts (host_text host) addr plain h))
    by_host true None is h = cc
    by_host false host is h = cc

pub origin_pixels : (H : HostTable) (url : Parts) (addr : ℕ) → HasPlainNames H → is_http url.scheme ≡ true → IsWeb url → address_at H (host_of url) ≡ Some addr → list_all is_pixel (origin_text url) ≡ true
origin_pixels H url addr plain web is found =
    ap (list_all is_pixel) (origin_spelled url url.port refl web is.port)
    ∙ both is_pixel url.scheme (codes "://" ++ (host_text (host_or_empty url) ++ port_text url.port)) (scheme_pixels url.scheme web)
    (both is_pixel (codes "://") (host_text (host_or_empty url) ++ port_text url.port) refl (both is_pixel (host_text (host_or_empty url)) (port_text url.port) (host_pixels H url addr plain found) (port_pixels url.port is.small)))

abbrev PlainPage : Page → Type 0
PlainPage page = list_all is_pixel page.origin ≡ true

page_plain : (H : HostTable) (url : Parts) → HasPlainNames H → is_http url.scheme ≡ true → IsWeb url → (addr : Option ℕ) → address_at H (host_of url) ≡ addr → IfOk (page_at url addr) PlainPage
page_plain H url plain web is None found = tt
page_plain H url plain web is (Some addr) found = origin_pixels H url addr plain web is found

allowed_url_plain : (H : HostTable) (url : Parts) → HasPlainNames H → Suits url → IfOk (allowed_url H url) PlainPage
unfolding allowed_url
allowed_url_plain H url plain suits = by_tests (is_http url.scheme) refl (has_credentials url) (nat_lt 1024 (length (serialize url))) (nat_lt 72 (length (origin_text url)))
  where
    by_tests : (web : Bool) → is_http url.scheme ≡ web → (credentials long_url long_origin : Bool)
        → IfOk (if not web then Err U5 else if credentials then Err U6 else if long_url then Err U7 else if long_origin then Err U8 else page_at url (address_at H (host_of url))) PlainPage
    by_tests false is credentials long_url long_origin = tt
    by_tests true is true long_url long_origin = tt
    by_tests true is false true long_origin = tt
    by_tests true is false false true = tt
    by_tests true is false false false = page_plain H url plain is (suits is) (address_at H (host_of url)) refl

allowed_parsed_plain : (H : HostTable) (r : Parsed Parts) → HasPlainNames H → IfOk r Suits → IfOk (allowed_parsed H r) PlainPage
allowed_parsed_plain H (Err error) plain suits = tt
allowed_parsed_plain H (Ok url) plain suits = allowed_url_plain H url plain suits

allowed_plain : (H : HostTable) (text : List ℕ) → HasPlainNames H → IfOk (allowed H text) (λ page. list_all is_pixel page.origin ≡ true)
unfolding allowed
allowed_plain H text plain = by_test (is_utf8 text)
  where
    by_test : (test : Bool) → IfOk (if test then allowed_parsed H (parse_url None text) else Err U4) PlainPage
    by_test true = allowed_parsed_plain H (parse_url None text) plain (reads_url text).holds
    by_test false = tt

pub origins_are_plain : (H : HostTable) (text : List ℕ) (page : Page) → HasPlainNames H → allowed H text ≡ Ok page → list_all is_pixel page.origin ≡ true
origins_are_plain H text page plain is = let P : Result Page Rule → Type 0 = λ r. IfOk r PlainPage in subst P is (allowed_plain H text plain)
