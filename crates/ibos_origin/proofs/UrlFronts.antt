-- The serialization of an allowed URL begins with its origin.
use Rattle.std.proofs.Common.{◌≡◌, ℕ, ◌<◌, ◌≤◌, ◌++◌, List, [], ◌∷◌, Bool, true, false, not, take, drop, Option, Some, None, Ok, Err, Result, refl, sym, ◌∙◌, ap, subst, append_assoc, inl, inr, arith}
use Rattle.std.specs.Prelude.{◌^◌, ◌&&◌, ◌||◌, ◌==◌, nat_eq, nat_lt, length, if◌then◌else◌, is_some, unwrap_or, codes, decimal, bytes_eq, IfOk}
use Rattle.std.specs.List.{concat, list_all}
use Rattle.std.specs.Char.{is_ascii_digit}
use Rattle.std.specs.Str.Parse.{digits_value}
use Rattle.std.specs.Option.{option_eq, option_or}
use Rattle.std.specs.Str.{is_utf8}
use Rattle.std.proofs.lemmas.Bool.{cases_Bool, cond_both, cond-true, cond-false, or_parts}
use Rattle.std.proofs.lemmas.Bool.Decides.{nat_tests}
use Rattle.std.proofs.lemmas.List.{append-nil}
use Rattle.std.proofs.lemmas.Slice.Eq.{bytes_eq-Decides}
use Rattle.url.specs.declared.error.ParseError.TheVariants.{EmptyHost}
use Rattle.url.specs.declared.host.Host.{Host}
use Rattle.url.specs.declared.host.Host.TheVariants.{Domain}
use Rattle.url.specs.declared.scheme.SchemeType.TheVariants.{File, SpecialNotFile, NotSpecial}
use Rattle.url.specs.Input.{is_empty, lowercase, split_once, rsplit_once}
use Rattle.url.specs.Scheme.{default_port, scheme_type, is_special, is_file}
use Rattle.url.specs.Host.{host_text, parse_host, parse_file_host}
use Rattle.url.specs.Parts.{Parts, kind_of, has_credentials, host_or_empty, pieces, serialize, text_between}
use Rattle.url.specs.declared.slicing.Position.TheVariants.{BeforeScheme, AfterPort}
use Rattle.url.specs.Path.{segment_len, is_windows_drive_letter, parse_path, parse_path_start, escape_end}
use Rattle.url.specs.Head.{scheme_only, with_authority}
use Rattle.url.specs.Parser.{Parsed, and_then, split_port, lacks_host, leading_slashes, without_default_port, parse_port, parse_authority, with_path, after_double_slash, parse_non_special, file_with_host, after_file_double_slash, parse_file, parse_not_file, parse_body, with_tail, end_path, before_tail, parse_parts, parse_by_scheme, parse_url}
use Rattle.url.specs.Origin.{is_http, origin_of, ascii_serialization}
use Rattle.ibos_kinds.specs.declared.rule.Rule.{Rule}
use Rattle.ibos_kinds.specs.declared.rule.Rule.TheVariants.{U4, U5, U6, U7, U8}
use Rattle.ibos_origin.specs.Hosts.{HostTable}
use Rattle.ibos_origin.specs.Pages.{Page, origin_text, page_at, address_at, host_of, allowed_url, allowed_parsed, allowed}

-- ---- what the parser gives

-- a port has 16 bits
abbrev pub IsSmall : Option ℕ → Type 0
IsSmall None = Unit {0}
IsSmall (Some n) = n < 2 ^ 16

-- a web URL has a host, and its port is not its scheme's default
pub record IsWeb (url : Parts) : Type 0 where
  pub host : is_some url.host ≡ true
  pub port : option_eq nat_eq url.port (default_port url.scheme) ≡ false
  pub small : IsSmall url.port

abbrev pub Suits : Parts → Type 0
Suits url = is_http url.scheme ≡ true → IsWeb url

-- what was read suits
pub record Reads (r : Parsed Parts) : Type 0 where
  pub holds : IfOk r Suits

-- the port suits the scheme
abbrev SuitsPort : List ℕ → Option ℕ → Type 0
SuitsPort scheme port = is_http scheme ≡ true → (option_eq nat_eq port (default_port scheme) ≡ false) × IsSmall port

always : {T : Type 0} (r : Parsed T) → IfOk r (λ x. Unit {0})
always (Ok x) = tt
always (Err e) = tt

then_reads : {T : Type 0} (P : T → Type 0) (r : Parsed T) (next : T → Parsed Parts) → IfOk r P → ((x : T) → P x → Reads (next x)) → Reads (and_then r next)
then_reads P (Ok x) next holds later = later x holds
then_reads P (Err e) next holds later = record { holds = tt }

pub by_web : (P : List ℕ → Type 0) → P (codes "http") → P (codes "https") → (scheme : List ℕ) → is_http scheme ≡ true → P scheme
by_web P plain secure scheme web = elim (cases_Bool (bytes_eq scheme (codes "http"))) [
  | inl is ↦ subst P (sym ((bytes_eq-Decides scheme (codes "http")).0 is)) plain
  | inr other ↦ subst P (sym ((bytes_eq-Decides scheme (codes "https")).0 (second _ _ web other))) secure
]
  where
    second : (a b : Bool) → (a || b) ≡ true → a ≡ false → b ≡ true
    second true b h k = cc
    second false b h k = h

no_port_suits : (scheme : List ℕ) → is_http scheme ≡ true → option_eq nat_eq None (default_port scheme) ≡ false
unfolding default_port
no_port_suits = by_web (λ scheme. option_eq nat_eq None (default_port scheme) ≡ false) refl refl

none_suits : (scheme : List ℕ) → SuitsPort scheme None
none_suits scheme web = (no_port_suits scheme web, tt)

rest_suits : (scheme : List ℕ) (port : Option ℕ) → IsSmall port → SuitsPort scheme (without_default_port scheme port)
rest_suits scheme port small web = cond_both (option_eq nat_eq port (default_port scheme)) None port (λ p. (option_eq nat_eq p (default_port scheme) ≡ false) × IsSmall p) (λ _. none_suits scheme web) (λ other. (other, small))

small_from : (all : Bool) (n : ℕ) → (all && nat_lt n (2 ^ 16)) ≡ true → n < 2 ^ 16
small_from true n h = grind (arith, nat_tests, h)
small_from false n h = cc

port_suits : (scheme digits : List ℕ) → IfOk (parse_port scheme digits) (SuitsPort scheme)
unfolding parse_port
port_suits scheme digits =
    cond_both (is_empty digits) _ _ (λ (r : Parsed (Option ℕ)). IfOk r (SuitsPort scheme)) (λ _. none_suits scheme)
    (λ _. cond_both (list_all is_ascii_digit digits && nat_lt (digits_value 10 digits) (2 ^ 16)) _ _ (λ (r : Parsed (Option ℕ)). IfOk r (SuitsPort scheme))
    (λ few. rest_suits scheme (Some (digits_value 10 digits)) (small_from (list_all is_ascii_digit digits) (digits_value 10 digits) few)) (λ _. tt))

reads_authority : (scheme bytes : List ℕ) → Reads (parse_authority scheme bytes)
unfolding parse_authority
reads_authority scheme bytes =
    let at = rsplit_once 64 bytes in
    let host_port = split_port at.1 in
    let userinfo = split_once 58 (unwrap_or at.0 []) in
    let with_port : (host : Host (List ℕ)) → Option ℕ → Parsed Parts = λ host port. Ok (with_authority scheme userinfo.0 (unwrap_or userinfo.1 []) host port) in
    let with_host : Host (List ℕ) → Parsed Parts = λ host. and_then (parse_port scheme (unwrap_or host_port.1 [])) (with_port host) in
    cond_both (lacks_host at.0 host_port.0 host_port.1) (Err EmptyHost) (and_then (parse_host (scheme_type scheme) host_port.0) with_host) Reads (λ _. record { holds = tt })
    (λ _. then_reads (λ host. Unit {0}) (parse_host (scheme_type scheme) host_port.0) with_host (always (parse_host (scheme_type scheme) host_port.0))
    (λ host _. then_reads (SuitsPort scheme) (parse_port scheme (unwrap_or host_port.1 [])) (with_port host) (port_suits scheme (unwrap_or host_port.1 []))
    (λ port suits. record { holds = λ web. record { host = refl; port = (suits web).0; small = (suits web).1 } })))

reads_slashes : (scheme bytes : List ℕ) → Reads (after_double_slash scheme bytes)
unfolding after_double_slash
reads_slashes scheme bytes =
    let len = segment_len (scheme_type scheme) bytes in
    then_reads Suits (parse_authority scheme (take len bytes)) _ (reads_authority scheme (take len bytes)).holds
    (λ head suits. record { holds = λ web. record { host = (suits web).host; port = (suits web).port; small = (suits web).small } })

pub web_kind : (scheme : List ℕ) → is_http scheme ≡ true → scheme_type scheme ≡ SpecialNotFile
unfolding scheme_type default_port
web_kind = by_web (λ scheme. scheme_type scheme ≡ SpecialNotFile) refl refl

pub http_special : (scheme : List ℕ) → is_http scheme ≡ true → is_special (scheme_type scheme) ≡ true
http_special scheme web = ap is_special (web_kind scheme web)

clash : {T : Type 0} (b : Bool) → b ≡ true → b ≡ false → T
clash true h k = cc
clash false h k = cc

reads_plain : (scheme body : List ℕ) → is_special (scheme_type scheme) ≡ false → Reads (parse_non_special scheme body)
unfolding parse_non_special
reads_plain scheme body plain =
    let slashes = leading_slashes NotSpecial body in
    cond_both (slashes == 2) (after_double_slash scheme (drop 2 body)) _ Reads (λ _. reads_slashes scheme (drop 2 body))
    (λ _. cond_both (slashes == 1) (Ok (with_path (scheme_only scheme) (parse_path NotSpecial [] (drop 1 body)))) _ Reads
    (λ _. record { holds = λ web. clash _ (http_special scheme web) plain }) (λ _. record { holds = λ web. clash _ (http_special scheme web) plain }))

reads_not_file : (scheme body : List ℕ) → Reads (parse_not_file scheme None body)
reads_not_file scheme body = cond_both (is_special (scheme_type scheme)) _ _ Reads (λ _. reads_slashes scheme _) (λ plain. reads_plain scheme body plain)

file_suits : (host : Host (List ℕ)) (path : List ℕ) → Suits (with_path (file_with_host host) path)
file_suits host path web = cc

reads_file_slashes : (bytes : List ℕ) → Reads (after_file_double_slash bytes)
unfolding after_file_double_slash
reads_file_slashes bytes =
    let len = segment_len File bytes in
    let with_host : Host (List ℕ) → Parsed Parts = λ host. Ok (with_path (file_with_host host) (parse_path_start File [] (drop len bytes))) in
    cond_both (is_windows_drive_letter (take len bytes)) (Ok (with_path (file_with_host (Domain [])) (parse_path File [] bytes))) (and_then (parse_file_host (take len bytes)) with_host) Reads
    (λ _. record { holds = file_suits (Domain []) (parse_path File [] bytes) })
    (λ _. then_reads (λ host. Unit {0}) (parse_file_host (take len bytes)) with_host (always (parse_file_host (take len bytes)))
    (λ host _. record { holds = file_suits host (parse_path_start File [] (drop len bytes)) }))

reads_file : (body : List ℕ) → Reads (parse_file None body)
unfolding parse_file
reads_file body =
    let rest = drop (leading_slashes File body) body in
    let path = parse_path File [] rest in
    cond_both (leading_slashes File body == 2) (after_file_double_slash rest) (Ok (with_path (file_with_host (Domain [])) path)) Reads
    (λ _. reads_file_slashes rest) (λ _. record { holds = file_suits (Domain []) path })

reads_body : (scheme body : List ℕ) → Reads (parse_body scheme None body)
unfolding parse_body
reads_body scheme body = cond_both (is_file (scheme_type scheme)) (parse_file None body) (parse_not_file scheme None body) Reads (λ _. reads_file body) (λ _. reads_not_file scheme body)

end_suits : (has_tail : Bool) (url : Parts) → Suits url → Suits (end_path has_tail url)
end_suits has_tail url suits = cond_both (not (is_special (kind_of url)) && has_tail) (with_path url (escape_end url.path)) url Suits (λ _ web. record { host = (suits web).host; port = (suits web).port; small = (suits web).small }) (λ _. suits)

tail_suits : (url : Parts) (query fragment : Option (List ℕ)) → Suits url → Suits (with_tail url query fragment)
tail_suits url query fragment suits web = record { host = (suits web).host; port = (suits web).port; small = (suits web).small }

reads_parts : (scheme body : List ℕ) (query fragment : Option (List ℕ)) → Reads (parse_parts scheme None body query fragment)
unfolding parse_parts
reads_parts scheme body query fragment =
    then_reads Suits (parse_body scheme None body) _ (reads_body scheme body).holds
    (λ url suits. record { holds = tail_suits (before_tail url query fragment) query fragment (end_suits (is_some query || is_some fragment) url suits) })

reads_by_scheme : (split : Option (List ℕ × List ℕ)) (body : List ℕ) (query fragment : Option (List ℕ)) → Reads (parse_by_scheme split None body query fragment)
reads_by_scheme None body query fragment = record { holds = tt }
reads_by_scheme (Some split) body query fragment = reads_parts (lowercase split.0) split.1 query fragment

pub reads_url : (text : List ℕ) → Reads (parse_url None text)
unfolding parse_url
reads_url text = reads_by_scheme _ _ _ _

-- ---- texts

abbrev pub port_text : Option ℕ → List ℕ
port_text None = []
port_text (Some n) = codes ":" ++ decimal n

-- what stands behind the port
abbrev pub tail_of : Parts → List ℕ
tail_of url = concat (drop 9 (pieces url))

spelled : (url : Parts) (host : Option (Host (List ℕ))) (port : Option ℕ) → url.host ≡ host → url.port ≡ port → is_some host ≡ true → url.username ≡ [] → url.password ≡ []
    → serialize url ≡ url.scheme ++ (codes "://" ++ (host_text (host_or_empty url) ++ (port_text port ++ tail_of url)))
spelled url None port is_host is_port some username password = cc
spelled url (Some host) None is_host is_port some username password = rw (is_host, is_port, username, password) refl
spelled url (Some host) (Some n) is_host is_port some username password = rw (is_host, is_port, username, password) refl

-- the front up to the port
fronted : (url : Parts) (host : Option (Host (List ℕ))) (port : Option ℕ) → url.host ≡ host → url.port ≡ port → is_some host ≡ true → url.username ≡ [] → url.password ≡ []
    → text_between url BeforeScheme AfterPort ≡ url.scheme ++ (codes "://" ++ (host_text (host_or_empty url) ++ port_text port))
fronted url None port is_host is_port some username password = cc
fronted url (Some host) None is_host is_port some username password = rw (is_host, is_port, username, password) refl
fronted url (Some host) (Some n) is_host is_port some username password =
    rw (is_host, is_port, username, password) (ap (λ t. url.scheme ++ (codes "://" ++ (host_text host ++ (codes ":" ++ t)))) (append-nil (decimal n)))

-- the origin of an `http` or `https` URL
web_default : (scheme : List ℕ) → is_http scheme ≡ true → is_some (default_port scheme) ≡ true
unfolding default_port
web_default = by_web (λ scheme. is_some (default_port scheme) ≡ true) refl refl

web_no_blob : (scheme : List ℕ) → is_http scheme ≡ true → bytes_eq scheme (codes "blob") ≡ false
web_no_blob = by_web (λ scheme. bytes_eq scheme (codes "blob") ≡ false) refl refl

tuple_origin : (url : Parts) → is_http url.scheme ≡ true → origin_of url ≡ Some (url.scheme, host_or_empty url, unwrap_or (option_or url.port (default_port url.scheme)) 0)
tuple_origin url web = rw (web_no_blob url.scheme web, web_kind url.scheme web) refl

same_number : (n : ℕ) → nat_eq n n ≡ true
same_number n = grind (arith, nat_tests)

other_number : (n m : ℕ) → nat_eq m n ≡ false → nat_eq n m ≡ false
other_number n m h = grind (arith, nat_tests, h)

port_spelled : (standard port : Option ℕ) → is_some standard ≡ true → option_eq nat_eq port standard ≡ false
    → (if option_eq nat_eq standard (Some (unwrap_or (option_or port standard) 0)) then [] else codes ":" ++ decimal (unwrap_or (option_or port standard) 0)) ≡ port_text port
port_spelled None port some other = cc
port_spelled (Some n) None some other = cond-true _ _ _ (same_number n)
port_spelled (Some n) (Some m) some other = cond-false _ _ _ (other_number n m other)

rightward : (a b c d : List ℕ) → a ++ b ++ c ++ d ≡ a ++ (b ++ (c ++ d))
rightward a b c d = simp append_assoc

pub origin_spelled : (url : Parts) (port : Option ℕ) → url.port ≡ port → is_http url.scheme ≡ true → option_eq nat_eq port (default_port url.scheme) ≡ false
    → origin_text url ≡ url.scheme ++ (codes "://" ++ (host_text (host_or_empty url) ++ port_text port))
unfolding origin_text
origin_spelled url port is_port web other =
    ap ascii_serialization (tuple_origin url web ∙ ap (λ (p : Option ℕ). Some (url.scheme, host_or_empty url, unwrap_or (option_or p (default_port url.scheme)) 0)) is_port)
    ∙ ap (λ text. url.scheme ++ codes "://" ++ host_text (host_or_empty url) ++ text) (port_spelled (default_port url.scheme) port (web_default url.scheme web) other)
    ∙ rightward url.scheme (codes "://") (host_text (host_or_empty url)) (port_text port)

empty_from : (xs : List ℕ) → not (is_empty xs) ≡ false → xs ≡ []
empty_from [] h = refl
empty_from (x ∷ xs) h = grind (arith, nat_tests, h)

no_credentials : (url : Parts) → has_credentials url ≡ false → (url.username ≡ []) × (url.password ≡ [])
no_credentials url none = (empty_from _ (or_parts _ _ none).0, empty_from _ (or_parts _ _ none).1)

regrouped : (a b c d rest : List ℕ) → a ++ (b ++ (c ++ (d ++ rest))) ≡ (a ++ (b ++ (c ++ d))) ++ rest
regrouped a b c d rest = simp append_assoc

-- the origin is the front of a URL that was parsed
pub origin_fronts : (text : List ℕ) (url : Parts) → parse_url None text ≡ Ok url → is_http url.scheme ≡ true → has_credentials url ≡ false → text_between url BeforeScheme AfterPort ≡ origin_text url
origin_fronts text url parsed web none =
    let suits : Suits url = subst (λ (r : Parsed Parts). IfOk r Suits) parsed (reads_url text).holds in
    let bare = no_credentials url none in
    fronted url url.host url.port refl refl (suits web).host bare.0 bare.1 ∙ sym (origin_spelled url url.port refl web (suits web).port)

pub url_begins : (url : Parts) → is_http url.scheme ≡ true → has_credentials url ≡ false → IsWeb url → serialize url ≡ origin_text url ++ tail_of url
url_begins url web none is =
    let bare = no_credentials url none in
    spelled url url.host url.port refl refl is.host bare.0 bare.1
    ∙ regrouped url.scheme (codes "://") (host_text (host_or_empty url)) (port_text url.port) (tail_of url)
    ∙ ap (λ text. text ++ tail_of url) (sym (origin_spelled url url.port refl web is.port))

-- ---- allowed URLs

-- the URL begins with the origin, which has at most 72 bytes
abbrev Begins : Page → Type 0
Begins page = ((rest : List ℕ) × (page.url ≡ page.origin ++ rest)) × (nat_lt 72 (length page.origin) ≡ false)

page_begins : (url : Parts) (addr : Option ℕ) → serialize url ≡ origin_text url ++ tail_of url → nat_lt 72 (length (origin_text url)) ≡ false → IfOk (page_at url addr) Begins
page_begins url None is short = tt
page_begins url (Some addr) is short = ((tail_of url, is), short)

allowed_url_begins : (H : HostTable) (url : Parts) → Suits url → IfOk (allowed_url H url) Begins
unfolding allowed_url
allowed_url_begins H url suits =
    by_tests (is_http url.scheme) (has_credentials url) _ (nat_lt 72 (length (origin_text url))) (λ web none. page_begins url (address_at H (host_of url)) (url_begins url web none (suits web)))
  where
    by_tests : (web credentials long_url long_origin : Bool) → (web ≡ true → credentials ≡ false → long_origin ≡ false → IfOk (page_at url (address_at H (host_of url))) Begins)
        → IfOk (if not web then Err U5 else if credentials then Err U6 else if long_url then Err U7 else if long_origin then Err U8 else page_at url (address_at H (host_of url))) Begins
    by_tests false credentials long_url long_origin begins = tt
    by_tests true true long_url long_origin begins = tt
    by_tests true false true long_origin begins = tt
    by_tests true false false true begins = tt
    by_tests true false false false begins = begins refl refl refl

allowed_parsed_begins : (H : HostTable) (r : Parsed Parts) → IfOk r Suits → IfOk (allowed_parsed H r) Begins
allowed_parsed_begins H (Err error) suits = tt
allowed_parsed_begins H (Ok url) suits = allowed_url_begins H url suits

allowed_begins : (H : HostTable) (text : List ℕ) → IfOk (allowed H text) Begins
unfolding allowed
allowed_begins H text = by_test (is_utf8 text)
  where
    by_test : (test : Bool) → IfOk (if test then allowed_parsed H (parse_url None text) else Err U4) Begins
    by_test true = allowed_parsed_begins H (parse_url None text) (reads_url text).holds
    by_test false = tt

-- the URL of an allowed page begins with its origin
pub begins_with_origin : (H : HostTable) (text : List ℕ) (page : Page) → allowed H text ≡ Ok page → (rest : List ℕ) × (page.url ≡ page.origin ++ rest)
begins_with_origin H text page is =
    let begins : Begins page = subst (λ (r : Result Page Rule). IfOk r Begins) is (allowed_begins H text) in
    begins.0

-- and the origin has at most 72 bytes
pub origin_is_short : (H : HostTable) (text : List ℕ) (page : Page) → allowed H text ≡ Ok page → length page.origin ≤ 72
origin_is_short H text page is =
    let begins : Begins page = subst (λ (r : Result Page Rule). IfOk r Begins) is (allowed_begins H text) in
    grind (arith, nat_tests, begins.1)
