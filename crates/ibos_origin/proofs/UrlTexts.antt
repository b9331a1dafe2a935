-- The texts of allowed URLs are printable.
use Rattle.std.proofs.Common.{◌≡◌, ℕ, ◌++◌, List, [], ◌∷◌, All, Bool, true, false, not, drop, take, Option, Some, None, Ok, Err, Result, refl, sym, ◌∙◌, ap, subst}
use Rattle.std.specs.Prelude.{◌&&◌, ◌||◌, ◌==◌, nat_lt, length, if◌then◌else◌, is_some, unwrap_or, codes, IfOk}
use Rattle.std.specs.List.{list_all}
use Rattle.std.specs.Str.{is_utf8}
use Rattle.std.proofs.lemmas.Bool.{cond_both, cond-false, and_left}
use Rattle.std.proofs.lemmas.List.Elements.{All-nil, All-cons, All-head, All-tail, All-append}
use Rattle.url.specs.declared.sets.TheConstants.{FRAGMENT, PATH, OPAQUE_PATH, SPECIAL_QUERY}
use Rattle.url.specs.declared.host.Host.{Host}
use Rattle.url.specs.declared.host.Host.TheVariants.{Domain}
use Rattle.url.specs.declared.scheme.SchemeType.{SchemeType}
use Rattle.url.specs.declared.scheme.SchemeType.TheVariants.{File, NotSpecial}
use Rattle.url.specs.Input.{is_empty, when, lowercase, rsplit_once, rsplit_step}
use Rattle.url.specs.Scheme.{scheme_type, is_special, is_file, is_slash}
use Rattle.url.specs.Host.{parse_file_host}
use Rattle.url.specs.Parts.{Parts, kind_of, has_credentials, pieces, serialize}
use Rattle.url.specs.Path.{segment_len, dot_count, is_windows_drive_letter, without_last_segment, shorten_path, segment_text, push_segment, parse_segments, parse_path, parse_path_start, escape_end}
use Rattle.url.specs.Head.{scheme_only}
use Rattle.url.specs.Parser.{Parsed, and_then, leading_slashes, skip_slashes, parse_authority, with_path, after_double_slash, parse_non_special, file_with_host, after_file_double_slash, parse_file, parse_not_file, parse_body, with_tail, end_path, before_tail, parse_parts, parse_by_scheme, parse_url}
use Rattle.url.specs.Origin.{is_http}
use Rattle.url.proofs.InputLemmas.{Passes, list_all_from_All}
use Rattle.url.proofs.SetLemmas.{encoded_is_kept}
use Rattle.url.proofs.TextLemmas.{All-concat, All_one, All_kept}
use Rattle.ibos_kinds.specs.Screens.{is_pixel}
use Rattle.ibos_kinds.specs.declared.rule.Rule.{Rule}
use Rattle.ibos_kinds.specs.declared.rule.Rule.TheVariants.{U4, U5, U6, U7, U8}
use Rattle.ibos_origin.specs.Hosts.{HostTable}
use Rattle.ibos_origin.specs.Tables.{HasPlainNames}
use Rattle.ibos_origin.specs.Pages.{Page, origin_text, page_at, address_at, host_of, allowed_url, allowed_parsed, allowed}
use Rattle.ibos_origin.proofs.UrlFronts.{IsWeb, Suits, reads_url, web_kind, http_special, tail_of, url_begins}
use Rattle.ibos_origin.proofs.OriginTexts.{both, origin_pixels}

abbrev Pixel : ℕ → Type 0
Pixel = Passes is_pixel

-- ---- the path

front_step : (b : ℕ) (front : Option (List ℕ)) (back : List ℕ) → Pixel b → All Pixel (unwrap_or front []) → All Pixel (unwrap_or (rsplit_step 47 b front back).0 [])
front_step b (Some front) back here rest = All-cons Pixel b front here rest
front_step b None back here rest = cond_both (b == 47) (Some [], back) (None, b ∷ back) (λ (r : Option (List ℕ) × List ℕ). All Pixel (unwrap_or r.0 [])) (λ _. All-nil Pixel) (λ _. All-nil Pixel)

front_plain : (path : List ℕ) → All Pixel path → All Pixel (without_last_segment path)
unfolding rsplit_once
front_plain [] plain = All-nil Pixel
front_plain (b ∷ path) plain = front_step b (rsplit_once 47 path).0 (rsplit_once 47 path).1 (All-head Pixel b path plain) (front_plain path (All-tail Pixel b path plain))

shorten_plain : (kind : SchemeType) (path : List ℕ) → All Pixel path → All Pixel (shorten_path kind path)
unfolding shorten_path
shorten_plain kind path plain = cond_both _ path (without_last_segment path) (All Pixel) (λ _. plain) (λ _. front_plain path plain)

slash_plain : (path : List ℕ) (is_last : Bool) → All Pixel path → All Pixel (path ++ when is_last (47 ∷ []))
slash_plain path is_last plain = All-append Pixel path (when is_last (47 ∷ [])) plain (All_one Pixel is_last 47 refl)

segment_plain : (kind : SchemeType) (path s : List ℕ) → is_file kind ≡ false → All Pixel (segment_text kind path s)
segment_plain kind path s other = subst (All Pixel) (sym (cond-false _ _ _ (and_left _ _ (and_left _ _ other)))) (All_kept is_pixel PATH refl _ (encoded_is_kept PATH PATH refl refl s))

push_plain : (kind : SchemeType) (path s : List ℕ) (is_last : Bool) → is_file kind ≡ false → All Pixel path → All Pixel (push_segment kind path s is_last)
unfolding push_segment
push_plain kind path s is_last other plain =
    cond_both (dot_count s == 2) _ _ (All Pixel) (λ _. slash_plain (shorten_path kind path) is_last (shorten_plain kind path plain))
    (λ _. cond_both (dot_count s == 1) _ _ (All Pixel) (λ _. slash_plain path is_last plain)
    (λ _. All-append Pixel path (47 ∷ segment_text kind path s) plain (All-cons Pixel 47 (segment_text kind path s) refl (segment_plain kind path s other))))

segments_plain : (kind : SchemeType) (path s bytes : List ℕ) → is_file kind ≡ false → All Pixel path → All Pixel (parse_segments kind path s bytes)
unfolding parse_segments
segments_plain kind path s [] other plain = push_plain kind path s true other plain
segments_plain kind path s (b ∷ bytes) other plain =
    cond_both (is_slash kind b) _ _ (All Pixel) (λ _. segments_plain kind (push_segment kind path s false) [] bytes other (push_plain kind path s false other plain))
    (λ _. segments_plain kind path (s ++ b ∷ []) bytes other plain)

path_plain : (kind : SchemeType) (bytes : List ℕ) → is_file kind ≡ false → All Pixel (parse_path_start kind [] bytes)
unfolding parse_path_start
path_plain kind bytes other =
    cond_both (is_empty bytes && not (is_special kind)) _ _ (All Pixel) (λ _. All-nil Pixel)
    (λ _. cond_both _ (parse_path kind [] (drop 1 bytes)) (parse_path kind [] bytes) (All Pixel)
    (λ _. segments_plain kind [] [] (drop 1 bytes) other (All-nil Pixel)) (λ _. segments_plain kind [] [] bytes other (All-nil Pixel)))

-- ---- what the parser gives

abbrev PlainPath : Parts → Type 0
PlainPath url = is_http url.scheme ≡ true → All Pixel url.path

-- what stands behind the port is printable
abbrev PlainTail : Parts → Type 0
PlainTail url = is_http url.scheme ≡ true → All Pixel (tail_of url)

-- what was read has this property
record Reads (P : Parts → Type 0) (r : Parsed Parts) : Type 0 where
  holds : IfOk r P

then_reads : {T : Type 0} (Q : T → Type 0) (P : Parts → Type 0) (r : Parsed T) (next : T → Parsed Parts) → IfOk r Q → ((x : T) → Q x → Reads P (next x)) → Reads P (and_then r next)
then_reads Q P (Ok x) next holds later = later x holds
then_reads Q P (Err e) next holds later = record { holds = tt }

always : {T : Type 0} (r : Parsed T) → IfOk r (λ x. Unit {0})
always (Ok x) = tt
always (Err e) = tt

reads_slashes : (scheme bytes : List ℕ) → is_file (scheme_type scheme) ≡ false → Reads PlainPath (after_double_slash scheme bytes)
unfolding after_double_slash
reads_slashes scheme bytes other =
    let len = segment_len (scheme_type scheme) bytes in
    then_reads (λ head. Unit {0}) PlainPath (parse_authority scheme (take len bytes)) _ (always (parse_authority scheme (take len bytes)))
    (λ head _. record { holds = λ web. path_plain (scheme_type scheme) (drop len bytes) other })

reads_non_special : (scheme body : List ℕ) → is_file (scheme_type scheme) ≡ false → Reads PlainPath (parse_non_special scheme body)
unfolding parse_non_special
reads_non_special scheme body other =
    let slashes = leading_slashes NotSpecial body in
    cond_both (slashes == 2) (after_double_slash scheme (drop 2 body)) _ (Reads PlainPath) (λ _. reads_slashes scheme (drop 2 body) other)
    (λ _. cond_both (slashes == 1) (Ok (with_path (scheme_only scheme) (parse_path NotSpecial [] (drop 1 body)))) _ (Reads PlainPath)
    (λ _. record { holds = λ web. segments_plain NotSpecial [] [] (drop 1 body) refl (All-nil Pixel) }) (λ _. record { holds = λ web. All_kept is_pixel OPAQUE_PATH refl _ (encoded_is_kept OPAQUE_PATH OPAQUE_PATH refl refl body) }))

reads_not_file : (scheme body : List ℕ) → is_file (scheme_type scheme) ≡ false → Reads PlainPath (parse_not_file scheme None body)
reads_not_file scheme body other =
    cond_both (is_special (scheme_type scheme)) _ _ (Reads PlainPath) (λ _. reads_slashes scheme (skip_slashes body) other) (λ _. reads_non_special scheme body other)

-- the scheme is neither `http` nor `https`
file_plain : (host : Host (List ℕ)) (path : List ℕ) → PlainPath (with_path (file_with_host host) path)
file_plain host path web = cc

reads_file_slashes : (bytes : List ℕ) → Reads PlainPath (after_file_double_slash bytes)
unfolding after_file_double_slash
reads_file_slashes bytes =
    let len = segment_len File bytes in
    let with_host : Host (List ℕ) → Parsed Parts = λ host. Ok (with_path (file_with_host host) (parse_path_start File [] (drop len bytes))) in
    cond_both (is_windows_drive_letter (take len bytes)) (Ok (with_path (file_with_host (Domain [])) (parse_path File [] bytes))) (and_then (parse_file_host (take len bytes)) with_host) (Reads PlainPath)
    (λ _. record { holds = file_plain (Domain []) (parse_path File [] bytes) })
    (λ _. then_reads (λ host. Unit {0}) PlainPath (parse_file_host (take len bytes)) with_host (always (parse_file_host (take len bytes)))
    (λ host _. record { holds = file_plain host (parse_path_start File [] (drop len bytes)) }))

reads_file : (body : List ℕ) → Reads PlainPath (parse_file None body)
unfolding parse_file
reads_file body =
    let rest = drop (leading_slashes File body) body in
    let path = parse_path File [] rest in
    cond_both (leading_slashes File body == 2) (after_file_double_slash rest) (Ok (with_path (file_with_host (Domain [])) path)) (Reads PlainPath)
    (λ _. reads_file_slashes rest) (λ _. record { holds = file_plain (Domain []) path })

reads_body : (scheme body : List ℕ) → Reads PlainPath (parse_body scheme None body)
unfolding parse_body
reads_body scheme body =
    cond_both (is_file (scheme_type scheme)) (parse_file None body) (parse_not_file scheme None body) (Reads PlainPath) (λ _. reads_file body) (λ other. reads_not_file scheme body other)

-- only the end of a path that is opaque is escaped, and that of a web URL is not
special_kept : {T : Type 0} (special has_tail : Bool) → special ≡ true → (not special && has_tail) ≡ true → T
special_kept true has_tail web escaped = cc
special_kept false has_tail web escaped = cc

end_plain : (has_tail : Bool) (url : Parts) → PlainPath url → PlainPath (end_path has_tail url)
end_plain has_tail url plain = cond_both (not (is_special (kind_of url)) && has_tail) (with_path url (escape_end url.path)) url PlainPath
    (λ escaped web. special_kept (is_special (kind_of url)) has_tail (http_special url.scheme web) escaped) (λ _. plain)

guard_plain : (test : Bool) → All Pixel (when test (codes "/."))
guard_plain true = All-cons Pixel 47 (46 ∷ []) refl (All-cons Pixel 46 [] refl (All-nil Pixel))
guard_plain false = All-nil Pixel

query_plain : (url : Parts) (query fragment : Option (List ℕ)) → is_http url.scheme ≡ true → All Pixel (unwrap_or (with_tail url query fragment).query [])
query_plain url None fragment web = All-nil Pixel
query_plain url (Some xs) fragment web =
    rw (web_kind url.scheme web) (All_kept is_pixel SPECIAL_QUERY refl _ (encoded_is_kept SPECIAL_QUERY SPECIAL_QUERY refl refl xs))

fragment_plain : (url : Parts) (query fragment : Option (List ℕ)) → All Pixel (unwrap_or (with_tail url query fragment).fragment [])
fragment_plain url query None = All-nil Pixel
fragment_plain url query (Some xs) = All_kept is_pixel FRAGMENT refl _ (encoded_is_kept FRAGMENT FRAGMENT refl refl xs)

tail_plain : (url : Parts) (query fragment : Option (List ℕ)) → PlainPath url → PlainTail (with_tail url query fragment)
tail_plain url query fragment plain web =
    All-concat Pixel (drop 9 (pieces (with_tail url query fragment))) (
      guard_plain _,
      (
        plain web,
        (
          All_one Pixel _ 63 refl,
          (
            query_plain url query fragment web,
            (All_one Pixel _ 35 refl, (fragment_plain url query fragment, tt)),
          ),
        ),
      ),
    )

reads_parts : (scheme body : List ℕ) (query fragment : Option (List ℕ)) → Reads PlainTail (parse_parts scheme None body query fragment)
unfolding parse_parts
reads_parts scheme body query fragment =
    then_reads PlainPath PlainTail (parse_body scheme None body) _ (reads_body scheme body).holds
    (λ url plain. record { holds = tail_plain (before_tail url query fragment) query fragment (end_plain (is_some query || is_some fragment) url plain) })

reads_by_scheme : (split : Option (List ℕ × List ℕ)) (body : List ℕ) (query fragment : Option (List ℕ)) → Reads PlainTail (parse_by_scheme split None body query fragment)
reads_by_scheme None body query fragment = record { holds = tt }
reads_by_scheme (Some split) body query fragment = reads_parts (lowercase split.0) split.1 query fragment

reads_tail : (text : List ℕ) → Reads PlainTail (parse_url None text)
unfolding parse_url
reads_tail text = reads_by_scheme _ _ _ _

-- ---- allowed URLs

abbrev PlainUrl : Page → Type 0
PlainUrl page = list_all is_pixel page.url ≡ true

text_plain : (H : HostTable) (url : Parts) (addr : ℕ) → HasPlainNames H → is_http url.scheme ≡ true → has_credentials url ≡ false → IsWeb url → PlainTail url → address_at H (host_of url) ≡ Some addr → list_all is_pixel (serialize url) ≡ true
text_plain H url addr plain web none is tail found =
    ap (list_all is_pixel) (url_begins url web none is)
    ∙ both is_pixel (origin_text url) (tail_of url) (origin_pixels H url addr plain web is found) (list_all_from_All is_pixel (tail_of url) (tail web))

page_plain : (H : HostTable) (url : Parts) → HasPlainNames H → is_http url.scheme ≡ true → has_credentials url ≡ false → IsWeb url → PlainTail url → (addr : Option ℕ) → address_at H (host_of url) ≡ addr → IfOk (page_at url addr) PlainUrl
page_plain H url plain web none is tail None found = tt
page_plain H url plain web none is tail (Some addr) found = text_plain H url addr plain web none is tail found

allowed_url_plain : (H : HostTable) (url : Parts) → HasPlainNames H → Suits url → PlainTail url → IfOk (allowed_url H url) PlainUrl
unfolding allowed_url
allowed_url_plain H url plain suits tail = by_tests (is_http url.scheme) refl (has_credentials url) refl (nat_lt 1024 (length (serialize url))) (nat_lt 72 (length (origin_text url)))
  where
    by_tests : (web : Bool) → is_http url.scheme ≡ web → (credentials : Bool) → has_credentials url ≡ credentials → (long_url long_origin : Bool)
        → IfOk (if not web then Err U5 else if credentials then Err U6 else if long_url then Err U7 else if long_origin then Err U8 else page_at url (address_at H (host_of url))) PlainUrl
    by_tests false is credentials none long_url long_origin = tt
    by_tests true is true none long_url long_origin = tt
    by_tests true is false none true long_origin = tt
    by_tests true is false none false true = tt
    by_tests true is false none false false = page_plain H url plain is none (suits is) tail (address_at H (host_of url)) refl

allowed_parsed_plain : (H : HostTable) (r : Parsed Parts) → HasPlainNames H → IfOk r Suits → IfOk r PlainTail → IfOk (allowed_parsed H r) PlainUrl
allowed_parsed_plain H (Err error) plain suits tail = tt
allowed_parsed_plain H (Ok url) plain suits tail = allowed_url_plain H url plain suits tail

allowed_plain : (H : HostTable) (text : List ℕ) → HasPlainNames H → IfOk (allowed H text) PlainUrl
unfolding allowed
allowed_plain H text plain = by_test (is_utf8 text)
  where
    by_test : (test : Bool) → IfOk (if test then allowed_parsed H (parse_url None text) else Err U4) PlainUrl
    by_test true = allowed_parsed_plain H (parse_url None text) plain (reads_url text).holds (reads_tail text).holds
    by_test false = tt

pub urls_are_plain : (H : HostTable) (text : List ℕ) (page : Page) → HasPlainNames H → allowed H text ≡ Ok page → list_all is_pixel page.url ≡ true
urls_are_plain H text page plain is = let P : Result Page Rule → Type 0 = λ r. IfOk r PlainUrl in subst P is (allowed_plain H text plain)
