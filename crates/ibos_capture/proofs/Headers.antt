-- The header of a capture, as it is read and as it is laid out.
use Rattle.std.proofs.Common.{if◌then◌else◌, ◌≡◌, ◌∙◌, ℕ, ◌≤◌, ◌⊎◌, inl, inr, List, length, drop, refl, ap, sym, subst, arith, Option, Some, None, Ok, Bool, true, false, nat_lt}
use Rattle.std.proofs.lemmas.Bool.Decides.{nat_tests}
use Rattle.ibos_kinds.specs.Frames.{IsBytes}
use Rattle.ibos_capture.specs.declared.fields.Endian.{Endian}
use Rattle.ibos_capture.specs.declared.fields.Endian.TheVariants.{Big, Little}
use Rattle.ibos_capture.specs.Fields.{number}
use Rattle.ibos_capture.specs.Captures.{is_magic, endian_of, header_with, header_in}
use Rattle.ibos_capture.specs.Layouts.{HasHeader}

abbrev pub IsMagic : ℕ → Type 0
IsMagic n = (n ≡ 0xA1B2C3D4) ⊎ (n ≡ 0xA1B23C4D)

-- The magic number

magic_is : (n : ℕ) → is_magic n ≡ true → IsMagic n
magic_is n is = grind (arith, nat_tests, is)

is_magic-is : (n : ℕ) → IsMagic n → is_magic n ≡ true
is_magic-is n (inl is) = rw is refl
is_magic-is n (inr is) = rw is refl

-- no four bytes are a magic number in both byte orders
one_order : (bytes : List ℕ) → IsBytes bytes → IsMagic (number Little 4 bytes) → is_magic (number Big 4 bytes) ≡ false
unfolding number
one_order bytes small magic =
    let a = small 0 in let b = small 1 in let c = small 2 in let d = small 3 in
    grind (arith, nat_tests, magic, a, b, c, d)

endian_by : (short big little : Bool) (endian : Endian) (bytes : List ℕ) → is_magic (number Big 4 bytes) ≡ big → is_magic (number Little 4 bytes) ≡ little →
    (if short then None else if big then Some Big else if little then Some Little else None) ≡ Some endian → IsMagic (number endian 4 bytes)
endian_by true big little endian bytes b l read = absurd (cc read)
endian_by false true little Big bytes b l read = magic_is (number Big 4 bytes) b
endian_by false true little Little bytes b l read = absurd (cc read)
endian_by false false true Big bytes b l read = absurd (cc read)
endian_by false false true Little bytes b l read = magic_is (number Little 4 bytes) l
endian_by false false false endian bytes b l read = absurd (cc read)

endian_of-magic : (endian : Endian) (bytes : List ℕ) → endian_of bytes ≡ Some endian → IsMagic (number endian 4 bytes)
unfolding endian_of
endian_of-magic endian bytes read =
    endian_by (nat_lt (length bytes) 4) (is_magic (number Big 4 bytes)) (is_magic (number Little 4 bytes)) endian bytes refl refl read

magic-endian_of : (endian : Endian) (bytes : List ℕ) → IsBytes bytes → 24 ≤ length bytes → IsMagic (number endian 4 bytes) → endian_of bytes ≡ Some endian
unfolding endian_of
magic-endian_of Big bytes small long magic =
    let big = is_magic-is (number Big 4 bytes) magic in
    grind (arith, nat_tests, big, long)
magic-endian_of Little bytes small long magic =
    let big = one_order bytes small magic in
    let little = is_magic-is (number Little 4 bytes) magic in
    grind (arith, nat_tests, big, little, long)

-- The header

has_fields : (found : Option Endian) (bytes : List ℕ) (endian : Endian) → header_with found bytes ≡ Ok endian → (found ≡ Some endian → IsMagic (number endian 4 bytes)) → HasHeader endian bytes
has_fields None bytes endian read magic = absurd (cc read)
has_fields (Some e) bytes endian read magic =
    let same : e ≡ endian = grind (arith, nat_tests, read) in
    let len : 24 ≤ length bytes = grind (arith, nat_tests, read) in
    let major : number e 2 (drop 4 bytes) ≡ 2 = grind (arith, nat_tests, read) in
    let minor : number e 2 (drop 6 bytes) ≡ 4 = grind (arith, nat_tests, read) in
    let link : number e 4 (drop 20 bytes) ≡ 1 = grind (arith, nat_tests, read) in
    let said : IsMagic (number e 4 bytes) = subst (λ o. IsMagic (number o 4 bytes)) (sym same) (magic (ap (λ o. Some o) same)) in
    subst (λ o. HasHeader o bytes) same (record { len = len; magic = said; major = major; minor = minor; link = link })

fields_read : (endian : Endian) (bytes : List ℕ) → 24 ≤ length bytes → number endian 2 (drop 4 bytes) ≡ 2 → number endian 2 (drop 6 bytes) ≡ 4 → number endian 4 (drop 20 bytes) ≡ 1 →
    header_with (Some endian) bytes ≡ Ok endian
fields_read endian bytes header major minor link = grind (arith, nat_tests, header, major, minor, link)

pub has_header : (endian : Endian) (bytes : List ℕ) → header_in bytes ≡ Ok endian → (length bytes ≤ 67108864) × HasHeader endian bytes
unfolding header_in
has_header endian bytes read =
    let limit : length bytes ≤ 67108864 = grind (arith, nat_tests, read) in
    let with : header_with (endian_of bytes) bytes ≡ Ok endian = grind (arith, nat_tests, read) in
    (limit, has_fields (endian_of bytes) bytes endian with (endian_of-magic endian bytes))

pub header_read : (endian : Endian) (bytes : List ℕ) → IsBytes bytes → length bytes ≤ 67108864 → HasHeader endian bytes → header_in bytes ≡ Ok endian
unfolding header_in
header_read endian bytes small limit has =
    let order = magic-endian_of endian bytes small has.len has.magic in
    let with = ap (λ o. header_with o bytes) order ∙ fields_read endian bytes has.len has.major has.minor has.link in
    grind (arith, nat_tests, limit, with)
