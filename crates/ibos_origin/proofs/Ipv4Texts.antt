-- The texts of IPv4 addresses.
use Rattle.std.proofs.Common.{◌≡◌, ℕ, ◌<◌, ◌≤◌, Bool, true, false, List, [], ◌∷◌, ◌++◌, Some, None, length, map, get_or, codes, refl, sym, ◌∙◌, ap, append_assoc, arith}
use Rattle.std.specs.Prelude.{◌==◌, ◌&&◌, nat_lt, bytes_eq, decimal, if◌then◌else◌}
use Rattle.std.specs.Int.{from_be_bytes, w32}
use Rattle.std.specs.List.{list_all, All, join_with_byte}
use Rattle.std.specs.Net.Addr.{ipv4_bits}
use Rattle.std.specs.Net.Grammar.{IsIpv4Text}
use Rattle.std.specs.Net.Text.{dotted_text}
use Rattle.std.specs.Str.Parse.{digits_value}
use Rattle.std.specs.declared.net.ipv4_addr.Ipv4Addr.{Ipv4Addr}
use Rattle.std.proofs.lemmas.Bool.Decides.{nat_tests}
use Rattle.std.proofs.lemmas.Fmt.{decimal_is_IsNumeral}
use Rattle.std.proofs.lemmas.List.Elements.{All-from_get_or}
use Rattle.std.proofs.lemmas.List.Splits.{slice_split_at, slice_split_none, join_with_byte-slice_split}
use Rattle.std.specs.Cmp.Lexicographic.{nat_list_eq_equiv, bytes_decides}
use Rattle.std.proofs.lemmas.Str.Parse.{digit_at}
use Rattle.ibos_text.specs.Parts.{parts_of}
use Rattle.ibos_origin.specs.Addresses.{is_octet, big_endian, addr_in}

digit_is_no_dot : (c : ℕ) → (48 ≤ c) × (c ≤ 57) → (c == 46) ≡ false
digit_is_no_dot c range = grind (arith, nat_tests)

-- no digit is a dot
no_dot : (n : ℕ) → n < 256 → All (λ x. (x == 46) ≡ false) (decimal n)
no_dot n small =
    All-from_get_or (λ x. (x == 46) ≡ false) (decimal n) 0
    (λ i within. digit_is_no_dot (get_or (decimal n) i 0) (digit_at (decimal n) i (decimal_is_IsNumeral n (omega arith)).0.1 within))

-- the text of a number below 256 is an octet
octet_of : (n : ℕ) → n < 256 → is_octet (decimal n) ≡ true
octet_of n small =
    let value = (decimal_is_IsNumeral n (omega arith)).1 in
    rw value (rw (nat_list_eq_equiv.refl (decimal n)) (grind (arith, nat_tests)))

dots : (a b c d : List ℕ) → a ++ codes "." ++ b ++ codes "." ++ c ++ codes "." ++ d ≡ a ++ 46 ∷ (b ++ 46 ∷ (c ++ 46 ∷ d))
dots a b c d = simp append_assoc

parts_of-dotted : (a b c d : ℕ) → (a < 256) × (b < 256) × (c < 256) × (d < 256)
    → parts_of 46 (dotted_text a b c d) ≡ decimal a ∷ decimal b ∷ decimal c ∷ decimal d ∷ []
parts_of-dotted a b c d fit =
    let dot : ℕ → Bool = λ x. x == 46 in
    ap (parts_of 46) (dots (decimal a) (decimal b) (decimal c) (decimal d))
    ∙ slice_split_at dot (decimal a) 46 (decimal b ++ 46 ∷ (decimal c ++ 46 ∷ decimal d)) (no_dot a fit.0) refl
    ∙ ap (λ parts. decimal a ∷ parts) (slice_split_at dot (decimal b) 46 (decimal c ++ 46 ∷ decimal d) (no_dot b fit.1) refl)
    ∙ ap (λ parts. decimal a ∷ decimal b ∷ parts) (slice_split_at dot (decimal c) 46 (decimal d) (no_dot c fit.2) refl)
    ∙ ap (λ parts. decimal a ∷ decimal b ∷ decimal c ∷ parts) (slice_split_none dot (decimal d) (no_dot d fit.3))

big_endian-four : (a b c d : ℕ) → big_endian (a ∷ b ∷ c ∷ d ∷ []) ≡ from_be_bytes w32 (a ∷ b ∷ c ∷ d ∷ [])
big_endian-four a b c d = omega arith

read_four : (ta tb tc td : List ℕ) (a b c d : ℕ)
    → is_octet ta ≡ true → is_octet tb ≡ true → is_octet tc ≡ true → is_octet td ≡ true
    → digits_value 10 ta ≡ a → digits_value 10 tb ≡ b → digits_value 10 tc ≡ c → digits_value 10 td ≡ d
    → (if list_all is_octet (ta ∷ tb ∷ tc ∷ td ∷ []) then Some (big_endian (map (digits_value 10) (ta ∷ tb ∷ tc ∷ td ∷ []))) else None)
    ≡ Some (big_endian (a ∷ b ∷ c ∷ d ∷ []))
read_four ta tb tc td a b c d oa ob oc od va vb vc vd = rw (oa, ob, oc, od) (rw (va, vb, vc, vd) refl)

addr_in-four : (a b c d : ℕ) → (a < 256) × (b < 256) × (c < 256) × (d < 256) → addr_in (dotted_text a b c d) ≡ Some (from_be_bytes w32 (a ∷ b ∷ c ∷ d ∷ []))
unfolding addr_in
addr_in-four a b c d fit =
    rw (parts_of-dotted a b c d fit)
    (read_four (decimal a) (decimal b) (decimal c) (decimal d) a b c d
    (octet_of a fit.0) (octet_of b fit.1) (octet_of c fit.2) (octet_of d fit.3)
    (decimal_is_IsNumeral a (omega arith)).1 (decimal_is_IsNumeral b (omega arith)).1
    (decimal_is_IsNumeral c (omega arith)).1 (decimal_is_IsNumeral d (omega arith)).1
    ∙ ap Some (big_endian-four a b c d))

-- the text of an address is read as it
pub addr_in-spelled : (text : List ℕ) (addr : Ipv4Addr) → IsIpv4Text text addr → Some (ipv4_bits addr) ≡ addr_in text
unfolding ipv4_bits
addr_in-spelled text addr is =
    ap (λ octets. Some (from_be_bytes w32 octets)) is.value ∙ sym (addr_in-four is.a is.b is.c is.d is.fit) ∙ ap addr_in (sym is.spelled)

two : (p q : Bool) → (p && q) ≡ true → (p ≡ true) × (q ≡ true)
two p q both = grind (arith, nat_tests)

octet_is : (part : List ℕ) → is_octet part ≡ true → (digits_value 10 part < 256) × (part ≡ decimal (digits_value 10 part))
octet_is part is =
    let both = two (nat_lt (digits_value 10 part) 256) (bytes_eq part (decimal (digits_value 10 part))) is in
    (grind (arith, nat_tests, both.0), (bytes_decides part (decimal (digits_value 10 part))).0 both.1)

and_four : (p q r s : Bool) → (p && (q && (r && (s && true)))) ≡ true → (p ≡ true) × (q ≡ true) × (r ≡ true) × (s ≡ true)
and_four p q r s all = grind (arith, nat_tests)

same_four : (a b c d e f g h : List ℕ) → a ≡ e → b ≡ f → c ≡ g → d ≡ h
    → a ++ 46 ∷ (b ++ 46 ∷ (c ++ 46 ∷ d)) ≡ e ++ 46 ∷ (f ++ 46 ∷ (g ++ 46 ∷ h))
same_four a b c d e f g h p q r s = cc

-- four octets with dots are the text of an address
four_spelled : (ta tb tc td text : List ℕ) → join_with_byte 46 (ta ∷ tb ∷ tc ∷ td ∷ []) ≡ text
    → list_all is_octet (ta ∷ tb ∷ tc ∷ td ∷ []) ≡ true → (addr : Ipv4Addr) × IsIpv4Text text addr
four_spelled ta tb tc td text joined all =
    let each = and_four (is_octet ta) (is_octet tb) (is_octet tc) (is_octet td) all in
    let a = octet_is ta each.0 in
    let b = octet_is tb each.1 in
    let c = octet_is tc each.2 in
    let d = octet_is td each.3 in (
      record { octets = digits_value 10 ta ∷ digits_value 10 tb ∷ digits_value 10 tc ∷ digits_value 10 td ∷ [] },
      record {
        a = digits_value 10 ta;
        b = digits_value 10 tb;
        c = digits_value 10 tc;
        d = digits_value 10 td;
        fit = (a.0, b.0, c.0, d.0);
        value = refl;
        spelled = sym joined ∙ same_four ta tb tc td _ _ _ _ a.1 b.1 c.1 d.1
            ∙ sym (dots (decimal (digits_value 10 ta)) (decimal (digits_value 10 tb)) (decimal (digits_value 10 tc)) (decimal (digits_value 10 td)));
      },
    )

none_of_four : (t : Bool) (ta tb tc td text : List ℕ) → join_with_byte 46 (ta ∷ tb ∷ tc ∷ td ∷ []) ≡ text
    → list_all is_octet (ta ∷ tb ∷ tc ∷ td ∷ []) ≡ t → ((addr : Ipv4Addr) → IsIpv4Text text addr → ⊥)
    → (if t then Some (big_endian (map (digits_value 10) (ta ∷ tb ∷ tc ∷ td ∷ []))) else None) ≡ None
none_of_four true ta tb tc td text joined all none = let is = four_spelled ta tb tc td text joined all in absurd (none is.0 is.1)
none_of_four false ta tb tc td text joined all none = refl

none_of : (parts : List (List ℕ)) (text : List ℕ) → join_with_byte 46 parts ≡ text → ((addr : Ipv4Addr) → IsIpv4Text text addr → ⊥)
    → (if length parts == 4 && list_all is_octet parts then Some (big_endian (map (digits_value 10) parts)) else None) ≡ None
none_of [] text joined none = refl
none_of (ta ∷ []) text joined none = refl
none_of (ta ∷ tb ∷ []) text joined none = refl
none_of (ta ∷ tb ∷ tc ∷ []) text joined none = refl
none_of (ta ∷ tb ∷ tc ∷ td ∷ []) text joined none = none_of_four _ ta tb tc td text joined refl none
none_of (ta ∷ tb ∷ tc ∷ td ∷ te ∷ parts) text joined none = grind (arith, nat_tests)

-- a text of no address isn't read
pub addr_in-other : (text : List ℕ) → ((addr : Ipv4Addr) → IsIpv4Text text addr → ⊥) → None ≡ addr_in text
unfolding addr_in
addr_in-other text none = sym (none_of (parts_of 46 text) text (join_with_byte-slice_split 46 text) none)
