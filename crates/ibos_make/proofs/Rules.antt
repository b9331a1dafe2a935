-- What it means that no rule is broken, layer by layer.
use Rattle.std.proofs.Common.{◌≡◌, ◌≢◌, ℕ, zero, suc, ◌*◌, ◌%◌, ◌<◌, ◌≤◌, ◌==◌, ◌&&◌, ◌⊎◌, nat_le, Bool, true, false, not, cond, List, [], ◌∷◌, ◌++◌, length, take, get_or, Option, Some, None, refl, ap, sym, ◌∙◌, arith, inl, inr, All}
use Rattle.std.proofs.lemmas.Bool.Decides.{nat_tests}
use Rattle.std.proofs.lemmas.Bool.{and_parts}
use Rattle.std.specs.List.{list_all}
use Rattle.std.specs.Option.{option_or}
use Rattle.ibos_kinds.specs.declared.names.Proto.{Proto}
use Rattle.ibos_kinds.specs.declared.names.Proto.TheVariants.{Tcp, Udp}
use Rattle.ibos_kinds.specs.declared.names.Dir.{Dir}
use Rattle.ibos_kinds.specs.declared.names.Dir.TheVariants.{In, Out}
use Rattle.ibos_kinds.specs.declared.names.Local.{Local}
use Rattle.ibos_kinds.specs.declared.rule.Rule.TheVariants.{F3, F4, F5, F6, F7, F8, F10, F11, F15}
use Rattle.ibos_kinds.specs.Sums.{sum16}
use Rattle.ibos_kinds.specs.Frames.{eth_dest, eth_source, eth_type, eth_payload, ip_version, ip_words, ip_total, ip_fragment, ip_protocol, ip_src, ip_dst, ip_header, ip_payload, ip_tail, is_equal_out, eth_broken, mac_broken, is_ip_form, ip_broken, addr_broken, tcp_words, udp_len, udp_checksum, pseudo_header, proto_of, is_seg_form, is_seg_sum, seg_broken_over, seg_broken, tail_broken, first_broken}

pub option_or_none : {A : Type 0} (a b : Option A) → option_or a b ≡ None → (a ≡ None) × (b ≡ None)
option_or_none None b h = (refl, h)
option_or_none (Some x) b h = absurd (cc)

pub none_option_or : {A : Type 0} (a b : Option A) → a ≡ None → b ≡ None → option_or a b ≡ None
none_option_or a b ha hb = rw (ha, hb) refl

-- a test that a rule makes, and what comes after it
tested : {A : Type 0} (b : Bool) (rule : A) (rest : Option A) → cond (not b) (Some rule) rest ≡ None → (b ≡ true) × (rest ≡ None)
tested true rule rest h = (refl, h)
tested false rule rest h = absurd (cc)

passed : {A : Type 0} (b : Bool) (rule : A) (rest : Option A) → b ≡ true → rest ≡ None → cond (not b) (Some rule) rest ≡ None
passed b rule rest hb hr = rw (hb, hr) refl

pub record IsEthAt (w : List ℕ) : Type 0 where
  pub header : 14 ≤ length w
  pub kind : eth_type w ≡ 0x0800

pub eth_none : (w : List ℕ) → eth_broken w ≡ None → IsEthAt w
unfolding eth_broken
eth_none w h = record { header = grind (arith, nat_tests); kind = grind (arith, nat_tests) }

pub none_eth : (w : List ℕ) → IsEthAt w → eth_broken w ≡ None
unfolding eth_broken
none_eth w h = let header = h.header in let kind = h.kind in grind (arith, nat_tests)

-- the lengths of an IPv4 datagram, what its header sums to, and that it is whole
pub record IsIpAt (dir : Dir) (b : List ℕ) : Type 0 where
  pub header : 20 ≤ length b
  pub version : ip_version b ≡ 4
  pub words : 5 ≤ ip_words b
  pub fits : 4 * ip_words b ≤ ip_total b
  pub total : ip_total b ≤ length b
  pub out : is_equal_out dir (ip_words b) 5 ≡ true
  pub checksum : sum16 (ip_header b) ≡ 0
  pub whole : ip_fragment b % 0x4000 ≡ 0

six_parts : (a b c d e f : Bool) → (a && b && c && d && e && f) ≡ true → (a ≡ true) × (b ≡ true) × (c ≡ true) × (d ≡ true) × (e ≡ true) × (f ≡ true)
six_parts true true true true true f h = (refl, refl, refl, refl, refl, h)
six_parts true true true true false f h = absurd (cc)
six_parts true true true false e f h = absurd (cc)
six_parts true true false d e f h = absurd (cc)
six_parts true false c d e f h = absurd (cc)
six_parts false b c d e f h = absurd (cc)

pub ip_none : (dir : Dir) (b : List ℕ) → ip_broken dir b ≡ None → IsIpAt dir b
unfolding ip_broken
ip_none dir b h =
    let form = tested (is_ip_form dir b) F5 _ h in
    let sum = tested (sum16 (ip_header b) == 0) F6 _ form.1 in
    let fragment = tested (ip_fragment b % 0x4000 == 0) F7 _ sum.1 in
    let parts = six_parts (nat_le 20 (length b)) (ip_version b == 4) (nat_le 5 (ip_words b)) (nat_le (4 * ip_words b) (ip_total b)) (nat_le (ip_total b) (length b)) (is_equal_out dir (ip_words b) 5) form.0 in
    record {
      header = grind (arith, nat_tests, parts.0);
      version = grind (arith, nat_tests, parts.1);
      words = grind (arith, nat_tests, parts.2);
      fits = grind (arith, nat_tests, parts.3);
      total = grind (arith, nat_tests, parts.4);
      out = parts.5;
      checksum = grind (arith, nat_tests, sum.0);
      whole = grind (arith, nat_tests, fragment.0);
    }

le_true : (m n : ℕ) → m ≤ n → nat_le m n ≡ true
le_true m n h = grind (arith, nat_tests)

eq_true : (m n : ℕ) → m ≡ n → (m == n) ≡ true
eq_true m n h = grind (arith, nat_tests)

pub none_ip : (dir : Dir) (b : List ℕ) → IsIpAt dir b → ip_broken dir b ≡ None
unfolding ip_broken
none_ip dir b h =
    let form : is_ip_form dir b ≡ true =
    rw (le_true 20 (length b) h.header, eq_true (ip_version b) 4 h.version, le_true 5 (ip_words b) h.words, le_true (4 * ip_words b) (ip_total b) h.fits, le_true (ip_total b) (length b) h.total, h.out) refl in
    passed (is_ip_form dir b) F5 _ form
    (passed (sum16 (ip_header b) == 0) F6 _ (eq_true _ 0 h.checksum)
    (passed (ip_fragment b % 0x4000 == 0) F7 _ (eq_true _ 0 h.whole) refl))

-- the lengths of a segment, and what it sums to
pub record IsTcpAt (src dst : ℕ) (s : List ℕ) : Type 0 where
  pub header : 20 ≤ length s
  pub words : 5 ≤ tcp_words s
  pub fits : 4 * tcp_words s ≤ length s
  pub checksum : sum16 (pseudo_header src dst 6 (length s) ++ s) ≡ 0

pub record IsUdpAt (dir : Dir) (src dst : ℕ) (s : List ℕ) : Type 0 where
  pub header : 8 ≤ udp_len s
  pub fits : udp_len s ≤ length s
  pub out : is_equal_out dir (udp_len s) (length s) ≡ true
  pub checksum : (udp_checksum s ≡ 0) ⊎ (sum16 (pseudo_header src dst 17 (udp_len s) ++ take (udp_len s) s) ≡ 0)

abbrev pub IsSegmentAt : Dir → Proto → ℕ → ℕ → List ℕ → Type 0
IsSegmentAt dir Tcp src dst s = IsTcpAt src dst s
IsSegmentAt dir Udp src dst s = IsUdpAt dir src dst s

pub seg_none_over : (dir : Dir) (proto : Proto) (src dst : ℕ) (s : List ℕ) → seg_broken_over dir (Some proto) src dst s ≡ None → IsSegmentAt dir proto src dst s
seg_none_over dir Tcp src dst s h =
    let form = tested (is_seg_form dir Tcp s) F10 _ h in
    let sum = tested (is_seg_sum Tcp src dst s) F11 _ form.1 in
    let last = and_parts (nat_le 20 (length s) && nat_le 5 (tcp_words s)) (nat_le (4 * tcp_words s) (length s)) form.0 in
    let first = and_parts (nat_le 20 (length s)) (nat_le 5 (tcp_words s)) last.0 in
    record {
      header = grind (arith, nat_tests, first.0);
      words = grind (arith, nat_tests, first.1);
      fits = grind (arith, nat_tests, last.1);
      checksum = grind (arith, nat_tests, sum.0);
    }
seg_none_over dir Udp src dst s h =
    let form = tested (is_seg_form dir Udp s) F10 _ h in
    let sum = tested (is_seg_sum Udp src dst s) F11 _ form.1 in
    let last = and_parts (nat_le 8 (length s) && nat_le 8 (udp_len s) && nat_le (udp_len s) (length s)) (is_equal_out dir (udp_len s) (length s)) form.0 in
    let middle = and_parts (nat_le 8 (length s) && nat_le 8 (udp_len s)) (nat_le (udp_len s) (length s)) last.0 in
    let first = and_parts (nat_le 8 (length s)) (nat_le 8 (udp_len s)) middle.0 in
    record {
      header = grind (arith, nat_tests, first.1);
      fits = grind (arith, nat_tests, middle.1);
      out = last.1;
      checksum = grind (arith, nat_tests, sum.0);
    }

pub none_seg_over : (dir : Dir) (proto : Proto) (src dst : ℕ) (s : List ℕ) → IsSegmentAt dir proto src dst s → seg_broken_over dir (Some proto) src dst s ≡ None
none_seg_over dir Tcp src dst s h =
    let form : is_seg_form dir Tcp s ≡ true =
    rw (le_true 20 (length s) h.header, le_true 5 (tcp_words s) h.words, le_true (4 * tcp_words s) (length s) h.fits) refl in
    passed (is_seg_form dir Tcp s) F10 _ form (passed (is_seg_sum Tcp src dst s) F11 _ (eq_true _ 0 h.checksum) refl)
none_seg_over dir Udp src dst s h =
    let eight : 8 ≤ length s = omega (arith, h.header, h.fits) in
    let form : is_seg_form dir Udp s ≡ true =
    rw (le_true 8 (length s) eight, le_true 8 (udp_len s) h.header, le_true (udp_len s) (length s) h.fits, h.out) refl in
    let sum : is_seg_sum Udp src dst s ≡ true = let checksum = h.checksum in grind (arith, nat_tests) in
    passed (is_seg_form dir Udp s) F10 _ form (passed (is_seg_sum Udp src dst s) F11 _ sum refl)

over_some : (dir : Dir) (proto : Option Proto) (src dst : ℕ) (s : List ℕ) → seg_broken_over dir proto src dst s ≡ None → proto ≢ None
over_some dir None src dst s h = absurd (cc)
over_some dir (Some proto) src dst s h = λ e. absurd (cc)

some_proto : (protocol : ℕ) → proto_of protocol ≢ None → (protocol ≡ 6) ⊎ (protocol ≡ 17)
some_proto protocol h = grind (arith, nat_tests)

pub known : (dir : Dir) (protocol src dst : ℕ) (s : List ℕ) → seg_broken dir protocol src dst s ≡ None → (protocol ≡ 6) ⊎ (protocol ≡ 17)
unfolding seg_broken
known dir protocol src dst s h = some_proto protocol (over_some dir (proto_of protocol) src dst s h)

-- the addresses of Ethernet and of IPv4, and what follows the datagram
abbrev pub AreMacs : Local → Dir → ℕ → ℕ → Type 0
AreMacs local In dest source = dest ≡ local.mac
AreMacs local Out dest source = (source ≡ local.mac) × (dest ≡ local.gateway)

abbrev pub AreAddrs : Local → Dir → ℕ → ℕ → Type 0
AreAddrs local In src dst = dst ≡ local.addr
AreAddrs local Out src dst = src ≡ local.addr

abbrev pub IsTail : Dir → List ℕ → Type 0
IsTail In tail = Unit {0}
IsTail Out tail = All (λ b. b ≡ 0) tail

pub mac_none : (local : Local) (dir : Dir) (dest source : ℕ) → mac_broken local dir dest source ≡ None → AreMacs local dir dest source
unfolding mac_broken
mac_none local In dest source h = grind (arith, nat_tests)
mac_none local Out dest source h = (grind (arith, nat_tests), grind (arith, nat_tests))

pub none_mac : (local : Local) (dir : Dir) (dest source : ℕ) → AreMacs local dir dest source → mac_broken local dir dest source ≡ None
unfolding mac_broken
none_mac local In dest source h = passed (dest == local.mac) F4 None (eq_true dest local.mac h) refl
none_mac local Out dest source h =
    passed (source == local.mac) F3 _ (eq_true source local.mac h.0)
    (passed (dest == local.gateway) F4 None (eq_true dest local.gateway h.1) refl)

pub addr_none : (local : Local) (dir : Dir) (src dst : ℕ) → addr_broken local dir src dst ≡ None → AreAddrs local dir src dst
unfolding addr_broken
addr_none local In src dst h = grind (arith, nat_tests)
addr_none local Out src dst h = grind (arith, nat_tests)

pub none_addr : (local : Local) (dir : Dir) (src dst : ℕ) → AreAddrs local dir src dst → addr_broken local dir src dst ≡ None
unfolding addr_broken
none_addr local In src dst h = passed (dst == local.addr) F8 None (eq_true dst local.addr h) refl
none_addr local Out src dst h = passed (src == local.addr) F8 None (eq_true src local.addr h) refl

zeros_all : (tail : List ℕ) → list_all (λ b. b == 0) tail ≡ true → (k d : ℕ) → k < length tail → get_or tail k d ≡ 0
zeros_all [] h k d l = absurd (omega arith)
zeros_all (x ∷ xs) h zero d l = let both = and_parts (x == 0) (list_all (λ b. b == 0) xs) h in grind (arith, nat_tests, both.0)
zeros_all (x ∷ xs) h (suc k) d l = zeros_all xs (and_parts (x == 0) (list_all (λ b. b == 0) xs) h).1 k d (omega arith)

all_zeros : (tail : List ℕ) → ((k d : ℕ) → k < length tail → get_or tail k d ≡ 0) → list_all (λ b. b == 0) tail ≡ true
all_zeros [] h = refl
all_zeros (x ∷ xs) h =
    let first : x ≡ 0 = h 0 0 (omega arith) in
    let others = all_zeros xs (λ k d l. h (suc k) d (omega arith)) in
    rw (first, others) refl

pub tail_none : (dir : Dir) (tail : List ℕ) → tail_broken dir tail ≡ None → IsTail dir tail
unfolding tail_broken
tail_none In tail h = tt
tail_none Out tail h = zeros_all tail (tested (list_all (λ b. b == 0) tail) F15 None h).0

pub none_tail : (dir : Dir) (tail : List ℕ) → IsTail dir tail → tail_broken dir tail ≡ None
unfolding tail_broken
none_tail In tail h = refl
none_tail Out tail h = passed (list_all (λ b. b == 0) tail) F15 None (all_zeros tail h) refl

-- EVERY RULE HOLDS, of a datagram and of a whole frame

pub record IsKept (local : Local) (dir : Dir) (b : List ℕ) : Type 0 where
  pub ip : IsIpAt dir b
  pub addrs : AreAddrs local dir (ip_src b) (ip_dst b)
  pub proto : Proto
  pub known : proto_of (ip_protocol b) ≡ Some proto
  pub segment : IsSegmentAt dir proto (ip_src b) (ip_dst b) (ip_payload b)
  pub tail : IsTail dir (ip_tail b)

pub record IsFrameKept (local : Local) (dir : Dir) (w : List ℕ) : Type 0 where
  pub eth : IsEthAt w
  pub macs : AreMacs local dir (eth_dest w) (eth_source w)
  pub datagram : IsKept local dir (eth_payload w)

none_seg : (dir : Dir) (proto : Proto) (protocol src dst : ℕ) (s : List ℕ) → proto_of protocol ≡ Some proto → IsSegmentAt dir proto src dst s → seg_broken dir protocol src dst s ≡ None
unfolding seg_broken
none_seg dir proto protocol src dst s known h =
    ap (λ o. seg_broken_over dir o src dst s) known ∙ none_seg_over dir proto src dst s h

pub none_first : (local : Local) (dir : Dir) (w : List ℕ) → IsFrameKept local dir w → first_broken local dir w ≡ None
unfolding first_broken
none_first local dir w h =
    let b : List ℕ = eth_payload w in
    let d = h.datagram in
    none_option_or _ _ (none_eth w h.eth)
    (none_option_or _ _ (none_mac local dir (eth_dest w) (eth_source w) h.macs)
    (none_option_or _ _ (none_ip dir b d.ip)
    (none_option_or _ _ (none_addr local dir (ip_src b) (ip_dst b) d.addrs)
    (none_option_or _ _ (none_seg dir d.proto (ip_protocol b) (ip_src b) (ip_dst b) (ip_payload b) d.known d.segment)
    (none_tail dir (ip_tail b) d.tail)))))

seg_none : (dir : Dir) (protocol src dst : ℕ) (s : List ℕ) → seg_broken dir protocol src dst s ≡ None
    → (proto : Proto) × (proto_of protocol ≡ Some proto) × IsSegmentAt dir proto src dst s
unfolding seg_broken
seg_none dir protocol src dst s h =
    elim (known dir protocol src dst s h) [
      | inl is ↦ (Tcp, ap proto_of is, seg_none_over dir Tcp src dst s (ap (λ n. seg_broken_over dir (proto_of n) src dst s) (sym is) ∙ h))
      | inr is ↦ (Udp, ap proto_of is, seg_none_over dir Udp src dst s (ap (λ n. seg_broken_over dir (proto_of n) src dst s) (sym is) ∙ h))
    ]

pub first_none : (local : Local) (dir : Dir) (w : List ℕ) → first_broken local dir w ≡ None → IsFrameKept local dir w
unfolding first_broken
first_none local dir w h =
    let b : List ℕ = eth_payload w in
    let eth = option_or_none (eth_broken w) _ h in
    let macs = option_or_none (mac_broken local dir (eth_dest w) (eth_source w)) _ eth.1 in
    let ip = option_or_none (ip_broken dir b) _ macs.1 in
    let addrs = option_or_none (addr_broken local dir (ip_src b) (ip_dst b)) _ ip.1 in
    let segment = option_or_none (seg_broken dir (ip_protocol b) (ip_src b) (ip_dst b) (ip_payload b)) _ addrs.1 in
    let parts = seg_none dir (ip_protocol b) (ip_src b) (ip_dst b) (ip_payload b) segment.0 in
    record {
      eth = eth_none w eth.0;
      macs = mac_none local dir (eth_dest w) (eth_source w) macs.0;
      datagram = record {
        ip = ip_none dir b ip.0;
        addrs = addr_none local dir (ip_src b) (ip_dst b) addrs.0;
        proto = parts.0;
        known = parts.1;
        segment = parts.2;
        tail = tail_none dir (ip_tail b) segment.1;
      };
    }
