-- Frames as the rules read them, by fields at places: Ethernet II, IPv4 (RFC 791, 3.1), TCP (RFC
-- 9293, 3.1) and UDP (RFC 768). Every number in a frame is big-endian. `Datagrams` says of a frame
-- how it is joined from its parts.
use Rattle.std.specs.Prelude.{ℕ, zero, suc, ◌+◌, ◌-◌, ◌*◌, ◌/◌, ◌%◌, ◌^◌, ◌<◌, ◌==◌, nat_lt, nat_le}
use Rattle.std.specs.Prelude.{Bool, true, not, ◌&&◌, ◌||◌, if◌then◌else◌, List, ◌∷◌, ◌++◌, length}
use Rattle.std.specs.Prelude.{take, drop, slice_index, Option, Some, None, unwrap_or}
use Rattle.std.specs.List.{list_all}
use Rattle.std.specs.Option.{option_or}
use Rattle.std.specs.Int.{bytes_high_first}
use Rattle.ibos_kinds.specs.declared.names.Proto.{Proto}
use Rattle.ibos_kinds.specs.declared.names.Proto.TheVariants.{Tcp, Udp}
use Rattle.ibos_kinds.specs.declared.names.Dir.{Dir}
use Rattle.ibos_kinds.specs.declared.names.Dir.TheVariants.{In, Out}
use Rattle.ibos_kinds.specs.declared.names.Local.{Local}
use Rattle.ibos_kinds.specs.declared.names.Heading.{Heading}
use Rattle.ibos_kinds.specs.declared.rule.Rule.{Rule}
use Rattle.ibos_kinds.specs.declared.rule.Rule.TheVariants.{F1, F2, F3, F4, F5, F6, F7, F8, F9, F10}
use Rattle.ibos_kinds.specs.declared.rule.Rule.TheVariants.{F11, F15}
use Rattle.ibos_kinds.specs.Sums.{sum16}

-- each element is a byte
abbrev pub IsBytes : List ℕ → Type 0
IsBytes bytes = (i : ℕ) → slice_index bytes i < 256

-- the number in the n bytes from place i
abbrev pub number_from : ℕ → ℕ → List ℕ → ℕ
number_from i zero bytes = 0
number_from i (suc n) bytes = slice_index bytes i * 256 ^ n + number_from (suc i) n bytes

-- the number in the first n bytes
unfoldable pub number : ℕ → List ℕ → ℕ
number n bytes = number_from 0 n bytes

-- Ethernet II, of the frame

abbrev pub eth_dest : List ℕ → ℕ
eth_dest w = number 6 w

abbrev pub eth_source : List ℕ → ℕ
eth_source w = number 6 (drop 6 w)

abbrev pub eth_type : List ℕ → ℕ
eth_type w = number 2 (drop 12 w)

abbrev pub eth_payload : List ℕ → List ℕ
eth_payload w = drop 14 w

-- IPv4, of the frame's payload

abbrev pub ip_version : List ℕ → ℕ
ip_version b = slice_index b 0 / 16

-- IHL: the header's length in words of four bytes
abbrev pub ip_words : List ℕ → ℕ
ip_words b = slice_index b 0 % 16

-- the length of header and data in bytes
abbrev pub ip_total : List ℕ → ℕ
ip_total b = number 2 (drop 2 b)

-- flags and fragment offset
abbrev pub ip_fragment : List ℕ → ℕ
ip_fragment b = number 2 (drop 6 b)

abbrev pub ip_protocol : List ℕ → ℕ
ip_protocol b = slice_index b 9

abbrev pub ip_src : List ℕ → ℕ
ip_src b = number 4 (drop 12 b)

abbrev pub ip_dst : List ℕ → ℕ
ip_dst b = number 4 (drop 16 b)

abbrev pub ip_header : List ℕ → List ℕ
ip_header b = take (4 * ip_words b) b

-- what the total length covers after the header
abbrev pub ip_payload : List ℕ → List ℕ
ip_payload b = take (ip_total b - 4 * ip_words b) (drop (4 * ip_words b) b)

-- what follows the total length
abbrev pub ip_tail : List ℕ → List ℕ
ip_tail b = drop (ip_total b) b

-- TCP and UDP, of the datagram's payload

abbrev pub proto_of : ℕ → Option Proto
proto_of protocol = if protocol == 6 then Some Tcp else if protocol == 17 then Some Udp else None

-- the protocol of a datagram that breaks no rule
abbrev pub proto_in : ℕ → Proto
proto_in protocol = unwrap_or (proto_of protocol) Udp

abbrev pub seg_src_port : List ℕ → ℕ
seg_src_port s = number 2 s

abbrev pub seg_dst_port : List ℕ → ℕ
seg_dst_port s = number 2 (drop 2 s)

-- the data offset: the TCP header's length in words of four bytes
abbrev pub tcp_words : List ℕ → ℕ
tcp_words s = slice_index s 12 / 16

-- the length of UDP header and data in bytes
abbrev pub udp_len : List ℕ → ℕ
udp_len s = number 2 (drop 4 s)

abbrev pub udp_checksum : List ℕ → ℕ
udp_checksum s = number 2 (drop 6 s)

abbrev pub seg_payload : Proto → List ℕ → List ℕ
seg_payload Tcp s = drop (4 * tcp_words s) s
seg_payload Udp s = take (udp_len s - 8) (drop 8 s)

-- the length of header and data in bytes
abbrev pub seg_len : Proto → List ℕ → ℕ
seg_len Tcp s = length s
seg_len Udp s = udp_len s

-- what stands before a segment while it is summed; the length has 16 bits
abbrev pub pseudo_header : ℕ → ℕ → ℕ → ℕ → List ℕ
pseudo_header src dst protocol len =
    bytes_high_first 4 src ++ bytes_high_first 4 dst ++ 0 ∷ protocol ∷ bytes_high_first 2 len

-- THE RULES. Each answers the first that is broken.

-- what goes out has these equal; what comes in need not
abbrev pub is_equal_out : Dir → ℕ → ℕ → Bool
is_equal_out In m n = true
is_equal_out Out m n = m == n

unfoldable pub eth_broken : List ℕ → Option Rule
eth_broken w =
    if nat_lt (length w) 14 then Some F1
    else if not (eth_type w == 0x0800) then Some F2
    else None

-- the addresses of Ethernet
unfoldable pub mac_broken : Local → Dir → ℕ → ℕ → Option Rule
mac_broken local In dest source = if not (dest == local.mac) then Some F4 else None
mac_broken local Out dest source =
    if not (source == local.mac) then Some F3
    else if not (dest == local.gateway) then Some F4
    else None

abbrev pub is_ip_form : Dir → List ℕ → Bool
is_ip_form dir b =
    nat_le 20 (length b) && (ip_version b == 4) && nat_le 5 (ip_words b)
    && nat_le (4 * ip_words b) (ip_total b)
    && nat_le (ip_total b) (length b) && is_equal_out dir (ip_words b) 5

unfoldable pub ip_broken : Dir → List ℕ → Option Rule
ip_broken dir b =
    if not (is_ip_form dir b) then Some F5
    else if not (sum16 (ip_header b) == 0) then Some F6
    else if not (ip_fragment b % 0x4000 == 0) then Some F7
    else None

-- the addresses of IPv4
unfoldable pub addr_broken : Local → Dir → ℕ → ℕ → Option Rule
addr_broken local In src dst = if not (dst == local.addr) then Some F8 else None
addr_broken local Out src dst = if not (src == local.addr) then Some F8 else None

abbrev pub is_seg_form : Dir → Proto → List ℕ → Bool
is_seg_form dir Tcp s = nat_le 20 (length s) && nat_le 5 (tcp_words s)
    && nat_le (4 * tcp_words s) (length s)
is_seg_form dir Udp s =
    nat_le 8 (length s) && nat_le 8 (udp_len s) && nat_le (udp_len s) (length s)
    && is_equal_out dir (udp_len s) (length s)

abbrev pub is_seg_sum : Proto → ℕ → ℕ → List ℕ → Bool
is_seg_sum Tcp src dst s = sum16 (pseudo_header src dst 6 (length s) ++ s) == 0
is_seg_sum Udp src dst s =
    (udp_checksum s == 0) || (sum16 (pseudo_header src dst 17 (udp_len s)
    ++ take (udp_len s) s) == 0)

abbrev pub seg_broken_over : Dir → Option Proto → ℕ → ℕ → List ℕ → Option Rule
seg_broken_over dir None src dst s = Some F9
seg_broken_over dir (Some proto) src dst s =
    if not (is_seg_form dir proto s) then Some F10
    else if not (is_seg_sum proto src dst s) then Some F11
    else None

unfoldable pub seg_broken : Dir → ℕ → ℕ → ℕ → List ℕ → Option Rule
seg_broken dir protocol src dst s = seg_broken_over dir (proto_of protocol) src dst s

-- what follows the datagram
unfoldable pub tail_broken : Dir → List ℕ → Option Rule
tail_broken In tail = None
tail_broken Out tail = if not (list_all (λ b. b == 0) tail) then Some F15 else None

-- of a datagram and its segment
abbrev pub datagram_broken : Local → Dir → List ℕ → Option Rule
datagram_broken local dir b =
    option_or (ip_broken dir b)
    (option_or (addr_broken local dir (ip_src b) (ip_dst b))
    (option_or (seg_broken dir (ip_protocol b) (ip_src b) (ip_dst b) (ip_payload b))
    (tail_broken dir (ip_tail b))))

-- of a whole frame. A rule is asked only where the earlier ones hold.
unfoldable pub first_broken : Local → Dir → List ℕ → Option Rule
first_broken local dir w =
    option_or (eth_broken w)
    (option_or (mac_broken local dir (eth_dest w) (eth_source w))
    (datagram_broken local dir (eth_payload w)))

-- protocol, port on this machine and other end, of the ends of a datagram
abbrev pub heading_between : Dir → Proto → ℕ → ℕ → ℕ → ℕ → Heading
heading_between In proto src src_port dst dst_port =
    record { proto = proto; port = dst_port; remote = record { addr = src; port = src_port } }
heading_between Out proto src src_port dst dst_port =
    record { proto = proto; port = src_port; remote = record { addr = dst; port = dst_port } }

abbrev pub datagram_heading : Dir → List ℕ → Heading
datagram_heading dir b =
    heading_between dir (proto_in (ip_protocol b))
    (ip_src b) (seg_src_port (ip_payload b)) (ip_dst b) (seg_dst_port (ip_payload b))

-- the heading of a frame that breaks no rule
unfoldable pub heading_of : Dir → List ℕ → Heading
heading_of dir w = datagram_heading dir (eth_payload w)
