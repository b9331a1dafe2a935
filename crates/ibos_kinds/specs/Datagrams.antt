-- Datagrams: frames as they are joined from their parts, as Ethernet II, RFC 791 (3.1), RFC 9293
-- (3.1) and RFC 768 lay them out.
use Rattle.std.specs.Prelude.{ℕ, ◌≡◌, ◌+◌, ◌-◌, ◌*◌, ◌%◌, ◌^◌, ◌<◌, ◌≤◌, ◌⊎◌, ◌↔◌, List, ◌∷◌, ◌++◌}
use Rattle.std.specs.Prelude.{length, take, drop, slice_index, All, None}
use Rattle.std.specs.Int.{bytes_high_first}
use Rattle.ibos_kinds.specs.declared.names.Dir.{Dir}
use Rattle.ibos_kinds.specs.declared.names.Dir.TheVariants.{In, Out}
use Rattle.ibos_kinds.specs.declared.names.Local.{Local}
use Rattle.ibos_kinds.specs.declared.names.Heading.{Heading}
use Rattle.ibos_kinds.specs.declared.names.Proto.{Proto}
use Rattle.ibos_kinds.specs.declared.names.Proto.TheVariants.{Tcp, Udp}
use Rattle.ibos_kinds.specs.Sums.{sum16}
use Rattle.ibos_kinds.specs.Frames.{IsBytes, number, eth_dest, eth_source, eth_payload, ip_words}
use Rattle.ibos_kinds.specs.Frames.{ip_total, ip_fragment, ip_protocol, ip_src, ip_dst, ip_payload}
use Rattle.ibos_kinds.specs.Frames.{seg_src_port, seg_dst_port, seg_payload, seg_len, proto_in}
use Rattle.ibos_kinds.specs.Frames.{tcp_words, udp_len, udp_checksum, pseudo_header, first_broken}
use Rattle.ibos_kinds.specs.Frames.{heading_between, heading_of}

-- the numbers of an IPv4 header, and its options
pub record IpHeader : Type 0 where
  -- its length in words of four bytes
  pub words : ℕ
  pub service : ℕ
  -- the length of header and data in bytes
  pub total : ℕ
  pub identification : ℕ
  -- flags and fragment offset
  pub fragment : ℕ
  pub time_to_live : ℕ
  pub protocol : ℕ
  pub checksum : ℕ
  pub src : ℕ
  pub dst : ℕ
  pub options : List ℕ

-- a TCP header after its ports
pub record TcpHeader : Type 0 where
  pub sequence : ℕ
  pub acknowledgement : ℕ
  -- the length of the whole header in words of four bytes
  pub words : ℕ
  pub reserved : ℕ
  pub flags : ℕ
  pub window : ℕ
  pub checksum : ℕ
  pub urgent : ℕ
  pub options : List ℕ

-- a UDP header after its ports
pub record UdpHeader : Type 0 where
  -- the length of header and data in bytes
  pub len : ℕ
  pub checksum : ℕ

pub data Transport : Type 0 where
  OverTcp : (header : TcpHeader) → Transport
  OverUdp : (header : UdpHeader) → Transport

pub record Parts : Type 0 where
  -- the addresses of Ethernet
  pub dest : ℕ
  pub source : ℕ
  pub ip : IpHeader
  pub src_port : ℕ
  pub dst_port : ℕ
  pub transport : Transport
  pub payload : List ℕ
  -- what follows the payload, within the datagram or after it
  pub rest : List ℕ

-- HOW THEY ARE JOINED

abbrev pub ip_bytes : IpHeader → List ℕ
ip_bytes h =
    (64 + h.words) ∷ h.service ∷ bytes_high_first 2 h.total
    ++ bytes_high_first 2 h.identification ++ bytes_high_first 2 h.fragment
    ++ h.time_to_live ∷ h.protocol ∷ bytes_high_first 2 h.checksum
    ++ bytes_high_first 4 h.src
    ++ bytes_high_first 4 h.dst
    ++ h.options

abbrev pub transport_bytes : Transport → List ℕ
transport_bytes (OverTcp h) =
    bytes_high_first 4 h.sequence
    ++ bytes_high_first 4 h.acknowledgement
    ++ (16 * h.words + h.reserved) ∷ h.flags ∷ bytes_high_first 2 h.window
    ++ bytes_high_first 2 h.checksum ++ bytes_high_first 2 h.urgent
    ++ h.options
transport_bytes (OverUdp h) = bytes_high_first 2 h.len ++ bytes_high_first 2 h.checksum

-- the header of the segment: the ports, and what stands after them
abbrev pub segment_bytes : Parts → List ℕ
segment_bytes p = bytes_high_first 2 p.src_port ++ bytes_high_first 2 p.dst_port
    ++ transport_bytes p.transport

abbrev pub frame_bytes : Parts → List ℕ
frame_bytes p =
    bytes_high_first 6 p.dest ++ bytes_high_first 6 p.source ++ bytes_high_first 2 0x0800
    ++ ip_bytes p.ip ++ segment_bytes p ++ p.payload ++ p.rest

-- WHAT IS DEMANDED OF THEM

-- each number has the bits of its field
pub record FitsIp (h : IpHeader) : Type 0 where
  pub words : h.words < 16
  pub service : h.service < 256
  pub total : h.total < 2 ^ 16
  pub identification : h.identification < 2 ^ 16
  pub fragment : h.fragment < 2 ^ 16
  pub time_to_live : h.time_to_live < 256
  pub protocol : h.protocol < 256
  pub checksum : h.checksum < 2 ^ 16
  pub src : h.src < 2 ^ 32
  pub dst : h.dst < 2 ^ 32

pub record FitsTcp (h : TcpHeader) : Type 0 where
  pub sequence : h.sequence < 2 ^ 32
  pub acknowledgement : h.acknowledgement < 2 ^ 32
  pub words : h.words < 16
  pub reserved : h.reserved < 16
  pub flags : h.flags < 256
  pub window : h.window < 2 ^ 16
  pub checksum : h.checksum < 2 ^ 16
  pub urgent : h.urgent < 2 ^ 16

pub record FitsUdp (h : UdpHeader) : Type 0 where
  pub len : h.len < 2 ^ 16
  pub checksum : h.checksum < 2 ^ 16

-- an IPv4 header: options fill it up to its length, the checksum is right, and the datagram is
-- whole: no more fragments follow, and it is none at an offset
pub record IsIpHeader (h : IpHeader) : Type 0 where
  pub fits : FitsIp h
  pub len : length (ip_bytes h) ≡ 4 * h.words
  pub checksum : sum16 (ip_bytes h) ≡ 0
  pub whole : h.fragment % 0x4000 ≡ 0

-- the length in bytes of all that stands up to the payload's end
abbrev pub used : Parts → ℕ
used p = length (ip_bytes p.ip) + length (segment_bytes p) + length p.payload

-- the sum of segment header and payload behind a pseudo-header
abbrev pub segment_sum : Parts → ℕ → ℕ
segment_sum p protocol =
    sum16 (pseudo_header p.ip.src p.ip.dst protocol (length (segment_bytes p) + length p.payload)
    ++ (segment_bytes p ++ p.payload))

-- a TCP segment fills its datagram
pub record IsTcpSegment (p : Parts) (h : TcpHeader) : Type 0 where
  pub fits : FitsTcp h
  pub protocol : p.ip.protocol ≡ 6
  pub len : length (segment_bytes p) ≡ 4 * h.words
  pub total : p.ip.total ≡ used p
  pub checksum : segment_sum p 6 ≡ 0

-- a UDP datagram has a length of its own, and may have no checksum
pub record IsUdpSegment (p : Parts) (h : UdpHeader) : Type 0 where
  pub fits : FitsUdp h
  pub protocol : p.ip.protocol ≡ 17
  pub len : h.len ≡ length (segment_bytes p) + length p.payload
  pub total : used p ≤ p.ip.total
  pub covered : p.ip.total ≤ used p + length p.rest
  pub checksum : (h.checksum ≡ 0) ⊎ (segment_sum p 17 ≡ 0)

abbrev pub IsSegment : Parts → Transport → Type 0
IsSegment p (OverTcp h) = IsTcpSegment p h
IsSegment p (OverUdp h) = IsUdpSegment p h

-- a frame that comes in bears the own addresses
pub record ComesIn (local : Local) (p : Parts) : Type 0 where
  pub dest : p.dest ≡ local.mac
  pub dst : p.ip.dst ≡ local.addr

-- a frame that goes out bears them too, and goes to the gateway; it has no options of IPv4, and
-- nothing but zeros after its payload, none of them within the datagram
pub record GoesOut (local : Local) (p : Parts) : Type 0 where
  pub source : p.source ≡ local.mac
  pub dest : p.dest ≡ local.gateway
  pub src : p.ip.src ≡ local.addr
  pub words : p.ip.words ≡ 5
  pub total : p.ip.total ≡ used p
  pub rest : All (λ b. b ≡ 0) p.rest

abbrev pub Goes : Local → Dir → Parts → Type 0
Goes local In p = ComesIn local p
Goes local Out p = GoesOut local p

-- the frame is joined of these parts
pub record Datagram (local : Local) (dir : Dir) (w : List ℕ) (p : Parts) : Type 0 where
  pub joined : w ≡ frame_bytes p
  pub dest : p.dest < 2 ^ 48
  pub source : p.source < 2 ^ 48
  pub ip : IsIpHeader p.ip
  pub src_port : p.src_port < 2 ^ 16
  pub dst_port : p.dst_port < 2 ^ 16
  pub segment : IsSegment p p.transport
  pub goes : Goes local dir p

-- THE PARTS AS THEY ARE READ, by fields at places

abbrev pub ip_at : List ℕ → IpHeader
ip_at b = record {
  words = ip_words b;
  service = slice_index b 1;
  total = ip_total b;
  identification = number 2 (drop 4 b);
  fragment = ip_fragment b;
  time_to_live = slice_index b 8;
  protocol = ip_protocol b;
  checksum = number 2 (drop 10 b);
  src = ip_src b;
  dst = ip_dst b;
  options = take (4 * ip_words b - 20) (drop 20 b);
}

abbrev pub transport_at : Proto → List ℕ → Transport
transport_at Tcp s = OverTcp (record {
  sequence = number 4 (drop 4 s);
  acknowledgement = number 4 (drop 8 s);
  words = tcp_words s;
  reserved = slice_index s 12 % 16;
  flags = slice_index s 13;
  window = number 2 (drop 14 s);
  checksum = number 2 (drop 16 s);
  urgent = number 2 (drop 18 s);
  options = take (4 * tcp_words s - 20) (drop 20 s);
})
transport_at Udp s = OverUdp (record { len = udp_len s; checksum = udp_checksum s })

abbrev pub parts_at : ℕ → ℕ → List ℕ → Parts
parts_at dest source b = record {
  dest = dest;
  source = source;
  ip = ip_at b;
  src_port = seg_src_port (ip_payload b);
  dst_port = seg_dst_port (ip_payload b);
  transport = transport_at (proto_in (ip_protocol b)) (ip_payload b);
  payload = seg_payload (proto_in (ip_protocol b)) (ip_payload b);
  rest = drop (4 * ip_words b + seg_len (proto_in (ip_protocol b)) (ip_payload b)) b;
}

unfoldable pub parts_of : List ℕ → Parts
parts_of w = parts_at (eth_dest w) (eth_source w) (eth_payload w)

-- the heading of a frame that is joined of these parts
abbrev pub proto_over : Transport → Proto
proto_over (OverTcp h) = Tcp
proto_over (OverUdp h) = Udp

abbrev pub parts_heading : Dir → Parts → Heading
parts_heading dir p = heading_between dir (proto_over p.transport) p.ip.src p.src_port p.ip.dst
    p.dst_port

-- THE LAW. A frame breaks no rule exactly where it is a datagram of some parts. These parts are
-- unique, and they are those that are read, as is their heading.
abbrev pub BreaksNone : Type 0
BreaksNone =
    (local : Local) (dir : Dir) (w : List ℕ) → IsBytes w →
    (first_broken local dir w ≡ None) ↔ ((p : Parts) × Datagram local dir w p)

abbrev pub HasOneParts : Type 0
HasOneParts =
    (local : Local) (dir : Dir) (w : List ℕ) (p q : Parts) → Datagram local dir w p
    → Datagram local dir w q → p ≡ q

abbrev pub AreRead : Type 0
AreRead = (local : Local) (dir : Dir) (w : List ℕ) (p : Parts) → Datagram local dir w p
    → p ≡ parts_of w

abbrev pub HasHeading : Type 0
HasHeading =
    (local : Local) (dir : Dir) (w : List ℕ) (p : Parts) → Datagram local dir w p
    → heading_of dir w ≡ parts_heading dir p
