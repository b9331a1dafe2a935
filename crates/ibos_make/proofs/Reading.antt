-- Parts that are joined are read again at their places.
use Rattle.std.proofs.Common.{◌≡◌, ℕ, ◌+◌, ◌-◌, ◌*◌, ◌/◌, ◌%◌, ◌^◌, ◌<◌, List, ◌++◌, length, take, drop, refl, ap, sym, ◌∙◌, arith, length-append}
use Rattle.std.proofs.lemmas.List.{take_at, drop_at}
use Rattle.std.specs.Int.{bytes_high_first}
use Rattle.ibos_kinds.specs.declared.names.Proto.{Proto}
use Rattle.ibos_kinds.specs.declared.names.Proto.TheVariants.{Tcp, Udp}
use Rattle.ibos_kinds.specs.Frames.{ip_version, ip_words, ip_total, ip_fragment, ip_protocol, ip_src, ip_dst, ip_header, seg_src_port, seg_dst_port, seg_payload, seg_len}
use Rattle.ibos_kinds.specs.Datagrams.{IpHeader, TcpHeader, UdpHeader, Transport, OverTcp, OverUdp, ip_bytes, transport_bytes, FitsTcp, FitsUdp, IsIpHeader, ip_at, transport_at}
use Rattle.ibos_make.proofs.Numbers.{number-bytes}

-- an IPv4 header is read from its bytes, whatever follows
pub ip_at-bytes : (h : IpHeader) (more : List ℕ) → IsIpHeader h → ip_at (ip_bytes h ++ more) ≡ h
ip_at-bytes h more is =
    let room = is.fits.words in
    let words : (64 + h.words) % 16 ≡ h.words = omega arith in
    let count : 4 * h.words - 20 ≡ length h.options = omega (arith, is.len) in
    let total = number-bytes 2 h.total _ is.fits.total in
    let identification = number-bytes 2 h.identification _ is.fits.identification in
    let fragment = number-bytes 2 h.fragment _ is.fits.fragment in
    let checksum = number-bytes 2 h.checksum _ is.fits.checksum in
    let src = number-bytes 4 h.src _ is.fits.src in
    let dst = number-bytes 4 h.dst _ is.fits.dst in
    let options : take (4 * ((64 + h.words) % 16) - 20) (h.options ++ more) ≡ h.options =
    ap (λ n. take (4 * n - 20) (h.options ++ more)) words ∙ take_at h.options more (4 * h.words - 20) (sym count) in
    λ i. record {
      words = words i;
      service = h.service;
      total = total i;
      identification = identification i;
      fragment = fragment i;
      time_to_live = h.time_to_live;
      protocol = h.protocol;
      checksum = checksum i;
      src = src i;
      dst = dst i;
      options = options i;
    }

-- so are the fields of which rules speak
pub record IsIpRead (h : IpHeader) (b : List ℕ) : Type 0 where
  pub version : ip_version b ≡ 4
  pub words : ip_words b ≡ h.words
  pub total : ip_total b ≡ h.total
  pub fragment : ip_fragment b ≡ h.fragment
  pub protocol : ip_protocol b ≡ h.protocol
  pub src : ip_src b ≡ h.src
  pub dst : ip_dst b ≡ h.dst
  pub header : ip_header b ≡ ip_bytes h

pub ip-bytes : (h : IpHeader) (more : List ℕ) → IsIpHeader h → IsIpRead h (ip_bytes h ++ more)
ip-bytes h more is =
    let room = is.fits.words in
    let words : (64 + h.words) % 16 ≡ h.words = omega arith in
    record {
      version = omega arith;
      words = words;
      total = number-bytes 2 h.total _ is.fits.total;
      fragment = number-bytes 2 h.fragment _ is.fits.fragment;
      protocol = refl;
      src = number-bytes 4 h.src _ is.fits.src;
      dst = number-bytes 4 h.dst _ is.fits.dst;
      header = ap (λ n. take (4 * n) (ip_bytes h ++ more)) words ∙ take_at (ip_bytes h) more (4 * h.words) is.len;
    }

-- a segment's header: its ports, and what stands after them
abbrev pub header_bytes : ℕ → ℕ → Transport → List ℕ
header_bytes src_port dst_port transport = bytes_high_first 2 src_port ++ bytes_high_first 2 dst_port ++ transport_bytes transport

-- the parts of a segment are read from its bytes
pub record IsSegmentRead (proto : Proto) (from to : ℕ) (fields : Transport) (data_bytes s : List ℕ) : Type 0 where
  pub src_port : seg_src_port s ≡ from
  pub dst_port : seg_dst_port s ≡ to
  pub transport : transport_at proto s ≡ fields
  pub payload : seg_payload proto s ≡ data_bytes
  pub len : seg_len proto s ≡ length (header_bytes from to fields) + length data_bytes

pub tcp-bytes : (src_port dst_port : ℕ) (h : TcpHeader) (payload : List ℕ) → src_port < 2 ^ 16 → dst_port < 2 ^ 16 → FitsTcp h
    → length (header_bytes src_port dst_port (OverTcp h)) ≡ 4 * h.words
    → IsSegmentRead Tcp src_port dst_port (OverTcp h) payload (header_bytes src_port dst_port (OverTcp h) ++ payload)
tcp-bytes src_port dst_port h payload src dst fits len =
    let reserved = fits.reserved in
    let words : (16 * h.words + h.reserved) / 16 ≡ h.words = omega arith in
    let rest : (16 * h.words + h.reserved) % 16 ≡ h.reserved = omega arith in
    let count : 4 * h.words - 20 ≡ length h.options = omega (arith, len) in
    let sequence = number-bytes 4 h.sequence _ fits.sequence in
    let acknowledgement = number-bytes 4 h.acknowledgement _ fits.acknowledgement in
    let window = number-bytes 2 h.window _ fits.window in
    let checksum = number-bytes 2 h.checksum _ fits.checksum in
    let urgent = number-bytes 2 h.urgent _ fits.urgent in
    let options : take (4 * ((16 * h.words + h.reserved) / 16) - 20) (h.options ++ payload) ≡ h.options =
    ap (λ n. take (4 * n - 20) (h.options ++ payload)) words ∙ take_at h.options payload (4 * h.words - 20) (sym count) in
    record {
      src_port = number-bytes 2 src_port _ src;
      dst_port = number-bytes 2 dst_port _ dst;
      transport = λ i. OverTcp (record {
        sequence = sequence i;
        acknowledgement = acknowledgement i;
        words = words i;
        reserved = rest i;
        flags = h.flags;
        window = window i;
        checksum = checksum i;
        urgent = urgent i;
        options = options i;
      });
      payload = ap (λ n. drop (4 * n) (header_bytes src_port dst_port (OverTcp h) ++ payload)) words ∙ drop_at (header_bytes src_port dst_port (OverTcp h)) payload (4 * h.words) len;
      len = length-append (header_bytes src_port dst_port (OverTcp h)) payload;
    }

pub udp-bytes : (src_port dst_port : ℕ) (h : UdpHeader) (payload slack : List ℕ) → src_port < 2 ^ 16 → dst_port < 2 ^ 16 → FitsUdp h
    → h.len ≡ length (header_bytes src_port dst_port (OverUdp h)) + length payload
    → IsSegmentRead Udp src_port dst_port (OverUdp h) payload (header_bytes src_port dst_port (OverUdp h) ++ (payload ++ slack))
udp-bytes src_port dst_port h payload slack src dst fits is =
    let len = number-bytes 2 h.len _ fits.len in
    let checksum = number-bytes 2 h.checksum _ fits.checksum in
    let count : h.len - 8 ≡ length payload = omega (arith, is) in
    record {
      src_port = number-bytes 2 src_port _ src;
      dst_port = number-bytes 2 dst_port _ dst;
      transport = λ i. OverUdp (record { len = len i; checksum = checksum i });
      payload = ap (λ n. take (n - 8) (payload ++ slack)) len ∙ take_at payload slack (h.len - 8) (sym count);
      len = len ∙ is;
    }
