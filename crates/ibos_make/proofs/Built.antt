-- What is built is a datagram of the parts that are wanted.
use Rattle.std.proofs.Common.{◌≡◌, ℕ, ◌+◌, ◌^◌, ◌<◌, ◌≤◌, List, [], ◌∷◌, ◌++◌, length, refl, ap, sym, subst, ◌∙◌, inl, inr, arith}
use Rattle.std.proofs.lemmas.List.{append-nil}
use Rattle.std.specs.Int.{bytes_high_first}
use Rattle.ibos_kinds.specs.declared.names.Dir.{Dir}
use Rattle.ibos_kinds.specs.declared.names.Dir.TheVariants.{In, Out}
use Rattle.ibos_kinds.specs.declared.names.Local.{Local}
use Rattle.ibos_kinds.specs.declared.names.Endpoint.{Endpoint}
use Rattle.ibos_kinds.specs.declared.names.Proto.{Proto}
use Rattle.ibos_kinds.specs.declared.names.Proto.TheVariants.{Tcp, Udp}
use Rattle.ibos_kinds.specs.Sums.{sum16}
use Rattle.ibos_kinds.specs.Frames.{pseudo_header}
use Rattle.ibos_kinds.specs.Datagrams.{ip_bytes, transport_bytes, segment_bytes, frame_bytes, IsIpHeader, segment_sum, IsSegment, Goes, Datagram}
use Rattle.ibos_make.specs.declared.building.FrameSpec.{FrameSpec}
use Rattle.ibos_make.specs.Building.{protocol_number, header_len, ip_for, transport_for, parts_with, ip_checksum_for, checksum_for, parts_for, receiver, sender}
use Rattle.ibos_make.proofs.Checksums.{sum16-right, sum16-fits, written-is, written-fits}

-- the numbers of what a frame is to say have the bits of their types, and the payload its limit
pub record FitsSpec (spec : FrameSpec) : Type 0 where
  pub to : spec.to < 2 ^ 48
  pub from : spec.from < 2 ^ 48
  pub src : spec.src.addr < 2 ^ 32
  pub dst : spec.dst.addr < 2 ^ 32
  pub src_port : spec.src.port < 2 ^ 16
  pub dst_port : spec.dst.port < 2 ^ 16
  pub payload : length spec.payload ≤ 1460

header_len-le : (proto : Proto) → header_len proto ≤ 20
header_len-le Tcp = omega arith
header_len-le Udp = omega arith

protocol_number-lt : (proto : Proto) → protocol_number proto < 256
protocol_number-lt Tcp = omega arith
protocol_number-lt Udp = omega arith

ip_is : (spec : FrameSpec) → FitsSpec spec → IsIpHeader (ip_for spec (ip_checksum_for spec))
ip_is spec fits =
    let payload = fits.payload in
    let total : ℕ = 20 + header_len spec.proto + length spec.payload in
    let front : List ℕ = 69 ∷ 0 ∷ bytes_high_first 2 total ++ 0 ∷ 0 ∷ 0x40 ∷ 0 ∷ 64 ∷ protocol_number spec.proto ∷ [] in
    let rest : List ℕ = bytes_high_first 4 spec.src.addr ++ bytes_high_first 4 spec.dst.addr in
    record {
      fits = record {
        words = omega arith;
        service = omega arith;
        total = omega (arith, header_len-le spec.proto);
        identification = omega arith;
        fragment = omega arith;
        time_to_live = omega arith;
        protocol = protocol_number-lt spec.proto;
        checksum = sum16-fits (ip_bytes (ip_for spec 0));
        src = fits.src;
        dst = fits.dst;
      };
      len = refl;
      checksum = sum16-right front rest 5 (ip_checksum_for spec) refl (sum16-fits (ip_bytes (ip_for spec 0))) (omega arith) (inl refl);
      whole = refl;
    }

tcp_is : (to from : ℕ) (src dst : Endpoint) (payload : List ℕ) (ip : ℕ)
    → (let spec : FrameSpec = record { to = to; from = from; src = src; dst = dst; proto = Tcp; payload = payload } in
    FitsSpec spec → IsSegment (parts_with spec ip (checksum_for spec)) (transport_for Tcp (length payload) (checksum_for spec)))
tcp_is to from src dst payload ip fits =
    let spec : FrameSpec = record { to = to; from = from; src = src; dst = dst; proto = Tcp; payload = payload } in
    let front : List ℕ = pseudo_header src.addr dst.addr 6 (20 + length payload)
    ++ bytes_high_first 2 src.port ++ bytes_high_first 2 dst.port ++ 0 ∷ 0 ∷ 0 ∷ 1 ∷ 0 ∷ 0 ∷ 0 ∷ 1 ∷ 0x50 ∷ 0x18 ∷ 0x20 ∷ 0 ∷ [] in
    record {
      fits = record {
        sequence = omega arith;
        acknowledgement = omega arith;
        words = omega arith;
        reserved = omega arith;
        flags = omega arith;
        window = omega arith;
        checksum = sum16-fits (front ++ (0 ∷ 0 ∷ 0 ∷ 0 ∷ payload));
        urgent = omega arith;
      };
      protocol = refl;
      len = refl;
      total = refl;
      checksum = sum16-right front (0 ∷ 0 ∷ payload) 14 (checksum_for spec) refl (sum16-fits (front ++ (0 ∷ 0 ∷ 0 ∷ 0 ∷ payload))) (omega arith) (inl refl);
    }

udp_is : (to from : ℕ) (src dst : Endpoint) (payload : List ℕ) (ip : ℕ)
    → (let spec : FrameSpec = record { to = to; from = from; src = src; dst = dst; proto = Udp; payload = payload } in
    FitsSpec spec → IsSegment (parts_with spec ip (checksum_for spec)) (transport_for Udp (length payload) (checksum_for spec)))
udp_is to from src dst payload ip fits =
    let spec : FrameSpec = record { to = to; from = from; src = src; dst = dst; proto = Udp; payload = payload } in
    let front : List ℕ = pseudo_header src.addr dst.addr 17 (8 + length payload)
    ++ bytes_high_first 2 src.port ++ bytes_high_first 2 dst.port ++ bytes_high_first 2 (8 + length payload) in
    let blank : List ℕ = front ++ (0 ∷ 0 ∷ payload) in
    let few = fits.payload in
    record {
      fits = record { len = omega arith; checksum = written-fits blank };
      protocol = refl;
      len = refl;
      total = omega arith;
      covered = omega arith;
      checksum = inr (sum16-right front payload 9 (checksum_for spec) refl (written-fits blank) (omega arith) (written-is blank));
    }

segment_is : (to from : ℕ) (src dst : Endpoint) (proto : Proto) (payload : List ℕ) (ip : ℕ)
    → (let spec : FrameSpec = record { to = to; from = from; src = src; dst = dst; proto = proto; payload = payload } in
    FitsSpec spec → IsSegment (parts_with spec ip (checksum_for spec)) (transport_for proto (length payload) (checksum_for spec)))
segment_is to from src dst Tcp payload ip fits = tcp_is to from src dst payload ip fits
segment_is to from src dst Udp payload ip fits = udp_is to from src dst payload ip fits

length-segment : (proto : Proto) (spec : FrameSpec) (len checksum : ℕ)
    → length (bytes_high_first 2 spec.src.port ++ bytes_high_first 2 spec.dst.port ++ transport_bytes (transport_for proto len checksum)) ≡ header_len proto
length-segment Tcp spec len checksum = refl
length-segment Udp spec len checksum = refl

goes_in : (spec : FrameSpec) (gateway : ℕ) → Goes (receiver spec gateway) In (parts_for spec)
unfolding parts_for
goes_in spec gateway = record { dest = refl; dst = refl }

goes_out : (spec : FrameSpec) → Goes (sender spec) Out (parts_for spec)
unfolding parts_for
goes_out spec =
    record {
      source = refl;
      dest = refl;
      src = refl;
      words = refl;
      total = omega (arith, length-segment spec.proto spec (length spec.payload) (checksum_for spec));
      rest = λ k d l. absurd (omega arith);
    }

pub datagram-built : (spec : FrameSpec) (local : Local) (dir : Dir) → FitsSpec spec → Goes local dir (parts_for spec) → Datagram local dir (frame_bytes (parts_for spec)) (parts_for spec)
unfolding parts_for
datagram-built spec local dir fits goes = record {
  joined = refl;
  dest = fits.to;
  source = fits.from;
  ip = ip_is spec fits;
  src_port = fits.src_port;
  dst_port = fits.dst_port;
  segment = segment_is spec.to spec.from spec.src spec.dst spec.proto spec.payload (ip_checksum_for spec) fits;
  goes = goes;
}

pub built_in : (spec : FrameSpec) (gateway : ℕ) (frame : List ℕ) → FitsSpec spec → frame ≡ frame_bytes (parts_for spec) → Datagram (receiver spec gateway) In frame (parts_for spec)
built_in spec gateway frame fits is =
    let P : List ℕ → Type 0 = λ w. Datagram (receiver spec gateway) In w (parts_for spec) in
    subst P (sym is) (datagram-built spec (receiver spec gateway) In fits (goes_in spec gateway))

pub built_out : (spec : FrameSpec) (frame : List ℕ) → FitsSpec spec → frame ≡ frame_bytes (parts_for spec) → Datagram (sender spec) Out frame (parts_for spec)
built_out spec frame fits is =
    let P : List ℕ → Type 0 = λ w. Datagram (sender spec) Out w (parts_for spec) in
    subst P (sym is) (datagram-built spec (sender spec) Out fits (goes_out spec))

-- THE LAYOUT

pub checksum-blank : (spec : FrameSpec) (header : List ℕ) (sum : ℕ)
    → sum ≡ sum16 (pseudo_header spec.src.addr spec.dst.addr (protocol_number spec.proto) (length header + length spec.payload) ++ (header ++ spec.payload))
    → header ≡ segment_bytes (parts_with spec 0 0) → sum ≡ segment_sum (parts_with spec 0 0) (protocol_number spec.proto)
checksum-blank spec header sum summed blank =
    summed ∙ ap (λ h. sum16 (pseudo_header spec.src.addr spec.dst.addr (protocol_number spec.proto) (length h + length spec.payload) ++ (h ++ spec.payload))) blank

pub frame-layout : (spec : FrameSpec) (frame header : List ℕ) (sum : ℕ)
    → frame ≡ bytes_high_first 6 spec.to ++ bytes_high_first 6 spec.from ++ bytes_high_first 2 0x0800 ++ ip_bytes (ip_for spec (ip_checksum_for spec)) ++ header ++ spec.payload
    → header ≡ segment_bytes (parts_with spec 0 sum) → sum ≡ checksum_for spec → frame ≡ frame_bytes (parts_for spec)
unfolding parts_for
frame-layout spec frame header sum joined blank right =
    let front : List ℕ = bytes_high_first 6 spec.to ++ bytes_high_first 6 spec.from ++ bytes_high_first 2 0x0800 ++ ip_bytes (ip_for spec (ip_checksum_for spec)) in
    joined
    ∙ ap (λ h. front ++ h ++ spec.payload) (blank ∙ ap (λ n. segment_bytes (parts_with spec 0 n)) right)
    ∙ sym (append-nil (front ++ segment_bytes (parts_with spec 0 (checksum_for spec)) ++ spec.payload))
