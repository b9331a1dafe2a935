-- A datagram of some parts breaks no rule, and its parts are those that are read.
use Rattle.std.proofs.Common.{◌≡◌, ℕ, ◌+◌, ◌-◌, ◌*◌, ◌%◌, ◌^◌, ◌<◌, ◌≤◌, true, List, ◌∷◌, ◌++◌, length, take, drop, Some, None, unwrap_or, refl, ap, sym, ◌∙◌, subst, inl, inr, arith, append_assoc, length-append}
use Rattle.std.proofs.Math.Seq.{take-append-add, drop-append-add}
use Rattle.std.proofs.lemmas.List.{drop_at, append-nil}
use Rattle.std.proofs.lemmas.Bool.Decides.{nat_tests}
use Rattle.std.specs.Int.{bytes_high_first}
use Rattle.ibos_kinds.specs.declared.names.Dir.{Dir}
use Rattle.ibos_kinds.specs.declared.names.Dir.TheVariants.{In, Out}
use Rattle.ibos_kinds.specs.declared.names.Local.{Local}
use Rattle.ibos_kinds.specs.declared.names.Proto.{Proto}
use Rattle.ibos_kinds.specs.declared.names.Proto.TheVariants.{Tcp, Udp}
use Rattle.ibos_kinds.specs.Sums.{sum16}
use Rattle.ibos_kinds.specs.Frames.{eth_dest, eth_source, eth_payload, ip_words, ip_total, ip_protocol, ip_src, ip_dst, ip_payload, ip_tail, proto_of, proto_in, seg_src_port, seg_dst_port, seg_payload, seg_len, tcp_words, udp_len, pseudo_header, is_equal_out, first_broken, heading_between, heading_of}
use Rattle.ibos_kinds.specs.Datagrams.{IpHeader, TcpHeader, UdpHeader, Transport, OverTcp, OverUdp, Parts, ip_bytes, segment_bytes, frame_bytes, IsIpHeader, used, segment_sum, IsTcpSegment, IsUdpSegment, IsSegment, Goes, Datagram, transport_at, parts_at, parts_of, proto_over, parts_heading}
use Rattle.ibos_make.proofs.Numbers.{number-bytes}
use Rattle.ibos_make.proofs.Rules.{IsEthAt, IsSegmentAt, AreMacs, AreAddrs, IsTail, IsKept, IsFrameKept, none_first}
use Rattle.ibos_make.proofs.Reading.{ip_at-bytes, ip-bytes, IsSegmentRead, tcp-bytes, udp-bytes}

-- what Ethernet carries
abbrev pub body : Parts → List ℕ
body p = ip_bytes p.ip ++ (segment_bytes p ++ (p.payload ++ p.rest))

regroup : (a b c d : List ℕ) → ((a ++ b) ++ c) ++ d ≡ a ++ (b ++ (c ++ d))
regroup a b c d = simp append_assoc

-- an IPv4 header without its options
abbrev pub fixed_bytes : IpHeader → List ℕ
fixed_bytes h =
    (64 + h.words) ∷ h.service ∷ bytes_high_first 2 h.total
    ++ bytes_high_first 2 h.identification ++ bytes_high_first 2 h.fragment
    ++ h.time_to_live ∷ h.protocol ∷ bytes_high_first 2 h.checksum
    ++ bytes_high_first 4 h.src
    ++ bytes_high_first 4 h.dst

pub frame_bytes-body : (p : Parts) → frame_bytes p ≡ bytes_high_first 6 p.dest ++ bytes_high_first 6 p.source ++ bytes_high_first 2 0x0800 ++ body p
frame_bytes-body p =
    ap (λ t. bytes_high_first 6 p.dest ++ bytes_high_first 6 p.source ++ bytes_high_first 2 0x0800 ++ (fixed_bytes p.ip ++ t))
    (regroup p.ip.options (segment_bytes p) p.payload p.rest)

record IsEthRead (p : Parts) (w : List ℕ) : Type 0 where
  rules : IsEthAt w
  dest : eth_dest w ≡ p.dest
  source : eth_source w ≡ p.source
  payload : eth_payload w ≡ body p

eth-bytes : (p : Parts) → p.dest < 2 ^ 48 → p.source < 2 ^ 48 → IsEthRead p (frame_bytes p)
eth-bytes p dest source =
    let P : List ℕ → Type 0 = IsEthRead p in
    subst P (sym (frame_bytes-body p)) (record {
      rules = record { header = omega arith; kind = number-bytes 2 0x0800 _ (omega arith) };
      dest = number-bytes 6 p.dest _ dest;
      source = number-bytes 6 p.source _ source;
      payload = refl;
    })

-- the bytes after the payload that the total length covers
abbrev extra : Parts → ℕ
extra p = p.ip.total - used p

-- what IPv4 carries
abbrev segment_of : Parts → List ℕ
segment_of p = segment_bytes p ++ (p.payload ++ take (extra p) p.rest)

cut : (a b c : List ℕ) (n k : ℕ) → n ≡ length a + (length b + k) → take n (a ++ (b ++ c)) ≡ a ++ (b ++ take k c)
cut a b c n k h =
    ap (λ m. take m (a ++ (b ++ c))) h ∙ take-append-add a (b ++ c) (length b + k) ∙ ap (λ t. a ++ t) (take-append-add b c k)

cut_off : (a b c d : List ℕ) (n k : ℕ) → n ≡ length a + (length b + (length c + k)) → drop n (a ++ (b ++ (c ++ d))) ≡ drop k d
cut_off a b c d n k h =
    ap (λ m. drop m (a ++ (b ++ (c ++ d)))) h
    ∙ drop-append-add a (b ++ (c ++ d)) (length b + (length c + k))
    ∙ drop-append-add b (c ++ d) (length c + k) ∙ drop-append-add c d k

ip_payload-body : (p : Parts) → IsIpHeader p.ip → used p ≤ p.ip.total → ip_payload (body p) ≡ segment_of p
ip_payload-body p is room =
    let more : List ℕ = segment_bytes p ++ (p.payload ++ p.rest) in
    let read = ip-bytes p.ip more is in
    let start : drop (4 * ip_words (body p)) (body p) ≡ more =
    ap (λ n. drop (4 * n) (body p)) read.words ∙ drop_at (ip_bytes p.ip) more (4 * p.ip.words) is.len in
    let count : ip_total (body p) - 4 * ip_words (body p) ≡ length (segment_bytes p) + (length p.payload + extra p) =
    omega (arith, read.total, read.words, is.len) in
    ap (take (ip_total (body p) - 4 * ip_words (body p))) start ∙ cut (segment_bytes p) p.payload p.rest _ (extra p) count

ip_tail-body : (p : Parts) → IsIpHeader p.ip → used p ≤ p.ip.total → ip_tail (body p) ≡ drop (extra p) p.rest
ip_tail-body p is room =
    let read = ip-bytes p.ip (segment_bytes p ++ (p.payload ++ p.rest)) is in
    cut_off (ip_bytes p.ip) (segment_bytes p) p.payload p.rest (ip_total (body p)) (extra p) (omega (arith, read.total))

-- the segment of some parts is read, and breaks no rule
record IsRead (dir : Dir) (p : Parts) (s : List ℕ) : Type 0 where
  proto : Proto
  known : proto_of p.ip.protocol ≡ Some proto
  parts : IsSegmentRead proto p.src_port p.dst_port p.transport p.payload s
  rules : IsSegmentAt dir proto p.ip.src p.ip.dst s
  room : used p ≤ p.ip.total
  covered : p.ip.total ≤ used p + length p.rest

known_tcp : (protocol : ℕ) → protocol ≡ 6 → proto_of protocol ≡ Some Tcp
known_tcp protocol h = ap proto_of h

known_udp : (protocol : ℕ) → protocol ≡ 17 → proto_of protocol ≡ Some Udp
known_udp protocol h = ap proto_of h

-- going out, nothing of the rest is within the datagram
filled : (local : Local) (dir : Dir) (p : Parts) → Goes local dir p → (m n : ℕ) → (extra p ≡ 0 → m ≡ n) → is_equal_out dir m n ≡ true
filled local In p goes m n h = refl
filled local Out p goes m n h =
    let none : extra p ≡ 0 = omega (arith, goes.total) in
    let same = h none in
    grind (arith, nat_tests)

tcp_read : (local : Local) (dir : Dir) (dest source : ℕ) (ip : IpHeader) (src_port dst_port : ℕ) (h : TcpHeader) (payload rest : List ℕ)
    → src_port < 2 ^ 16 → dst_port < 2 ^ 16
    → (let p : Parts = record { dest = dest; source = source; ip = ip; src_port = src_port; dst_port = dst_port; transport = OverTcp h; payload = payload; rest = rest } in
    IsTcpSegment p h → IsRead dir p (segment_of p))
tcp_read local dir dest source ip src_port dst_port h payload rest src dst is =
    let p : Parts = record { dest = dest; source = source; ip = ip; src_port = src_port; dst_port = dst_port; transport = OverTcp h; payload = payload; rest = rest } in
    let s : List ℕ = segment_bytes p ++ payload in
    let none : extra p ≡ 0 = omega (arith, is.total) in
    let whole : s ≡ segment_of p =
    ap (λ t. segment_bytes p ++ t) (sym (append-nil payload) ∙ ap (λ n. payload ++ take n rest) (sym none)) in
    let reserved = is.fits.reserved in
    let words : tcp_words s ≡ h.words = omega arith in
    let len : length s ≡ length (segment_bytes p) + length payload = length-append (segment_bytes p) payload in
    let P : List ℕ → Type 0 = IsRead dir p in
    subst P whole (record {
      proto = Tcp;
      known = known_tcp ip.protocol is.protocol;
      parts = tcp-bytes src_port dst_port h payload src dst is.fits is.len;
      rules = record {
        header = omega (arith, len);
        words = omega (arith, words, is.len);
        fits = omega (arith, words, is.len, len);
        checksum = ap (λ n. sum16 (pseudo_header ip.src ip.dst 6 n ++ s)) len ∙ is.checksum;
      };
      room = omega (arith, is.total);
      covered = omega (arith, is.total);
    })

udp_read : (local : Local) (dir : Dir) (dest source : ℕ) (ip : IpHeader) (src_port dst_port : ℕ) (h : UdpHeader) (payload rest : List ℕ)
    → src_port < 2 ^ 16 → dst_port < 2 ^ 16
    → (let p : Parts = record { dest = dest; source = source; ip = ip; src_port = src_port; dst_port = dst_port; transport = OverUdp h; payload = payload; rest = rest } in
    Goes local dir p → IsUdpSegment p h → IsRead dir p (segment_of p))
udp_read local dir dest source ip src_port dst_port h payload rest src dst goes is =
    let p : Parts = record { dest = dest; source = source; ip = ip; src_port = src_port; dst_port = dst_port; transport = OverUdp h; payload = payload; rest = rest } in
    let slack : List ℕ = take (extra p) rest in
    let s : List ℕ = segment_of p in
    let parts = udp-bytes src_port dst_port h payload slack src dst is.fits is.len in
    let len : udp_len s ≡ length (segment_bytes p) + length payload = parts.len in
    let total : length s ≡ length (segment_bytes p) + (length payload + length slack) =
    length-append (segment_bytes p) (payload ++ slack) ∙ ap (λ n. length (segment_bytes p) + n) (length-append payload slack) in
    let covered : take (udp_len s) s ≡ segment_bytes p ++ payload =
    cut (segment_bytes p) payload slack (udp_len s) 0 (omega (arith, len)) ∙ ap (λ t. segment_bytes p ++ t) (append-nil payload) in
    let none : extra p ≡ 0 → udp_len s ≡ length s =
    λ e. let empty : length slack ≡ 0 = ap (λ n. length (take n rest)) e in omega (arith, len, total, empty) in
    let summed : segment_sum p 17 ≡ 0 → sum16 (pseudo_header ip.src ip.dst 17 (udp_len s) ++ take (udp_len s) s) ≡ 0 =
    λ e. ap (λ n. sum16 (pseudo_header ip.src ip.dst 17 n ++ take (udp_len s) s)) len
    ∙ ap (λ t. sum16 (pseudo_header ip.src ip.dst 17 (length (segment_bytes p) + length payload) ++ t)) covered ∙ e in
    record {
      proto = Udp;
      known = known_udp ip.protocol is.protocol;
      parts = parts;
      rules = record {
        header = omega (arith, len);
        fits = omega (arith, len, total);
        out = filled local dir p goes (udp_len s) (length s) none;
        checksum = elim is.checksum [
          | inl none ↦ inl (number-bytes 2 h.checksum _ is.fits.checksum ∙ none)
          | inr right ↦ inr (summed right)
        ];
      };
      room = is.total;
      covered = is.covered;
    }

-- the same of both
segment_read : (local : Local) (dir : Dir) (dest source : ℕ) (ip : IpHeader) (src_port dst_port : ℕ) (transport : Transport) (payload rest : List ℕ)
    → src_port < 2 ^ 16 → dst_port < 2 ^ 16
    → (let p : Parts = record { dest = dest; source = source; ip = ip; src_port = src_port; dst_port = dst_port; transport = transport; payload = payload; rest = rest } in
    Goes local dir p → IsSegment p transport → IsRead dir p (segment_of p))
segment_read local dir dest source ip src_port dst_port (OverTcp h) payload rest src dst goes is =
    tcp_read local dir dest source ip src_port dst_port h payload rest src dst is
segment_read local dir dest source ip src_port dst_port (OverUdp h) payload rest src dst goes is =
    udp_read local dir dest source ip src_port dst_port h payload rest src dst goes is

is_read : (local : Local) (dir : Dir) (w : List ℕ) (p : Parts) → Datagram local dir w p → IsRead dir p (segment_of p)
is_read local dir w p is =
    segment_read local dir p.dest p.source p.ip p.src_port p.dst_port p.transport p.payload p.rest is.src_port is.dst_port is.goes is.segment

-- THE PARTS ARE READ

-- a frame read layer by layer
read_parts : (p : Parts) (proto : Proto) → proto_of p.ip.protocol ≡ Some proto → IsIpHeader p.ip → used p ≤ p.ip.total
    → IsSegmentRead proto p.src_port p.dst_port p.transport p.payload (segment_of p) → p ≡ parts_at p.dest p.source (body p)
read_parts p proto known is room parts =
    let more : List ℕ = segment_bytes p ++ (p.payload ++ p.rest) in
    let read = ip-bytes p.ip more is in
    let s : segment_of p ≡ ip_payload (body p) = sym (ip_payload-body p is room) in
    let from : proto ≡ proto_in p.ip.protocol = ap (λ o. unwrap_or o Udp) (sym known) in
    let src_port : p.src_port ≡ seg_src_port (ip_payload (body p)) = sym parts.src_port ∙ ap seg_src_port s in
    let dst_port : p.dst_port ≡ seg_dst_port (ip_payload (body p)) = sym parts.dst_port ∙ ap seg_dst_port s in
    let transport : p.transport ≡ transport_at (proto_in p.ip.protocol) (ip_payload (body p)) =
    sym parts.transport ∙ ap (transport_at proto) s ∙ ap (λ q. transport_at q (ip_payload (body p))) from in
    let payload : p.payload ≡ seg_payload (proto_in p.ip.protocol) (ip_payload (body p)) =
    sym parts.payload ∙ ap (seg_payload proto) s ∙ ap (λ q. seg_payload q (ip_payload (body p))) from in
    let len : length (segment_bytes p) + length p.payload ≡ seg_len (proto_in p.ip.protocol) (ip_payload (body p)) =
    sym parts.len ∙ ap (seg_len proto) s ∙ ap (λ q. seg_len q (ip_payload (body p))) from in
    let rest : drop (4 * ip_words (body p) + seg_len (proto_in p.ip.protocol) (ip_payload (body p))) (body p) ≡ p.rest =
    cut_off (ip_bytes p.ip) (segment_bytes p) p.payload p.rest (4 * ip_words (body p) + seg_len (proto_in p.ip.protocol) (ip_payload (body p))) 0 (omega (arith, len, read.words, is.len)) in
    let ip = ip_at-bytes p.ip more is in
    λ i. record {
      dest = p.dest;
      source = p.source;
      ip = sym ip i;
      src_port = src_port i;
      dst_port = dst_port i;
      transport = transport i;
      payload = payload i;
      rest = sym rest i;
    }

pub parts_read : (local : Local) (dir : Dir) (w : List ℕ) (p : Parts) → Datagram local dir w p → p ≡ parts_of w
unfolding parts_of
parts_read local dir w p is =
    let read = is_read local dir w p is in
    let eth = eth-bytes p is.dest is.source in
    read_parts p read.proto read.known is.ip read.room read.parts
    ∙ (λ i. parts_at (sym eth.dest i) (sym eth.source i) (sym eth.payload i))
    ∙ ap parts_of (sym is.joined)

-- the heading that is read is that of the parts that are read
proto_over-at : (proto : Proto) (s : List ℕ) → proto ≡ proto_over (transport_at proto s)
proto_over-at Tcp s = refl
proto_over-at Udp s = refl

pub heading-parts : (dir : Dir) (w : List ℕ) → heading_of dir w ≡ parts_heading dir (parts_of w)
unfolding heading_of parts_of
heading-parts dir w =
    let b : List ℕ = eth_payload w in
    let s : List ℕ = ip_payload b in
    ap (λ q. heading_between dir q (ip_src b) (seg_src_port s) (ip_dst b) (seg_dst_port s)) (proto_over-at (proto_in (ip_protocol b)) s)

-- NO RULE IS BROKEN

macs_of : (local : Local) (dir : Dir) (p : Parts) → Goes local dir p → AreMacs local dir p.dest p.source
macs_of local In p goes = goes.dest
macs_of local Out p goes = (goes.source, goes.dest)

addrs_of : (local : Local) (dir : Dir) (p : Parts) → Goes local dir p → AreAddrs local dir p.ip.src p.ip.dst
addrs_of local In p goes = goes.dst
addrs_of local Out p goes = goes.src

words_of : (local : Local) (dir : Dir) (p : Parts) (n : ℕ) → Goes local dir p → n ≡ p.ip.words → is_equal_out dir n 5 ≡ true
words_of local In p n goes h = refl
words_of local Out p n goes h = let five = goes.words in grind (arith, nat_tests)

tail_of : (local : Local) (dir : Dir) (p : Parts) → Goes local dir p → IsTail dir (drop (extra p) p.rest)
tail_of local In p goes = tt
tail_of local Out p goes =
    let none : extra p ≡ 0 = omega (arith, goes.total) in
    let P : ℕ → Type 0 = λ n. IsTail Out (drop n p.rest) in
    subst P (sym none) goes.rest

body_kept : (local : Local) (dir : Dir) (p : Parts) → IsIpHeader p.ip → Goes local dir p → IsRead dir p (segment_of p) → IsKept local dir (body p)
body_kept local dir p is goes seen =
    let read = ip-bytes p.ip (segment_bytes p ++ (p.payload ++ p.rest)) is in
    let room = seen.room in
    let covered = seen.covered in
    let len : length (body p) ≡ length (ip_bytes p.ip) + (length (segment_bytes p) + (length p.payload + length p.rest)) =
    length-append (ip_bytes p.ip) (segment_bytes p ++ (p.payload ++ p.rest))
    ∙ ap (λ n. length (ip_bytes p.ip) + n) (length-append (segment_bytes p) (p.payload ++ p.rest) ∙ ap (λ n. length (segment_bytes p) + n) (length-append p.payload p.rest)) in
    record {
      ip = record {
        header = omega arith;
        version = read.version;
        words = omega (arith, read.words, is.len);
        fits = omega (arith, read.words, read.total, is.len);
        total = omega (arith, read.total, len);
        out = words_of local dir p (ip_words (body p)) goes read.words;
        checksum = ap sum16 read.header ∙ is.checksum;
        whole = ap (λ n. n % 0x4000) read.fragment ∙ is.whole;
      };
      addrs = rw (read.src, read.dst) (addrs_of local dir p goes);
      proto = seen.proto;
      known = seen.known;
      segment = rw (read.src, read.dst, ip_payload-body p is room) seen.rules;
      tail = rw (ip_tail-body p is room) (tail_of local dir p goes);
    }

pub none_broken : (local : Local) (dir : Dir) (w : List ℕ) (p : Parts) → Datagram local dir w p → first_broken local dir w ≡ None
none_broken local dir w p is =
    let read = is_read local dir w p is in
    let eth = eth-bytes p is.dest is.source in
    let kept : IsFrameKept local dir (frame_bytes p) = record {
      eth = eth.rules;
      macs = rw (eth.dest, eth.source) (macs_of local dir p is.goes);
      datagram = rw eth.payload (body_kept local dir p is.ip is.goes read);
    } in
    ap (first_broken local dir) is.joined ∙ none_first local dir (frame_bytes p) kept
