-- A frame that breaks no rule is joined of the parts that are read from it.
use Rattle.std.proofs.Common.{◌≡◌, ℕ, ◌+◌, ◌-◌, ◌*◌, ◌%◌, ◌<◌, ◌≤◌, List, ◌∷◌, ◌++◌, length, take, drop, slice_index, Some, None, unwrap_or, refl, ap, sym, ◌∙◌, subst, inl, inr, arith, append_assoc, length-append}
use Rattle.std.proofs.lemmas.List.{take_at, take_all, take-append-drop, drop-drop, take-take, length-take-le, length-drop}
use Rattle.std.proofs.Math.Seq.{take-append-add}
use Rattle.std.proofs.lemmas.Bool.Decides.{nat_tests}
use Rattle.std.specs.Int.{bytes_high_first}
use Rattle.ibos_kinds.specs.declared.names.Dir.{Dir}
use Rattle.ibos_kinds.specs.declared.names.Dir.TheVariants.{In, Out}
use Rattle.ibos_kinds.specs.declared.names.Local.{Local}
use Rattle.ibos_kinds.specs.declared.names.Proto.{Proto}
use Rattle.ibos_kinds.specs.declared.names.Proto.TheVariants.{Tcp, Udp}
use Rattle.ibos_kinds.specs.Sums.{sum16}
use Rattle.ibos_kinds.specs.Frames.{IsBytes, number, eth_dest, eth_source, eth_payload, ip_words, ip_total, ip_protocol, ip_src, ip_dst, ip_header, ip_payload, ip_tail, proto_of, proto_in, seg_src_port, seg_dst_port, seg_payload, seg_len, tcp_words, udp_len, pseudo_header, first_broken}
use Rattle.ibos_kinds.specs.Datagrams.{Parts, ip_bytes, segment_bytes, IsIpHeader, segment_sum, IsSegment, Goes, Datagram, ip_at, transport_at, parts_of}
use Rattle.ibos_make.proofs.Numbers.{number-lt, IsBytes-drop, IsBytes-take, drop-number, drop-byte}
use Rattle.ibos_make.proofs.Rules.{IsEthAt, IsIpAt, IsTcpAt, IsSegmentAt, AreMacs, AreAddrs, IsTail, IsFrameKept, first_none}
use Rattle.ibos_make.proofs.Reading.{header_bytes}
use Rattle.ibos_make.proofs.Joined.{body, frame_bytes-body}

-- ETHERNET

eth_spelled : (w : List ℕ) → IsBytes w → IsEthAt w → bytes_high_first 6 (eth_dest w) ++ bytes_high_first 6 (eth_source w) ++ bytes_high_first 2 0x0800 ++ eth_payload w ≡ w
eth_spelled w bytes at =
    let long = at.header in
    let dest : w ≡ bytes_high_first 6 (eth_dest w) ++ drop 6 w = drop-number 0 6 w bytes (omega arith) in
    let source : drop 6 w ≡ bytes_high_first 6 (eth_source w) ++ drop 12 w = drop-number 6 6 w bytes (omega arith) in
    let kind : drop 12 w ≡ bytes_high_first 2 0x0800 ++ drop 14 w =
    drop-number 12 2 w bytes (omega arith) ∙ ap (λ n. bytes_high_first 2 n ++ drop 14 w) at.kind in
    sym (dest ∙ ap (λ t. bytes_high_first 6 (eth_dest w) ++ t) (source ∙ ap (λ t. bytes_high_first 6 (eth_source w) ++ t) kind))

-- IPV4

-- the bytes between two places, and what follows
between : (m n : ℕ) (xs : List ℕ) → m ≤ n → drop m xs ≡ take (n - m) (drop m xs) ++ drop n xs
between m n xs h =
    let place : m + (n - m) ≡ n = omega arith in
    sym (take-append-drop (n - m) (drop m xs)) ∙ ap (λ t. take (n - m) (drop m xs) ++ t) (drop-drop (n - m) m xs ∙ ap (λ k. drop k xs) place)

ip_spelled : (dir : Dir) (b : List ℕ) → IsBytes b → IsIpAt dir b → ip_bytes (ip_at b) ++ drop (4 * ip_words b) b ≡ b
ip_spelled dir b bytes at =
    let long = at.header in
    let version : slice_index b 0 ≡ 64 + ip_words b = omega (arith, at.version) in
    let e0 : b ≡ (64 + ip_words b) ∷ drop 1 b = drop-byte 0 b (omega arith) ∙ ap (λ n. n ∷ drop 1 b) version in
    let e1 : drop 1 b ≡ slice_index b 1 ∷ drop 2 b = drop-byte 1 b (omega arith) in
    let e2 = drop-number 2 2 b bytes (omega arith) in
    let e4 = drop-number 4 2 b bytes (omega arith) in
    let e6 = drop-number 6 2 b bytes (omega arith) in
    let e8 = drop-byte 8 b (omega arith) in
    let e9 = drop-byte 9 b (omega arith) in
    let e10 = drop-number 10 2 b bytes (omega arith) in
    let e12 = drop-number 12 4 b bytes (omega arith) in
    let e16 = drop-number 16 4 b bytes (omega arith) in
    let e20 = between 20 (4 * ip_words b) b (omega (arith, at.words)) in
    sym (e0 ∙ ap (λ t. (64 + ip_words b) ∷ t) (e1 ∙ ap (λ t. slice_index b 1 ∷ t) (
    e2 ∙ ap (λ t. bytes_high_first 2 (number 2 (drop 2 b)) ++ t) (
    e4 ∙ ap (λ t. bytes_high_first 2 (number 2 (drop 4 b)) ++ t) (
    e6 ∙ ap (λ t. bytes_high_first 2 (number 2 (drop 6 b)) ++ t) (
    e8 ∙ ap (λ t. slice_index b 8 ∷ t) (
    e9 ∙ ap (λ t. slice_index b 9 ∷ t) (
    e10 ∙ ap (λ t. bytes_high_first 2 (number 2 (drop 10 b)) ++ t) (
    e12 ∙ ap (λ t. bytes_high_first 4 (number 4 (drop 12 b)) ++ t) (
    e16 ∙ ap (λ t. bytes_high_first 4 (number 4 (drop 16 b)) ++ t) e20))))))))))

ip_is_header : (dir : Dir) (b : List ℕ) → IsBytes b → IsIpAt dir b → IsIpHeader (ip_at b)
ip_is_header dir b bytes at =
    let long = at.header in
    let total = at.total in
    let fits = at.fits in
    let words = at.words in
    let options : length (take (4 * ip_words b - 20) (drop 20 b)) ≡ 4 * ip_words b - 20 =
    length-take-le (4 * ip_words b - 20) (drop 20 b) (omega (arith, length-drop 20 b)) in
    let len : length (ip_bytes (ip_at b)) ≡ 4 * ip_words b = omega (arith, options) in
    let spelled : ip_header b ≡ ip_bytes (ip_at b) =
    ap (take (4 * ip_words b)) (sym (ip_spelled dir b bytes at)) ∙ take_at (ip_bytes (ip_at b)) (drop (4 * ip_words b) b) (4 * ip_words b) len in
    let service : slice_index b 1 < 256 = bytes 1 in
    let time_to_live : slice_index b 8 < 256 = bytes 8 in
    let protocol : slice_index b 9 < 256 = bytes 9 in
    record {
      fits = record {
        words = omega arith;
        service = service;
        total = number-lt 2 (drop 2 b) (IsBytes-drop 2 b bytes);
        identification = number-lt 2 (drop 4 b) (IsBytes-drop 4 b bytes);
        fragment = number-lt 2 (drop 6 b) (IsBytes-drop 6 b bytes);
        time_to_live = time_to_live;
        protocol = protocol;
        checksum = number-lt 2 (drop 10 b) (IsBytes-drop 10 b bytes);
        src = number-lt 4 (drop 12 b) (IsBytes-drop 12 b bytes);
        dst = number-lt 4 (drop 16 b) (IsBytes-drop 16 b bytes);
      };
      len = len;
      checksum = ap sum16 (sym spelled) ∙ at.checksum;
      whole = at.whole;
    }

-- SEGMENTS

abbrev header_at : Proto → List ℕ → List ℕ
header_at proto s = header_bytes (seg_src_port s) (seg_dst_port s) (transport_at proto s)

tcp_spelled : (src dst : ℕ) (s : List ℕ) → IsBytes s → IsTcpAt src dst s → header_at Tcp s ++ drop (4 * tcp_words s) s ≡ s
tcp_spelled src dst s bytes at =
    let long = at.header in
    let shared : slice_index s 12 ≡ 16 * tcp_words s + slice_index s 12 % 16 = omega arith in
    let e0 : s ≡ bytes_high_first 2 (number 2 s) ++ drop 2 s = drop-number 0 2 s bytes (omega arith) in
    let e2 = drop-number 2 2 s bytes (omega arith) in
    let e4 = drop-number 4 4 s bytes (omega arith) in
    let e8 = drop-number 8 4 s bytes (omega arith) in
    let e12 : drop 12 s ≡ (16 * tcp_words s + slice_index s 12 % 16) ∷ drop 13 s =
    drop-byte 12 s (omega arith) ∙ ap (λ n. n ∷ drop 13 s) shared in
    let e13 = drop-byte 13 s (omega arith) in
    let e14 = drop-number 14 2 s bytes (omega arith) in
    let e16 = drop-number 16 2 s bytes (omega arith) in
    let e18 = drop-number 18 2 s bytes (omega arith) in
    let e20 = between 20 (4 * tcp_words s) s (omega (arith, at.words)) in
    sym (e0 ∙ ap (λ t. bytes_high_first 2 (number 2 s) ++ t) (
    e2 ∙ ap (λ t. bytes_high_first 2 (number 2 (drop 2 s)) ++ t) (
    e4 ∙ ap (λ t. bytes_high_first 4 (number 4 (drop 4 s)) ++ t) (
    e8 ∙ ap (λ t. bytes_high_first 4 (number 4 (drop 8 s)) ++ t) (
    e12 ∙ ap (λ t. (16 * tcp_words s + slice_index s 12 % 16) ∷ t) (
    e13 ∙ ap (λ t. slice_index s 13 ∷ t) (
    e14 ∙ ap (λ t. bytes_high_first 2 (number 2 (drop 14 s)) ++ t) (
    e16 ∙ ap (λ t. bytes_high_first 2 (number 2 (drop 16 s)) ++ t) (
    e18 ∙ ap (λ t. bytes_high_first 2 (number 2 (drop 18 s)) ++ t) e20)))))))))

udp_spelled : (s : List ℕ) → IsBytes s → 8 ≤ length s → header_at Udp s ++ drop 8 s ≡ s
udp_spelled s bytes long =
    let e0 : s ≡ bytes_high_first 2 (number 2 s) ++ drop 2 s = drop-number 0 2 s bytes (omega arith) in
    let e2 = drop-number 2 2 s bytes (omega arith) in
    let e4 = drop-number 4 2 s bytes (omega arith) in
    let e6 = drop-number 6 2 s bytes (omega arith) in
    sym (e0 ∙ ap (λ t. bytes_high_first 2 (number 2 s) ++ t) (
    e2 ∙ ap (λ t. bytes_high_first 2 (number 2 (drop 2 s)) ++ t) (
    e4 ∙ ap (λ t. bytes_high_first 2 (number 2 (drop 4 s)) ++ t) e6)))

-- header and payload are the bytes that the segment takes
seg_spelled : (dir : Dir) (proto : Proto) (src dst : ℕ) (s : List ℕ) → IsBytes s → IsSegmentAt dir proto src dst s
    → (header_at proto s ++ seg_payload proto s ≡ take (seg_len proto s) s) × (seg_len proto s ≤ length s)
seg_spelled dir Tcp src dst s bytes at =
    (tcp_spelled src dst s bytes at ∙ sym (take_all (length s) s (omega arith)), omega arith)
seg_spelled dir Udp src dst s bytes at =
    let header = at.header in
    let fits = at.fits in
    let count : udp_len s ≡ 8 + (udp_len s - 8) = omega arith in
    let front : take (udp_len s) s ≡ header_at Udp s ++ take (udp_len s - 8) (drop 8 s) =
    ap (take (udp_len s)) (sym (udp_spelled s bytes (omega arith)))
    ∙ ap (λ n. take n (header_at Udp s ++ drop 8 s)) count
    ∙ take-append-add (header_at Udp s) (drop 8 s) (udp_len s - 8) in
    (sym front, fits)

-- going out, a segment takes all the bytes
seg_filled : (proto : Proto) (src dst : ℕ) (s : List ℕ) → IsSegmentAt Out proto src dst s → seg_len proto s ≡ length s
seg_filled Tcp src dst s at = refl
seg_filled Udp src dst s at = let out = at.out in grind (arith, nat_tests)

-- THE WHOLE

-- the parts that are read, the protocol known
abbrev parts_over : Proto → ℕ → ℕ → List ℕ → Parts
parts_over proto dest source b = record {
  dest = dest;
  source = source;
  ip = ip_at b;
  src_port = seg_src_port (ip_payload b);
  dst_port = seg_dst_port (ip_payload b);
  transport = transport_at proto (ip_payload b);
  payload = seg_payload proto (ip_payload b);
  rest = drop (4 * ip_words b + seg_len proto (ip_payload b)) b;
}

-- how the lengths of a datagram lie
record HasRoom (dir : Dir) (proto : Proto) (dest source : ℕ) (b : List ℕ) : Type 0 where
  segment : length (ip_payload b) ≡ ip_total b - 4 * ip_words b
  taken : seg_len proto (ip_payload b) ≤ length (ip_payload b)
  spelled : header_at proto (ip_payload b) ++ seg_payload proto (ip_payload b) ≡ take (seg_len proto (ip_payload b)) (ip_payload b)
  parts : length (header_at proto (ip_payload b)) + length (seg_payload proto (ip_payload b)) ≡ seg_len proto (ip_payload b)
  header : length (ip_bytes (ip_at b)) ≡ 4 * ip_words b
  rest : length (drop (4 * ip_words b + seg_len proto (ip_payload b)) b) ≡ length b - (4 * ip_words b + seg_len proto (ip_payload b))

has_room : (dir : Dir) (proto : Proto) (dest source src dst : ℕ) (b : List ℕ) → IsBytes b → IsIpAt dir b → IsSegmentAt dir proto src dst (ip_payload b) → HasRoom dir proto dest source b
has_room dir proto dest source src dst b bytes at seg =
    let s : List ℕ = ip_payload b in
    let total = at.total in
    let fits = at.fits in
    let segment : length s ≡ ip_total b - 4 * ip_words b =
    length-take-le (ip_total b - 4 * ip_words b) (drop (4 * ip_words b) b) (omega (arith, length-drop (4 * ip_words b) b)) in
    let both = seg_spelled dir proto src dst s (IsBytes-take _ _ (IsBytes-drop _ b bytes)) seg in
    record {
      segment = segment;
      taken = both.1;
      spelled = both.0;
      parts = sym (length-append (header_at proto s) (seg_payload proto s)) ∙ ap length both.0 ∙ length-take-le (seg_len proto s) s both.1;
      header = (ip_is_header dir b bytes at).len;
      rest = length-drop (4 * ip_words b + seg_len proto s) b;
    }

body_spelled : (dir : Dir) (proto : Proto) (dest source : ℕ) (b : List ℕ) → IsBytes b → IsIpAt dir b → HasRoom dir proto dest source b → body (parts_over proto dest source b) ≡ b
body_spelled dir proto dest source b bytes at room =
    let s : List ℕ = ip_payload b in
    let start : ℕ = 4 * ip_words b in
    let header : List ℕ = header_at proto s in
    let payload : List ℕ = seg_payload proto s in
    let rest : List ℕ = drop (start + seg_len proto s) b in
    let taken = room.taken in
    let segment = room.segment in
    let front : take (seg_len proto s) s ≡ take (seg_len proto s) (drop start b) =
    take-take (seg_len proto s) (ip_total b - start) (drop start b) (omega arith) in
    let after : take (seg_len proto s) (drop start b) ++ rest ≡ drop start b =
    ap (λ t. take (seg_len proto s) (drop start b) ++ t) (sym (drop-drop (seg_len proto s) start b))
    ∙ take-append-drop (seg_len proto s) (drop start b) in
    ap (λ t. ip_bytes (ip_at b) ++ t) (sym (append_assoc header payload rest) ∙ ap (λ t. t ++ rest) (room.spelled ∙ front) ∙ after)
    ∙ ip_spelled dir b bytes at

number_of : (protocol : ℕ) → (proto_of protocol ≡ Some Tcp → protocol ≡ 6) × (proto_of protocol ≡ Some Udp → protocol ≡ 17)
number_of protocol = (λ h. grind (arith, nat_tests), λ h. grind (arith, nat_tests))

segment_is : (dir : Dir) (proto : Proto) (dest source : ℕ) (b : List ℕ) → IsBytes b → IsIpAt dir b → proto_of (ip_protocol b) ≡ Some proto
    → IsSegmentAt dir proto (ip_src b) (ip_dst b) (ip_payload b) → HasRoom dir proto dest source b
    → IsSegment (parts_over proto dest source b) (transport_at proto (ip_payload b))
segment_is dir Tcp dest source b bytes at known seg room =
    let s : List ℕ = ip_payload b in
    let p : Parts = parts_over Tcp dest source b in
    let s_bytes : IsBytes s = IsBytes-take _ _ (IsBytes-drop _ b bytes) in
    let fits = at.fits in
    let words = seg.words in
    let within = seg.fits in
    let flags : slice_index s 13 < 256 = s_bytes 13 in
    let byte : slice_index s 12 < 256 = s_bytes 12 in
    let options : length (take (4 * tcp_words s - 20) (drop 20 s)) ≡ 4 * tcp_words s - 20 =
    length-take-le (4 * tcp_words s - 20) (drop 20 s) (omega (arith, length-drop 20 s)) in
    let whole : segment_bytes p ++ p.payload ≡ s = room.spelled ∙ take_all (length s) s (omega arith) in
    let len : length (segment_bytes p) + length p.payload ≡ length s = room.parts in
    record {
      fits = record {
        sequence = number-lt 4 (drop 4 s) (IsBytes-drop 4 s s_bytes);
        acknowledgement = number-lt 4 (drop 8 s) (IsBytes-drop 8 s s_bytes);
        words = omega arith;
        reserved = omega arith;
        flags = flags;
        window = number-lt 2 (drop 14 s) (IsBytes-drop 14 s s_bytes);
        checksum = number-lt 2 (drop 16 s) (IsBytes-drop 16 s s_bytes);
        urgent = number-lt 2 (drop 18 s) (IsBytes-drop 18 s s_bytes);
      };
      protocol = (number_of (ip_protocol b)).0 known;
      len = omega (arith, options);
      total = omega (arith, len, room.segment, room.header);
      checksum = ap (λ n. sum16 (pseudo_header (ip_src b) (ip_dst b) 6 n ++ (segment_bytes p ++ p.payload))) len
          ∙ ap (λ t. sum16 (pseudo_header (ip_src b) (ip_dst b) 6 (length s) ++ t)) whole ∙ seg.checksum;
    }
segment_is dir Udp dest source b bytes at known seg room =
    let s : List ℕ = ip_payload b in
    let p : Parts = parts_over Udp dest source b in
    let s_bytes : IsBytes s = IsBytes-take _ _ (IsBytes-drop _ b bytes) in
    let fits = at.fits in
    let total = at.total in
    let within = seg.fits in
    let len : length (segment_bytes p) + length p.payload ≡ udp_len s = room.parts in
    let summed : sum16 (pseudo_header (ip_src b) (ip_dst b) 17 (udp_len s) ++ take (udp_len s) s) ≡ 0 → segment_sum p 17 ≡ 0 =
    λ e. ap (λ n. sum16 (pseudo_header (ip_src b) (ip_dst b) 17 n ++ (segment_bytes p ++ p.payload))) len
    ∙ ap (λ t. sum16 (pseudo_header (ip_src b) (ip_dst b) 17 (udp_len s) ++ t)) room.spelled ∙ e in
    record {
      fits = record {
        len = number-lt 2 (drop 4 s) (IsBytes-drop 4 s s_bytes);
        checksum = number-lt 2 (drop 6 s) (IsBytes-drop 6 s s_bytes);
      };
      protocol = (number_of (ip_protocol b)).1 known;
      len = sym len;
      total = omega (arith, len, room.segment, room.header);
      covered = omega (arith, len, room.segment, room.header, room.rest);
      checksum = elim seg.checksum [ inl none ↦ inl none | inr right ↦ inr (summed right) ];
    }

goes_of : (local : Local) (dir : Dir) (proto : Proto) (dest source : ℕ) (b : List ℕ) → AreMacs local dir dest source → AreAddrs local dir (ip_src b) (ip_dst b)
    → IsIpAt dir b → IsSegmentAt dir proto (ip_src b) (ip_dst b) (ip_payload b) → HasRoom dir proto dest source b → IsTail dir (ip_tail b)
    → Goes local dir (parts_over proto dest source b)
goes_of local In proto dest source b macs addrs at seg room tail = record { dest = macs; dst = addrs }
goes_of local Out proto dest source b macs addrs at seg room tail =
    let s : List ℕ = ip_payload b in
    let fits = at.fits in
    let filled : seg_len proto s ≡ length s = seg_filled proto (ip_src b) (ip_dst b) s seg in
    let end : ip_total b ≡ 4 * ip_words b + seg_len proto s = omega (arith, filled, room.segment) in
    let P : ℕ → Type 0 = λ n. IsTail Out (drop n b) in
    let out = at.out in
    record {
      source = macs.0;
      dest = macs.1;
      src = addrs;
      words = grind (arith, nat_tests);
      total = omega (arith, end, room.parts, room.header);
      rest = subst P end tail;
    }

spelled_over : (local : Local) (dir : Dir) (w : List ℕ) (proto : Proto) → IsBytes w → IsFrameKept local dir w
    → proto_of (ip_protocol (eth_payload w)) ≡ Some proto → IsSegmentAt dir proto (ip_src (eth_payload w)) (ip_dst (eth_payload w)) (ip_payload (eth_payload w))
    → Datagram local dir w (parts_over proto (eth_dest w) (eth_source w) (eth_payload w))
spelled_over local dir w proto bytes kept known seg =
    let b : List ℕ = eth_payload w in
    let d = kept.datagram in
    let p : Parts = parts_over proto (eth_dest w) (eth_source w) b in
    let b_bytes : IsBytes b = IsBytes-drop 14 w bytes in
    let s_bytes : IsBytes (ip_payload b) = IsBytes-take _ _ (IsBytes-drop _ b b_bytes) in
    let room = has_room dir proto (eth_dest w) (eth_source w) (ip_src b) (ip_dst b) b b_bytes d.ip seg in
    let spelled : body p ≡ b = body_spelled dir proto (eth_dest w) (eth_source w) b b_bytes d.ip room in
    record {
      joined = sym (frame_bytes-body p
          ∙ ap (λ t. bytes_high_first 6 (eth_dest w) ++ bytes_high_first 6 (eth_source w) ++ bytes_high_first 2 0x0800 ++ t) spelled
          ∙ eth_spelled w bytes kept.eth);
      dest = number-lt 6 w bytes;
      source = number-lt 6 (drop 6 w) (IsBytes-drop 6 w bytes);
      ip = ip_is_header dir b b_bytes d.ip;
      src_port = number-lt 2 (ip_payload b) s_bytes;
      dst_port = number-lt 2 (drop 2 (ip_payload b)) (IsBytes-drop 2 (ip_payload b) s_bytes);
      segment = segment_is dir proto (eth_dest w) (eth_source w) b b_bytes d.ip known seg room;
      goes = goes_of local dir proto (eth_dest w) (eth_source w) b kept.macs d.addrs d.ip seg room d.tail;
    }

-- a frame that breaks no rule is a datagram of the parts that are read
pub spelled : (local : Local) (dir : Dir) (w : List ℕ) → IsBytes w → first_broken local dir w ≡ None → Datagram local dir w (parts_of w)
unfolding parts_of
spelled local dir w bytes none =
    let kept = first_none local dir w none in
    let d = kept.datagram in
    let proto : d.proto ≡ proto_in (ip_protocol (eth_payload w)) = ap (λ o. unwrap_or o Udp) (sym d.known) in
    let P : Proto → Type 0 = λ q. Datagram local dir w (parts_over q (eth_dest w) (eth_source w) (eth_payload w)) in
    subst P proto (spelled_over local dir w d.proto bytes kept d.known d.segment)
