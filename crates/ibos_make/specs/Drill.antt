-- A drill: a list of acts of all parties, as long as is wanted, that a number makes. First the
-- driver sets both rings up and eight tabs are opened; then each round makes a few acts of one
-- kind, in one tab, about one byte.
use Rattle.std.specs.Prelude.{ℕ, zero, suc, ◌+◌, ◌*◌, ◌/◌, ◌%◌, ◌^◌, List, [], ◌∷◌, ◌++◌, map}
use Rattle.std.specs.Prelude.{replicate, slice_index, slice_set, codes, decimal, drop, ◌==◌}
use Rattle.std.specs.Prelude.{if◌then◌else◌}
use Rattle.std.specs.List.{range_with_len}
use Rattle.hex.specs.Hex.{encode_lower}
use Rattle.ibos_kinds.specs.declared.act.Act.{Act}
use Rattle.ibos_kinds.specs.declared.act.Act.TheVariants.{Start, Switch, Press, Draw, CookieSet}
use Rattle.ibos_kinds.specs.declared.act.Act.TheVariants.{CookieGet, Bind, Done, RegWrite, RxPost}
use Rattle.ibos_kinds.specs.declared.act.Act.TheVariants.{RxBell, WireIn, Fill, Submit, TxPost}
use Rattle.ibos_kinds.specs.declared.act.Act.TheVariants.{TxBell, WireOut, Put, Ask, StoreAnswer}
use Rattle.ibos_kinds.specs.declared.names.Endpoint.{Endpoint}
use Rattle.ibos_kinds.specs.declared.names.Handle.{Handle}
use Rattle.ibos_kinds.specs.declared.names.Instance.{Instance}
use Rattle.ibos_kinds.specs.declared.names.Key.TheVariants.{Byte}
use Rattle.ibos_kinds.specs.declared.names.Local.{Local}
use Rattle.ibos_kinds.specs.declared.names.Proto.TheVariants.{Tcp}
use Rattle.ibos_kinds.specs.declared.names.Side.TheVariants.{Page, Net}
use Rattle.ibos_kinds.specs.Datagrams.{frame_bytes}
use Rattle.ibos_origin.specs.Hosts.{HostTable}
use Rattle.ibos_make.specs.declared.building.FrameSpec.{FrameSpec}
use Rattle.ibos_make.specs.declared.rounds.Counts.{Counts}
use Rattle.ibos_make.specs.declared.rounds.Kind.{Kind}
use Rattle.ibos_make.specs.declared.rounds.Kind.TheVariants.{Receive, Send, Cookies, Objects}
use Rattle.ibos_make.specs.declared.rounds.Kind.TheVariants.{Screen}
use Rattle.ibos_make.specs.Building.{parts_for}

-- ---- the hosts

-- `hT.example`, and the text of its origin
unfoldable pub host_name : ℕ → List ℕ
host_name t = codes "h" ++ decimal t ++ codes ".example"

unfoldable pub drill_origin : ℕ → List ℕ
drill_origin t = codes "http://" ++ host_name t

-- 198.51.100.T, 192.0.2.10
abbrev pub host_addr : ℕ → ℕ
host_addr t = 0xc6336400 + t

abbrev pub drill_local : Local
drill_local = record { addr = 0xc000020a; mac = 0x020000000001; gateway = 0x0200000000fe }

abbrev pub drill_table : HostTable
drill_table = record {
  local = drill_local;
  hosts = map (λ t. record { name = host_name t; addr = host_addr t }) (range_with_len 0 8);
}

-- ---- before the rounds

-- the first instance of a tab, and the port of its first flow
abbrev pub first_of : ℕ → Instance
first_of t = record { tab = t; ord = 0 }

abbrev pub first_port : ℕ → ℕ
first_port t = 32768 + 512 * t

abbrev pub handle : ℕ → ℕ → Handle
handle name turn = record { name = name; turn = turn }

-- both rings have their base and their length, and are enabled
abbrev pub ring_acts : List Act
ring_acts = RegWrite 0x2800 0x00100000 ∷ RegWrite 0x2808 1024 ∷ RegWrite 0x3800 0x00101000
    ∷ RegWrite 0x3808 1024 ∷ RegWrite 0x0100 0x04008002 ∷ RegWrite 0x0400 0x2 ∷ []

-- all receive buffers but one are posted and rung
abbrev pub post_acts : List Act
post_acts = map (λ i. RxPost i (handle i 0)) (range_with_len 0 63) ++ RegWrite 0x2818 0x3f ∷ []

-- eight tabs are opened, and each binds a flow
unfoldable pub drill_url : ℕ → List ℕ
drill_url t = drill_origin t ++ codes "/"

abbrev pub open_acts : List Act
open_acts = map (λ t. Start t (drill_url t)) (range_with_len 0 8)
    ++ map (λ t. Bind (first_of t) Tcp) (range_with_len 0 8)

unfoldable pub opening_acts : List Act
opening_acts = ring_acts ++ post_acts ++ open_acts

-- ---- the rounds

-- What is counted, in `Counts`: the number that the next round begins with, the frames received and
-- sent, the asks of each tab, and the versions under each of four keys of each tab.
abbrev pub first_counts : ℕ → Counts
first_counts seed = record {
  number = seed;
  received = 0;
  sent = 0;
  asked = replicate 8 0;
  versions = replicate 32 0;
}

-- the number of the next round (Knuth, The Art of Computer Programming, 3.3.4)
unfoldable pub next_number : ℕ → ℕ
next_number x = (x * 6364136223846793005 + 1442695040888963407) % 2 ^ 64

-- what a round is drawn from, and of that its kind, its tab and its byte
unfoldable pub drawn : ℕ → ℕ
drawn x = x / 2 ^ 33

unfoldable pub kind_of : ℕ → Kind
kind_of d =
    if d % 5 == 0 then Receive
    else if d % 5 == 1 then Send
    else if d % 5 == 2 then Cookies
    else if d % 5 == 3 then Objects
    else Screen

unfoldable pub tab_of : ℕ → ℕ
tab_of d = d / 5 % 8

unfoldable pub byte_of : ℕ → ℕ
byte_of d = d / 40 % 256

abbrev pub endpoint : ℕ → ℕ → Endpoint
endpoint addr port = record { addr = addr; port = port }

-- the ends of the tab's flow: its host's, and its own
abbrev pub host_end : ℕ → Endpoint
host_end t = endpoint (host_addr t) 80

abbrev pub own_end : ℕ → Endpoint
own_end t = endpoint drill_local.addr (first_port t)

-- a frame from the tab's host to its page, and one back
abbrev pub frame_in_spec : ℕ → ℕ → FrameSpec
frame_in_spec t e = record {
  to = drill_local.mac;
  from = drill_local.gateway;
  src = host_end t;
  dst = own_end t;
  proto = Tcp;
  payload = e ∷ [];
}

abbrev pub frame_out_spec : ℕ → ℕ → FrameSpec
frame_out_spec t e = record {
  to = drill_local.gateway;
  from = drill_local.mac;
  src = own_end t;
  dst = host_end t;
  proto = Tcp;
  payload = e ∷ [];
}

unfoldable pub frame_in : ℕ → ℕ → List ℕ
frame_in t e = frame_bytes (parts_for (frame_in_spec t e))

unfoldable pub frame_out : ℕ → ℕ → List ℕ
frame_out t e = frame_bytes (parts_for (frame_out_spec t e))

-- a buffer goes on in the ring, one turn later
abbrev pub posted_again : ℕ → Act
posted_again r = RxPost ((63 + r) % 64) (handle (r % 63) (r / 63 + 1))

-- a frame comes and is told; its buffer is posted and rung again, and the page is done with it
abbrev pub receive_acts : ℕ → ℕ → ℕ → List Act
receive_acts t e r = WireIn (frame_in t e) ∷ RxBell ∷ posted_again r ∷ RegWrite 0x2818 (r % 64)
    ∷ Done (first_of t) ∷ []

-- a frame is written, accepted, posted, rung and sent, and its buffer comes back
abbrev pub send_acts : ℕ → ℕ → ℕ → List Act
send_acts t e s = Fill (first_of t) 0 0 (frame_out t e) ∷ Submit (first_of t) 0 55
    ∷ TxPost (s % 64) s ∷ RegWrite 0x3818 ((s + 1) % 64) ∷ WireOut ∷ TxBell ∷ []

-- `cN=HH`
unfoldable pub set_text : ℕ → List ℕ
set_text e = codes "c" ++ decimal (e % 16) ++ codes "=" ++ encode_lower (e ∷ [])

-- a cookie is set and read
abbrev pub cookie_acts : ℕ → ℕ → List Act
cookie_acts t e = CookieSet Page (first_of t) (set_text e) ∷ CookieGet Net (first_of t) ∷ []

-- `kN`
unfoldable pub key_name : ℕ → List ℕ
key_name e = codes "k" ++ decimal (e % 4)

-- an object is stored and asked for; an answer in the name of another origin is refused
abbrev pub object_acts : ℕ → ℕ → ℕ → ℕ → List Act
object_acts t e request version = Put (first_of t) (key_name e) (e ∷ [])
    ∷ Ask (first_of t) (key_name e)
    ∷ StoreAnswer (first_of t) request (drill_origin ((t + 1) % 8)) (key_name e) version
    ∷ StoreAnswer (first_of t) request (drill_origin t) (key_name e) version ∷ []

-- a tab is switched to, and a key pressed there; the page draws the key's byte
abbrev pub drawn_byte : ℕ → ℕ
drawn_byte e = 0x20 + e % 95

abbrev pub screen_acts : ℕ → ℕ → List Act
screen_acts t e = Switch t ∷ Press (Byte (drawn_byte e))
    ∷ Draw (first_of t) (e % 22) (e % 80) 1 1 (drawn_byte e ∷ []) ∷ []

-- of a tab and a byte the place of the key's version
abbrev pub version_place : ℕ → ℕ → ℕ
version_place t e = 4 * t + e % 4

abbrev pub one_more : List ℕ → ℕ → List ℕ
one_more counts place = slice_set counts place (slice_index counts place + 1)

-- the acts of a round of that kind
abbrev pub acts_of : Kind → ℕ → ℕ → Counts → List Act
acts_of Receive t e c = receive_acts t e c.received
acts_of Send t e c = send_acts t e c.sent
acts_of Cookies t e c = cookie_acts t e
acts_of Objects t e c = object_acts t e (slice_index c.asked t)
    (slice_index c.versions (version_place t e) + 1)
acts_of Screen t e c = screen_acts t e

-- how many these are
abbrev pub round_len : Kind → ℕ
round_len Receive = 5
round_len Send = 6
round_len Cookies = 2
round_len Objects = 4
round_len Screen = 3

-- what is counted after it
abbrev pub counts_after : Kind → ℕ → ℕ → Counts → Counts
counts_after Receive t e c = record c { received = c.received + 1 }
counts_after Send t e c = record c { sent = c.sent + 1 }
counts_after Cookies t e c = c
counts_after Objects t e c = record c {
  asked = one_more c.asked t;
  versions = one_more c.versions (version_place t e);
}
counts_after Screen t e c = c

abbrev pub with_next : Counts → Counts
with_next c = record c { number = next_number c.number }

-- a round, from the counts before it
abbrev pub drawn_acts : ℕ → Counts → List Act
drawn_acts d c = acts_of (kind_of d) (tab_of d) (byte_of d) c

abbrev pub drawn_counts : ℕ → Counts → Counts
drawn_counts d c = with_next (counts_after (kind_of d) (tab_of d) (byte_of d) c)

unfoldable pub round_acts : Counts → List Act
round_acts c = drawn_acts (drawn (next_number c.number)) c

unfoldable pub after_round : Counts → Counts
after_round c = drawn_counts (drawn (next_number c.number)) c

-- the acts of so many rounds
abbrev pub rounds_acts : ℕ → Counts → List Act
rounds_acts zero c = []
rounds_acts (suc rounds) c = round_acts c ++ rounds_acts rounds (after_round c)

-- THE DRILL of a number, with so many rounds
abbrev pub drill_acts : ℕ → ℕ → List Act
drill_acts seed rounds = opening_acts ++ rounds_acts rounds (first_counts seed)

-- ---- what is still to come

-- how far a drill is: how many of the opening acts came, how many rounds are not over, how many
-- acts of the first of these came, and what was counted before it
pub record Drilling : Type 0 where
  pub opening : ℕ
  pub rounds : ℕ
  pub place : ℕ
  pub counts : Counts

-- the acts that are still to come
abbrev pub left : Drilling → List Act
left d = drop d.opening opening_acts ++ drop d.place (rounds_acts d.rounds d.counts)
