-- The frame that is built of what it is to say.
use Rattle.std.specs.Prelude.{ℕ, ◌+◌, ◌^◌, ◌<◌, ◌==◌, if◌then◌else◌, [], length}
use Rattle.ibos_kinds.specs.declared.names.Local.{Local}
use Rattle.ibos_kinds.specs.declared.names.Proto.{Proto}
use Rattle.ibos_kinds.specs.declared.names.Proto.TheVariants.{Tcp, Udp}
use Rattle.ibos_kinds.specs.Sums.{sum16}
use Rattle.ibos_kinds.specs.Datagrams.{IpHeader, Transport, OverTcp, OverUdp, Parts, ip_bytes}
use Rattle.ibos_kinds.specs.Datagrams.{segment_sum}
use Rattle.ibos_make.specs.declared.building.FrameSpec.{FrameSpec}

-- the number of a protocol, and the length of its header without options
abbrev pub protocol_number : Proto → ℕ
protocol_number Tcp = 6
protocol_number Udp = 17

abbrev pub header_len : Proto → ℕ
header_len Tcp = 20
header_len Udp = 8

-- the header of IPv4: no options, no type of service, no identification, not to be fragmented
abbrev pub ip_for : FrameSpec → ℕ → IpHeader
ip_for spec checksum = record {
  words = 5;
  service = 0;
  total = 20 + header_len spec.proto + length spec.payload;
  identification = 0;
  fragment = 0x4000;
  time_to_live = 64;
  protocol = protocol_number spec.proto;
  checksum = checksum;
  src = spec.src.addr;
  dst = spec.dst.addr;
  options = [];
}

-- what stands after the ports, the length of the payload given
abbrev pub transport_for : Proto → ℕ → ℕ → Transport
transport_for Tcp len checksum = OverTcp (record {
  sequence = 1;
  acknowledgement = 1;
  words = 5;
  reserved = 0;
  flags = 0x18;
  window = 0x2000;
  checksum = checksum;
  urgent = 0;
  options = [];
})
transport_for Udp len checksum = OverUdp (record { len = 8 + len; checksum = checksum })

abbrev pub parts_with : FrameSpec → ℕ → ℕ → Parts
parts_with spec ip_checksum checksum = record {
  dest = spec.to;
  source = spec.from;
  ip = ip_for spec ip_checksum;
  src_port = spec.src.port;
  dst_port = spec.dst.port;
  transport = transport_for spec.proto (length spec.payload) checksum;
  payload = spec.payload;
  rest = [];
}

-- a checksum is computed while 0 stands in its place
abbrev pub ip_checksum_for : FrameSpec → ℕ
ip_checksum_for spec = sum16 (ip_bytes (ip_for spec 0))

-- over UDP 0 means that there is no checksum, so 0xFFFF stands for it
abbrev pub written : Proto → ℕ → ℕ
written Tcp checksum = checksum
written Udp checksum = if checksum == 0 then 0xFFFF else checksum

abbrev pub checksum_for : FrameSpec → ℕ
checksum_for spec = written spec.proto
    (segment_sum (parts_with spec 0 0) (protocol_number spec.proto))

unfoldable pub parts_for : FrameSpec → Parts
parts_for spec = parts_with spec (ip_checksum_for spec) (checksum_for spec)

-- the addresses of the machine that the frame goes to, and of the one that it comes from
abbrev pub receiver : FrameSpec → ℕ → Local
receiver spec gateway = record { addr = spec.dst.addr; mac = spec.to; gateway = gateway }

abbrev pub sender : FrameSpec → Local
sender spec = record { addr = spec.src.addr; mac = spec.from; gateway = spec.to }

-- the addresses and the ports have the bits of their types
abbrev pub HasAddrs : FrameSpec → Type 0
HasAddrs spec = (spec.src.addr < 2 ^ 32) × (spec.dst.addr < 2 ^ 32)

abbrev pub HasPorts : FrameSpec → Type 0
HasPorts spec = (spec.src.port < 2 ^ 16) × (spec.dst.port < 2 ^ 16)
