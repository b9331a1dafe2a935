-- The sizes and counts of the memory, and where its parts lie. Sizes and addresses are in bytes.
use Rattle.std.specs.Prelude.{ℕ, ◌+◌}

-- a buffer, and a descriptor (Intel 8254x 3.2.3 and 3.3.3)
abbrev pub buffer_bytes : ℕ
buffer_bytes = 2048

abbrev pub descriptor_bytes : ℕ
descriptor_bytes = 16

-- the room that area 0 has for each ring, in bytes and in descriptors
abbrev pub ring_room : ℕ
ring_room = 1024

abbrev pub room_slots : ℕ
room_slots = 64

-- area 0 has the buffers for receiving
abbrev pub receive_buffers : ℕ
receive_buffers = 64

-- each further area has the buffers of an instance: those that it sends from, and those of its
-- inbox
abbrev pub transmit_buffers : ℕ
transmit_buffers = 4

abbrev pub inbox_buffers : ℕ
inbox_buffers = 16

abbrev pub instance_buffers : ℕ
instance_buffers = transmit_buffers + inbox_buffers

-- area 0, and one for each instance that there may be
abbrev pub max_areas : ℕ
max_areas = 2049

-- how far one area begins behind the other, and the first behind address 0
abbrev pub area_spacing : ℕ
area_spacing = 0x00100000

-- where the transmit ring and the first receive buffer begin in area 0
abbrev pub transmit_ring : ℕ
transmit_ring = 0x1000

abbrev pub first_receive : ℕ
first_receive = 0x2000
