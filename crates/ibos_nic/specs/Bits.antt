-- Lengths of frames, and bits of registers and descriptors (Intel 8254x, chapters 3 and 13).
use Rattle.std.specs.Prelude.{ℕ}

-- The shortest frame that is taken in is a header (IEEE 802.3 3.1.1, without the frame check
-- sequence), and the longest a header and 1,504 bytes.
abbrev pub min_frame : ℕ
min_frame = 14

abbrev pub max_frame : ℕ
max_frame = 1518

-- EN of RCTL and of TCTL
abbrev pub enable_bit : ℕ
enable_bit = 0x00000002

-- TXDW, RXO and RXT0 of ICR
abbrev pub transmitted_cause : ℕ
transmitted_cause = 0x00000001

abbrev pub overrun_cause : ℕ
overrun_cause = 0x00000040

abbrev pub received_cause : ℕ
received_cause = 0x00000080

-- the mask has this many bits of causes, from bit 0 on
abbrev pub cause_bits : ℕ
cause_bits = 17

-- DD of both kinds of descriptor, and EOP of a receive descriptor's status
abbrev pub done_bit : ℕ
done_bit = 0x01

abbrev pub end_bit : ℕ
end_bit = 0x02

-- CMD of a transmit descriptor that is posted: EOP, IFCS and RS (3.3.3.1)
abbrev pub transmit_command : ℕ
transmit_command = 0x0b

-- what RCTL is enabled with: EN, BAM and SECRC (13.4.22)
abbrev pub receive_control : ℕ
receive_control = 0x04008002

-- The bits of TCTL that are not free, and what they are where it is enabled: EN, and not PSP
-- (13.4.33). CT and COLD are free.
abbrev pub transmit_fixed : ℕ
transmit_fixed = 0xffc0000f

abbrev pub transmit_control : ℕ
transmit_control = 0x00000002
