use Rattle.std.proofs.Common.{◌≡◌, ◌/◌, ◌%◌, arith, refl}
use Rattle.ibos_tcp.proofs.pseudo.pseudo_header.Goals as goal

-- the lowest 16 bits of a number have its lowest two bytes
pub returns : goal.returns
returns c =
    let high : c.args.len % 65536 / 256 % 256 ≡ c.args.len / 256 % 256 = omega arith in
    let low : c.args.len % 65536 % 256 ≡ c.args.len % 256 = omega arith in
    rw (c.to_be_bytes.ensures, c.to_be_bytes-2.ensures, c.to_be_bytes-3.ensures, high, low) refl
