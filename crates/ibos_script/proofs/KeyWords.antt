-- The words of keys, and what is read of them.
use Rattle.std.proofs.Common.{◌≡◌, ℕ, zero, suc, ◌<◌, [], ◌∷◌, Bool, true, Some, None, refl, arith}
use Rattle.std.specs.Prelude.{slice_index, ◌&&◌, nat_le, codes, if◌then◌else◌}
use Rattle.std.proofs.lemmas.Bool.Decides.{nat_tests}
use Rattle.hex.specs.Hex.{encode_lower}
use Rattle.hex.proofs.HexLemmas.{decode_of-encode_lower, decode_of-ok, decode_sized-encode_lower}
use Rattle.ibos_kinds.specs.declared.names.Key.{Key}
use Rattle.ibos_kinds.specs.declared.names.Key.TheVariants.{Byte, Enter, Back}
use Rattle.ibos_kinds.specs.Limits.{IsKey}
use Rattle.ibos_fields.specs.Fields.{key_in}
use Rattle.ibos_fields.specs.Printable.{IsWord}
use Rattle.ibos_script.specs.Spelled.{key_text}
use Rattle.ibos_outcome.proofs.FieldWords.{encoded_word, other_length}

one_byte : (b : ℕ) → b < 256 → (i : ℕ) → slice_index (b ∷ []) i < 256
one_byte b small zero = small
one_byte b small (suc i) = omega arith

pub key_word : (k : Key) → IsKey k → IsWord (key_text k)
key_word (Byte b) is = encoded_word b [] (one_byte b (omega (arith, is.1)))
key_word Enter is = record { graph = refl; some = omega arith }
key_word Back is = record { graph = refl; some = omega arith }

byte_when : (low high : Bool) (b : ℕ) → low ≡ true → high ≡ true → (if low && high then Some (Byte b) else None) ≡ Some (Byte b)
byte_when low high b is_low is_high = rw (is_low, is_high) refl

pub key_read : (k : Key) → IsKey k → key_in (key_text k) ≡ Some k
unfolding key_in
key_read (Byte b) is =
    let small = one_byte b (omega (arith, is.1)) in
    let text = encode_lower (b ∷ []) in
    let ok = decode_of-ok text (b ∷ []) (decode_of-encode_lower (b ∷ []) small) in
    rw (other_length (codes "enter") text (λ same. omega (arith, same, ok.2)), other_length (codes "back") text (λ same. omega (arith, same, ok.2)), decode_sized-encode_lower (b ∷ []) 1 refl small)
    (byte_when (nat_le 0x20 b) (nat_le b 0x7e) b (grind (arith, nat_tests, is.0)) (grind (arith, nat_tests, is.1)))
key_read Enter is = refl
key_read Back is = refl
