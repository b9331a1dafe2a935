-- What the calls of storage answer: the first rule that they break, or else what is asked for.
use Rattle.std.specs.Prelude.{ℕ, ◌+◌, List, ◌==◌, not, nat_lt, nat_le, length}
use Rattle.std.specs.Prelude.{bytes_eq, Option, Some, None, Result, Ok, Err, if◌then◌else◌}
use Rattle.ibos_kinds.specs.declared.rule.Rule.{Rule}
use Rattle.ibos_kinds.specs.declared.rule.Rule.TheVariants.{S1, S2, S3, S4, S5, S6, S7, S8, S9}
use Rattle.ibos_kinds.specs.Objects.{Newest, KeyObject, is_key, newest_in, version_of, with_put}
use Rattle.ibos_kinds.specs.Objects.{is_over}
use Rattle.ibos_kinds.specs.Requests.{Requests}

-- a put of an origin with these objects: the number of its version
unfoldable pub quota_answer : List ℕ → List ℕ → List KeyObject → Result ℕ Rule
quota_answer key bytes objects =
    if is_over (with_put key bytes objects) then Err S3
    else Ok (version_of (newest_in objects key) + 1)

unfoldable pub put_answer : List ℕ → List ℕ → List KeyObject → Result ℕ Rule
put_answer key bytes objects =
    if not (is_key key) then Err S1
    else if nat_lt 2048 (length bytes) then Err S2
    else quota_answer key bytes objects

-- an ask of an instance with these requests: the number of the new one
unfoldable pub ask_answer : List ℕ → Requests → Result ℕ Rule
ask_answer key requests =
    if not (is_key key) then Err S1
    else if nat_le 8 (length requests.unanswered) then Err S4
    else Ok requests.count

-- the bytes of the newest version, if it is that one
abbrev pub bytes_answer : Option (List ℕ) → Result (List ℕ) Rule
bytes_answer None = Err S9
bytes_answer (Some bytes) = Ok bytes

abbrev pub newest_answer : ℕ → Option Newest → Result (List ℕ) Rule
newest_answer version None = Err S8
newest_answer version (Some newest) =
    if newest.version == version then bytes_answer newest.bytes else Err S8

-- an answer to a request for that key, of an instance of the origin `own`, by a label: an origin, a
-- key and a version, with what stands there
abbrev pub label_answer : Option (List ℕ) → List ℕ → List ℕ → List ℕ → ℕ → Option Newest
    → Result (List ℕ) Rule
label_answer None own origin key version found = Err S5
label_answer (Some asked) own origin key version found =
    if not (bytes_eq origin own) then Err S6
    else if not (bytes_eq key asked) then Err S7
    else newest_answer version found

-- an answer without bytes, to a request for that key
abbrev pub none_answer : Option (List ℕ) → Result Unit Rule
none_answer None = Err S5
none_answer (Some asked) = Ok tt

-- a loss of a version, with what stands there
abbrev pub loss_of : Option (List ℕ) → Result Unit Rule
loss_of None = Err S9
loss_of (Some bytes) = Ok tt

abbrev pub lose_answer : ℕ → Option Newest → Result Unit Rule
lose_answer version None = Err S9
lose_answer version (Some newest) =
    if newest.version == version then loss_of newest.bytes else Err S9
