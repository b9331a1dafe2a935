-- A host table that was read is sound.
use Rattle.std.proofs.Math.Nat.{pow-suc}
use Rattle.std.proofs.Common.{◌≡◌, ℕ, add-one, ◌<◌, ◌+◌, ◌*◌, ◌++◌, List, [], ◌∷◌, Bool, true, false, Option, Some, None, Ok, Err, Result, refl, ◌∙◌, ap, subst, arith}
use Rattle.std.specs.Prelude.{◌^◌, ◌&&◌, ◌==◌, nat_lt, nat_le, length, map, if◌then◌else◌, is_some, option_map, codes, bytes_eq, find, fold, IfOk, IfSome}
use Rattle.std.specs.List.{list_all, IsDistinct, AllByRecursion}
use Rattle.std.specs.Str.Parse.{digits_value, AllDigits}
use Rattle.std.proofs.lemmas.Bool.Decides.{nat_tests}
use Rattle.std.proofs.lemmas.Int.Digits.{digits_value-lt}
use Rattle.std.proofs.lemmas.List.Folds.{list_all-append}
use Rattle.ibos_text.specs.Lines.{lines_of}
use Rattle.ibos_text.specs.Words.{words_of}
use Rattle.ibos_text.specs.Parts.{parts_of}
use Rattle.ibos_origin.specs.declared.fault.HostFault.{HostFault}
use Rattle.ibos_origin.specs.declared.fault.HostFault.TheVariants.{Twice, Many, TooLong}
use Rattle.ibos_origin.specs.Hosts.{Host, HostTable, address_of, host_of, names_of}
use Rattle.ibos_origin.specs.Addresses.{addr_in, mac_in, is_pair}
use Rattle.ibos_origin.specs.HostLines.{HostLine, Nothing, Own, Gateway, Named, is_name_byte, is_name, is_passed_over, own_of, own_in, gateway_in, named_in, host_line_by, host_line_in}
use Rattle.ibos_origin.specs.Tables.{IsSound, PartialTable, nothing_read, with_host_line, at_line, with_line, table_with, table_of, hosts_in}

-- ---- MAC addresses

pair_small : (part : List ℕ) → is_pair part ≡ true → digits_value 16 part < 256
pair_small [] is = cc
pair_small (a ∷ []) is = cc
pair_small (a ∷ b ∷ []) is =
    let digits : AllDigits 16 (a ∷ b ∷ []) = (grind (arith, nat_tests, is), (grind (arith, nat_tests, is), tt)) in
    digits_value-lt 16 (a ∷ b ∷ []) digits
pair_small (a ∷ b ∷ c ∷ part) is = grind (arith, nat_tests, is)

more_pairs : (mac pair k : ℕ) → mac < 256 ^ k → pair < 256 → mac * 256 + pair < 256 ^ (k + 1)
more_pairs mac pair k small is =
    let next : 256 ^ (k + 1) ≡ 256 ^ k * 256 = ap (λ n. 256 ^ n) (add-one k) ∙ pow-suc 256 k in
    rw next (omega (arith, small, is))

pairs_small : (pairs : List (List ℕ)) (mac k : ℕ) → list_all is_pair pairs ≡ true → mac < 256 ^ k
    → fold (λ number byte. number * 256 + byte) mac (map (digits_value 16) pairs) < 256 ^ (k + length pairs)
pairs_small [] mac k are small = let same : k ≡ k + 0 = omega arith in subst (λ n. mac < 256 ^ n) same small
pairs_small (pair ∷ pairs) mac k are small = by_first (is_pair pair) refl (λ next more rest. pairs_small pairs next (k + 1) rest more) are
  where
    by_first : (first : Bool) → is_pair pair ≡ first
        → ((next : ℕ) → next < 256 ^ (k + 1) → list_all is_pair pairs ≡ true → fold (λ number byte. number * 256 + byte) next (map (digits_value 16) pairs) < 256 ^ (k + 1 + length pairs))
        → (first && list_all is_pair pairs) ≡ true
        → fold (λ number byte. number * 256 + byte) (mac * 256 + digits_value 16 pair) (map (digits_value 16) pairs) < 256 ^ (k + length (pair ∷ pairs))
    by_first true is others rest =
        let more = others (mac * 256 + digits_value 16 pair) (more_pairs mac (digits_value 16 pair) k small (pair_small pair is)) rest in
        let count : k + 1 + length pairs ≡ k + length (pair ∷ pairs) = omega arith in
        rw count at more
    by_first false is others rest = cc

mac_small : (word : List ℕ) → IfSome (mac_in word) (λ mac. mac < 2 ^ 48)
unfolding mac_in
mac_small word = by_tests (length (parts_of 58 word) == 6) refl (list_all is_pair (parts_of 58 word)) refl
  where
    by_tests : (six : Bool) → (length (parts_of 58 word) == 6) ≡ six → (all : Bool) → list_all is_pair (parts_of 58 word) ≡ all
        → IfSome (if six && all then Some (fold (λ number byte. number * 256 + byte) 0 (map (digits_value 16) (parts_of 58 word))) else None) (λ mac. mac < 2 ^ 48)
    by_tests true six true all =
        let small = pairs_small (parts_of 58 word) 0 0 all (omega arith) in
        let count : length (parts_of 58 word) ≡ 6 = grind (arith, nat_tests, six) in
        rw count at small
    by_tests true six false all = tt
    by_tests false six all is = tt

-- ---- lines

abbrev SoundLine : Option HostLine → Type 0
SoundLine None = Unit {0}
SoundLine (Some Nothing) = Unit {0}
SoundLine (Some (Own addr mac)) = mac < 2 ^ 48
SoundLine (Some (Gateway mac)) = mac < 2 ^ 48
SoundLine (Some (Named name addr)) = is_name name ≡ true

own_sound : (addr mac : Option ℕ) → IfSome mac (λ m. m < 2 ^ 48) → SoundLine (own_of addr mac)
own_sound (Some addr) (Some mac) small = small
own_sound (Some addr) None small = tt
own_sound None mac small = tt

own_in_sound : (words : List (List ℕ)) → SoundLine (own_in words)
own_in_sound [] = tt
own_in_sound (addr ∷ []) = tt
own_in_sound (addr ∷ mac ∷ []) = own_sound (addr_in addr) (mac_in mac) (mac_small mac)
own_in_sound (addr ∷ mac ∷ word ∷ words) = tt

gateway_sound : (mac : Option ℕ) → IfSome mac (λ m. m < 2 ^ 48) → SoundLine (option_map Gateway mac)
gateway_sound (Some mac) small = small
gateway_sound None small = tt

gateway_in_sound : (words : List (List ℕ)) → SoundLine (gateway_in words)
gateway_in_sound [] = tt
gateway_in_sound (mac ∷ []) = gateway_sound (mac_in mac) (mac_small mac)
gateway_in_sound (mac ∷ word ∷ words) = tt

named_sound : (name : List ℕ) (addr : Option ℕ) (is : Bool) → is_name name ≡ is → SoundLine (if is then option_map (Named name) addr else None)
named_sound name (Some addr) true is = is
named_sound name None true is = tt
named_sound name addr false is = tt

named_in_sound : (words : List (List ℕ)) → SoundLine (named_in words)
named_in_sound [] = tt
named_in_sound (name ∷ []) = tt
named_in_sound (name ∷ addr ∷ []) = named_sound name (addr_in addr) (is_name name) refl
named_in_sound (name ∷ addr ∷ word ∷ words) = tt

host_line_by_sound : (words : List (List ℕ)) → SoundLine (host_line_by words)
unfolding host_line_by
host_line_by_sound [] = tt
host_line_by_sound (command ∷ words) = by_tests (bytes_eq command (codes "self")) (bytes_eq command (codes "gateway")) (bytes_eq command (codes "host"))
  where
    by_tests : (own gateway named : Bool) → SoundLine (if own then own_in words else if gateway then gateway_in words else if named then named_in words else None)
    by_tests true gateway named = own_in_sound words
    by_tests false true named = gateway_in_sound words
    by_tests false false true = named_in_sound words
    by_tests false false false = tt

host_line_sound : (line : List ℕ) → SoundLine (host_line_in line)
unfolding host_line_in
host_line_sound line = by_test (is_passed_over line)
  where
    by_test : (passed : Bool) → SoundLine (if passed then Some Nothing else host_line_by (words_of line))
    by_test true = tt
    by_test false = host_line_by_sound (words_of line)

-- ---- hosts

record AreSound (hosts : List Host) : Type 0 where
  pub names : list_all (λ host. is_name host.name) hosts ≡ true
  pub distinct : IsDistinct bytes_eq (names_of hosts)

other_name : (here : Bool) (host : Host) (rest : Option Host) → is_some (option_map {U = ℕ} (λ (h : Host). h.addr) (if here then Some host else rest)) ≡ false
    → (here ≡ false) × (is_some (option_map {U = ℕ} (λ (h : Host). h.addr) rest) ≡ false)
other_name true host rest absent = cc
other_name false host rest absent = (refl, absent)

apart_push : (e : List ℕ → Bool) (hosts : List Host) (new : Host) → AllByRecursion (λ name. e name ≡ false) (names_of hosts) → e new.name ≡ false
    → AllByRecursion (λ name. e name ≡ false) (names_of (hosts ++ new ∷ []))
apart_push e [] new apart other = (other, tt)
apart_push e (host ∷ hosts) new apart other = (apart.0, apart_push e hosts new apart.1 other)

distinct_push : (hosts : List Host) (new : Host) → IsDistinct bytes_eq (names_of hosts) → is_some (address_of hosts new.name) ≡ false
    → IsDistinct bytes_eq (names_of (hosts ++ new ∷ []))
unfolding IsDistinct
distinct_push [] new distinct absent = (tt, tt)
distinct_push (host ∷ hosts) new distinct absent =
    let other = other_name (bytes_eq host.name new.name) host (find (λ h. bytes_eq h.name new.name) hosts) absent in
    (apart_push (bytes_eq host.name) hosts new distinct.0 other.0, distinct_push hosts new distinct.1 other.1)

push_sound : (hosts : List Host) (new : Host) → AreSound hosts → is_name new.name ≡ true → is_some (address_of hosts new.name) ≡ false → AreSound (hosts ++ new ∷ [])
push_sound hosts new are is absent = record {
  names = list_all-append (λ (h : Host). is_name h.name) hosts (new ∷ []) ∙ rw (are.names, is) refl;
  distinct = distinct_push hosts new are.distinct absent;
}

none_sound : AreSound []
unfolding IsDistinct
none_sound = record { names = refl; distinct = tt }

-- ---- tables

record SoundPartial (table : PartialTable) : Type 0 where
  pub own : IfSome table.own (λ own. own.1 < 2 ^ 48)
  pub gateway : IfSome table.gateway (λ mac. mac < 2 ^ 48)
  pub hosts : AreSound table.hosts

with_host_line_sound : (table : PartialTable) (entry : Option HostLine) → SoundPartial table → SoundLine entry → IfOk (with_host_line table entry) SoundPartial
with_host_line_sound table None sound is = tt
with_host_line_sound table (Some Nothing) sound is = sound
with_host_line_sound table (Some (Own addr mac)) sound is = by_test (is_some table.own)
  where
    by_test : (twice : Bool) → IfOk (if twice then Err Twice else Ok (record table { own = Some (addr, mac) })) SoundPartial
    by_test true = tt
    by_test false = record { own = is; gateway = sound.gateway; hosts = sound.hosts }
with_host_line_sound table (Some (Gateway mac)) sound is = by_test (is_some table.gateway)
  where
    by_test : (twice : Bool) → IfOk (if twice then Err Twice else Ok (record table { gateway = Some mac })) SoundPartial
    by_test true = tt
    by_test false = record { own = sound.own; gateway = is; hosts = sound.hosts }
with_host_line_sound table (Some (Named name addr)) sound is = by_tests (is_some (address_of table.hosts name)) refl (nat_le 4096 (length table.hosts))
  where
    by_tests : (twice : Bool) → is_some (address_of table.hosts name) ≡ twice → (many : Bool)
        → IfOk (if twice then Err Twice else if many then Err Many else Ok (record table { hosts = table.hosts ++ host_of name addr ∷ [] })) SoundPartial
    by_tests true absent many = tt
    by_tests false absent true = tt
    by_tests false absent false = record { own = sound.own; gateway = sound.gateway; hosts = push_sound table.hosts (host_of name addr) sound.hosts is absent }

at_line_sound : (number : ℕ) (r : Result PartialTable HostFault) → IfOk r SoundPartial → IfOk (at_line number r) SoundPartial
at_line_sound number (Ok table) sound = sound
at_line_sound number (Err fault) sound = tt

counted : (table : PartialTable) → SoundPartial table → SoundPartial (record table { lines = table.lines + 1 })
counted table sound = record { own = sound.own; gateway = sound.gateway; hosts = sound.hosts }

with_line_sound : (r : Result PartialTable (ℕ × HostFault)) (line : List ℕ) → IfOk r SoundPartial → IfOk (with_line r line) SoundPartial
with_line_sound (Err fault) line sound = tt
with_line_sound (Ok table) line sound =
    let next : PartialTable = record table { lines = table.lines + 1 } in
    at_line_sound (table.lines + 1) (with_host_line next (host_line_in line)) (with_host_line_sound next (host_line_in line) (counted table sound) (host_line_sound line))

lines_sound : (r : Result PartialTable (ℕ × HostFault)) (lines : List (List ℕ)) → IfOk r SoundPartial → IfOk (fold with_line r lines) SoundPartial
lines_sound r [] sound = sound
lines_sound r (line ∷ lines) sound = lines_sound (with_line r line) lines (with_line_sound r line sound)

name_plain : (name : List ℕ) → is_name name ≡ true → list_all is_name_byte name ≡ true
name_plain name is = by_tests (nat_lt 0 (length name)) (nat_le (length name) 253) is
  where
    by_tests : (some few : Bool) → (some && few && list_all is_name_byte name) ≡ true → list_all is_name_byte name ≡ true
    by_tests true true plain = plain
    by_tests true false plain = cc
    by_tests false few plain = cc

names_plain : (hosts : List Host) → list_all (λ (host : Host). is_name host.name) hosts ≡ true → list_all (λ (host : Host). list_all is_name_byte host.name) hosts ≡ true
names_plain [] are = refl
names_plain (host ∷ hosts) are = by_first (is_name host.name) refl (λ rest. names_plain hosts rest) are
  where
    by_first : (first : Bool) → is_name host.name ≡ first
        → (list_all (λ (h : Host). is_name h.name) hosts ≡ true → list_all (λ (h : Host). list_all is_name_byte h.name) hosts ≡ true)
        → (first && list_all (λ (h : Host). is_name h.name) hosts) ≡ true
        → (list_all is_name_byte host.name && list_all (λ (h : Host). list_all is_name_byte h.name) hosts) ≡ true
    by_first true is others rest = rw (name_plain host.name is) (others rest)
    by_first false is others rest = cc

table_with_sound : (lines : ℕ) (own : Option (ℕ × ℕ)) (gateway : Option ℕ) (hosts : List Host) → IfSome own (λ own. own.1 < 2 ^ 48) → IfSome gateway (λ mac. mac < 2 ^ 48) → AreSound hosts
    → IfOk (table_with lines own gateway hosts) IsSound
table_with_sound lines (Some own) (Some gateway) hosts small near are =
    record { mac = small; gateway = near; names = are.names; plain = names_plain hosts are.names; distinct = are.distinct }
table_with_sound lines (Some own) None hosts small near are = tt
table_with_sound lines None gateway hosts small near are = tt

table_sound : (r : Result PartialTable (ℕ × HostFault)) → IfOk r SoundPartial → IfOk (table_of r) IsSound
table_sound (Err fault) sound = tt
table_sound (Ok table) sound = table_with_sound table.lines table.own table.gateway table.hosts sound.own sound.gateway sound.hosts

first_sound : SoundPartial nothing_read
first_sound = record { own = tt; gateway = tt; hosts = none_sound }

hosts_in_sound : (text : List ℕ) → IfOk (hosts_in text) IsSound
unfolding hosts_in
hosts_in_sound text = by_test (nat_lt 4194304 (length text))
  where
    by_test : (long : Bool) → IfOk (if long then Err (0, TooLong) else table_of (fold with_line (Ok nothing_read) (lines_of text))) IsSound
    by_test true = tt
    by_test false = table_sound (fold with_line (Ok nothing_read) (lines_of text)) (lines_sound (Ok nothing_read) (lines_of text) first_sound)

-- what was read is sound
pub tables_are_sound : (text : List ℕ) (H : HostTable) → hosts_in text ≡ Ok H → IsSound H
tables_are_sound text H is = let P : Result HostTable (ℕ × HostFault) → Type 0 = λ r. IfOk r IsSound in subst P is (hosts_in_sound text)
