-- An index by name, against the list of hosts.
use Rattle.std.proofs.Common.{◌≡◌, ℕ, Bool, true, false, cond, ◌++◌, List, [], ◌∷◌, Option, Some, option_map, refl}
use Rattle.std.specs.Prelude.{bytes_eq, find}
use Rattle.std.specs.Global.{Vec}
use Rattle.std.specs.Map.{lookup}
use Rattle.std.specs.Cmp.Lexicographic.{nat_list_eq_equiv}
use Rattle.std.proofs.lemmas.List.{map_push}
use Rattle.ibos_origin.specs.Hosts.{Host, address_of, host_of}
use Rattle.ibos_origin.specs.Index.{named_hosts}

named_first : (a b : Bool) (name : List ℕ) (entry : Vec ℕ × ℕ) (hosts : List Host) (rest : Option ℕ) → a ≡ b → rest ≡ address_of hosts name
    → cond a (Some entry.1) rest ≡ option_map (λ (host : Host). host.addr) (cond b (Some (host_of entry.0.items entry.1)) (find (λ host. bytes_eq host.name name) hosts))
named_first true true name entry hosts rest same more = refl
named_first false false name entry hosts rest same more = more
named_first true false name entry hosts rest same more = cc
named_first false true name entry hosts rest same more = cc

-- what is found by name is the address of the first host of that name
pub lookup_named : (entries : List (Vec ℕ × ℕ)) (name : List ℕ) → lookup (λ key. bytes_eq name key.items) entries ≡ address_of (named_hosts entries) name
lookup_named [] name = refl
lookup_named (entry ∷ entries) name =
    named_first _ _ name entry (named_hosts entries) _ (nat_list_eq_equiv.symm name entry.0.items) (lookup_named entries name)

-- a new name goes last
pub named_hosts-push : (new old : List (Vec ℕ × ℕ)) (key : Vec ℕ) (addr : ℕ) (name : List ℕ) (hosts : List Host)
    → new ≡ old ++ (key, addr) ∷ [] → key.items ≡ name → named_hosts old ≡ hosts → named_hosts new ≡ hosts ++ host_of name addr ∷ []
named_hosts-push new old key addr name hosts last same held =
    rw last (rw (map_push {X = Vec ℕ × ℕ} _ old (key, addr)) (rw same (rw held refl)))
