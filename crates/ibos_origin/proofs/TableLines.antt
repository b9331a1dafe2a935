-- A host table, line by line.
use Rattle.std.proofs.Common.{◌≡◌, ℕ, ◌≤◌, List, [], ◌∷◌, Result, Ok, Err, length, fold, refl, sym, ap, subst, ◌∙◌, arith}
use Rattle.std.specs.Prelude.{IsErrAnd}
use Rattle.std.proofs.lemmas.Bool.Decides.{nat_tests}
use Rattle.ibos_origin.specs.declared.fault.HostFault.{HostFault}
use Rattle.ibos_origin.specs.declared.fault.HostsFault.{HostsFault}
use Rattle.ibos_origin.specs.declared.fault.HostsFault.TheVariants.{At, Memory}
use Rattle.ibos_text.specs.Lines.{lines_of, pieces_of}
use Rattle.ibos_origin.specs.Hosts.{HostTable}
use Rattle.ibos_origin.specs.Tables.{PartialTable, nothing_read, with_line, table_of, hosts_in}
use Rattle.ibos_origin.specs.Reads.{Refuses, Reads}

-- a refused line refuses the table
fold-refused : (fault : ℕ × HostFault) (lines : List (List ℕ)) → fold with_line (Err fault) lines ≡ Err fault
fold-refused fault [] = refl
fold-refused fault (line ∷ lines) = fold-refused fault lines

hosts_in-read : (text : List ℕ) (read : Result PartialTable (ℕ × HostFault)) → length text ≤ 4194304
    → read ≡ fold with_line (Ok nothing_read) (lines_of text) → hosts_in text ≡ table_of read
unfolding hosts_in
hosts_in-read text read short is = rw (← is) (grind (arith, nat_tests))

pub refused_at : (fault : HostsFault) (table : PartialTable) (line after rest text : List ℕ) → length text ≤ 4194304
    → fold with_line (Ok table) (lines_of rest) ≡ fold with_line (Ok nothing_read) (lines_of text)
    → lines_of rest ≡ line ∷ lines_of after → Refuses fault (with_line (Ok table) line) → Refuses fault (hosts_in text)
refused_at Memory table line after rest text short same first refused = tt
refused_at (At number fault) table line after rest text short same first refused =
    let over : Err (number, fault) ≡ fold with_line (Ok nothing_read) (lines_of text) =
    sym (fold-refused (number, fault) (lines_of after)) ∙ ap (λ read. fold with_line read (lines_of after)) (sym refused)
    ∙ ap (fold with_line (Ok table)) (sym first) ∙ same in
    hosts_in-read text (Err (number, fault)) short over

-- no line is left
pub table_read : (table : PartialTable) (rest text : List ℕ) → length text ≤ 4194304
    → fold with_line (Ok table) (lines_of rest) ≡ fold with_line (Ok nothing_read) (lines_of text)
    → rest ≡ [] → hosts_in text ≡ table_of (Ok table)
unfolding lines_of pieces_of
table_read table rest text short same none =
    let end = ap (λ r. fold with_line (Ok table) (lines_of r)) (sym none) ∙ same in
    hosts_in-read text (Ok table) short end

-- the exit of a `?`
pub refused_by : (result : Result HostTable HostsFault) (fault : HostsFault) (wanted : Result HostTable (ℕ × HostFault))
    → IsErrAnd result (λ e. e ≡ fault) → Refuses fault wanted → Reads result wanted
refused_by (Ok x) fault wanted is refused = absurd is
refused_by (Err e) fault wanted is refused = subst (λ f. Refuses f wanted) (sym is) refused
