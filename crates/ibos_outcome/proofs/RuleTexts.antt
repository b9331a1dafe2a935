-- The codes and the names of the rules, as words.
use Rattle.std.proofs.Common.{◌≡◌, ◌<◌, ℕ, List, true, length, Some, refl, arith}
use Rattle.std.specs.List.{list_all}
use Rattle.ibos_kinds.specs.declared.rule.Rule.{Rule}
use Rattle.ibos_kinds.specs.declared.rule.Rule.TheVariants.{M1, M2, M3, M4, M5, M6, M7, M8, M9, F1}
use Rattle.ibos_kinds.specs.declared.rule.Rule.TheVariants.{F2, F3, F4, F5, F6, F7, F8, F9, F10}
use Rattle.ibos_kinds.specs.declared.rule.Rule.TheVariants.{F11, F12, F13, F14, F15, N1, N2, N3, N4}
use Rattle.ibos_kinds.specs.declared.rule.Rule.TheVariants.{N5, N6, U1, U2, U3, U4, U5, U6, U7, U8}
use Rattle.ibos_kinds.specs.declared.rule.Rule.TheVariants.{U9, U10, U11, U12, P1, P2, P3, P4, C1}
use Rattle.ibos_kinds.specs.declared.rule.Rule.TheVariants.{C2, C3, S1, S2, S3, S4, S5, S6, S7, S8}
use Rattle.ibos_kinds.specs.declared.rule.Rule.TheVariants.{S9}
use Rattle.ibos_kinds.specs.Texts.{code_of, name_of}
use Rattle.ibos_fields.specs.Printable.{is_graph, IsWord}
use Rattle.ibos_outcome.specs.Readings.{rule_in}

literal : (word : List ℕ) → list_all is_graph word ≡ true → 0 < length word → IsWord word
literal word graph some = record { graph = graph; some = some }

pub code_word : (rule : Rule) → IsWord (code_of rule)
code_word M1 = literal (code_of M1) refl (omega arith)
code_word M2 = literal (code_of M2) refl (omega arith)
code_word M3 = literal (code_of M3) refl (omega arith)
code_word M4 = literal (code_of M4) refl (omega arith)
code_word M5 = literal (code_of M5) refl (omega arith)
code_word M6 = literal (code_of M6) refl (omega arith)
code_word M7 = literal (code_of M7) refl (omega arith)
code_word M8 = literal (code_of M8) refl (omega arith)
code_word M9 = literal (code_of M9) refl (omega arith)
code_word F1 = literal (code_of F1) refl (omega arith)
code_word F2 = literal (code_of F2) refl (omega arith)
code_word F3 = literal (code_of F3) refl (omega arith)
code_word F4 = literal (code_of F4) refl (omega arith)
code_word F5 = literal (code_of F5) refl (omega arith)
code_word F6 = literal (code_of F6) refl (omega arith)
code_word F7 = literal (code_of F7) refl (omega arith)
code_word F8 = literal (code_of F8) refl (omega arith)
code_word F9 = literal (code_of F9) refl (omega arith)
code_word F10 = literal (code_of F10) refl (omega arith)
code_word F11 = literal (code_of F11) refl (omega arith)
code_word F12 = literal (code_of F12) refl (omega arith)
code_word F13 = literal (code_of F13) refl (omega arith)
code_word F14 = literal (code_of F14) refl (omega arith)
code_word F15 = literal (code_of F15) refl (omega arith)
code_word N1 = literal (code_of N1) refl (omega arith)
code_word N2 = literal (code_of N2) refl (omega arith)
code_word N3 = literal (code_of N3) refl (omega arith)
code_word N4 = literal (code_of N4) refl (omega arith)
code_word N5 = literal (code_of N5) refl (omega arith)
code_word N6 = literal (code_of N6) refl (omega arith)
code_word U1 = literal (code_of U1) refl (omega arith)
code_word U2 = literal (code_of U2) refl (omega arith)
code_word U3 = literal (code_of U3) refl (omega arith)
code_word U4 = literal (code_of U4) refl (omega arith)
code_word U5 = literal (code_of U5) refl (omega arith)
code_word U6 = literal (code_of U6) refl (omega arith)
code_word U7 = literal (code_of U7) refl (omega arith)
code_word U8 = literal (code_of U8) refl (omega arith)
code_word U9 = literal (code_of U9) refl (omega arith)
code_word U10 = literal (code_of U10) refl (omega arith)
code_word U11 = literal (code_of U11) refl (omega arith)
code_word U12 = literal (code_of U12) refl (omega arith)
code_word P1 = literal (code_of P1) refl (omega arith)
code_word P2 = literal (code_of P2) refl (omega arith)
code_word P3 = literal (code_of P3) refl (omega arith)
code_word P4 = literal (code_of P4) refl (omega arith)
code_word C1 = literal (code_of C1) refl (omega arith)
code_word C2 = literal (code_of C2) refl (omega arith)
code_word C3 = literal (code_of C3) refl (omega arith)
code_word S1 = literal (code_of S1) refl (omega arith)
code_word S2 = literal (code_of S2) refl (omega arith)
code_word S3 = literal (code_of S3) refl (omega arith)
code_word S4 = literal (code_of S4) refl (omega arith)
code_word S5 = literal (code_of S5) refl (omega arith)
code_word S6 = literal (code_of S6) refl (omega arith)
code_word S7 = literal (code_of S7) refl (omega arith)
code_word S8 = literal (code_of S8) refl (omega arith)
code_word S9 = literal (code_of S9) refl (omega arith)

pub name_word : (rule : Rule) → IsWord (name_of rule)
name_word M1 = literal (name_of M1) refl (omega arith)
name_word M2 = literal (name_of M2) refl (omega arith)
name_word M3 = literal (name_of M3) refl (omega arith)
name_word M4 = literal (name_of M4) refl (omega arith)
name_word M5 = literal (name_of M5) refl (omega arith)
name_word M6 = literal (name_of M6) refl (omega arith)
name_word M7 = literal (name_of M7) refl (omega arith)
name_word M8 = literal (name_of M8) refl (omega arith)
name_word M9 = literal (name_of M9) refl (omega arith)
name_word F1 = literal (name_of F1) refl (omega arith)
name_word F2 = literal (name_of F2) refl (omega arith)
name_word F3 = literal (name_of F3) refl (omega arith)
name_word F4 = literal (name_of F4) refl (omega arith)
name_word F5 = literal (name_of F5) refl (omega arith)
name_word F6 = literal (name_of F6) refl (omega arith)
name_word F7 = literal (name_of F7) refl (omega arith)
name_word F8 = literal (name_of F8) refl (omega arith)
name_word F9 = literal (name_of F9) refl (omega arith)
name_word F10 = literal (name_of F10) refl (omega arith)
name_word F11 = literal (name_of F11) refl (omega arith)
name_word F12 = literal (name_of F12) refl (omega arith)
name_word F13 = literal (name_of F13) refl (omega arith)
name_word F14 = literal (name_of F14) refl (omega arith)
name_word F15 = literal (name_of F15) refl (omega arith)
name_word N1 = literal (name_of N1) refl (omega arith)
name_word N2 = literal (name_of N2) refl (omega arith)
name_word N3 = literal (name_of N3) refl (omega arith)
name_word N4 = literal (name_of N4) refl (omega arith)
name_word N5 = literal (name_of N5) refl (omega arith)
name_word N6 = literal (name_of N6) refl (omega arith)
name_word U1 = literal (name_of U1) refl (omega arith)
name_word U2 = literal (name_of U2) refl (omega arith)
name_word U3 = literal (name_of U3) refl (omega arith)
name_word U4 = literal (name_of U4) refl (omega arith)
name_word U5 = literal (name_of U5) refl (omega arith)
name_word U6 = literal (name_of U6) refl (omega arith)
name_word U7 = literal (name_of U7) refl (omega arith)
name_word U8 = literal (name_of U8) refl (omega arith)
name_word U9 = literal (name_of U9) refl (omega arith)
name_word U10 = literal (name_of U10) refl (omega arith)
name_word U11 = literal (name_of U11) refl (omega arith)
name_word U12 = literal (name_of U12) refl (omega arith)
name_word P1 = literal (name_of P1) refl (omega arith)
name_word P2 = literal (name_of P2) refl (omega arith)
name_word P3 = literal (name_of P3) refl (omega arith)
name_word P4 = literal (name_of P4) refl (omega arith)
name_word C1 = literal (name_of C1) refl (omega arith)
name_word C2 = literal (name_of C2) refl (omega arith)
name_word C3 = literal (name_of C3) refl (omega arith)
name_word S1 = literal (name_of S1) refl (omega arith)
name_word S2 = literal (name_of S2) refl (omega arith)
name_word S3 = literal (name_of S3) refl (omega arith)
name_word S4 = literal (name_of S4) refl (omega arith)
name_word S5 = literal (name_of S5) refl (omega arith)
name_word S6 = literal (name_of S6) refl (omega arith)
name_word S7 = literal (name_of S7) refl (omega arith)
name_word S8 = literal (name_of S8) refl (omega arith)
name_word S9 = literal (name_of S9) refl (omega arith)

pub rule_read : (rule : Rule) → rule_in (code_of rule) ≡ Some rule
unfolding rule_in
rule_read M1 = refl
rule_read M2 = refl
rule_read M3 = refl
rule_read M4 = refl
rule_read M5 = refl
rule_read M6 = refl
rule_read M7 = refl
rule_read M8 = refl
rule_read M9 = refl
rule_read F1 = refl
rule_read F2 = refl
rule_read F3 = refl
rule_read F4 = refl
rule_read F5 = refl
rule_read F6 = refl
rule_read F7 = refl
rule_read F8 = refl
rule_read F9 = refl
rule_read F10 = refl
rule_read F11 = refl
rule_read F12 = refl
rule_read F13 = refl
rule_read F14 = refl
rule_read F15 = refl
rule_read N1 = refl
rule_read N2 = refl
rule_read N3 = refl
rule_read N4 = refl
rule_read N5 = refl
rule_read N6 = refl
rule_read U1 = refl
rule_read U2 = refl
rule_read U3 = refl
rule_read U4 = refl
rule_read U5 = refl
rule_read U6 = refl
rule_read U7 = refl
rule_read U8 = refl
rule_read U9 = refl
rule_read U10 = refl
rule_read U11 = refl
rule_read U12 = refl
rule_read P1 = refl
rule_read P2 = refl
rule_read P3 = refl
rule_read P4 = refl
rule_read C1 = refl
rule_read C2 = refl
rule_read C3 = refl
rule_read S1 = refl
rule_read S2 = refl
rule_read S3 = refl
rule_read S4 = refl
rule_read S5 = refl
rule_read S6 = refl
rule_read S7 = refl
rule_read S8 = refl
rule_read S9 = refl
