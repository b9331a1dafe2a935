-- Counts that are 0 can rise.
use Rattle.std.proofs.Common.{◌≡◌, ◌<◌, ◌^◌, ◌-◌, ℕ, Bool, true, false, List, Option, Some, None, arith}
use Rattle.std.specs.Prelude.{IfSome, is_some, if◌then◌else◌}
use Rattle.std.specs.List.{All, slice_index_or}
use Rattle.ibos_kinds.specs.Fakes.{Files, file_named, faults_of}

low : (held : Bool) (m n : ℕ) → m ≡ 0 → n ≡ 0 → (if held then m else n) < 2 ^ 64 - 1
low true m n first second = omega arith
low false m n first second = omega arith

pub counts_low : {F : Type 0} (form : Option F) (names : F → List (List ℕ)) (c : Files) → c.held_faults ≡ 0 → c.other_faults ≡ 0
    → IfSome form (λ f. All (λ name. faults_of c name < 2 ^ 64 - 1) (names f))
counts_low None names c held other = tt
counts_low (Some form) names c held other = λ k d inside. low (is_some (file_named c.files (slice_index_or (names form) k d))) _ _ held other
