-- What was read, or the first fault, unless memory ran out.
use Rattle.std.specs.Prelude.{ℕ, ◌≡◌, Result, Ok, Err}
use Rattle.ibos_origin.specs.declared.fault.HostFault.{HostFault}
use Rattle.ibos_origin.specs.declared.fault.HostsFault.{HostsFault}
use Rattle.ibos_origin.specs.declared.fault.HostsFault.TheVariants.{At, Memory}

abbrev pub Refuses : {T : Type 0} → HostsFault → Result T (ℕ × HostFault) → Type 0
Refuses (At line fault) wanted = wanted ≡ Err (line, fault)
Refuses Memory wanted = Unit {0}

abbrev pub Reads : {T : Type 0} → Result T HostsFault → Result T (ℕ × HostFault) → Type 0
Reads (Ok x) wanted = wanted ≡ Ok x
Reads (Err fault) wanted = Refuses fault wanted
