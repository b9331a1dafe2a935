-- What was read, or the first fault, unless memory ran out.
use Rattle.std.specs.Prelude.{ℕ, ◌≡◌, Result, Ok, Err}
use Rattle.ibos_capture.specs.declared.fault.CapFault.{CapFault}
use Rattle.ibos_capture.specs.declared.fault.CaptureFault.{CaptureFault}
use Rattle.ibos_capture.specs.declared.fault.CaptureFault.TheVariants.{At, Memory}

abbrev pub Reads : {T : Type 0} → Result T CaptureFault → Result T (ℕ × CapFault) → Type 0
Reads (Ok x) wanted = wanted ≡ Ok x
Reads (Err (At n fault)) wanted = wanted ≡ Err (n, fault)
Reads (Err Memory) wanted = Unit {0}
