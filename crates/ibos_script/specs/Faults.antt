-- What a line is answered, and the number and name under which its fault is printed.
use Rattle.std.specs.Prelude.{◌≡◌, ℕ, List, [], Bool, true, false, Option, None, Some, Result}
use Rattle.std.specs.Prelude.{Ok, Err, codes}
use Rattle.ibos_script.specs.declared.fault.LineFault.{LineFault}
use Rattle.ibos_script.specs.declared.fault.LineFault.TheVariants.{Long, Byte, Word, Count, Number}
use Rattle.ibos_script.specs.declared.fault.LineFault.TheVariants.{Hex, Memory}

-- The answer is the one that is wanted, unless memory was wanting.
abbrev pub GivesFault : {T : Type 0} → LineFault → Result T LineFault → Type 0
GivesFault Memory wanted = Unit {0}
GivesFault fault wanted = wanted ≡ Err fault

abbrev pub Gives : {T : Type 0} → Result T LineFault → Result T LineFault → Type 0
Gives (Ok x) wanted = wanted ≡ Ok x
Gives (Err fault) wanted = GivesFault fault wanted

-- what was made is the line that is wanted, unless memory was wanting
abbrev pub Makes : {A T : Type 0} → Result A LineFault → T → Result T LineFault → Type 0
Makes (Ok done) line wanted = wanted ≡ Ok line
Makes (Err fault) line wanted = GivesFault fault wanted

-- the same, where it is also told whether there is a line
abbrev pub GivesInto : {T : Type 0} → Result Bool LineFault → T → Result (Option T) LineFault
    → Type 0
GivesInto (Ok true) line wanted = wanted ≡ Ok (Some line)
GivesInto (Ok false) line wanted = wanted ≡ Ok None
GivesInto (Err fault) line wanted = GivesFault fault wanted

-- want of memory has none
abbrev pub number_of : LineFault → ℕ
number_of Long = 1
number_of Word = 2
number_of Number = 3
number_of Hex = 4
number_of Count = 5
number_of Byte = 6
number_of Memory = 0

abbrev pub name_of : LineFault → List ℕ
name_of Long = codes "Long"
name_of Word = codes "Word"
name_of Number = codes "Number"
name_of Hex = codes "Hex"
name_of Count = codes "Count"
name_of Byte = codes "Byte"
name_of Memory = []
