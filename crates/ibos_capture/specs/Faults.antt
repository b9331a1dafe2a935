-- The number and the name of each fault of a capture.
use Rattle.std.specs.Prelude.{ℕ, List, codes}
use Rattle.ibos_capture.specs.declared.fault.CapFault.{CapFault}
use Rattle.ibos_capture.specs.declared.fault.CapFault.TheVariants.{Magic, Link, Version, Cut, Long}
use Rattle.ibos_capture.specs.declared.fault.CapFault.TheVariants.{TooLong}

abbrev pub number_of : CapFault → ℕ
number_of Magic = 1
number_of Link = 2
number_of Version = 3
number_of Cut = 4
number_of Long = 5
number_of TooLong = 6

abbrev pub name_of : CapFault → List ℕ
name_of Magic = codes "Magic"
name_of Link = codes "Link"
name_of Version = codes "Version"
name_of Cut = codes "Cut"
name_of Long = codes "Long"
name_of TooLong = codes "TooLong"
