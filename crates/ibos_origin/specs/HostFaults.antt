-- The number and the name of each fault of a host table.
use Rattle.std.specs.Prelude.{ℕ, List, codes}
use Rattle.ibos_origin.specs.declared.fault.HostFault.{HostFault}
use Rattle.ibos_origin.specs.declared.fault.HostFault.TheVariants.{Form, Twice, Many, NoSelf}
use Rattle.ibos_origin.specs.declared.fault.HostFault.TheVariants.{TooLong}

abbrev pub number_of : HostFault → ℕ
number_of Form = 1
number_of Twice = 2
number_of Many = 3
number_of NoSelf = 4
number_of TooLong = 5

abbrev pub name_of : HostFault → List ℕ
name_of Form = codes "Form"
name_of Twice = codes "Twice"
name_of Many = codes "Many"
name_of NoSelf = codes "NoSelf"
name_of TooLong = codes "TooLong"
