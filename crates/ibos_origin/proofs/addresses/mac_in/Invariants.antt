use Rattle.std.proofs.Common.{◌≡◌, ◌<◌, ◌≤◌, ◌-◌, ◌^◌}
use Rattle.std.specs.Option.{option_copied}
use Rattle.ibos_text.specs.Parts.{parts_left}
use Rattle.ibos_origin.specs.Addresses.{mac_in}
use Rattle.ibos_origin.proofs.Macs.{mac_from}
use Rattle.ibos_origin.proofs.addresses.mac_in.Given as goal

abbrev pub invariant-pairs : goal.invariant-pairs
invariant-pairs l = record {
  few : l.count ≤ 6;
  small : l.mac < 256 ^ l.count;
  same : mac_from l.count l.mac (parts_left 58 (option_copied l.rest)) ≡ mac_in l.word;
}

abbrev pub decreases-pairs : goal.decreases-pairs
decreases-pairs l = 7 - l.count
