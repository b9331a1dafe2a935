use Rattle.std.proofs.Common.{◌≡◌, ◌+◌, ◌++◌, map, take}
use Rattle.arrayvec.specs.ArrayVec.{array_vec_len}
use Rattle.ibos_model.specs.Screen.{chrome_byte}
use Rattle.ibos_kernel.proofs.chrome.push_shown.Given as goal

abbrev pub invariant-bytes : goal.invariant-bytes
invariant-bytes l = (array_vec_len l.row ≡ array_vec_len l.fn.row + l.byte-index) × (l.row.items ≡ l.fn.row.items ++ map chrome_byte (take l.byte-index l.text))
