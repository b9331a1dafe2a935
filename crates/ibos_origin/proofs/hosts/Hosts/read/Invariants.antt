use Rattle.std.proofs.Common.{◌≡◌, ◌+◌, ◌≤◌, length, fold, Ok}
use Rattle.ibos_text.specs.Lines.{lines_of}
use Rattle.ibos_origin.specs.Tables.{nothing_read, with_line}
use Rattle.ibos_origin.proofs.hosts.Hosts.read.Given as goal

abbrev pub invariant-lines : goal.invariant-lines
invariant-lines l = record {
  few : l.table.lines + length l.rest ≤ length l.bytes;
  same : fold with_line (Ok l.table) (lines_of l.rest) ≡ fold with_line (Ok nothing_read) (lines_of l.bytes);
}

abbrev pub decreases-lines : goal.decreases-lines
decreases-lines l = length l.rest
