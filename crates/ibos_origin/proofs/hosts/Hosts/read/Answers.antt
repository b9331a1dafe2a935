use Rattle.std.proofs.Common.{◌∙◌, arith, subst, sym}
use Rattle.ibos_origin.specs.Reads.{Refuses}
use Rattle.ibos_origin.proofs.SoundTables.{tables_are_sound}
use Rattle.ibos_origin.proofs.TableLines.{refused_at, refused_by, table_read}
use Rattle.ibos_origin.proofs.hosts.Hosts.read.Goals as goal

pub returns-in_err-read_line : goal.returns-in_err-read_line
returns-in_err-read_line c =
    refused_by _ _ _ c.from_residual.ensures.1
    (refused_at c.in_err-read_line.field-0.0 c.lines.table c.in-Some.line.now c.in-Some.after.now c.lines.rest.now c.args.bytes.now
    (omega (arith, c.if-bytes-gt-MAX_TABLE.false)) c.lines.invariant.same c.in-Some.ensures.first c.in_err-read_line.ensures.err)

pub returns-in_err-local : goal.returns-in_err-local
returns-in_err-local c =
    let whole = table_read c.lines.table c.lines.rest.now c.args.bytes.now (omega (arith, c.if-bytes-gt-MAX_TABLE.false)) c.lines.invariant.same c.in_default.ensures.first in
    refused_by _ _ _ c.from_residual-in_err-local.ensures.1 (subst (Refuses c.in_err-local.field-0.0) (sym whole) c.in_err-local.ensures.err)

pub invariant_of-result : goal.invariant_of-result
invariant_of-result c =
    let whole = table_read c.lines.table c.lines.rest.now c.args.bytes.now (omega (arith, c.if-bytes-gt-MAX_TABLE.false)) c.lines.invariant.same c.in_default.ensures.first in
    tables_are_sound c.args.bytes.now _ (whole ∙ c.in_ok-local.ensures.ok)

pub returns : goal.returns
returns c = table_read c.lines.table c.lines.rest.now c.args.bytes.now (omega (arith, c.if-bytes-gt-MAX_TABLE.false)) c.lines.invariant.same c.in_default.ensures.first ∙ c.in_ok-local.ensures.ok
