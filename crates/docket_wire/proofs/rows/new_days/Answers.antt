use Rattle.std.proofs.Common.{ap}
use Rattle.docket_command.specs.declared.field.Field.TheVariants as field
use Rattle.docket_wire.specs.declared.fault.WireFault.TheVariants.{WrongField}
use Rattle.docket_wire.specs.Members.{or_fault}
use Rattle.docket_wire.proofs.ReadingLemmas.{row_read, row_refused, rows_read}
use Rattle.docket_wire.proofs.rows.new_days.Goals as goal

pub returns-in-Err : goal.returns-in-Err
returns-in-Err c = rw c.in_rows.ensures (row_refused _ _ _ _ _ _ c.loop-value-test.true c.value-item.is c.loop-value.invariant c.in-Err.ensures)

pub loop-value-preserved : goal.loop-value-preserved
loop-value-preserved c = rw c.in_ok-push-in-Ok.ensures.items (row_read _ _ _ _ _ _ c.loop-value-test.true c.value-item.is c.in-Ok.ensures c.loop-value.invariant)

pub returns : goal.returns
returns c = rw c.new.ensures (ap (or_fault (WrongField field.Rows)) (rows_read _ _ _ _ c.loop-value-test.false c.loop-value.invariant))
