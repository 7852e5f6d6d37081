-- Faults.
use Rattle.docket_command.specs.declared.field.Field.TheVariants as field
use Rattle.docket_wire.specs.declared.fault.WireFault.{WireFault}
use Rattle.docket_wire.specs.declared.fault.WireFault.TheVariants.{WrongField, NoMemory}

-- a fault of one row, as a fault of the list of rows
abbrev pub in_rows : WireFault → WireFault
in_rows NoMemory = NoMemory
in_rows _ = WrongField field.Rows
