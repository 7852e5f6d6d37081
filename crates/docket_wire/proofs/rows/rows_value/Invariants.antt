use Rattle.std.proofs.Common.{◌≡◌, take}
use Rattle.std.specs.List.{AllByRecursion}
use Rattle.std.specs.Prelude.{map}
use Rattle.serde_json.specs.View.{view}
use Rattle.docket_wire.specs.Valid.{IsNewDay}
use Rattle.docket_wire.specs.Writing.{new_day_data}
use Rattle.docket_wire.proofs.rows.rows_value.Given as goal

abbrev pub invariant-loop-row : goal.invariant-loop-row
invariant-loop-row l = (map view l.values.items ≡ map new_day_data (take l.row-index l.row-items)) × AllByRecursion IsNewDay (take l.row-index l.row-items)
