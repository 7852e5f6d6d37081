use Rattle.std.proofs.Common.{◌≡◌, ◌++◌, drop, option_map}
use Rattle.serde_json.specs.View.{items_view}
use Rattle.docket_wire.specs.Reading.{new_days_of}
use Rattle.docket_wire.proofs.rows.new_days.Given as goal

-- the rows so far, before what the rest means
abbrev pub invariant-loop-value : goal.invariant-loop-value
invariant-loop-value l = option_map (λ ns. l.rows.items ++ ns) (new_days_of (items_view (drop l.value-index l.list))) ≡ new_days_of (items_view l.list)
