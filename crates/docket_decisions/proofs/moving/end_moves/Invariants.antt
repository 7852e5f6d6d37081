use Rattle.std.proofs.Common.{◌≡◌, take}
use Rattle.court_days.specs.Court.{zone_of}
use Rattle.docket_decisions.specs.EndMoves.{end_moves}
use Rattle.docket_decisions.proofs.moving.end_moves.Given as goal

abbrev pub invariant-loop-change : goal.invariant-loop-change
invariant-loop-change l = l.moves.items ≡ end_moves (zone_of l.court) l.calendar l.named (take l.change-index l.changes)
