use Rattle.std.proofs.Common.{◌≡◌, drop}
use Rattle.docket_command.specs.Sameness.{are_same_new_days}
use Rattle.docket_command.proofs.new_day.are_same_new_days.Given as goal

abbrev pub invariant-loop-i : goal.invariant-loop-i
invariant-loop-i l = are_same_new_days (drop l.i l.a) (drop l.i l.b) ≡ are_same_new_days l.a l.b
