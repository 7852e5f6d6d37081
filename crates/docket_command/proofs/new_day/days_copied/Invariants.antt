use Rattle.std.proofs.Common.{◌≡◌, take}
use Rattle.docket_command.proofs.new_day.days_copied.Given as goal

abbrev pub invariant-loop-day : goal.invariant-loop-day
invariant-loop-day l = l.copy.items ≡ take l.day-index l.days
