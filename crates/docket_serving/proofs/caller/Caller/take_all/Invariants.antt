use Rattle.std.proofs.Common.{◌≡◌}
use Rattle.docket_serving.proofs.caller.Caller.take_all.Given as goal

abbrev pub invariant-loop : goal.invariant-loop
invariant-loop l = l.self.stream ≡ l.fn.self.stream
