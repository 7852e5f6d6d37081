use Rattle.std.proofs.Common.{◌≡◌, drop}
use Rattle.docket_values.specs.Values.{first_bad}
use Rattle.docket_values.proofs.value.first_bad.Given as goal

-- the checks so far are passed
abbrev pub invariant-loop-check : goal.invariant-loop-check
invariant-loop-check l = first_bad (drop l.check-index l.checks) ≡ first_bad l.checks
