use Rattle.std.proofs.Common.{◌≡◌, drop, map}
use Rattle.docket_decisions.specs.Refusals.{on, first_some}
use Rattle.docket_decisions.proofs.refusals.first_met.Given as goal

-- the checks so far are passed
abbrev pub invariant-loop-check : goal.invariant-loop-check
invariant-loop-check l =
    first_some (map (λ check. on check.0 check.1) (drop l.check-index l.checks))
    ≡ first_some (map (λ check. on check.0 check.1) l.checks)
