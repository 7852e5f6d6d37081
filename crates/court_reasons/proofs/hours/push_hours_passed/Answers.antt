use Rattle.std.proofs.Common.{◌≡◌, ℕ, ◌-◌, ◌≤◌, ◌++◌, to_z, of_z, to_z-of_z, w64, arith, List, ap, ◌∙◌}
use Rattle.civil_time.specs.LocalTime.{seconds}
use Rattle.court_days.specs.Court.{zone_of}
use Rattle.court_reasons.specs.declared.cause.Causes.{Causes}
use Rattle.court_reasons.specs.declared.step.Step.{Step}
use Rattle.court_reasons.specs.Causes.{hour_causes}
use Rattle.court_reasons.specs.Steps.{days_passed, passed}
use Rattle.court_reasons.proofs.Pushing.{passed_more}
use Rattle.court_reasons.proofs.hours.push_hours_passed.Goals as goal

pub loop-n-preserved : goal.loop-n-preserved
loop-n-preserved c =
    let at = to_z w64 (of_z w64 c.args.at) in
    passed_more (hour_causes c.args.calendar.now (zone_of c.args.court.now) c.args.direction (seconds at)) c.args.steps.now c.loop-n.steps c.push.new.self c.args.from c.loop-n.n _ _
    c.plus-day.ensures c.hour_causes.ensures c.loop-n.invariant c.in_ok-push.ensures

same : (causes : ℕ → Causes) (old steps : List Step) (from n days end x y : ℕ) → n ≤ days → days ≤ n → days ≡ x - y → x ≡ end → y ≡ from → steps ≡ old ++ days_passed causes from n → steps ≡ old ++ passed causes from end
same causes old steps from n days end x y h k d e f s = s ∙ ap (λ k. old ++ days_passed causes from k) (omega arith)

pub returns : goal.returns
returns c =
    let done = same (hour_causes c.args.calendar.now (zone_of c.args.court.now) c.args.direction (seconds (to_z w64 (of_z w64 c.args.at)))) c.args.steps.now c.loop-n.steps c.args.from c.loop-n.n c.saturating_sub-days.result c.args.end _ _ c.loop-n.auto.n-end c.loop-n-test.false c.saturating_sub-days.ensures c.epoch_day.ensures.value c.epoch_day-2.ensures.value c.loop-n.invariant in
    rw (to_z-of_z c.ranges.at) at done
