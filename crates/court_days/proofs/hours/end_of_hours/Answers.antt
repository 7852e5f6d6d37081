use Rattle.std.proofs.Common.{arith, subst, ◌≡◌, ◌-◌, ◌*◌, ℕ}
use Rattle.court_days.specs.Hours.{RunsBackward}
use Rattle.court_days.proofs.hours.end_of_hours.Goals as goal

pub returns-in-Backward-clause-means : goal.returns-in-Backward-clause-means
returns-in-Backward-clause-means c =
    let same : c.args.start - 3600 * c.from-length.result ≡ c.args.start - 3600 * c.args.hours = omega (arith, c.from-length.ensures) in
    rw c.in-Backward.is (subst (λ (n : ℕ). RunsBackward c.args.calendar.now c.args.zone.now n c.backward_end.result) same c.backward_end.ensures.means)
