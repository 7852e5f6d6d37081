use Rattle.std.proofs.Common.{◌≡◌, sym, ◌∙◌, ap, of_z, to_z, to_z-of_z, w64}
use Rattle.civil_time.specs.LocalTime.{local_day, seconds}
use Rattle.court_days.specs.Court.{zone_of}
use Rattle.court_rules.specs.Acts.{is_entered_day}
use Rattle.count_lines.proofs.Beginnings.{instant_of_day}
use Rattle.count_lines.proofs.count.may_begin.Goals as goal

pub returns-clause-instant : goal.returns-clause-instant
returns-clause-instant c =
    let same : to_z w64 (of_z w64 c.args.at) ≡ c.args.at = to_z-of_z c.ranges.at in
    let day = c.local-day.ensures.day ∙ ap (λ at. local_day (zone_of c.args.court.now) (seconds at)) same in
    λ on. instant_of_day c.args.court.now c.args.at (sym (c.is_entered_day.ensures ∙ ap is_entered_day day) ∙ on)
