use Rattle.std.proofs.Common.{◌≡◌, rules, sym}
use Rattle.std.specs.Prelude.{codes}
use Rattle.std.proofs.Output.{has_written_of_eq}
use Rattle.civil_time.specs.LocalTime.{local_day, local_minute}
use Rattle.civil_time.specs.MomentText.{clock_text}
use Rattle.court_days.specs.Court.{zone_of}
use Rattle.docket_text.specs.Times.{shown}
use Rattle.html_sheets.proofs.ElementLemmas.{end_parts}
use Rattle.html_sheets.proofs.week.EndCellsDisplay.fmt.Goals as goal

pub returns-in-LastDay-clause-writes : goal.returns-in-LastDay-clause-writes
returns-in-LastDay-clause-writes g c plain ok =
    let parts = end_parts c.in-LastDay.day (codes "24:00") (clock_text c.shown_minute-close.result.minute) in
    rw (c.in-LastDay.is, sym c.shown_minute-close.ensures) (has_written_of_eq _ _ _ _ _ parts (c.write.ensures.writes plain ok))

pub returns-in-Moment-clause-writes : goal.returns-in-Moment-clause-writes
returns-in-Moment-clause-writes g c plain ok =
    let local = c.local-day.result in
    let zone = zone_of c.args.self.now.court.now in
    let day : local.0 ≡ local_day zone (shown c.in-Moment.at) = search rules in
    let minute : local.1 ≡ local_minute zone (shown c.in-Moment.at) = search rules in
    let parts = end_parts local.0 (clock_text local.1) (codes "--:--") in
    rw (c.in-Moment.is, sym day, sym minute) (has_written_of_eq _ _ _ _ _ parts (c.write-in-Moment.ensures.writes plain ok))
