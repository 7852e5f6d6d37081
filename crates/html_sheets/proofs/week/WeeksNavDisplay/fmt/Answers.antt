use Rattle.std.specs.Prelude.{codes}
use Rattle.std.proofs.Output.{has_written_of_eq}
use Rattle.html_sheets.specs.Weeks.{days_link}
use Rattle.html_sheets.proofs.ElementLemmas.{weeks_parts}
use Rattle.html_sheets.proofs.week.WeeksNavDisplay.fmt.Goals as goal

pub returns-in-true-clause-writes : goal.returns-in-true-clause-writes
returns-in-true-clause-writes g c plain ok =
    let before = days_link c.week_before.result c.week_before-in-true.result (codes "Week before") in
    let after = days_link c.week_after.result c.week_after-in-true.result (codes "Week after") in
    let parts = weeks_parts before after in
    rw (c.in-true.is) (rw (c.week_before.ensures, c.week_before-in-true.ensures, c.week_after.ensures, c.week_after-in-true.ensures) at (has_written_of_eq _ _ _ _ _ parts (c.write.ensures.writes plain ok)))
