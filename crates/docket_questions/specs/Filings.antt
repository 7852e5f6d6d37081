-- Whether what a deadline asks for was filed in time, by a calendar.
use Rattle.std.specs.Prelude.{◌-◌, List, length, take, if◌then◌else◌, ℤ, Option, Some}
use Rattle.court_days.specs.Calendar.{Entered}
use Rattle.court_days.specs.Court.{CourtSettings, zone_of}
use Rattle.court_days.specs.Timely.{is_timely}
use Rattle.court_days.specs.declared.filing.Way.{Way}
use Rattle.court_rules.specs.Standings.{standing}
use Rattle.court_rules.specs.declared.act.Act.{Act}
use Rattle.court_rules.specs.declared.act.Act.TheVariants as act
use Rattle.court_rules.specs.declared.act.Standing.{Standing}
use Rattle.court_rules.specs.declared.act.Standing.TheVariants.{Running}
use Rattle.docket_history.specs.Views.{last_act}
use Rattle.html_sheets.specs.declared.filed.Filed.{Filed}
use Rattle.html_sheets.specs.declared.filed.Filed.TheVariants.{InTime, Late, Unfiled, Untimed}

module _ (court : CourtSettings) (calendar : Entered) where
  -- a filing by where the deadline stood then: where its time ran, it was filed by its end or late (Fed. R. Civ. P. 6(a)(4))
  abbrev pub filed_where : ℤ → Way → Standing → Filed
  filed_where at way (Running end) = if is_timely court calendar end at way then InTime else Late
  filed_where at way standing = Untimed

  -- what was filed by an act, after those before it
  abbrev pub filed_by : List Act → Option Act → Filed
  filed_by before (Some (act.Done at way)) = filed_where at way (standing (zone_of court) calendar before)
  filed_by before _ = Unfiled

  -- what was filed by the last act: none comes after it
  abbrev pub filed : List Act → Filed
  filed acts = filed_by (take (length acts - 1) acts) (last_act acts)
