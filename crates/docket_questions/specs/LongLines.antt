-- A deadline that falls due as a line, with the docket number and the caption of its case and the name of its party.
use Rattle.std.specs.Prelude.{ℕ, ◌==◌, if◌then◌else◌, List, ◌++◌, codes, decimal}
use Rattle.civil_time.specs.Civil.{weekday}
use Rattle.civil_time.specs.DayText.{day_text}
use Rattle.civil_time.specs.LocalTime.{local_day, local_minute}
use Rattle.civil_time.specs.MomentText.{clock_text}
use Rattle.court_days.specs.Court.{CourtSettings, zone_of}
use Rattle.court_days.specs.declared.filing.End.{End}
use Rattle.court_days.specs.declared.filing.End.TheVariants.{LastDay, Moment}
use Rattle.docket_history.specs.declared.record.DueRow.{DueRow}
use Rattle.docket_history.specs.declared.row.CaseRow.{CaseRow}
use Rattle.docket_text.specs.HolidayNames.{weekday_word}
use Rattle.docket_text.specs.Times.{shown, shown_minute}
use Rattle.html_sheets.specs.RuleWords.{rule_text}

-- a day and its weekday
abbrev pub weekday_text : ℕ → List ℕ
weekday_text day = day_text day ++ (codes " " ++ weekday_word (weekday day))

-- the day, the time and the closing of the clerk's office, as on the line of a calendar
abbrev pub end_text : CourtSettings → ℕ → End → List ℕ
end_text court close (LastDay day) = weekday_text day ++ (codes " 24:00 " ++ clock_text (shown_minute close))
end_text court close (Moment at) =
    weekday_text (local_day (zone_of court) (shown at)) ++ (codes " " ++ (clock_text (local_minute (zone_of court) (shown at)) ++ codes " --:--"))

-- the name of the party whose time it is; the number 0 means every party
abbrev pub whose_text : ℕ → List ℕ → List ℕ
whose_text party name = if party == 0 then codes "every party" else name

-- the end, the docket number, the deadline by its number and its rule in words, the party, and the caption
abbrev pub long_line : CourtSettings → DueRow → CaseRow → List ℕ → List ℕ
long_line court due case name =
    end_text court due.close due.end
    ++ (codes "  " ++ (case.label
    ++ (codes "  deadline " ++ (decimal due.number
    ++ (codes ": " ++ (rule_text due.rule
    ++ (codes "  " ++ (whose_text due.party name
    ++ (codes "  " ++ (case.caption
    ++ codes "\n"))))))))))
