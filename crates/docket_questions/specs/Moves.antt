-- Which deadlines end on another day, or at another moment, by another calendar of the court.
use Rattle.std.specs.Prelude.{◌≡◌, ℕ, List, [], ◌∷◌, ◌++◌, bytes_eq, codes, decimal, if◌then◌else◌, Option, Some, None}
use Rattle.std.specs.List.{flat_map}
use Rattle.civil_time.specs.DayText.{day_text}
use Rattle.civil_time.specs.MomentText.{moment_text}
use Rattle.court_days.specs.Calendar.{Entered}
use Rattle.court_days.specs.Court.{CourtSettings, zone_of}
use Rattle.court_days.specs.declared.filing.End.{End}
use Rattle.court_days.specs.declared.filing.End.TheVariants.{LastDay, Moment}
use Rattle.court_rules.specs.Standings.{standing}
use Rattle.court_rules.specs.declared.act.Standing.{Standing}
use Rattle.court_rules.specs.declared.act.Standing.TheVariants.{Running}
use Rattle.docket_calendar.specs.Calendar.{calendar_rows}
use Rattle.docket_command.specs.declared.command.Command.{Command}
use Rattle.docket_decisions.specs.Outcomes.{IsHistory}
use Rattle.docket_decisions.specs.Tables.{all_changed, rows_of}
use Rattle.docket_history.specs.Histories.{History, deadlines, standing_rows}
use Rattle.docket_history.specs.Records.{calendar}
use Rattle.docket_history.specs.declared.row.Change.{Change}
use Rattle.docket_history.specs.Views.{deadline_at}
use Rattle.docket_history.specs.declared.record.DueRow.{DueRow}
use Rattle.docket_history.specs.declared.view.DeadlineView.{DeadlineView}
use Rattle.docket_text.specs.Times.{shown}

abbrev pub end_told : CourtSettings → End → List ℕ
end_told court (LastDay day) = day_text day
end_told court (Moment at) = moment_text (zone_of court) (shown at)

abbrev pub run_told : CourtSettings → Standing → List ℕ
run_told court (Running end) = end_told court end
run_told court other = codes "no end"

-- the line of a deadline, where what its time runs to becomes something else
abbrev pub move_line : DueRow → List ℕ → List ℕ → List ℕ
move_line row before after =
    if bytes_eq before after then [] else
    codes "deadline " ++ (decimal row.number ++ (codes " of case " ++ (decimal row.case ++ (codes ": " ++ (before ++ (codes " becomes " ++ (after ++ codes "\n")))))))

-- that of a deadline that runs, by its acts and the other calendar
abbrev pub move_told : CourtSettings → Entered → DueRow → Option DeadlineView → List ℕ
move_told court other row None = []
move_told court other row (Some deadline) =
    move_line row (end_told court row.end) (run_told court (standing (zone_of court) other deadline.acts))

abbrev pub move_of : CourtSettings → History → Entered → DueRow → List ℕ
move_of court h other row = move_told court other row (deadline_at (deadlines row.case h) row.number)

-- the moves of all deadlines that run, in the order of the calendar, over all days that have a date here: 1980-01-01 to 3999-12-31
abbrev pub moves_of : CourtSettings → History → Entered → List ℕ
moves_of court h other = flat_map (move_of court h other) (calendar_rows court h 3652 741_441)

-- the moves, where there are any
abbrev pub moves_or_none : List ℕ → List ℕ
moves_or_none [] = codes "No deadline would move.\n"
moves_or_none (byte ∷ moves) = byte ∷ moves

-- what a command would do that changes the court's calendar
abbrev pub calendar_foreseen : CourtSettings → History → Command → List ℕ
calendar_foreseen court h c = codes "The court's calendar would change.\n" ++ moves_or_none (moves_of court h (calendar (c ∷ h)))

-- the command may be accepted after the history, and these changes make its rows of the calendar
pub record ChangesRows (court : CourtSettings) (h : History) (c : Command) (changes : List Change) : Type 0 where
  pub history : IsHistory court (c ∷ h)
  pub leads : (all_changed changes (rows_of court h)).calendar ≡ standing_rows (c ∷ h)
