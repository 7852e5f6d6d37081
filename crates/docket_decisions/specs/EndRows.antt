-- The rows of the ends of deadlines: one for each deadline whose time runs, with its end by the present calendar.
use Rattle.std.specs.Prelude.{◌≡◌, ◌≤◌, ℕ, ℤ, ◌+◌, ◌==◌, not, Bool, false, ◌&&◌, if◌then◌else◌, List, [], ◌∷◌, ◌++◌, map, filter, Option, Some, None}
use Rattle.std.specs.List.{flat_map}
use Rattle.std.specs.Option.{option_eq}
use Rattle.std.specs.Ordering.{int_eq}
use Rattle.civil_time.specs.Civil.{IsDayNumber}
use Rattle.civil_time.specs.LocalTime.{local_day, seconds}
use Rattle.civil_time.specs.Zone.{ZoneRules}
use Rattle.court_days.specs.Calendar.{Entered}
use Rattle.court_days.specs.Court.{CourtSettings, zone_of}
use Rattle.court_days.specs.Hours.{IsNearEntered}
use Rattle.court_days.specs.declared.filing.End.{End}
use Rattle.court_days.specs.declared.filing.End.TheVariants.{LastDay, Moment}
use Rattle.court_rules.specs.Standings.{standing}
use Rattle.court_rules.specs.declared.act.Standing.{Standing}
use Rattle.court_rules.specs.declared.act.Standing.TheVariants.{Running}
use Rattle.docket_history.specs.CalendarItems.{calendar_of}
use Rattle.docket_history.specs.Histories.{items_of, acts_of_deadline}
use Rattle.docket_decisions.specs.Tables.{Tables}
use Rattle.docket_decisions.specs.declared.end_row.EndChange.{EndChange}
use Rattle.docket_decisions.specs.declared.end_row.EndChange.TheVariants.{Add, Remove, Move}
use Rattle.docket_decisions.specs.declared.end_row.StoredEnd.{StoredEnd}
use Rattle.docket_decisions.specs.declared.end_row.EndTime.{EndTime}
use Rattle.docket_history.specs.declared.row.ActRow.{ActRow}
use Rattle.docket_history.specs.declared.row.DeadlineRow.{DeadlineRow}
use Rattle.docket_history.specs.declared.view.DeadlineView.{DeadlineView}

-- an end as it is stored: its last day, which for an instant is the local day, and the instant, if it is one
abbrev pub time_of : ZoneRules → End → EndTime
time_of zone (LastDay day) = record { day = day; moment = None }
time_of zone (Moment at) = record { day = local_day zone (seconds at); moment = Some at }

-- the instant, or the end of the last day
abbrev pub end_by : ℕ → Option ℤ → End
end_by day None = LastDay day
end_by day (Some at) = Moment at

-- the end that is stored so
abbrev pub end_of_time : EndTime → End
end_of_time time = end_by time.day time.moment

-- the ends that times have: days of the calendar, and instants near the days that a court may enter
abbrev pub IsDueEnd : End → Type 0
IsDueEnd (LastDay day) = IsDayNumber day
IsDueEnd (Moment at) = IsNearEntered (seconds at)

-- the end of a time that runs
abbrev pub end_running : ZoneRules → Standing → Option EndTime
end_running zone (Running end) = Some (time_of zone end)
end_running zone _ = None

-- the row of deadline n of case k, where its time runs
abbrev pub end_row : ℕ → ℕ → Option EndTime → List StoredEnd
end_row k n None = []
end_row k n (Some end) = record { case = k; deadline = n; end = end } ∷ []

-- the row of a deadline, by its acts among those of all deadlines
abbrev pub row_of_deadline : ZoneRules → Entered → List ActRow → DeadlineRow → List StoredEnd
row_of_deadline zone entered acts d =
    end_row d.case d.number (end_running zone (standing zone entered (acts_of_deadline d.case d.number acts)))

-- the calendar of the present rows
abbrev pub calendar_in : Tables → Entered
calendar_in t = calendar_of (items_of t.calendar)

-- the rows of all deadlines of the tables
unfoldable pub end_rows : CourtSettings → Tables → List StoredEnd
end_rows court t = flat_map (row_of_deadline (zone_of court) (calendar_in t) t.acts) t.deadlines

-- the same for a case

-- the ends of the deadlines of a case, by a calendar
abbrev pub ends_running : ZoneRules → Entered → List DeadlineView → List (Option EndTime)
ends_running zone entered deadlines = map (λ d. end_running zone (standing zone entered d.acts)) deadlines

-- the rows of deadlines with these ends, numbered from a number on
abbrev pub end_rows_from : ℕ → ℕ → List (Option EndTime) → List StoredEnd
end_rows_from k n [] = []
end_rows_from k n (end ∷ ends) = end_row k n end ++ end_rows_from k (n + 1) ends

abbrev pub end_rows_of : ZoneRules → Entered → ℕ → List DeadlineView → List StoredEnd
end_rows_of zone entered k deadlines = end_rows_from k 1 (ends_running zone entered deadlines)

-- changes of these rows

-- the row is that of deadline n of case k
abbrev pub is_of : ℕ → ℕ → StoredEnd → Bool
is_of k n row = row.case == k && row.deadline == n

-- the row of the same deadline has the end of the other
abbrev pub moved_end : StoredEnd → StoredEnd → StoredEnd
moved_end to row = if is_of to.case to.deadline row then record row { end = to.end } else row

abbrev pub changed_ends : EndChange → List StoredEnd → List StoredEnd
changed_ends (Add row) rows = rows ++ row ∷ []
changed_ends (Remove k n) rows = filter (λ row. not (is_of k n row)) rows
changed_ends (Move to) rows = map (moved_end to) rows

-- the changes, one after another
abbrev pub all_changed_ends : List EndChange → List StoredEnd → List StoredEnd
all_changed_ends [] rows = rows
all_changed_ends (x ∷ xs) rows = all_changed_ends xs (changed_ends x rows)

-- the rows of other cases, and of other deadlines before n
abbrev pub IsElsewhere : ℕ → ℕ → StoredEnd → Type 0
IsElsewhere k n row = (m : ℕ) → n ≤ m → is_of k m row ≡ false

-- rows of deadlines of case k from n on, in their order
abbrev pub AreRowsFrom : ℕ → ℕ → List StoredEnd → Type 0
AreRowsFrom k n [] = Unit {0}
AreRowsFrom k n (row ∷ rows) = (row.case ≡ k) × (n ≤ row.deadline) × AreRowsFrom k (row.deadline + 1) rows

-- which changes are made, deadline by deadline

abbrev pub is_same_end : EndTime → EndTime → Bool
is_same_end end other = end.day == other.day && option_eq int_eq end.moment other.moment

-- what is done about a deadline, by the end that is stored and the one that its time has
abbrev pub end_changes : ℕ → ℕ → Option EndTime → Option EndTime → List EndChange
end_changes k n None None = []
end_changes k n None (Some end) = Add (record { case = k; deadline = n; end = end }) ∷ []
end_changes k n (Some stored) None = Remove k n ∷ []
end_changes k n (Some stored) (Some end) =
    if is_same_end stored end then []
    else Move (record { case = k; deadline = n; end = end }) ∷ []

-- the end of deadline n, where its row comes first, and the rows after it
abbrev pub first_end : ℕ → List StoredEnd → Option EndTime
first_end n [] = None
first_end n (row ∷ rows) = if row.deadline == n then Some row.end else None

abbrev pub after_first : ℕ → List StoredEnd → List StoredEnd
after_first n [] = []
after_first n (row ∷ rows) = if row.deadline == n then rows else row ∷ rows

-- the changes that lead from stored rows to those of deadlines with these ends; rows of no deadline go
abbrev pub changes_from : ℕ → ℕ → List (Option EndTime) → List StoredEnd → List EndChange
changes_from k n [] stored = map (λ row. Remove row.case row.deadline) stored
changes_from k n (end ∷ ends) stored =
    end_changes k n (first_end n stored) end ++ changes_from k (n + 1) ends (after_first n stored)

-- the change takes, adds or moves the row of that deadline
abbrev pub touches : EndChange → StoredEnd → Bool
touches (Add new) row = is_of new.case new.deadline row
touches (Remove k n) row = is_of k n row
touches (Move to) row = is_of to.case to.deadline row
