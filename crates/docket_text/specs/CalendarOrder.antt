-- The rows of the court's calendar, and their order.
use Rattle.std.specs.Prelude.{ℕ, List, [], ◌∷◌}
use Rattle.std.specs.List.{flat_map}
use Rattle.std.specs.List.Sorted.{IsPermutation, IsSorted}
use Rattle.std.specs.Ordering.{nat_cmp, int_cmp, ordering_then}
use Rattle.std.specs.declared.cmp.Ordering.{Ordering}
use Rattle.std.specs.declared.cmp.Ordering.TheVariants.{Less, Equal, Greater}
use Rattle.civil_time.specs.LocalTime.{local_day}
use Rattle.court_days.specs.Court.{CourtSettings, zone_of}
use Rattle.court_days.specs.declared.filing.End.{End}
use Rattle.court_days.specs.declared.filing.End.TheVariants.{LastDay, Moment}
use Rattle.court_rules.specs.declared.act.Standing.{Standing}
use Rattle.court_rules.specs.declared.act.Standing.TheVariants.{Running, Suspended, Awaiting, Done, Vacated}
use Rattle.docket_history.specs.declared.record.DeadlineLine.{DeadlineLine}
use Rattle.docket_history.specs.declared.record.DueRow.{DueRow}
use Rattle.docket_text.specs.Times.{shown}

-- the row of a deadline of the case that stands so, if its time runs
abbrev pub row_where : ℕ → DeadlineLine → Standing → List DueRow
row_where case line (Running end) =
    record { end = end; close = line.close; case = case; number = line.number; party = line.party; rule = line.rule } ∷ []
row_where case line Suspended = []
row_where case line Awaiting = []
row_where case line Done = []
row_where case line Vacated = []

-- the rows of the deadlines of a case whose time runs, in the order of the deadlines
abbrev pub due_rows : ℕ → List DeadlineLine → List DueRow
due_rows case lines = flat_map (λ line. row_where case line line.standing) lines

-- the last day; of an instant, its local day
abbrev pub day_of_end : CourtSettings → End → ℕ
day_of_end court (LastDay day) = day
day_of_end court (Moment at) = local_day (zone_of court) (shown at)

-- instants in their order, and before last days
abbrev pub end_cmp : End → End → Ordering
end_cmp (Moment at) (Moment other) = int_cmp at other
end_cmp (Moment at) (LastDay day) = Less
end_cmp (LastDay day) (Moment at) = Greater
end_cmp (LastDay day) (LastDay other) = Equal

-- the first comparison that finds a difference
abbrev pub first_deciding : List Ordering → Ordering
first_deciding [] = Equal
first_deciding (first ∷ []) = first
first_deciding (first ∷ next ∷ rest) = ordering_then first (first_deciding (next ∷ rest))

-- the order of the calendar: by the day, on a day by the end, then by the case and by the deadline's number there
abbrev pub calendar_cmp : CourtSettings → DueRow → DueRow → Ordering
calendar_cmp court a b = first_deciding (
    nat_cmp (day_of_end court a.end) (day_of_end court b.end)
    ∷ end_cmp a.end b.end
    ∷ nat_cmp a.case b.case
    ∷ nat_cmp a.number b.number
    ∷ [])

-- the calendar of these rows: the same rows, none before one that comes earlier
pub record IsCalendar (court : CourtSettings) (rows listed : List DueRow) : Type 0 where
  pub same : IsPermutation rows listed
  pub ordered : IsSorted (calendar_cmp court) listed
