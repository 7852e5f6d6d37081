-- No deadline depends on short days.
use Rattle.std.proofs.Common.{◌≡◌, ◌∙◌, ℕ, Bool, true, false, cond, not, List, [], ◌∷◌, ◌++◌, pos, refl, sym, ap}
use Rattle.std.specs.FinMap as map
use Rattle.std.specs.Ordering.{nat_cmp}
use Rattle.court_days.specs.LocalTime.{seconds}
use Rattle.court_days.specs.Zone.{ZoneRules}
use Rattle.court_days.specs.Calendar.{Entered, no_days, with_day, with_span, with_short}
use Rattle.court_days.specs.Ends.{first_open, last_business, open_from, end_from, end_of_days}
use Rattle.court_days.specs.HourEnds.{is_accessible, is_accessible_day, forward_end, moved_end, end_of_hours}
use Rattle.court_days.specs.Legal.{is_state_holiday, is_legal_holiday, is_business_day, is_open, is_open_business_day}
use Rattle.court_days.specs.declared.calendar.DayKind.TheVariants.{Federal, State, Closed}
use Rattle.court_days.specs.declared.calendar.Direction.{Direction}
use Rattle.court_days.specs.declared.calendar.Direction.TheVariants.{Forward, Backward}
use Rattle.court_days.specs.declared.filing.End.TheVariants.{LastDay, Moment}
use Rattle.court_rules.specs.Ends.{end_of_period, end_after_service}
use Rattle.court_rules.specs.Standings.{end_of_start, last_day, extended_by, standing_after, standing_through, standing}
use Rattle.court_rules.specs.declared.act.Act.{Act}
use Rattle.court_rules.specs.declared.act.Act.TheVariants as act
use Rattle.court_rules.specs.declared.act.Standing.{Standing}
use Rattle.court_rules.specs.declared.act.Standing.TheVariants.{Running, Suspended, Awaiting, Done, Vacated}
use Rattle.court_rules.specs.declared.act.Start.{Start}
use Rattle.court_rules.specs.declared.act.Start.TheVariants as start
use Rattle.court_rules.specs.declared.table.Period.{Period}
use Rattle.court_rules.specs.declared.table.Period.TheVariants.{Days, Months}
use Rattle.docket_history.specs.CalendarItems.{calendar_of, entered_with, is_short_day, without_short_days}
use Rattle.docket_history.specs.Histories.{items_of}
use Rattle.docket_history.specs.ShortDays.{day_and_span_rows}
use Rattle.docket_history.specs.declared.item.CalendarItem.{CalendarItem}
use Rattle.docket_history.specs.declared.item.CalendarItem.TheVariants as item
use Rattle.docket_history.specs.declared.row.CalendarRow.{CalendarRow}

-- a calendar, and the same with other short days
module _ (entered : Entered) (short : map.FinMap nat_cmp ℕ) where
  abbrev other : Entered
  other = record entered { short = short }

  end_from-other : (direction : Direction) (last : ℕ) → end_from other direction last ≡ end_from entered direction last
  unfolding is_state_holiday is_legal_holiday is_business_day is_open is_open_business_day first_open last_business open_from end_from
  end_from-other Forward last = refl
  end_from-other Backward last = refl

  end_of_hours-other : (zone : ZoneRules) (direction : Direction) (start hours : ℕ) → end_of_hours other zone direction start hours ≡ end_of_hours entered zone direction start hours
  unfolding is_state_holiday is_legal_holiday is_business_day last_business is_accessible is_accessible_day forward_end moved_end end_of_hours
  end_of_hours-other zone Forward start hours = refl
  end_of_hours-other zone Backward start hours = refl

  end_of_days-other : (direction : Direction) (trigger count : ℕ) → end_of_days other direction trigger count ≡ end_of_days entered direction trigger count
  end_of_days-other direction trigger count = end_from-other direction _

  period-other : (direction : Direction) (trigger : ℕ) (period : Period) → end_of_period other direction trigger period ≡ end_of_period entered direction trigger period
  period-other direction trigger (Days count) = end_from-other direction _
  period-other direction trigger (Months count) = end_from-other direction _

  service-other : (three : Bool) (end : ℕ) → end_after_service other three end ≡ end_after_service entered three end
  service-other true end = end_from-other Forward _
  service-other false end = refl

  start-other : (zone : ZoneRules) (s : Start) → end_of_start zone other s ≡ end_of_start zone entered s
  start-other zone (start.Days days) =
      ap (λ day. LastDay day) (ap (end_after_service other days.three_days) (period-other days.direction days.trigger days.period)
      ∙ service-other days.three_days (end_of_period entered days.direction days.trigger days.period))
  start-other zone (start.Hours hours) = ap (λ at. Moment (pos at)) (end_of_hours-other zone hours.direction (seconds hours.at) hours.hours)

  extended-other : (zone : ZoneRules) (days : ℕ) (before : Standing) → extended_by zone other days before ≡ extended_by zone entered days before
  extended-other zone days (Running end) = ap (λ day. Running (LastDay day)) (end_of_days-other Forward (last_day zone end) days)
  extended-other zone days Suspended = refl
  extended-other zone days Awaiting = refl
  extended-other zone days Done = refl
  extended-other zone days Vacated = refl

  after-other : (zone : ZoneRules) (before : Standing) (new : Act) → standing_after zone other before new ≡ standing_after zone entered before new
  after-other zone before (act.Start s) = ap Running (start-other zone s)
  after-other zone before (act.Fixed day) = refl
  after-other zone before (act.ExtendBy days) = extended-other zone days before
  after-other zone before (act.ExtendTo day) = refl
  after-other zone before (act.Motion served kind) = refl
  after-other zone before (act.Resume day three) =
      ap (λ last. Running (LastDay last)) (ap (end_after_service other three) (end_of_days-other Forward day 14) ∙ service-other three (end_of_days entered Forward day 14))
  after-other zone before (act.AwaitStatement notice) = refl
  after-other zone before (act.Done at way) = refl
  after-other zone before act.Vacated = refl

  through-other : (zone : ZoneRules) (before : Standing) (acts : List Act) → standing_through zone other before acts ≡ standing_through zone entered before acts
  through-other zone before [] = refl
  through-other zone before (new ∷ acts) =
      ap (λ s. standing_through zone other s acts) (after-other zone before new) ∙ through-other zone (standing_after zone entered before new) acts

-- the items entered without the short days among them
entered-apart : (entered : Entered) (short : map.FinMap nat_cmp ℕ) (items : List CalendarItem)
    → entered_with (record entered { short = short }) (without_short_days items) ≡ record (entered_with entered items) { short = short }
entered-apart entered short [] = refl
entered-apart entered short (item.Day Federal day ∷ items) = entered-apart (with_day entered Federal day) short items
entered-apart entered short (item.Day State day ∷ items) = entered-apart (with_day entered State day) short items
entered-apart entered short (item.Day Closed day ∷ items) = entered-apart (with_day entered Closed day) short items
entered-apart entered short (item.Span start end ∷ items) = entered-apart (with_span entered start end) short items
entered-apart entered short (item.Short day close ∷ items) = entered-apart (with_short entered day close) short items

-- where a deadline stands depends on the days and the spans alone
pub standing-apart : (zone : ZoneRules) (items : List CalendarItem) (acts : List Act)
    → standing zone (calendar_of (without_short_days items)) acts ≡ standing zone (calendar_of items) acts
standing-apart zone items acts =
    ap (λ e. standing zone e acts) (entered-apart no_days no_days.short items) ∙ through-other (calendar_of items) no_days.short zone Vacated acts

-- so are the items of rows
pub items-apart : (rows : List CalendarRow) → items_of (day_and_span_rows rows) ≡ without_short_days (items_of rows)
items-apart [] = refl
items-apart (row ∷ rows) = at (not (is_short_day row.item)) (items-apart rows)
  where
    at : (b : Bool) → items_of (day_and_span_rows rows) ≡ without_short_days (items_of rows)
        → items_of (cond b (row ∷ day_and_span_rows rows) (day_and_span_rows rows)) ≡ cond b (row.item ∷ without_short_days (items_of rows)) (without_short_days (items_of rows))
    at true same = ap (λ items. row.item ∷ items) same
    at false same = same

pub standing-rows : (zone : ZoneRules) (rows : List CalendarRow) (acts : List Act)
    → standing zone (calendar_of (items_of (day_and_span_rows rows))) acts ≡ standing zone (calendar_of (items_of rows)) acts
standing-rows zone rows acts = ap (λ items. standing zone (calendar_of items) acts) (items-apart rows) ∙ standing-apart zone (items_of rows) acts

-- and does not change where a short day is entered
without-short : (items : List CalendarItem) (day close : ℕ) → without_short_days (items ++ item.Short day close ∷ []) ≡ without_short_days items
without-short [] day close = refl
without-short (item.Day kind on ∷ items) day close = ap (λ rest. item.Day kind on ∷ rest) (without-short items day close)
without-short (item.Span start end ∷ items) day close = ap (λ rest. item.Span start end ∷ rest) (without-short items day close)
without-short (item.Short on at ∷ items) day close = without-short items day close

pub standing-short : (zone : ZoneRules) (items : List CalendarItem) (day close : ℕ) (acts : List Act)
    → standing zone (calendar_of (items ++ item.Short day close ∷ [])) acts ≡ standing zone (calendar_of items) acts
standing-short zone items day close acts =
    sym (standing-apart zone (items ++ item.Short day close ∷ []) acts)
    ∙ ap (λ kept. standing zone (calendar_of kept) acts) (without-short items day close)
    ∙ standing-apart zone items acts
