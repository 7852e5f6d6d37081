-- The rows of a calendar in two tables: both are sound where it is.
use Rattle.std.proofs.Common.{◌≡◌, ℕ, ◌+◌, ◌<◌, ◌==◌, not, Bool, true, false, cond, IsTrue, List, [], ◌∷◌, ◌++◌, map, filter, length, refl, sym, ap, ap₂, subst, arith}
use Rattle.std.proofs.lemmas.Bool.Decides.{nat_tests}
use Rattle.std.proofs.lemmas.List.{length-map}
use Rattle.std.proofs.lemmas.List.Filters.{length-filter_both}
use Rattle.std.specs.List.{AllByRecursion, cons_option}
use Rattle.sqlite_trees.proofs.ListLemmas.{all-map, all_from_map}
use Rattle.civil_time.specs.Zone.{ZoneRules}
use Rattle.court_days.specs.Calendar.{Entered}
use Rattle.court_days.specs.Court.{CourtSettings}
use Rattle.docket_history.specs.CalendarItems.{calendar_of, is_short_day}
use Rattle.docket_decisions.specs.EndRows.{end_row, end_running}
use Rattle.docket_history.specs.Histories.{items_of}
use Rattle.docket_history.specs.ShortDays.{calendar_row, day_and_span_rows, short_day_row, short_day_rows}
use Rattle.docket_history.specs.declared.item.CalendarItem.{CalendarItem}
use Rattle.docket_history.specs.declared.item.CalendarItem.TheVariants.{Day, Span, Short}
use Rattle.docket_history.specs.declared.row.ActRow.{ActRow}
use Rattle.docket_history.specs.declared.row.CalendarRow.{CalendarRow}
use Rattle.docket_history.proofs.ShortDays.{standing-rows}
use Rattle.docket_sound.specs.Calendars.{is_sound_row, AreSoundCalendarRows}
use Rattle.docket_sound.specs.Dues.{dues_of_runs, dues_of}
use Rattle.docket_sound.specs.Numbers.{Rises}
use Rattle.docket_sound.specs.Runs.{Run, runs_of}
use Rattle.docket_sound.specs.ShortDays.{is_among, AreSoundShortDays}
use Rattle.docket_sound.specs.Standings.{standings_of_runs, standings_of}
use Rattle.docket_sound.proofs.HistoryCalendar.{sound_left}
use Rattle.docket_sound.proofs.ShortDayLemmas.{closing, from_calendar}

-- the days and the spans of a sound calendar
pub days_and_spans_sound : (court : CourtSettings) (n : ℕ) (rows : List CalendarRow) → AreSoundCalendarRows court n rows → AreSoundCalendarRows court n (day_and_span_rows rows)
days_and_spans_sound court n rows sound = sound_left (λ row. not (is_short_day row.item)) court n rows sound

-- the short days as rows of a calendar
abbrev short_rows : List CalendarRow → List CalendarRow
short_rows rows = filter (λ row. is_short_day row.item) rows

same_short : (rows : List CalendarRow) → map calendar_row (short_day_rows rows) ≡ short_rows rows
same_short [] = refl
same_short (row ∷ rows) = at row.item (same_short rows)
  where
    at : (item : CalendarItem) → map calendar_row (short_day_rows rows) ≡ short_rows rows
        → map calendar_row (cons_option (short_day_row row.number row.name item) (short_day_rows rows))
        ≡ cond (is_short_day item) (record { number = row.number; item = item; name = row.name } ∷ short_rows rows) (short_rows rows)
    at (Day kind day) same = same
    at (Span start end) same = same
    at (Short day close) same = ap (λ l. record { number = row.number; item = Short day close; name = row.name } ∷ l) same

-- each row is in one of the tables
pub in_two_tables : (rows : List CalendarRow) → length (day_and_span_rows rows) + length (short_day_rows rows) ≡ length rows
in_two_tables rows =
    let both = length-filter_both (λ (row : CalendarRow). is_short_day row.item) (λ row. not (is_short_day row.item)) (λ row. refl) rows in
    omega (arith, both, ap length (same_short rows), length-map (short_day_rows rows) calendar_row)

-- where the numbers rise, no row of one list has the number of one of the other
abbrev numbers : List CalendarRow → List ℕ
numbers rows = map (λ (row : CalendarRow). row.number) rows

below_others : (n : ℕ) (p : CalendarRow → Bool) (rows : List CalendarRow) → AllByRecursion (λ m. n < m) (numbers rows) → is_among (numbers (filter p rows)) n ≡ false
below_others n p [] all = refl
below_others n p (row ∷ rows) all = at (p row) (below_others n p rows all.1)
  where
    other : (row.number == n) ≡ false
    other = grind (arith, nat_tests, all.0)

    at : (b : Bool) → is_among (numbers (filter p rows)) n ≡ false → is_among (numbers (cond b (row ∷ filter p rows) (filter p rows))) n ≡ false
    at true none = rw (other, none) refl
    at false none = none

one_more : (n : ℕ) (ns : List ℕ) (rows : List CalendarRow) → AllByRecursion (λ row. n < row.number) rows → AllByRecursion (λ row. is_among ns row.number ≡ false) rows
    → AllByRecursion (λ row. is_among (n ∷ ns) row.number ≡ false) rows
one_more n ns [] above all = tt
one_more n ns (row ∷ rows) above all = (rw (other, all.0) refl, one_more n ns rows above.1 all.1)
  where
    other : (n == row.number) ≡ false
    other = grind (arith, nat_tests, above.0)

left_above : (n : ℕ) (p : CalendarRow → Bool) (rows : List CalendarRow) → AllByRecursion (λ m. n < m) (numbers rows) → AllByRecursion (λ row. n < row.number) (filter p rows)
left_above n p [] all = tt
left_above n p (row ∷ rows) all = at (p row) (left_above n p rows all.1)
  where
    at : (b : Bool) → AllByRecursion (λ r. n < r.number) (filter p rows) → AllByRecursion (λ r. n < r.number) (cond b (row ∷ filter p rows) (filter p rows))
    at true more = (all.0, more)
    at false more = more

apart : (p : CalendarRow → Bool) (rows : List CalendarRow) → Rises (numbers rows)
    → AllByRecursion (λ row. is_among (numbers (filter (λ r. not (p r)) rows)) row.number ≡ false) (filter p rows)
apart p [] rises = tt
apart p (row ∷ rows) rises = at (p row) (apart p rows rises.1)
  where
    rest : List CalendarRow
    rest = filter (λ r. not (p r)) rows

    at : (b : Bool) → AllByRecursion (λ r. is_among (numbers rest) r.number ≡ false) (filter p rows)
        → AllByRecursion (λ r. is_among (numbers (cond (not b) (row ∷ rest) rest)) r.number ≡ false) (cond b (row ∷ filter p rows) (filter p rows))
    at true more = (below_others row.number (λ r. not (p r)) rows rises.0, more)
    at false more = one_more row.number (numbers rest) (filter p rows) (left_above row.number p rows rises.0) more

pub short_days_sound : (court : CourtSettings) (n : ℕ) (rows : List CalendarRow) → AreSoundCalendarRows court n rows
    → AreSoundShortDays court.close_minute n (map (λ row. row.number) (day_and_span_rows rows)) (short_day_rows rows)
short_days_sound court n rows sound =
    let same = same_short rows in
    let as_rows : AreSoundCalendarRows court n (map calendar_row (short_day_rows rows)) =
    subst (AreSoundCalendarRows court n) (sym same) (sound_left (λ row. is_short_day row.item) court n rows sound) in
    from_calendar court.close_minute n (map (λ (row : CalendarRow). row.number) (day_and_span_rows rows)) (short_day_rows rows)
    (record {
      rising = as_rows.rising;
      given = as_rows.given;
      apart = as_rows.apart;
      few = as_rows.few;
      within = all-map (λ (r : CalendarRow). IsTrue (is_sound_row (closing court.close_minute) r)) calendar_row (short_day_rows rows)
          (all_from_map (λ (r : CalendarRow). IsTrue (is_sound_row court r)) calendar_row (short_day_rows rows) as_rows.within);
    })
    (all_from_map (λ (r : CalendarRow). is_among (map (λ (row : CalendarRow). row.number) (day_and_span_rows rows)) r.number ≡ false) calendar_row (short_day_rows rows)
    (subst (AllByRecursion (λ (r : CalendarRow). is_among (map (λ (row : CalendarRow). row.number) (day_and_span_rows rows)) r.number ≡ false)) (sym same)
    (apart (λ row. is_short_day row.item) rows sound.rising)))
    (omega (arith, sound.few, in_two_tables rows, length-map (day_and_span_rows rows) (λ (row : CalendarRow). row.number)))

-- the days and the spans alone determine where deadlines stand
module _ (zone : ZoneRules) (rows : List CalendarRow) where
  abbrev alone : Entered
  alone = calendar_of (items_of (day_and_span_rows rows))

  abbrev whole : Entered
  whole = calendar_of (items_of rows)

  runs_alike : (runs : List Run) → dues_of_runs zone alone runs ≡ dues_of_runs zone whole runs
  runs_alike [] = refl
  runs_alike (run ∷ runs) =
      ap₂ ◌++◌ (ap (λ s. end_row run.case run.deadline (end_running zone s)) (standing-rows zone rows (map (λ row. row.act) run.rows))) (runs_alike runs)

  pub dues_alike : (acts : List ActRow) → dues_of zone alone acts ≡ dues_of zone whole acts
  dues_alike acts = runs_alike (runs_of acts)

  standings_alike : (runs : List Run) → standings_of_runs zone alone runs ≡ standings_of_runs zone whole runs
  standings_alike [] = refl
  standings_alike (run ∷ runs) = ap₂ ◌∷◌ (standing-rows zone rows (map (λ row. row.act) run.rows)) (standings_alike runs)

  pub standings_same : (acts : List ActRow) → standings_of zone alone acts ≡ standings_of zone whole acts
  standings_same acts = standings_alike (runs_of acts)
