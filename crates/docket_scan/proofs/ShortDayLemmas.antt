-- The table of short days, behind those before it.
use Rattle.std.proofs.Common.{◌≡◌, ◌∙◌, ◌+◌, ◌≤◌, ℕ, List, [], map, length, true, refl, sym, ap, subst, arith}
use Rattle.std.proofs.lemmas.List.{length-map}
use Rattle.sqlite.specs.Order.{Row}
use Rattle.sqlite.specs.State.{State}
use Rattle.court_days.specs.Court.{CourtSettings}
use Rattle.docket_history.specs.declared.row.CalendarRow.{CalendarRow}
use Rattle.docket_history.specs.declared.row.ShortDayRow.{ShortDayRow}
use Rattle.docket_columns.specs.Cells.{calendar_cells, short_day_cells}
use Rattle.docket_columns.specs.Fits.{IsShortDayRow}
use Rattle.docket_columns.specs.declared.version.Version.TheVariants.{Second}
use Rattle.docket_sound.specs.ShortDays.{AreSoundShortDays}
use Rattle.docket_sound.specs.declared.short_day.ShortDayCheck.{ShortDayCheck}
use Rattle.docket_tables.specs.declared.table.Table.TheVariants as table
use Rattle.docket_scan.specs.Holdings.{holdings_of}
use Rattle.docket_scan.specs.Judging.{Holds, Rows}
use Rattle.docket_scan.specs.Reading.{IsReady}
use Rattle.docket_scan.specs.Records.{AreCalendarRows, AreShortDayRows, IsTable}
use Rattle.docket_scan.specs.Scans.{AreRowsOf}
use Rattle.docket_scan.specs.Shapes.{has_table}
use Rattle.docket_scan.specs.Taken.{ShortDayContext, short_day_context}
use Rattle.docket_scan.specs.declared.holdings.Holdings.{Holdings}

-- what the check uses, after the tables before it
pub readied : (court : CourtSettings) (next : ℕ) (calendar : List CalendarRow) (short_days : List ShortDayRow) (check : ShortDayCheck) → IsReady court next calendar short_days check
    → short_day_context check ≡ (court.close_minute, next, map (λ (r : CalendarRow). r.number) calendar)
readied court next calendar short_days check ready = λ i. (ready.goes.closes i, ready.goes.next i, ready.goes.numbers i)

abbrev pub AreSoundRows : ShortDayContext → List Row → Type 0
AreSoundRows k = IsTable IsShortDayRow short_day_cells (AreSoundShortDays k.0 k.1 k.2)

-- the rows of the calendar are counted in both tables
module _ (court : CourtSettings) (next : ℕ) (r : Rows) (unread : r.short_days ≡ []) (held : Holdings) (says : held ≡ holdings_of court r) (found : List ShortDayRow)
    (sound : AreSoundShortDays court.close_minute next (map (λ (row : CalendarRow). row.number) r.calendar) found) (count : ℕ) (counted : count ≡ length found) where
  before : held.calendar_rows ≡ length r.calendar
  before = ap (λ (k : Holdings). k.calendar_rows) says ∙ omega (arith, ap length unread)

  pub few : held.calendar_rows + count ≤ 4000
  few = omega (arith, before, counted, sound.few, length-map r.calendar (λ (row : CalendarRow). row.number))

  pub now_held : (total : ℕ) → total ≡ held.calendar_rows + count → record held { calendar_rows = total } ≡ holdings_of court (record r { short_days = found })
  now_held total is =
      let whole : total ≡ length r.calendar + length found = omega (arith, is, before, counted) in
      λ i. record (says i) { calendar_rows = whole i }

-- a table of short days without a row is sound beside a sound calendar
pub no_short_days : (s : State) (court : CourtSettings) (next : ℕ) (r : Rows) → r.short_days ≡ [] → AreCalendarRows court next (map calendar_cells r.calendar)
    → has_table s.now.schema table.ShortDays ≡ true → AreRowsOf table.ShortDays s [] → Holds Second s court next r table.ShortDays
no_short_days s court next r none calendar there read =
    let numbers = map (λ (row : CalendarRow). row.number) r.calendar in
    let as_many = sym (length-map r.calendar calendar_cells) ∙ ap length calendar.are.same ∙ length-map calendar.records calendar_cells in
    let few : length numbers + 0 ≤ 4000 = omega (arith, as_many, calendar.sound.few, length-map r.calendar (λ (row : CalendarRow). row.number)) in (
      there,
      subst (λ l. AreRowsOf table.ShortDays s (map short_day_cells l)) (sym none) read,
      subst (λ l. AreShortDayRows court next numbers (map short_day_cells l)) (sym none) (record {
        records = [];
        are = record { held = tt; same = refl };
        sound = record { rising = tt; given = tt; others = tt; apart = tt; few = few; within = tt };
      }),
    )
