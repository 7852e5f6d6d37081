-- The calendar rows of a docket.
use Rattle.std.proofs.Common.{◌≡◌, ℕ, suc, ◌+◌, ◌<◌, ◌≤◌, Bool, true, false, not, Option, Some, None, List, [], ◌∷◌, ◌++◌, map, length, IsUtf8, refl, sym, subst, arith}
use Rattle.std.specs.Prelude.{◌==◌, if◌then◌else◌}
use Rattle.std.specs.List.{AllByRecursion}
use Rattle.std.proofs.lemmas.List.{map-append, length-map}
use Rattle.docket_history.specs.Actions.{rows_asked, row_withdrawn}
use Rattle.docket_history.specs.CalendarItems.{stands_among, fresh}
use Rattle.docket_history.specs.Histories.{History, items_of, numbered, without_row, standing_rows, next_row, rows_added}
use Rattle.docket_history.specs.ShortDays.{day_and_span_rows, short_day_rows}
use Rattle.docket_history.specs.declared.item.CalendarItem.{CalendarItem}
use Rattle.docket_history.specs.declared.item.CalendarItem.TheVariants.{Day, Span, Short}
use Rattle.docket_history.specs.declared.row.CalendarRow.{CalendarRow}
use Rattle.docket_decisions.proofs.Leading.{length-numbered}
use Rattle.docket_decisions.proofs.ListLemmas.{all_both}
use Rattle.docket_wire.specs.Valid.{IsCommand}
use Rattle.docket_columns.specs.Fits.{IsCount, IsNameOf, IsCalendarRow, IsShortDayRow}
use Rattle.docket_orderly.specs.Orderly.{Rises, RunsFrom}
use Rattle.docket_orderly.proofs.ActionLemmas.{NewRow, IsHeldItem, IsAsked, rows_fine}
use Rattle.docket_orderly.proofs.ListLemmas.{all_left, all_by, numbers_left, rises_left, runs_below, rises_both}

abbrev numbers : List CalendarRow → List ℕ
numbers rows = map (λ (row : CalendarRow). row.number) rows

-- new rows
numbered_runs : (n : ℕ) (rows : List NewRow) → RunsFrom n (numbers (numbered n rows))
numbered_runs n [] = tt
numbered_runs n (row ∷ rows) = let next : n + 1 ≡ suc n = omega arith in (refl, subst (λ m. RunsFrom m (numbers (numbered (n + 1) rows))) next (numbered_runs (n + 1) rows))

-- a row, but for its number
abbrev IsHeld : CalendarRow → Type 0
IsHeld row = IsHeldItem row.item × IsNameOf row.item row.name × IsUtf8 row.name

numbered_held : (n : ℕ) (rows : List NewRow) → AllByRecursion IsAsked rows → AllByRecursion IsHeld (numbered n rows)
numbered_held n [] all = tt
numbered_held n (row ∷ rows) all = ((all.0.item, all.0.named, all.0.name), numbered_held (n + 1) rows all.1)

fresh_if : (b : Bool) (new : NewRow) (rows others : List NewRow) → IsAsked new → AllByRecursion IsAsked rows → AllByRecursion IsAsked others → AllByRecursion IsAsked (if b then rows else new ∷ others)
fresh_if true new rows others here less more = less
fresh_if false new rows others here less more = (here, more)

fresh_asked : (standing : List CalendarItem) (asked : List NewRow) → AllByRecursion IsAsked asked → AllByRecursion IsAsked (fresh standing asked)
fresh_asked standing [] all = tt
fresh_asked standing (new ∷ others) all =
    fresh_if (stands_among standing new.item) new _ _ all.0 (fresh_asked standing others all.1) (fresh_asked (standing ++ new.item ∷ []) others all.1)

-- rows that are left
held_left : (w : Option ℕ) (rows : List CalendarRow) → AllByRecursion IsHeld rows → AllByRecursion IsHeld (without_row w rows)
held_left None rows all = all
held_left (Some number) rows all = all_left IsHeld (λ row. not (row.number == number)) rows all

below_left : (n : ℕ) (w : Option ℕ) (rows : List CalendarRow) → AllByRecursion (λ m. m < n) (numbers rows) → AllByRecursion (λ m. m < n) (numbers (without_row w rows))
below_left n None rows all = all
below_left n (Some number) rows all = numbers_left (λ (row : CalendarRow). row.number) (λ m. m < n) (λ row. not (row.number == number)) rows all

up_left : (w : Option ℕ) (rows : List CalendarRow) → Rises (numbers rows) → Rises (numbers (without_row w rows))
up_left None rows up = up
up_left (Some number) rows up = rises_left (λ (row : CalendarRow). row.number) (λ row. not (row.number == number)) rows up

held : (h : History) → AllByRecursion IsCommand h → AllByRecursion IsHeld (standing_rows h)
held [] all = tt
held (c ∷ h) all =
    all_both IsHeld (without_row (row_withdrawn c.action) (standing_rows h)) (numbered (next_row h) (rows_added (items_of (standing_rows h)) c.action))
    (held_left (row_withdrawn c.action) (standing_rows h) (held h all.1))
    (numbered_held (next_row h) (rows_added (items_of (standing_rows h)) c.action) (fresh_asked (items_of (standing_rows h)) (rows_asked c.action) (rows_fine c.action all.0.1)))

below : (h : History) → AllByRecursion (λ m. m < next_row h) (numbers (standing_rows h))
below [] = tt
below (c ∷ h) =
    let left = without_row (row_withdrawn c.action) (standing_rows h) in
    let added = rows_added (items_of (standing_rows h)) c.action in
    let new = numbered (next_row h) added in
    let P : ℕ → Type 0 = λ m. m < next_row h + length added in
    let count : length (numbers new) ≡ length added = omega (arith, length-map new (λ (row : CalendarRow). row.number), length-numbered (next_row h) added) in
    subst (AllByRecursion P) (sym (map-append (λ (row : CalendarRow). row.number) left new))
    (all_both P (numbers left) (numbers new)
    (all_by (λ m. m < next_row h) P (λ m lt. omega (arith, lt)) (numbers left) (below_left (next_row h) (row_withdrawn c.action) (standing_rows h) (below h)))
    (all_by (λ m. m < next_row h + length (numbers new)) P (λ m lt. omega (arith, lt, count)) (numbers new) (runs_below (next_row h) (numbers new) (numbered_runs (next_row h) added))))

pub calendar_rises : (h : History) → Rises (numbers (standing_rows h))
calendar_rises [] = tt
calendar_rises (c ∷ h) =
    let left = without_row (row_withdrawn c.action) (standing_rows h) in
    let added = rows_added (items_of (standing_rows h)) c.action in
    let new = numbered (next_row h) added in
    subst Rises (sym (map-append (λ (row : CalendarRow). row.number) left new))
    (rises_both (next_row h) (numbers left) (numbers new) (up_left (row_withdrawn c.action) (standing_rows h) (calendar_rises h))
    (below_left (next_row h) (row_withdrawn c.action) (standing_rows h) (below h)) (numbered_runs (next_row h) added))

-- a row of the calendar, whichever table has it
abbrev IsStandingRow : CalendarRow → Type 0
IsStandingRow row = IsCount row.number × IsHeldItem row.item × IsNameOf row.item row.name × IsUtf8 row.name

together : (n : ℕ) (rows : List CalendarRow) → n ≤ 4_294_967_296 → AllByRecursion IsHeld rows → AllByRecursion (λ m. m < n) (numbers rows) → AllByRecursion IsStandingRow rows
together n [] few is low = tt
together n (row ∷ rows) few is low = ((omega (arith, few, low.0), is.0.0, is.0.1, is.0.2), together n rows few is.1 low.1)

held_by : (h : History) → next_row h ≤ 4_294_967_296 → AllByRecursion IsCommand h → AllByRecursion IsStandingRow (standing_rows h)
held_by h few all = together (next_row h) (standing_rows h) few (held h all) (below h)

-- the rows of the one table
in_calendar : (rows : List CalendarRow) → AllByRecursion IsStandingRow rows → AllByRecursion IsCalendarRow (day_and_span_rows rows)
in_calendar [] all = tt
in_calendar (row ∷ rows) all = one row.number row.item row.name all.0 (in_calendar rows all.1)
  where
    one : (n : ℕ) (i : CalendarItem) (name : List ℕ) → IsStandingRow (record { number = n; item = i; name = name }) → AllByRecursion IsCalendarRow (day_and_span_rows rows)
        → AllByRecursion IsCalendarRow (day_and_span_rows (record { number = n; item = i; name = name } ∷ rows))
    one n (Day kind day) name is rest = (is, rest)
    one n (Span start end) name is rest = (is, rest)
    one n (Short day close) name is rest = rest

pub calendar_held : (h : History) → next_row h ≤ 4_294_967_296 → AllByRecursion IsCommand h → AllByRecursion IsCalendarRow (day_and_span_rows (standing_rows h))
calendar_held h few all = in_calendar (standing_rows h) (held_by h few all)

-- and of the other
in_short_days : (rows : List CalendarRow) → AllByRecursion IsStandingRow rows → AllByRecursion IsShortDayRow (short_day_rows rows)
in_short_days [] all = tt
in_short_days (row ∷ rows) all = one row.number row.item row.name all.0 (in_short_days rows all.1)
  where
    one : (n : ℕ) (i : CalendarItem) (name : List ℕ) → IsStandingRow (record { number = n; item = i; name = name }) → AllByRecursion IsShortDayRow (short_day_rows rows)
        → AllByRecursion IsShortDayRow (short_day_rows (record { number = n; item = i; name = name } ∷ rows))
    one n (Day kind day) name is rest = rest
    one n (Span start end) name is rest = rest
    one n (Short day close) name is rest = ((is.0, is.1.0, is.1.1, is.3), rest)

pub short_days_held : (h : History) → next_row h ≤ 4_294_967_296 → AllByRecursion IsCommand h → AllByRecursion IsShortDayRow (short_day_rows (standing_rows h))
short_days_held h few all = in_short_days (standing_rows h) (held_by h few all)
