-- The rows of the calendar apart, as two tables hold them, and together again.
use Rattle.std.proofs.Common.{◌≡◌, ◌∙◌, ◌==◌, ◌<◌, ◌&&◌, ◌||◌, ℕ, pos, nat_lt, length, Bool, true, false, cond, not, None, List, [], ◌∷◌, ◌++◌, map, filter, Ordering, Less, nat_cmp, IsPermutation, refl, sym, ap, arith}
use Rattle.std.specs.List.{AllByRecursion, cons_option, list_any}
use Rattle.std.specs.List.Sorted.{IsSortedByKey}
use Rattle.std.specs.Ordering.{on}
use Rattle.std.proofs.lemmas.Bool.Decides.{nat_tests}
use Rattle.std.proofs.lemmas.Cmp.{nat_cmp_total, on_total}
use Rattle.std.proofs.lemmas.List.Elements.{filter-append, filter_map-append}
use Rattle.std.proofs.lemmas.List.Sorted.{IsPermutation-refl, IsPermutation-cons, IsPermutation-middle, IsPermutation-sym, IsPermutation-trans}
use Rattle.sqlite.specs.Order.{Row}
use Rattle.sqlite.specs.declared.types.Value.TheVariants.{Int}
use Rattle.sqlite_keyed.proofs.SortLemmas.{sorted_unique}
use Rattle.sqlite_trees.proofs.ListLemmas.{filter_same, all_of}
use Rattle.sqlite_trees.specs.Tree.{IsAscending}
use Rattle.docket_history.specs.ShortDays.{calendar_row, day_and_span_rows, short_day_row, short_day_rows}
use Rattle.docket_history.specs.CalendarItems.{is_short_day}
use Rattle.docket_history.specs.declared.item.CalendarItem.{CalendarItem}
use Rattle.docket_history.specs.declared.item.CalendarItem.TheVariants as item
use Rattle.docket_history.specs.declared.row.CalendarRow.{CalendarRow}
use Rattle.docket_history.specs.declared.row.ShortDayRow.{ShortDayRow}
use Rattle.docket_columns.specs.Cells.{calendar_cells, short_day_cells}
use Rattle.docket_orderly.specs.Orderly.{Rises}
use Rattle.docket_tables.specs.Queries.{IsAnswer}
use Rattle.docket_tables.specs.declared.query.Query.TheVariants as ask
use Rattle.docket_tables.proofs.AnswerLemmas.{all_in_order, equal_number, so_many}
use Rattle.docket_tables.proofs.CaseActs.{passing_both}
use Rattle.docket_tables.proofs.HoldsLemmas.{and_yes}
use Rattle.docket_tables.proofs.ReadLemmas.{any_kept}

abbrev pub row_with : ℕ → List ℕ → CalendarItem → CalendarRow
row_with number name item = record { number = number; item = item; name = name }

abbrev pub numbers : List CalendarRow → List ℕ
numbers rows = map (λ row. row.number) rows

abbrev pub short_numbers : List ShortDayRow → List ℕ
short_numbers rows = map (λ row. row.number) rows

-- one more row

pub days_with : (rows : List CalendarRow) (row : CalendarRow) → day_and_span_rows (rows ++ row ∷ []) ≡ day_and_span_rows rows ++ day_and_span_rows (row ∷ [])
days_with rows row = filter-append (λ (r : CalendarRow). not (is_short_day r.item)) rows (row ∷ [])

pub short_days_with : (rows : List CalendarRow) (row : CalendarRow) → short_day_rows (rows ++ row ∷ []) ≡ short_day_rows rows ++ short_day_rows (row ∷ [])
short_days_with rows row = filter_map-append (λ (r : CalendarRow). short_day_row r.number r.name r.item) rows (row ∷ [])

-- without the row of a number

swapped : (p q : Bool) → (p && q) ≡ (q && p)
swapped true true = refl
swapped true false = refl
swapped false true = refl
swapped false false = refl

pub days_without : (n : ℕ) (rows : List CalendarRow) → filter (λ row. not (row.number == n)) (day_and_span_rows rows) ≡ day_and_span_rows (filter (λ row. not (row.number == n)) rows)
days_without n rows =
    passing_both (λ (row : CalendarRow). not (is_short_day row.item)) (λ row. not (row.number == n)) rows
    ∙ filter_same _ _ rows (all_of _ (λ row. swapped (not (is_short_day row.item)) (not (row.number == n))) rows)
    ∙ sym (passing_both (λ (row : CalendarRow). not (row.number == n)) (λ row. not (is_short_day row.item)) rows)

abbrev left : ℕ → List CalendarRow → List CalendarRow
left n rows = filter (λ row. not (row.number == n)) rows

abbrev short_left : ℕ → List ShortDayRow → List ShortDayRow
short_left n rows = filter (λ row. not (row.number == n)) rows

passed : (other : CalendarRow) (rows : List CalendarRow) (short : List ShortDayRow) → short_day_row other.number other.name other.item ≡ None → (b : Bool) → short ≡ short_day_rows rows → short ≡ short_day_rows (cond b (other ∷ rows) rows)
passed other rows short none true same = same ∙ sym (ap (λ o. cons_option o (short_day_rows rows)) none)
passed other rows short none false same = same

met : (day : ShortDayRow) (rows : List CalendarRow) (short : List ShortDayRow) (b : Bool) → short ≡ short_day_rows rows → cond b (day ∷ short) short ≡ short_day_rows (cond b (calendar_row day ∷ rows) rows)
met day rows short true same = ap (λ xs. day ∷ xs) same
met day rows short false same = same

pub short_days_without : (n : ℕ) (rows : List CalendarRow) → short_left n (short_day_rows rows) ≡ short_day_rows (left n rows)
short_days_without n [] = refl
short_days_without n (row ∷ rows) = one row.number row.name row.item (short_days_without n rows)
  where
    one : (m : ℕ) (name : List ℕ) (entered : CalendarItem) → short_left n (short_day_rows rows) ≡ short_day_rows (left n rows)
        → short_left n (short_day_rows (row_with m name entered ∷ rows)) ≡ short_day_rows (left n (row_with m name entered ∷ rows))
    one m name (item.Day kind day) same = passed (row_with m name (item.Day kind day)) (left n rows) (short_left n (short_day_rows rows)) refl (not (m == n)) same
    one m name (item.Span start end) same = passed (row_with m name (item.Span start end)) (left n rows) (short_left n (short_day_rows rows)) refl (not (m == n)) same
    one m name (item.Short day close) same = met (record { number = m; day = day; close = close; name = name }) (left n rows) (short_left n (short_day_rows rows)) (not (m == n)) same

-- the numbers rise in each of the two

days_all : (P : ℕ → Type 0) (rows : List CalendarRow) → AllByRecursion P (numbers rows) → AllByRecursion P (numbers (day_and_span_rows rows))
days_all P [] all = tt
days_all P (row ∷ rows) all = at (not (is_short_day row.item)) (days_all P rows all.1)
  where
    at : (b : Bool) → AllByRecursion P (numbers (day_and_span_rows rows)) → AllByRecursion P (numbers (cond b (row ∷ day_and_span_rows rows) (day_and_span_rows rows)))
    at true more = (all.0, more)
    at false more = more

pub days_rise : (rows : List CalendarRow) → Rises (numbers rows) → Rises (numbers (day_and_span_rows rows))
days_rise [] rises = tt
days_rise (row ∷ rows) rises = at (not (is_short_day row.item)) (days_rise rows rises.1)
  where
    at : (b : Bool) → Rises (numbers (day_and_span_rows rows)) → Rises (numbers (cond b (row ∷ day_and_span_rows rows) (day_and_span_rows rows)))
    at true more = (days_all (λ m. row.number < m) rows rises.0, more)
    at false more = more

short_days_all : (P : ℕ → Type 0) (rows : List CalendarRow) → AllByRecursion P (numbers rows) → AllByRecursion P (short_numbers (short_day_rows rows))
short_days_all P [] all = tt
short_days_all P (row ∷ rows) all = one row.number row.name row.item all.0 (short_days_all P rows all.1)
  where
    one : (n : ℕ) (name : List ℕ) (entered : CalendarItem) → P n → AllByRecursion P (short_numbers (short_day_rows rows)) → AllByRecursion P (short_numbers (short_day_rows (row_with n name entered ∷ rows)))
    one n name (item.Day kind day) first more = more
    one n name (item.Span start end) first more = more
    one n name (item.Short day close) first more = (first, more)

pub short_days_rise : (rows : List CalendarRow) → Rises (numbers rows) → Rises (short_numbers (short_day_rows rows))
short_days_rise [] rises = tt
short_days_rise (row ∷ rows) rises = one row.number row.name row.item (short_days_all (λ m. row.number < m) rows rises.0) (short_days_rise rows rises.1)
  where
    one : (n : ℕ) (name : List ℕ) (entered : CalendarItem) → AllByRecursion (λ m. n < m) (short_numbers (short_day_rows rows)) → Rises (short_numbers (short_day_rows rows))
        → Rises (short_numbers (short_day_rows (row_with n name entered ∷ rows)))
    one n name (item.Day kind day) above more = more
    one n name (item.Span start end) above more = more
    one n name (item.Short day close) above more = (above, more)

-- the rows of the two are all rows, in another order

both_same : (rows : List CalendarRow) → IsPermutation (day_and_span_rows rows ++ map calendar_row (short_day_rows rows)) rows
both_same [] = IsPermutation-refl []
both_same (row ∷ rows) = one row.number row.name row.item (both_same rows)
  where
    one : (n : ℕ) (name : List ℕ) (entered : CalendarItem) → IsPermutation (day_and_span_rows rows ++ map calendar_row (short_day_rows rows)) rows
        → IsPermutation (day_and_span_rows (row_with n name entered ∷ rows) ++ map calendar_row (short_day_rows (row_with n name entered ∷ rows))) (row_with n name entered ∷ rows)
    one n name (item.Day kind day) same = IsPermutation-cons (row_with n name (item.Day kind day)) _ _ same
    one n name (item.Span start end) same = IsPermutation-cons (row_with n name (item.Span start end)) _ _ same
    one n name (item.Short day close) same =
        IsPermutation-trans _ _ _ (IsPermutation-middle (day_and_span_rows rows) (row_with n name (item.Short day close)) (map calendar_row (short_day_rows rows))) (IsPermutation-cons (row_with n name (item.Short day close)) _ _ same)

abbrev by_number : CalendarRow → CalendarRow → Ordering
by_number = on (λ (row : CalendarRow). row.number) nat_cmp

lower : (m n : ℕ) → m < n → nat_cmp m n ≡ Less
lower m n low = grind (arith, nat_tests, low)

ascends : (rows : List CalendarRow) → Rises (numbers rows) → IsAscending (λ a b. by_number a b ≡ Less) rows
ascends [] rises = tt
ascends (row ∷ rows) rises = (each rows rises.0, ascends rows rises.1)
  where
    each : (others : List CalendarRow) → AllByRecursion (λ m. row.number < m) (numbers others) → AllByRecursion (λ other. by_number row other ≡ Less) others
    each [] above = tt
    each (other ∷ others) above = (lower row.number other.number above.0, each others above.1)

-- sorted by their numbers, they are the rows
pub together : (rows found : List CalendarRow) → Rises (numbers rows) → IsPermutation (day_and_span_rows rows ++ map calendar_row (short_day_rows rows)) found
    → IsSortedByKey (λ row. row.number) nat_cmp found → found ≡ rows
together rows found rises same sorted =
    sorted_unique by_number (on_total (λ (row : CalendarRow). row.number) nat_cmp_total) rows found (ascends rows rises) (IsPermutation-trans _ _ _ (IsPermutation-sym _ _ (both_same rows)) same) sorted

-- a row of a number stands in one of the two

either : (p a b : Bool) → (p || (a || b)) ≡ ((p || a) || b)
either true a b = refl
either false a b = refl

or_later : (p a b : Bool) → (p || (a || b)) ≡ (a || (p || b))
or_later true true b = refl
or_later true false b = refl
or_later false a b = refl

abbrev stands : ℕ → List CalendarRow → Bool
stands n rows = list_any (λ row. row.number == n) rows

abbrev stands_short : ℕ → List ShortDayRow → Bool
stands_short n rows = list_any (λ row. row.number == n) rows

pub stands_in_either : (n : ℕ) (rows : List CalendarRow) → stands n rows ≡ (stands n (day_and_span_rows rows) || stands_short n (short_day_rows rows))
stands_in_either n [] = refl
stands_in_either n (row ∷ rows) = one row.number row.name row.item (stands_in_either n rows)
  where
    one : (m : ℕ) (name : List ℕ) (entered : CalendarItem) → stands n rows ≡ (stands n (day_and_span_rows rows) || stands_short n (short_day_rows rows))
        → stands n (row_with m name entered ∷ rows) ≡ (stands n (day_and_span_rows (row_with m name entered ∷ rows)) || stands_short n (short_day_rows (row_with m name entered ∷ rows)))
    one m name (item.Day kind day) same = ap (λ b. (m == n) || b) same ∙ either (m == n) (stands n (day_and_span_rows rows)) (stands_short n (short_day_rows rows))
    one m name (item.Span start end) same = ap (λ b. (m == n) || b) same ∙ either (m == n) (stands n (day_and_span_rows rows)) (stands_short n (short_day_rows rows))
    one m name (item.Short day close) same = ap (λ b. (m == n) || b) same ∙ or_later (m == n) (stands n (day_and_span_rows rows)) (stands_short n (short_day_rows rows))

-- what a question to each of the two shows

pub days_shown : (rows : List CalendarRow) (found : List Row) → Rises (numbers rows) → IsAnswer ask.Calendar [] (map calendar_cells (day_and_span_rows rows)) found → found ≡ map calendar_cells (day_and_span_rows rows)
days_shown rows found rises answer = all_in_order ask.Calendar calendar_cells (λ row. row.number) (day_and_span_rows rows) found (λ row. refl) (λ row. refl) refl refl (days_rise rows rises) answer

pub short_days_shown : (rows : List CalendarRow) (found : List Row) → Rises (numbers rows) → IsAnswer ask.ShortDays [] (map short_day_cells (short_day_rows rows)) found → found ≡ map short_day_cells (short_day_rows rows)
short_days_shown rows found rises answer = all_in_order ask.ShortDays short_day_cells (λ row. row.number) (short_day_rows rows) found (λ row. refl) (λ row. refl) refl refl (short_days_rise rows rises) answer

pub day_numbered : (n : ℕ) (rows : List CalendarRow) (found : List Row) → IsAnswer ask.CalendarRow (Int (pos n) ∷ []) (map calendar_cells (day_and_span_rows rows)) found
    → nat_lt 0 (length found) ≡ list_any (λ row. row.number == n) (day_and_span_rows rows)
day_numbered n rows found answer =
    ap (nat_lt 0) (so_many ask.CalendarRow (Int (pos n) ∷ []) calendar_cells (λ row. row.number == n) (λ row. and_yes _ ∙ equal_number row.number n) (day_and_span_rows rows) found refl answer)
    ∙ any_kept (λ (row : CalendarRow). row.number == n) (day_and_span_rows rows)

pub short_day_numbered : (n : ℕ) (rows : List CalendarRow) (found : List Row) → IsAnswer ask.ShortDayRow (Int (pos n) ∷ []) (map short_day_cells (short_day_rows rows)) found
    → nat_lt 0 (length found) ≡ list_any (λ row. row.number == n) (short_day_rows rows)
short_day_numbered n rows found answer =
    ap (nat_lt 0) (so_many ask.ShortDayRow (Int (pos n) ∷ []) short_day_cells (λ row. row.number == n) (λ row. and_yes _ ∙ equal_number row.number n) (short_day_rows rows) found refl answer)
    ∙ any_kept (λ (row : ShortDayRow). row.number == n) (short_day_rows rows)
