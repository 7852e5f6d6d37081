-- What each change makes of the rows of a docket.
use Rattle.std.proofs.Common.{◌≡◌, ◌∙◌, ◌==◌, ◌+◌, ℕ, pos, List, [], ◌∷◌, ◌++◌, append-nil, map, filter, not, refl, sym, ap, subst, Result, OnOk}
use Rattle.std.specs.List.{AllByRecursion}
use Rattle.std.proofs.lemmas.Result.{IfOk-weaker}
use Rattle.std.proofs.lemmas.List.{map-append}
use Rattle.sqlite_trees.proofs.ListLemmas.{filter-map, filter_same, all_of}
use Rattle.sqlite.specs.declared.types.Value.TheVariants.{Int}
use Rattle.sqlite.specs.Order.{Row, column}
use Rattle.sqlite.specs.State.{State}
use Rattle.court_days.specs.Court.{CourtSettings}
use Rattle.docket_decisions.specs.EndRows.{end_rows}
use Rattle.docket_history.specs.ShortDays.{day_and_span_rows, short_day_rows}
use Rattle.docket_decisions.specs.Tables.{Tables, rows_of, changed, with_receipt}
use Rattle.docket_history.specs.declared.item.CalendarItem.{CalendarItem}
use Rattle.docket_history.specs.declared.item.CalendarItem.TheVariants as item
use Rattle.docket_history.specs.declared.row.Change.TheVariants.{AddCalendar, RemoveCalendar, AddCase, AddParty, AddEntry, AddDeadline, AddAct, AddLocalRule}
use Rattle.docket_history.specs.declared.row.CalendarRow.{CalendarRow}
use Rattle.docket_history.specs.declared.row.CaseRow.{CaseRow}
use Rattle.docket_history.specs.declared.row.PartyRow.{PartyRow}
use Rattle.docket_history.specs.declared.row.EntryRow.{EntryRow}
use Rattle.docket_history.specs.declared.row.DeadlineRow.{DeadlineRow}
use Rattle.docket_history.specs.declared.row.ActRow.{ActRow}
use Rattle.docket_history.specs.declared.row.LocalRuleRow.{LocalRuleRow}
use Rattle.docket_history.specs.declared.row.Receipt.{Receipt}
use Rattle.docket_columns.specs.Cells.{court_cells, calendar_cells, short_day_cells, case_cells, party_cells, entry_cells, deadline_cells, act_cells, receipt_cells, end_cells, local_rule_cells}
use Rattle.docket_tables.specs.declared.table.Table.{Table}
use Rattle.docket_tables.specs.declared.table.Table.TheVariants.{Court, Calendar, Cases, Parties, Entries, Deadlines, Acts, Receipts, Due, ShortDays, LocalRules}
use Rattle.docket_decisions.specs.declared.end_row.StoredEnd.{StoredEnd}
use Rattle.docket_tables.specs.AnyRows.{with_calendar_row, without_calendar_row}
use Rattle.docket_tables.specs.Contents.{rows_with, rows_in}
use Rattle.docket_tables.specs.Creation.{no_rows}
use Rattle.docket_tables.specs.Holds.{Holds, IsKeyed, without_number}
use Rattle.docket_tables.specs.Layouts.{Rows, Fits, with_rows, with_row}
use Rattle.docket_tables.specs.Schema.{tree_of, places_of}
use Rattle.docket_tables.specs.Stands.{Sees}
use Rattle.docket_tables.proofs.AnswerLemmas.{same_number}
use Rattle.docket_tables.proofs.HoldsLemmas.{keyed_as}
use Rattle.docket_tables.proofs.TwoTables.{days_with, days_without, row_with, short_days_with, short_days_without}

-- the same rows in other words
pub sees_same : (s : State) (a b : Rows) → ((table : Table) → a table ≡ b table) → Sees s a → Sees s b
sees_same s a b same sees = record {
  begun = sees.begun;
  shows = record {
    is_open = sees.shows.is_open;
    schema = sees.shows.schema;
    live = sees.shows.live;
    holds = λ table. subst (λ rows. Holds (tree_of table) (places_of table) rows s.now.trees) (same table) (sees.shows.holds table);
  };
}

-- an INSERT of the row of a change
pub row_inserted : {E : Type 0} (result : Result (Unit {0}) E) (old new : State) (table : Table) (given cells : Row) (rows next : Rows) → given ≡ cells → Fits table cells
    → ((other : Table) → with_row table cells rows other ≡ next other) → (Fits table given → (r : Rows) → Sees old r → OnOk result (Sees new (with_row table given r)))
    → Sees old rows → OnOk result (Sees new next)
row_inserted result old new table given cells rows next is fits same inserts sees =
    IfOk-weaker result _ _ (λ _ h. sees_same new _ next same (subst (λ r. Sees new (with_row table r rows)) is h)) (inserts (subst (Fits table) (sym is) fits) rows sees)

-- rows that begin with their number
module _ {X : Type 0} (cells : X → Row) (number : X → ℕ) (first : (x : X) → column (cells x) 0 ≡ Int (pos (number x))) where
  pub keyed_rows : (xs : List X) → AllByRecursion IsKeyed (map cells xs)
  keyed_rows [] = tt
  keyed_rows (x ∷ xs) = ((pos (number x), first x), keyed_rows xs)

  pub kept_rows : (n : ℕ) (xs : List X) → without_number n (map cells xs) ≡ map cells (filter (λ x. not (number x == n)) xs)
  kept_rows n xs =
      filter-map _ cells xs
      ∙ ap (map cells) (filter_same _ _ xs (all_of _ (λ x. ap not (keyed_as (pos n) (pos (number x)) (cells x) (first x) ∙ same_number (number x) n)) xs))

module _ (court : CourtSettings) (t : Tables) (ends : List StoredEnd) where
  pub case_added : (row : CaseRow) → (table : Table) → with_row Cases (case_cells row) (rows_with court t ends) table ≡ rows_with court (changed (AddCase row) t) ends table
  case_added row Cases = sym (map-append case_cells t.cases (row ∷ []))
  case_added row other = refl

  pub party_added : (row : PartyRow) → (table : Table) → with_row Parties (party_cells row) (rows_with court t ends) table ≡ rows_with court (changed (AddParty row) t) ends table
  party_added row Parties = sym (map-append party_cells t.parties (row ∷ []))
  party_added row other = refl

  pub entry_added : (row : EntryRow) → (table : Table) → with_row Entries (entry_cells row) (rows_with court t ends) table ≡ rows_with court (changed (AddEntry row) t) ends table
  entry_added row Entries = sym (map-append entry_cells t.entries (row ∷ []))
  entry_added row other = refl

  pub deadline_added : (row : DeadlineRow) → (table : Table) → with_row Deadlines (deadline_cells row) (rows_with court t ends) table ≡ rows_with court (changed (AddDeadline row) t) ends table
  deadline_added row Deadlines = sym (map-append deadline_cells t.deadlines (row ∷ []))
  deadline_added row other = refl

  pub act_added : (row : ActRow) → (table : Table) → with_row Acts (act_cells row) (rows_with court t ends) table ≡ rows_with court (changed (AddAct row) t) ends table
  act_added row Acts = sym (map-append act_cells t.acts (row ∷ []))
  act_added row other = refl

  pub local_rule_added : (row : LocalRuleRow) → (table : Table) → with_row LocalRules (local_rule_cells row) (rows_with court t ends) table ≡ rows_with court (changed (AddLocalRule row) t) ends table
  local_rule_added row LocalRules = sym (map-append local_rule_cells t.local_rules (row ∷ []))
  local_rule_added row other = refl

  pub receipt_added : (row : Receipt) → (table : Table) → with_row Receipts (receipt_cells row) (rows_with court t ends) table ≡ rows_with court (with_receipt row.command row.reply t) ends table
  receipt_added row Receipts = sym (map-append receipt_cells t.receipts (row ∷ []))
  receipt_added row other = refl

  days_more : (row : CalendarRow) → map calendar_cells (day_and_span_rows (t.calendar ++ row ∷ [])) ≡ map calendar_cells (day_and_span_rows t.calendar) ++ map calendar_cells (day_and_span_rows (row ∷ []))
  days_more row = ap (map calendar_cells) (days_with t.calendar row) ∙ map-append calendar_cells (day_and_span_rows t.calendar) (day_and_span_rows (row ∷ []))

  short_days_more : (row : CalendarRow) → map short_day_cells (short_day_rows (t.calendar ++ row ∷ [])) ≡ map short_day_cells (short_day_rows t.calendar) ++ map short_day_cells (short_day_rows (row ∷ []))
  short_days_more row = ap (map short_day_cells) (short_days_with t.calendar row) ∙ map-append short_day_cells (short_day_rows t.calendar) (short_day_rows (row ∷ []))

  item_added : (number : ℕ) (name : List ℕ) (entered : CalendarItem) → (table : Table)
      → with_rows Court (court_cells court (t.next_row + 1) ∷ []) (with_calendar_row number name entered (rows_with court t ends)) table ≡ rows_with court (changed (AddCalendar (row_with number name entered)) t) ends table
  item_added number name (item.Day kind day) Calendar = sym (days_more (row_with number name (item.Day kind day)))
  item_added number name (item.Day kind day) ShortDays = sym (short_days_more (row_with number name (item.Day kind day)) ∙ append-nil _)
  item_added number name (item.Day kind day) other = refl
  item_added number name (item.Span start end) Calendar = sym (days_more (row_with number name (item.Span start end)))
  item_added number name (item.Span start end) ShortDays = sym (short_days_more (row_with number name (item.Span start end)) ∙ append-nil _)
  item_added number name (item.Span start end) other = refl
  item_added number name (item.Short day close) Calendar = sym (days_more (row_with number name (item.Short day close)) ∙ append-nil _)
  item_added number name (item.Short day close) ShortDays = sym (short_days_more (row_with number name (item.Short day close)))
  item_added number name (item.Short day close) other = refl

  pub calendar_added : (row : CalendarRow) → (table : Table)
      → with_rows Court (court_cells court (t.next_row + 1) ∷ []) (with_calendar_row row.number row.name row.item (rows_with court t ends)) table ≡ rows_with court (changed (AddCalendar row) t) ends table
  calendar_added row table = item_added row.number row.name row.item table

  pub calendar_removed : (n : ℕ) → (table : Table) → without_calendar_row n (rows_with court t ends) table ≡ rows_with court (changed (RemoveCalendar n) t) ends table
  calendar_removed n Calendar = kept_rows calendar_cells (λ row. row.number) (λ row. refl) n (day_and_span_rows t.calendar) ∙ ap (map calendar_cells) (days_without n t.calendar)
  calendar_removed n ShortDays = kept_rows short_day_cells (λ row. row.number) (λ row. refl) n (short_day_rows t.calendar) ∙ ap (map short_day_cells) (short_days_without n t.calendar)
  calendar_removed n other = refl

  pub end_added : (row : StoredEnd) → (table : Table) → with_row Due (end_cells row) (rows_with court t ends) table ≡ rows_with court t (ends ++ row ∷ []) table
  end_added row Due = sym (map-append end_cells ends (row ∷ []))
  end_added row other = refl

  pub with_ends : (others : List StoredEnd) (rows : List Row) → map end_cells others ≡ rows → (table : Table) → with_rows Due rows (rows_with court t ends) table ≡ rows_with court t others table
  with_ends others rows is Due = sym is
  with_ends others rows is other = refl

-- the tables of a docket without any record
pub court_entered : (court : CourtSettings) (table : Table) → with_row Court (court_cells court 1) no_rows table ≡ rows_in court (rows_of court []) table
unfolding end_rows
court_entered court Court = refl
court_entered court other = refl
