-- What changes make of any rows that stand in a docket's tables.
use Rattle.std.proofs.Common.{◌≡◌, ◌∙◌, ◌+◌, ◌<◌, ◌≤◌, ℕ, pos, List, [], ◌∷◌, ◌++◌, map, filter, not, Bool, true, false, cond, length, take, get_or, Result, Ok, Err, IfOk, refl, sym, ap, arith}
use Rattle.std.specs.List.{AllByRecursion}
use Rattle.std.proofs.lemmas.List.{map-append, take_more, length-take}
use Rattle.sqlite.specs.Order.{Row}
use Rattle.sqlite.specs.declared.types.Value.TheVariants.{Int}
use Rattle.court_days.specs.Court.{CourtSettings}
use Rattle.docket_command.specs.declared.command.Command.{Command}
use Rattle.docket_command.specs.declared.refusal.Reply.{Reply}
use Rattle.docket_decisions.specs.Tables.{Tables, changed, all_changed, with_receipt}
use Rattle.docket_decisions.specs.declared.end_row.StoredEnd.{StoredEnd}
use Rattle.docket_history.specs.declared.item.CalendarItem.{CalendarItem}
use Rattle.docket_history.specs.declared.item.CalendarItem.TheVariants as item
use Rattle.docket_history.specs.declared.row.Change.{Change}
use Rattle.docket_history.specs.declared.row.Change.TheVariants.{AddCalendar, RemoveCalendar, AddCase, AddParty, AddEntry, AddDeadline, AddAct, AddLocalRule}
use Rattle.docket_history.specs.declared.row.Receipt.{Receipt}
use Rattle.docket_columns.specs.Cells.{court_cells, end_cells, receipt_cells}
use Rattle.docket_tables.specs.AnyRows.{AreDocketRows, all_rows_changed, next_after, next_after_all, recorded, row_changed, with_calendar_row, with_stored}
use Rattle.docket_tables.specs.Contents.{rows_with}
use Rattle.docket_tables.specs.Holds.{IsKeyed, has_key}
use Rattle.docket_tables.specs.Layouts.{Rows, with_row, with_rows}
use Rattle.docket_tables.specs.declared.table.Table.{Table}
use Rattle.docket_tables.specs.declared.table.Table.TheVariants.{Court, Calendar, Receipts, Due, ShortDays}
use Rattle.docket_tables.proofs.ContentsLemmas.{act_added, calendar_added, calendar_removed, case_added, deadline_added, entry_added, local_rule_added, party_added, receipt_added}

-- rows with numbers

keyed_more : (row : Row) (rows : List Row) → IsKeyed row → AllByRecursion IsKeyed rows → AllByRecursion IsKeyed (rows ++ row ∷ [])
keyed_more row [] one all = (one, tt)
keyed_more row (r ∷ rows) one all = (all.0, keyed_more row rows one all.1)

keyed_less : (keep : Row → Bool) (rows : List Row) → AllByRecursion IsKeyed rows → AllByRecursion IsKeyed (filter keep rows)
keyed_less keep [] all = tt
keyed_less keep (r ∷ rows) all = go (keep r) (keyed_less keep rows all.1)
  where
    go : (b : Bool) → AllByRecursion IsKeyed (filter keep rows) → AllByRecursion IsKeyed (cond b (r ∷ filter keep rows) (filter keep rows))
    go true more = (all.0, more)
    go false more = more

-- one more row of the calendar is in its own table alone

pub court_apart : (number : ℕ) (name : List ℕ) (entered : CalendarItem) (rows : Rows) → with_calendar_row number name entered rows Court ≡ rows Court
court_apart number name (item.Day kind day) rows = refl
court_apart number name (item.Span start end) rows = refl
court_apart number name (item.Short day close) rows = refl

receipts_apart : (number : ℕ) (name : List ℕ) (entered : CalendarItem) (rows : Rows) → with_calendar_row number name entered rows Receipts ≡ rows Receipts
receipts_apart number name (item.Day kind day) rows = refl
receipts_apart number name (item.Span start end) rows = refl
receipts_apart number name (item.Short day close) rows = refl

-- a docket's rows are such rows after each change

calendar_kept : (settings : CourtSettings) (n : ℕ) (stored : List StoredEnd) (number : ℕ) (name : List ℕ) (entered : CalendarItem) (rows : Rows) → AreDocketRows settings n stored rows
    → AreDocketRows settings (n + 1) stored (with_rows Court (court_cells settings (n + 1) ∷ []) (with_calendar_row number name entered rows))
calendar_kept settings n stored number name (item.Day kind day) rows are =
    record { court = refl; keyed = keyed_more _ (rows Calendar) (pos number, refl) are.keyed; keyed_short = are.keyed_short; ends = are.ends }
calendar_kept settings n stored number name (item.Span start end) rows are =
    record { court = refl; keyed = keyed_more _ (rows Calendar) (pos number, refl) are.keyed; keyed_short = are.keyed_short; ends = are.ends }
calendar_kept settings n stored number name (item.Short day close) rows are =
    record { court = refl; keyed = are.keyed; keyed_short = keyed_more _ (rows ShortDays) (pos number, refl) are.keyed_short; ends = are.ends }

one_kept : (settings : CourtSettings) (n : ℕ) (stored : List StoredEnd) (x : Change) (rows : Rows) → AreDocketRows settings n stored rows → AreDocketRows settings (next_after x n) stored (row_changed settings n x rows)
one_kept settings n stored (AddCalendar row) rows are = calendar_kept settings n stored row.number row.name row.item rows are
one_kept settings n stored (RemoveCalendar number) rows are =
    let keeps : Row → Bool = λ r. not (has_key (0 ∷ []) (Int (pos number) ∷ []) r) in
    record { court = are.court; keyed = keyed_less keeps (rows Calendar) are.keyed; keyed_short = keyed_less keeps (rows ShortDays) are.keyed_short; ends = are.ends }
one_kept settings n stored (AddCase row) rows are = record { court = are.court; keyed = are.keyed; keyed_short = are.keyed_short; ends = are.ends }
one_kept settings n stored (AddParty row) rows are = record { court = are.court; keyed = are.keyed; keyed_short = are.keyed_short; ends = are.ends }
one_kept settings n stored (AddEntry row) rows are = record { court = are.court; keyed = are.keyed; keyed_short = are.keyed_short; ends = are.ends }
one_kept settings n stored (AddDeadline row) rows are = record { court = are.court; keyed = are.keyed; keyed_short = are.keyed_short; ends = are.ends }
one_kept settings n stored (AddAct row) rows are = record { court = are.court; keyed = are.keyed; keyed_short = are.keyed_short; ends = are.ends }
one_kept settings n stored (AddLocalRule row) rows are = record { court = are.court; keyed = are.keyed; keyed_short = are.keyed_short; ends = are.ends }

pub all_kept : (settings : CourtSettings) (n : ℕ) (stored : List StoredEnd) (xs : List Change) (rows : Rows) → AreDocketRows settings n stored rows → AreDocketRows settings (next_after_all xs n) stored (all_rows_changed settings n xs rows)
all_kept settings n stored [] rows are = are
all_kept settings n stored (x ∷ xs) rows are = all_kept settings (next_after x n) stored xs (row_changed settings n x rows) (one_kept settings n stored x rows are)

pub recorded_kept : (settings : CourtSettings) (n : ℕ) (stored next : List StoredEnd) (command : Command) (reply : Reply) (xs : List Change) (rows : Rows) → AreDocketRows settings n stored rows
    → AreDocketRows settings (next_after_all xs n) next (with_stored next (recorded settings n command reply xs rows))
recorded_kept settings n stored next command reply xs rows are =
    let changed = all_kept settings n stored xs rows are in
    record { court = changed.court; keyed = changed.keyed; keyed_short = changed.keyed_short; ends = refl }

-- the receipts stay as they are

one_without_receipt : (settings : CourtSettings) (n : ℕ) (x : Change) (rows : Rows) → row_changed settings n x rows Receipts ≡ rows Receipts
one_without_receipt settings n (AddCalendar row) rows = receipts_apart row.number row.name row.item rows
one_without_receipt settings n (RemoveCalendar number) rows = refl
one_without_receipt settings n (AddCase row) rows = refl
one_without_receipt settings n (AddParty row) rows = refl
one_without_receipt settings n (AddEntry row) rows = refl
one_without_receipt settings n (AddDeadline row) rows = refl
one_without_receipt settings n (AddAct row) rows = refl
one_without_receipt settings n (AddLocalRule row) rows = refl

without_receipt : (settings : CourtSettings) (n : ℕ) (xs : List Change) (rows : Rows) → all_rows_changed settings n xs rows Receipts ≡ rows Receipts
without_receipt settings n [] rows = refl
without_receipt settings n (x ∷ xs) rows = without_receipt settings (next_after x n) xs (row_changed settings n x rows) ∙ one_without_receipt settings n x rows

pub receipt_behind : (settings : CourtSettings) (n : ℕ) (next : List StoredEnd) (command : Command) (reply : Reply) (xs : List Change) (rows : Rows)
    → with_stored next (recorded settings n command reply xs rows) Receipts ≡ rows Receipts ++ receipt_cells (record { command = command; reply = reply }) ∷ []
receipt_behind settings n next command reply xs rows =
    let receipt : Receipt = record { command = command; reply = reply } in
    ap (λ rs. rs ++ receipt_cells receipt ∷ []) (without_receipt settings n xs rows)

pub recorded_stored : (settings : CourtSettings) (n : ℕ) (stored : List StoredEnd) (command : Command) (reply : Reply) (xs : List Change) (rows : Rows) → AreDocketRows settings n stored rows
    → (table : Table) → recorded settings n command reply xs rows table ≡ with_stored stored (recorded settings n command reply xs rows) table
recorded_stored settings n stored command reply xs rows are Due = (all_kept settings n stored xs rows are).ends
recorded_stored settings n stored command reply xs rows are other = refl

-- changes, one after another

changed_append : (settings : CourtSettings) (n : ℕ) (xs : List Change) (x : Change) (rows : Rows)
    → row_changed settings (next_after_all xs n) x (all_rows_changed settings n xs rows) ≡ all_rows_changed settings n (xs ++ x ∷ []) rows
changed_append settings n [] x rows = refl
changed_append settings n (y ∷ ys) x rows = changed_append settings (next_after y n) ys x (row_changed settings n y rows)

pub any_changed_next : (settings : CourtSettings) (n : ℕ) (xs : List Change) (x : Change) (rows : Rows) (i : ℕ) → i < length xs → x ≡ get_or xs i x
    → row_changed settings (next_after_all (take i xs) n) x (all_rows_changed settings n (take i xs) rows) ≡ all_rows_changed settings n (take (i + 1) xs) rows
any_changed_next settings n xs x rows i inside is =
    changed_append settings n (take i xs) x rows ∙ ap (λ y. all_rows_changed settings n (take i xs ++ y ∷ []) rows) is ∙ ap (λ ys. all_rows_changed settings n ys rows) (sym (take_more xs i x inside))

one_next : (x : Change) (n : ℕ) → next_after x n ≤ n + 1
one_next (AddCalendar row) n = omega arith
one_next (RemoveCalendar number) n = omega arith
one_next (AddCase row) n = omega arith
one_next (AddParty row) n = omega arith
one_next (AddEntry row) n = omega arith
one_next (AddDeadline row) n = omega arith
one_next (AddAct row) n = omega arith
one_next (AddLocalRule row) n = omega arith

all_next : (xs : List Change) (n : ℕ) → next_after_all xs n ≤ n + length xs
all_next [] n = omega arith
all_next (x ∷ xs) n = omega (arith, all_next xs (next_after x n), one_next x n)

-- before each of them, the numbers of calendar rows are at most so many more
pub next_within : (xs : List Change) (n i : ℕ) → i < length xs → next_after_all (take i xs) n + 1 ≤ n + length xs
next_within xs n i inside = omega (arith, all_next (take i xs) n, length-take i xs, inside)

-- of the tables of a history they make the tables that the history has next

one_as_changed : (settings : CourtSettings) (t : Tables) (stored : List StoredEnd) (x : Change) → row_changed settings t.next_row x (rows_with settings t stored) ≡ rows_with settings (changed x t) stored
one_as_changed settings t stored (AddCalendar row) = λ i table. calendar_added settings t stored row table i
one_as_changed settings t stored (RemoveCalendar number) = λ i table. calendar_removed settings t stored number table i
one_as_changed settings t stored (AddCase row) = λ i table. case_added settings t stored row table i
one_as_changed settings t stored (AddParty row) = λ i table. party_added settings t stored row table i
one_as_changed settings t stored (AddEntry row) = λ i table. entry_added settings t stored row table i
one_as_changed settings t stored (AddDeadline row) = λ i table. deadline_added settings t stored row table i
one_as_changed settings t stored (AddAct row) = λ i table. act_added settings t stored row table i
one_as_changed settings t stored (AddLocalRule row) = λ i table. local_rule_added settings t stored row table i

next_as_changed : (x : Change) (t : Tables) → next_after x t.next_row ≡ (changed x t).next_row
next_as_changed (AddCalendar row) t = refl
next_as_changed (RemoveCalendar number) t = refl
next_as_changed (AddCase row) t = refl
next_as_changed (AddParty row) t = refl
next_as_changed (AddEntry row) t = refl
next_as_changed (AddDeadline row) t = refl
next_as_changed (AddAct row) t = refl
next_as_changed (AddLocalRule row) t = refl

all_as_changed : (settings : CourtSettings) (t : Tables) (stored : List StoredEnd) (xs : List Change) → all_rows_changed settings t.next_row xs (rows_with settings t stored) ≡ rows_with settings (all_changed xs t) stored
all_as_changed settings t stored [] = refl
all_as_changed settings t stored (x ∷ xs) =
    ap (λ n. all_rows_changed settings n xs (row_changed settings t.next_row x (rows_with settings t stored))) (next_as_changed x t)
    ∙ ap (all_rows_changed settings (changed x t).next_row xs) (one_as_changed settings t stored x) ∙ all_as_changed settings (changed x t) stored xs

pub as_recorded : (settings : CourtSettings) (t : Tables) (stored : List StoredEnd) (command : Command) (reply : Reply) (xs : List Change) (table : Table)
    → recorded settings t.next_row command reply xs (rows_with settings t stored) table ≡ rows_with settings (with_receipt command reply (all_changed xs t)) stored table
as_recorded settings t stored command reply xs table =
    let receipt : Receipt = record { command = command; reply = reply } in
    ap (λ rows. with_row Receipts (receipt_cells receipt) rows table) (all_as_changed settings t stored xs) ∙ receipt_added settings (all_changed xs t) stored receipt table

-- the stored ends

pub stored_added : (row : StoredEnd) (stored : List StoredEnd) (rows : Rows) → (table : Table) → with_row Due (end_cells row) (with_stored stored rows) table ≡ with_stored (stored ++ row ∷ []) rows table
stored_added row stored rows Due = sym (map-append end_cells stored (row ∷ []))
stored_added row stored rows other = refl

pub stored_anew : (stored next : List StoredEnd) (cells : List Row) (rows : Rows) → map end_cells next ≡ cells → (table : Table) → with_rows Due cells (with_stored stored rows) table ≡ with_stored next rows table
stored_anew stored next cells rows is Due = sym is
stored_anew stored next cells rows is other = refl

-- what was read inside a transaction, of any rows
pub still_read : {X E : Type 0} (result : Result X E) (Q : Type 0) → Q → IfOk result (λ _. Q × Unit {0})
still_read (Ok x) Q q = (q, tt)
still_read (Err e) Q q = tt
