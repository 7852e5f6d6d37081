-- When a row may be added to a table.
use Rattle.std.specs.Prelude.{◌≡◌, ◌≤◌, ◌^◌, ℕ, Bool, true, false, List, [], ◌∷◌, length, take}
use Rattle.std.specs.List.{AllByRecursion, list_all, list_any}
use Rattle.sqlite.specs.declared.types.Value.{Value}
use Rattle.sqlite.specs.declared.types.Value.TheVariants.{Int, Text}
use Rattle.sqlite.specs.Collation.TheVariants.{Binary}
use Rattle.sqlite.specs.Order.{Row, column}
use Rattle.sqlite_schema.specs.Rules.{equal}
use Rattle.sqlite_sql.specs.Ops.{fits_i64}
use Rattle.docket_history.specs.declared.item.CalendarItem.{CalendarItem}
use Rattle.docket_history.specs.declared.item.CalendarItem.TheVariants.{Short}
use Rattle.docket_history.specs.declared.row.Change.{Change}
use Rattle.docket_history.specs.declared.row.Change.TheVariants.{AddCalendar, RemoveCalendar, AddCase, AddParty, AddEntry, AddDeadline, AddAct, AddLocalRule}
use Rattle.docket_columns.specs.Cells.{calendar_cells, short_day_cells, case_cells, party_cells, entry_cells, deadline_cells, act_cells, local_rule_cells}
use Rattle.docket_tables.specs.Layouts.{Rows}
use Rattle.docket_tables.specs.Tables.{layout_of}
use Rattle.docket_tables.specs.Texts.{counted}
use Rattle.docket_tables.specs.declared.table.Table.{Table}

-- the columns of the key
abbrev pub key_columns : Table → List ℕ
key_columns table = let l = layout_of table in take l.key (counted 0 l.fields)

-- the rows have the same values in these columns
abbrev pub are_alike : List ℕ → Row → Row → Bool
are_alike columns a b = list_all (λ c. equal Binary (column a c) (column b c)) columns

-- none of the rows has the key of the row, nor what stands once beside the key
abbrev pub StandsAlone : Table → Row → List Row → Type 0
StandsAlone table row rows = AllByRecursion (λ columns. AllByRecursion (λ other. are_alike columns other row ≡ false) rows) (key_columns table ∷ (layout_of table).uniques)

-- in each parent of the table stands a row that has in the columns of its key what the row has there
abbrev pub HasParents : Table → Row → Rows → Type 0
HasParents table row rows = AllByRecursion (λ parent. list_any (λ other. are_alike (key_columns parent) other row) (rows parent) ≡ true) (layout_of table).parents

-- a number of 64 bits, or a text of ten million bytes at most: no column takes another value
abbrev pub IsStorableValue : Value → Type 0
IsStorableValue (Int n) = fits_i64 n ≡ true
IsStorableValue (Text t) = length t ≤ 10 ^ 7
IsStorableValue _ = ⊥

-- the values can be stored
abbrev pub AreStorable : Row → Type 0
AreStorable values = AllByRecursion IsStorableValue values

-- The row may stand beside the rows of all tables.
pub record MayStand (table : Table) (row : Row) (rows : Rows) : Type 0 where
  pub storable : AreStorable row
  pub alone : StandsAlone table row (rows table)
  pub parents : HasParents table row rows

-- the values of a row of the calendar, in whichever of its two tables it stands
abbrev pub calendar_values : ℕ → List ℕ → CalendarItem → Row
calendar_values number name (Short day close) = short_day_cells (record { number = number; day = day; close = close; name = name })
calendar_values number name item = calendar_cells (record { number = number; item = item; name = name })

-- the values of the row that a change adds
abbrev pub values_added : Change → Row
values_added (AddCalendar row) = calendar_values row.number row.name row.item
values_added (RemoveCalendar number) = []
values_added (AddCase row) = case_cells row
values_added (AddParty row) = party_cells row
values_added (AddEntry row) = entry_cells row
values_added (AddDeadline row) = deadline_cells row
values_added (AddAct row) = act_cells row
values_added (AddLocalRule row) = local_rule_cells row
