-- What the first version can hold: no short day, no local rule, and receipts that the second may hold too.
use Rattle.std.proofs.Common.{◌≡◌, ◌∙◌, ℕ, ◌+◌, ◌==◌, Bool, true, false, not, if◌then◌else◌, Option, Some, None, List, [], ◌∷◌, ◌++◌, map, append-nil, refl, ap}
use Rattle.std.proofs.lemmas.Bool.{and_parts, not-true}
use Rattle.std.specs.List.{AllByRecursion, cons_option, list_all}
use Rattle.sqlite.specs.Order.{Row}
use Rattle.sqlite_trees.proofs.ListLemmas.{all-filter, all-append}
use Rattle.court_days.specs.Court.{CourtSettings}
use Rattle.docket_command.specs.declared.command.Action.{Action}
use Rattle.docket_command.specs.declared.command.Action.TheVariants as action
use Rattle.docket_command.specs.declared.new_day.NewDay.{NewDay}
use Rattle.docket_history.specs.Actions.{imported, row_withdrawn, rows_asked}
use Rattle.docket_history.specs.CalendarItems.{fresh, is_short_day, stands_among}
use Rattle.docket_history.specs.Histories.{History, items_of, local_rule_rows, new_local_rule, next_row, numbered, rows_added, standing_rows, without_row}
use Rattle.docket_history.specs.ShortDays.{short_day_row, short_day_rows}
use Rattle.docket_history.specs.declared.item.CalendarItem.{CalendarItem}
use Rattle.docket_history.specs.declared.item.CalendarItem.TheVariants.{Day, Span, Short}
use Rattle.docket_history.specs.declared.item.NewRow.{NewRow}
use Rattle.docket_history.specs.declared.row.CalendarRow.{CalendarRow}
use Rattle.docket_columns.specs.declared.version.Version.TheVariants.{First, Second}
use Rattle.docket_sound.specs.Receipts.{AreOfKnownKinds, is_known_kind}
use Rattle.docket_sound.proofs.ReceiptLemmas.{kinds_widen}
use Rattle.docket_tables.specs.declared.table.Table.{Table}
use Rattle.docket_tables.specs.declared.table.Table.TheVariants as table
use Rattle.docket_scan.specs.Judging.{AreSoundBy, Rows}
use Rattle.docket_scan.specs.declared.receipt.StoredReceipt.{StoredReceipt}

-- rows that are no short days
abbrev IsLong : CalendarItem → Type 0
IsLong item = is_short_day item ≡ false

abbrev AreLong : List NewRow → Type 0
AreLong rows = AllByRecursion (λ (row : NewRow). IsLong row.item) rows

abbrev StandLong : List CalendarRow → Type 0
StandLong rows = AllByRecursion (λ (row : CalendarRow). IsLong row.item) rows

days_long : (days : List NewDay) → AreLong (map imported days)
days_long [] = tt
days_long (day ∷ days) = (refl, days_long days)

all_long : (rows : List NewRow) → list_all (λ (row : NewRow). not (is_short_day row.item)) rows ≡ true → AreLong rows
all_long [] long = tt
all_long (row ∷ rows) long = let parts = and_parts (not (is_short_day row.item)) _ long in (not-true (is_short_day row.item) parts.0, all_long rows parts.1)

asked_long : (a : Action) → is_known_kind false a ≡ true → AreLong (rows_asked a)
asked_long (action.ShortDay a) known = absurd cc
asked_long (action.ImportCalendar a) known = days_long a.rows
asked_long a known = all_long (rows_asked a) refl

fresh_if : (b : Bool) (new : NewRow) (rows others : List NewRow) → IsLong new.item → AreLong rows → AreLong others → AreLong (if b then rows else new ∷ others)
fresh_if true new rows others here less more = less
fresh_if false new rows others here less more = (here, more)

fresh_long : (standing : List CalendarItem) (asked : List NewRow) → AreLong asked → AreLong (fresh standing asked)
fresh_long standing [] all = tt
fresh_long standing (new ∷ others) all =
    fresh_if (stands_among standing new.item) new _ _ all.0 (fresh_long standing others all.1) (fresh_long (standing ++ new.item ∷ []) others all.1)

numbered_long : (n : ℕ) (rows : List NewRow) → AreLong rows → StandLong (numbered n rows)
numbered_long n [] all = tt
numbered_long n (row ∷ rows) all = (all.0, numbered_long (n + 1) rows all.1)

left_long : (w : Option ℕ) (rows : List CalendarRow) → StandLong rows → StandLong (without_row w rows)
left_long None rows all = all
left_long (Some number) rows all = all-filter (λ (row : CalendarRow). IsLong row.item) (λ row. not (row.number == number)) rows all

standing_long : (h : History) → AreOfKnownKinds false h → StandLong (standing_rows h)
standing_long [] known = tt
standing_long (c ∷ h) known =
    let standing = items_of (standing_rows h) in
    all-append (λ (row : CalendarRow). IsLong row.item) (without_row (row_withdrawn c.action) (standing_rows h)) (numbered (next_row h) (rows_added standing c.action))
    (left_long (row_withdrawn c.action) (standing_rows h) (standing_long h known.1))
    (numbered_long (next_row h) (rows_added standing c.action) (fresh_long standing (rows_asked c.action) (asked_long c.action known.0)))

none_short : (rows : List CalendarRow) → StandLong rows → short_day_rows rows ≡ []
none_short [] all = refl
none_short (row ∷ rows) all = at row.item all.0 (none_short rows all.1)
  where
    at : (item : CalendarItem) → IsLong item → short_day_rows rows ≡ [] → cons_option (short_day_row row.number row.name item) (short_day_rows rows) ≡ []
    at (Day kind day) long none = none
    at (Span start end) long none = none
    at (Short day close) long none = absurd cc

-- commands of the first kinds enter no short day
pub no_short_days_made : (h : History) → AreOfKnownKinds false h → short_day_rows (standing_rows h) ≡ []
no_short_days_made h known = none_short (standing_rows h) (standing_long h known)

-- and no local rule
nothing_new : (count : ℕ) (a : Action) → is_known_kind false a ≡ true → new_local_rule count a ≡ []
nothing_new count (action.LocalRule a) known = absurd cc
nothing_new count _ known = refl

pub no_local_rules_made : (h : History) → AreOfKnownKinds false h → local_rule_rows h ≡ []
no_local_rules_made [] known = refl
no_local_rules_made (c ∷ h) known =
    ap (λ l. local_rule_rows h ++ l) (nothing_new _ c.action known.0) ∙ append-nil (local_rule_rows h) ∙ no_local_rules_made h known.1

-- tables that are sound in the first version are so in the second
pub sound_later : (t : Table) (court : CourtSettings) (next : ℕ) (r : Rows) (rows : List Row) → AreSoundBy First t court next r rows → AreSoundBy Second t court next r rows
sound_later table.Court court next r rows sound = sound
sound_later table.Receipts court next r rows sound = record {
  records = sound.records;
  are = sound.are;
  sound = kinds_widen (map (λ (stored : StoredReceipt). stored.receipt) sound.records) sound.sound;
}
sound_later _ court next r rows sound = sound
