-- The local names in the table of local rules. Deadlines are judged by them, before that table is.
use Rattle.std.specs.Prelude.{◌≡◌, ◌⊎◌, ℕ, List, [], Result, Ok, Err}
use Rattle.std.specs.List.{filter_map}
use Rattle.sqlite.specs.Order.{Row}
use Rattle.sqlite.specs.State.{State, IsUnchanged}
use Rattle.docket_columns.specs.Cells.{local_name_in}
use Rattle.docket_columns.specs.declared.version.Version.{Version}
use Rattle.docket_columns.specs.declared.version.Version.TheVariants.{First, Second}
use Rattle.docket_sound.specs.KnownTexts.{is_known, is_one_of}
use Rattle.docket_sound.specs.declared.known_texts.KnownTexts.{KnownTexts}
use Rattle.docket_scan.specs.Scans.{AreRowsOf, IsUnreadable, StaysOrRollsBack}
use Rattle.docket_scan.specs.declared.fault.AdoptFault.{AdoptFault}
use Rattle.docket_scan.specs.declared.fault.AdoptFault.TheVariants.{NoMemory, StoreFailed}
use Rattle.docket_tables.specs.declared.table.Table.TheVariants.{LocalRules}

-- those of the rows that have one, in their order
abbrev pub names_of : List Row → List (List ℕ)
names_of rows = filter_map local_name_in rows

-- these names stand in the table, be it sound or not; one that no statement can read, as where it is missing, has none
abbrev pub AreNamesIn : State → List (List ℕ) → Type 0
AreNamesIn s names =
    (IsUnreadable LocalRules s × (names ≡ [])) ⊎ ((rows : List Row) × AreRowsOf LocalRules s rows × (names ≡ names_of rows))

-- the first version has no such table
abbrev pub AreNamesFor : Version → State → List (List ℕ) → Type 0
AreNamesFor First s names = names ≡ []
AreNamesFor Second s names = AreNamesIn s names

-- the names, and no other text, are known
abbrev pub AreKnown : KnownTexts → List (List ℕ) → Type 0
AreKnown known names = (text : List ℕ) → is_known known text ≡ is_one_of names text

-- the result of reading the names in the table
abbrev pub NamesRead : State → State → Result KnownTexts AdoptFault → Type 0
NamesRead old new (Ok known) = IsUnchanged old new × (names : List (List ℕ)) × AreNamesIn old names × AreKnown known names
NamesRead old new (Err NoMemory) = StaysOrRollsBack old new
NamesRead old new (Err StoreFailed) = StaysOrRollsBack old new
NamesRead old new (Err _) = ⊥
