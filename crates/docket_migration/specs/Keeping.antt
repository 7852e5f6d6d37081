-- What the change of the version keeps of a database, whatever its schema is.
use Rattle.std.specs.Prelude.{◌≡◌, ◌≢◌, ◌&&◌, ◌||◌, ◌==◌, ◌++◌, Bool, true, false, not, List, [], ◌∷◌}
use Rattle.std.specs.List.{list_all, list_any}
use Rattle.sqlite_rules.specs.Lists.{Has}
use Rattle.sqlite_schema.specs.Names.{same_name}
use Rattle.sqlite_schema.specs.declared.schema.Schema.{Schema}
use Rattle.sqlite_schema.specs.declared.schema.Table.{Table as Shape}
use Rattle.sqlite.specs.Effect.{Database, IsDatabase}
use Rattle.sqlite.specs.State.{State}
use Rattle.sqlite.specs.Tree.{Trees}
use Rattle.docket_columns.specs.Cells.{court_cells_of, settings_of}
use Rattle.docket_columns.specs.declared.court.CourtRow.{CourtRow}
use Rattle.docket_columns.specs.declared.version.Version.{Version}
use Rattle.docket_columns.specs.declared.version.Version.TheVariants.{First, Second}
use Rattle.docket_migration.specs.Growing.{IsNew}
use Rattle.docket_scan.specs.Scans.{AreRowsOf}
use Rattle.docket_scan.specs.Shapes.{has_table, name_of}
use Rattle.docket_tables.specs.declared.table.Table.{Table}
use Rattle.docket_tables.specs.declared.table.Table.TheVariants.{Court}

-- a table with the name of the court's
abbrev pub is_courts : Shape → Bool
is_courts table = same_name table.name (name_of Court)

abbrev pub refers_to_court : Shape → Bool
refers_to_court table = list_any (λ reference. same_name reference.parent (name_of Court)) table.references

abbrev pub has_courts_tree : List Shape → Shape → Bool
has_courts_tree tables table = list_any (λ court. is_courts court && (court.tree == table.tree)) tables

-- no foreign key refers to the court's table, and no other has its tree
abbrev pub is_court_apart : Schema → Bool
is_court_apart schema = list_all (λ table. not (refers_to_court table) && (is_courts table || not (has_courts_tree schema.tables table))) schema.tables

-- the tables stand still and hold the same rows; behind them stand more, which refer to none, each with a tree of its own
pub record GoesOn (old new : Database) : Type 0 where
  pub more : List Shape
  pub tables : new.schema.tables ≡ old.schema.tables ++ more
  pub kept : (table : Shape) → Has old.schema.tables table → new.trees table.tree ≡ old.trees table.tree
  pub apart : (table added : Shape) → Has old.schema.tables table → Has more added → added.tree ≢ table.tree
  pub refers : (added : Shape) → Has more added → added.references ≡ []

-- and the table stands among them
pub record GoesOnWith (stands : Table → Type 0) (old new : Database) : Type 0 where
  pub goes_on : GoesOn old new
  pub there : (table : Table) → stands table → has_table new.schema table ≡ true
  pub live : IsDatabase new

-- the schema stays, and so does each table but the court's
pub record RewritesCourt (old new : Database) : Type 0 where
  pub schema : new.schema ≡ old.schema
  pub kept : (table : Shape) → Has old.schema.tables table → is_courts table ≡ false → new.trees table.tree ≡ old.trees table.tree
  pub live : IsDatabase new

-- the tables stand still, and all but the court's hold the same rows; those that the first version lacks stand too
pub record KeepsTables (old new : Database) : Type 0 where
  pub more : List Shape
  pub tables : new.schema.tables ≡ old.schema.tables ++ more
  pub kept : (table : Shape) → Has old.schema.tables table → is_courts table ≡ false → new.trees table.tree ≡ old.trees table.tree
  pub there : (table : Table) → IsNew table → has_table new.schema table ≡ true
  pub live : IsDatabase new

-- the table of the court holds the row of this court in the version
abbrev pub HoldsCourt : Version → CourtRow → State → Type 0
HoldsCourt v court s = AreRowsOf Court s (court_cells_of v (settings_of court) court.next_row ∷ [])

-- the tables that the first version lacks hold nothing
abbrev pub AreNewEmpty : State → Type 0
AreNewEmpty s = (table : Table) → IsNew table → AreRowsOf table s []

-- the database has moved from the first version to the second: the court's row is the same but for the version, and each other table
-- holds what it held
pub record HasGone (old new : State) : Type 0 where
  pub court : CourtRow
  pub was : HoldsCourt First court old
  pub is : HoldsCourt Second court new
  pub tables : KeepsTables old.now new.now
  pub empty : AreNewEmpty new

-- a power failure leaves what the connection sees
abbrev pub IsCommitted : State → Type 0
IsCommitted s = (db : Trees) → s.may_leave db → db ≡ s.now.trees

-- the connection sees this database
abbrev pub seeing : State → Database → State
seeing s now = record s { now = now }

-- these are the trees of the database that has moved
abbrev pub IsImageOfGone : State → Trees → Type 0
IsImageOfGone old db = (after : Database) × HasGone old (seeing old after) × (db ≡ after.trees)
