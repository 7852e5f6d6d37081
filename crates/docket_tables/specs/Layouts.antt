-- The rows that all tables hold.
use Rattle.std.specs.Prelude.{◌≡◌, ◌==◌, if◌then◌else◌, Bool, true, false, List, [], ◌∷◌, ◌++◌}
use Rattle.sqlite.specs.declared.types.Value.TheVariants as value
use Rattle.sqlite.specs.Kind.{Kind}
use Rattle.sqlite.specs.Kind.TheVariants.{Integer, Text}
use Rattle.sqlite.specs.Order.{Row}
use Rattle.sqlite.specs.Tree.{Trees}
use Rattle.docket_columns.specs.declared.version.Version.{Version}
use Rattle.docket_columns.specs.declared.version.Version.TheVariants.{First, Second}
use Rattle.docket_tables.specs.declared.table.Table.{Table}
use Rattle.docket_tables.specs.Holds.{Holds}
use Rattle.docket_tables.specs.Schema.{kinds_of, places_of, tree_of}
use Rattle.docket_tables.specs.Tables.{IsTableOf}

-- there is a value of each kind
abbrev pub are_of : List Kind → Row → Bool
are_of [] [] = true
are_of (Integer ∷ kinds) (value.Int n ∷ row) = are_of kinds row
are_of (Text ∷ kinds) (value.Text t ∷ row) = are_of kinds row
are_of _ _ = false

-- the row has in each column what the column holds
abbrev pub Fits : Table → Row → Type 0
Fits table row = are_of (kinds_of table) row ≡ true

-- the rows of each table
abbrev pub Rows : Type 0
Rows = Table → List Row

-- the database holds these rows, those of a table in some order
abbrev pub AreRows : Rows → Trees → Type 0
AreRows rows db = (table : Table) → Holds (tree_of table) (places_of table) (rows table) db

-- in the tables of a version
abbrev pub AreRowsIn : Version → Rows → Trees → Type 0
AreRowsIn First rows db = (table : Table) → IsTableOf First table → Holds (tree_of table) (places_of table) (rows table) db
AreRowsIn Second rows db = AreRows rows db

-- with these rows in a table
abbrev pub with_rows : Table → List Row → Rows → Rows
with_rows table list rows other = if tree_of other == tree_of table then list else rows other

-- with a row more in a table
abbrev pub with_row : Table → Row → Rows → Rows
with_row table row rows = with_rows table (rows table ++ row ∷ []) rows
