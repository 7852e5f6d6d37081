-- When a table is there, by the schema: a table with its name and its columns. Names are compared without regard to ASCII case,
-- as SQL does; other columns, and keys that are declared or not, are not looked at.
use Rattle.std.specs.Prelude.{ℕ, Bool, ◌&&◌, List}
use Rattle.std.specs.List.{list_all, list_any}
use Rattle.sqlite_schema.specs.Names.{same_name}
use Rattle.sqlite_schema.specs.declared.schema.Column.{Column}
use Rattle.sqlite_schema.specs.declared.schema.Schema.{Schema}
use Rattle.docket_tables.specs.Tables.{layout_of}
use Rattle.docket_tables.specs.Texts.{names_in}
use Rattle.docket_tables.specs.declared.table.Table.{Table}

abbrev pub name_of : Table → List ℕ
name_of t = (layout_of t).name

abbrev pub columns_of : Table → List (List ℕ)
columns_of t = names_in (layout_of t)

abbrev pub has_column : List Column → List ℕ → Bool
has_column columns name = list_any (λ (column : Column). same_name column.name name) columns

abbrev pub has_columns : List Column → List (List ℕ) → Bool
has_columns columns names = list_all (has_column columns) names

-- a table has the name
abbrev pub has_named : Schema → Table → Bool
has_named schema t = list_any (λ found. same_name found.name (name_of t)) schema.tables

-- and a table has the name and the columns
abbrev pub has_table : Schema → Table → Bool
has_table schema t = list_any (λ found. same_name found.name (name_of t) && has_columns found.columns (columns_of t)) schema.tables
