-- What marks the tables of a docket, by the schema alone. Names are compared without regard to ASCII case, as SQL does.
use Rattle.std.specs.Prelude.{Bool}
use Rattle.std.specs.List.{list_any}
use Rattle.sqlite.specs.Schema.{Schema}
use Rattle.sqlite_schema.specs.Names.{same_name}
use Rattle.docket_tables.specs.Tables.{layout_of, tables}

-- a table has the name of one of a docket's
abbrev pub has_docket_table : Schema → Bool
has_docket_table schema = list_any (λ t. list_any (λ table. same_name t.name (layout_of table).name) tables) schema.tables
