-- The schema that the making of the tables leaves, and where their columns stand in stored rows.
use Rattle.std.specs.Prelude.{ℕ, suc, Bool, true, false, if◌then◌else◌, ◌++◌, [], ◌∷◌, map, take, length, sum, None, Some, List, fold}
use Rattle.sqlite_value.specs.Keys.{plain}
use Rattle.sqlite.specs.Collation.TheVariants.{Binary}
use Rattle.sqlite.specs.declared.types.Value.TheVariants.{Null}
use Rattle.sqlite_schema.specs.declared.schema.Column.{Column}
use Rattle.sqlite_schema.specs.declared.schema.Reference.{Reference}
use Rattle.sqlite_schema.specs.declared.schema.Action.TheVariants.{NoAction}
use Rattle.sqlite.specs.Table.{Table as Shape}
use Rattle.sqlite.specs.Schema.{Schema}
use Rattle.sqlite.specs.Kind.{Kind}
use Rattle.sqlite.specs.Kind.TheVariants.{Integer}
use Rattle.sqlite.specs.Change.{created}
use Rattle.docket_columns.specs.declared.version.Version.{Version}
use Rattle.docket_columns.specs.declared.version.Version.TheVariants.{Second}
use Rattle.docket_tables.specs.Tables.{Field, layout_of, tables, tables_of}
use Rattle.docket_tables.specs.Texts.{counted, key_names}
use Rattle.docket_tables.specs.declared.table.Table.{Table}

-- Place 0 of a stored row is the rowid, and each column has one after it. Where the rowid is the key, the first column stands at
-- the rowid.

abbrev pub places_by : Bool → List Field → List ℕ
places_by true [] = []
places_by true (field ∷ more) = 0 ∷ counted 2 more
places_by false fields = counted 1 fields

abbrev pub kinds_by : Bool → List Field → List Kind
kinds_by true [] = []
kinds_by true (field ∷ more) = Integer ∷ map (λ field. field.kind) more
kinds_by false fields = map (λ field. field.kind) fields

abbrev pub column_of : Field → Column
column_of field = record { name = field.name; kind = field.kind; is_strict = true; not_null = true; default = Null; collation = Binary }

abbrev pub columns_by : Bool → List Field → List Column
columns_by true [] = []
columns_by true (field ∷ more) = record (column_of field) { kind = Integer; not_null = false } ∷ map column_of more
columns_by false fields = map column_of fields

abbrev pub places_of : Table → List ℕ
places_of table = let l = layout_of table in places_by l.is_rowid l.fields

-- what each column holds
abbrev pub kinds_of : Table → List Kind
kinds_of table = let l = layout_of table in kinds_by l.is_rowid l.fields

-- where the columns of the key stand
abbrev pub key_places : Table → List ℕ
key_places table = take (layout_of table).key (places_of table)

-- a hidden rowid makes the key one of the lists that stand once
abbrev pub uniques_of : Table → List (List ℕ)
uniques_of table =
    let l = layout_of table in
    (if l.is_rowid then [] else key_places table ∷ []) ++ map (map (λ column. suc column)) l.uniques

abbrev pub reference_to : List ℕ → Table → Reference
reference_to places parent =
    let p = layout_of parent in
    record { columns = take p.key places; parent = p.name; parent_columns = key_names p; on_delete = NoAction; on_update = NoAction; is_deferred = false }

-- the table, as its CREATE defines it
abbrev pub definition_of : Table → Shape
definition_of table =
    let l = layout_of table in
    record {
      name = l.name;
      tree = 0;
      columns = columns_by l.is_rowid l.fields;
      key = if l.is_rowid then Some 0 else None;
      primary = key_places table;
      uniques = uniques_of table;
      orders = map (λ _. plain) (uniques_of table);
      checks = [];
      references = map (reference_to (places_of table)) l.parents;
      computed = [];
      stamps = record { places = []; terms = []; formats = [] };
      is_counted = false;
    }

-- trees are numbered in the order in which the tables and their indexes are made
abbrev pub tree_of : Table → ℕ
tree_of table = sum (map (λ other. suc (length (uniques_of other))) (take (layout_of table).at tables))

abbrev pub shape_of : Table → Shape
shape_of table = record (definition_of table) { tree = tree_of table }

abbrev pub no_schema : Schema
no_schema = record { tables = []; indexes = []; views = [] }

-- the schema that the first n tables leave
abbrev pub made : ℕ → Schema
made n = fold created no_schema (map definition_of (take n tables))

-- that of a version
abbrev pub schema_of : Version → Schema
schema_of v = fold created no_schema (map definition_of (tables_of v))

-- that of the version that is kept
abbrev pub docket_schema : Schema
docket_schema = schema_of Second
