-- The tables of the docket: what each is named, what its columns are, and what stands in them once. The rest of a table's SQL follows
-- from this.
use Rattle.std.specs.Prelude.{ℕ, Bool, true, false, List, [], ◌∷◌, ◌++◌, codes}
use Rattle.sqlite.specs.Kind.{Kind}
use Rattle.sqlite.specs.Kind.TheVariants.{Integer, Text}
use Rattle.docket_columns.specs.declared.version.Version.{Version}
use Rattle.docket_columns.specs.declared.version.Version.TheVariants.{First, Second}
use Rattle.docket_tables.specs.declared.table.Table.{Table}
use Rattle.docket_tables.specs.declared.table.Table.TheVariants.{Court, Calendar, Cases, Parties, Entries, Deadlines, Acts, Receipts, Due, ShortDays, LocalRules}

-- a column: its name, and what it holds. No column takes NULL.
pub record Field : Type 0 where
  pub name : List ℕ
  pub kind : Kind

-- A table: its place among the tables, its name and its columns. So many of the first columns are its key; where that is the rowid
-- the key is the first column, and is given. What stands in each of the lists of columns, counted from 0, stands there once. In the
-- first columns stands a key of each of the parents.
pub record Layout : Type 0 where
  pub at : ℕ
  pub name : List ℕ
  pub fields : List Field
  pub is_rowid : Bool
  pub key : ℕ
  pub uniques : List (List ℕ)
  pub parents : List Table

abbrev pub number : List ℕ → Field
number name = record { name = name; kind = Integer }

abbrev pub words : List ℕ → Field
words name = record { name = name; kind = Text }

abbrev pub layout_of : Table → Layout
layout_of Court = record {
  at = 0;
  name = codes "court";
  fields = number (codes "id") ∷ words (codes "word") ∷ number (codes "version") ∷ words (codes "zone") ∷ number (codes "close") ∷ number (codes "next_row") ∷ [];
  is_rowid = true;
  key = 1;
  uniques = [];
  parents = [];
}
layout_of Calendar = record {
  at = 1;
  name = codes "calendar";
  fields = number (codes "row_no") ∷ number (codes "kind") ∷ number (codes "a") ∷ number (codes "b") ∷ words (codes "name") ∷ [];
  is_rowid = true;
  key = 1;
  uniques = (1 ∷ 2 ∷ 3 ∷ []) ∷ [];
  parents = [];
}
layout_of Cases = record {
  at = 2;
  name = codes "cases";
  fields = number (codes "number") ∷ words (codes "label") ∷ words (codes "caption") ∷ number (codes "filed") ∷ [];
  is_rowid = true;
  key = 1;
  uniques = (1 ∷ []) ∷ [];
  parents = [];
}
layout_of Parties = record {
  at = 3;
  name = codes "party";
  fields = number (codes "case_no") ∷ number (codes "number") ∷ words (codes "name") ∷ number (codes "role") ∷ [];
  is_rowid = false;
  key = 2;
  uniques = [];
  parents = Cases ∷ [];
}
layout_of Entries = record {
  at = 4;
  name = codes "entry";
  fields = number (codes "case_no") ∷ number (codes "number") ∷ number (codes "day") ∷ words (codes "body") ∷ [];
  is_rowid = false;
  key = 2;
  uniques = [];
  parents = Cases ∷ [];
}
layout_of Deadlines = record {
  at = 5;
  name = codes "deadline";
  fields = number (codes "case_no") ∷ number (codes "number") ∷ number (codes "party") ∷ words (codes "rule") ∷ number (codes "initial") ∷ [];
  is_rowid = false;
  key = 2;
  uniques = [];
  parents = Cases ∷ [];
}
layout_of Acts = record {
  at = 6;
  name = codes "act";
  fields = number (codes "case_no") ∷ number (codes "deadline_no") ∷ number (codes "number") ∷ number (codes "kind")
      ∷ number (codes "p1") ∷ number (codes "p2") ∷ number (codes "p3") ∷ number (codes "p4") ∷ number (codes "p5") ∷ [];
  is_rowid = false;
  key = 3;
  uniques = [];
  parents = Deadlines ∷ [];
}
layout_of Receipts = record {
  at = 7;
  name = codes "receipt";
  fields = words (codes "command_key") ∷ words (codes "body") ∷ number (codes "reply") ∷ [];
  is_rowid = false;
  key = 1;
  uniques = [];
  parents = [];
}
layout_of Due = record {
  at = 8;
  name = codes "due";
  fields = number (codes "case_no") ∷ number (codes "deadline_no") ∷ number (codes "day") ∷ number (codes "moment") ∷ [];
  is_rowid = false;
  key = 2;
  uniques = (2 ∷ 3 ∷ 0 ∷ 1 ∷ []) ∷ [];
  parents = Deadlines ∷ [];
}
layout_of ShortDays = record {
  at = 9;
  name = codes "short_day";
  fields = number (codes "row_no") ∷ number (codes "day") ∷ number (codes "close") ∷ words (codes "name") ∷ [];
  is_rowid = true;
  key = 1;
  uniques = (1 ∷ []) ∷ [];
  parents = [];
}
layout_of LocalRules = record {
  at = 10;
  name = codes "local_rule";
  fields = number (codes "number") ∷ words (codes "name") ∷ number (codes "days") ∷ number (codes "direction") ∷ number (codes "three") ∷ number (codes "extendable") ∷ [];
  is_rowid = true;
  key = 1;
  uniques = (1 ∷ []) ∷ [];
  parents = [];
}

abbrev pub first_tables : List Table
first_tables = Court ∷ Calendar ∷ Cases ∷ Parties ∷ Entries ∷ Deadlines ∷ Acts ∷ Receipts ∷ Due ∷ []

-- the tables of a version, in the order in which they are made
abbrev pub tables_of : Version → List Table
tables_of First = first_tables
tables_of Second = first_tables ++ ShortDays ∷ LocalRules ∷ []

-- those of the version that is kept: all that there are
abbrev pub tables : List Table
tables = tables_of Second

-- the version has the table
abbrev pub IsTableOf : Version → Table → Type 0
IsTableOf First ShortDays = ⊥
IsTableOf First LocalRules = ⊥
IsTableOf First table = Unit {0}
IsTableOf Second table = Unit {0}
