-- The texts of the statements that a table gives.
use Rattle.std.specs.Prelude.{ℕ, suc, ◌+◌, ◌==◌, Bool, false, if◌then◌else◌, List, [], ◌∷◌, ◌++◌, codes, map, take, get_or}
use Rattle.std.specs.List.{list_any}
use Rattle.sqlite.specs.Kind.{Kind}
use Rattle.sqlite.specs.Kind.TheVariants.{Integer, Text}
use Rattle.docket_tables.specs.Tables.{Layout, Field, layout_of}
use Rattle.docket_tables.specs.declared.table.Table.{Table}

-- a number for each of them, from that one on
abbrev pub counted : {X : Type 0} → ℕ → List X → List ℕ
counted n [] = []
counted n (x ∷ xs) = n ∷ counted (suc n) xs

-- the texts, with a comma between any two
abbrev pub listed : List (List ℕ) → List ℕ
listed [] = []
listed (text ∷ []) = text
listed (text ∷ more) = text ++ codes ", " ++ listed more

abbrev pub bracketed : List (List ℕ) → List ℕ
bracketed texts = codes "(" ++ listed texts ++ codes ")"

abbrev pub names_in : Layout → List (List ℕ)
names_in l = map (λ field. field.name) l.fields

-- the names of the columns with these numbers
abbrev pub named : Layout → List ℕ → List (List ℕ)
named l columns = map (λ column. get_or (names_in l) column []) columns

-- the names of the key
abbrev pub key_names : Layout → List (List ℕ)
key_names l = take l.key (names_in l)

abbrev pub kind_text : Kind → List ℕ
kind_text Integer = codes "INTEGER"
kind_text Text = codes "TEXT"
kind_text _ = []

-- a constraint on one column stands at the column
abbrev pub is_alone : ℕ → List ℕ → Bool
is_alone column (other ∷ []) = other == column
is_alone column _ = false

abbrev pub standing_text : Layout → ℕ → List ℕ
standing_text l column =
    if is_alone column (take l.key (counted 0 l.fields))
    then (if l.is_rowid then codes " PRIMARY KEY" else codes " NOT NULL PRIMARY KEY")
    else codes " NOT NULL" ++ (if list_any (is_alone column) l.uniques then codes " UNIQUE" else [])

abbrev pub column_texts : Layout → ℕ → List Field → List (List ℕ)
column_texts l n [] = []
column_texts l n (field ∷ more) = (field.name ++ codes " " ++ kind_text field.kind ++ standing_text l n) ∷ column_texts l (suc n) more

-- a constraint on several columns stands after the columns
abbrev pub key_text : List (List ℕ) → List (List ℕ)
key_text (one ∷ another ∷ more) = (codes "PRIMARY KEY " ++ bracketed (one ∷ another ∷ more)) ∷ []
key_text _ = []

abbrev pub unique_texts : Layout → List (List ℕ) → List (List ℕ)
unique_texts l [] = []
unique_texts l ((one ∷ another ∷ columns) ∷ more) = (codes "UNIQUE " ++ bracketed (named l (one ∷ another ∷ columns))) ∷ unique_texts l more
unique_texts l (_ ∷ more) = unique_texts l more

abbrev pub parent_text : Layout → Table → List ℕ
parent_text l parent =
    let p = layout_of parent in
    codes "FOREIGN KEY " ++ bracketed (take p.key (names_in l)) ++ codes " REFERENCES " ++ p.name ++ codes " " ++ bracketed (key_names p)

-- makes the table
abbrev pub create_text : Table → List ℕ
create_text table =
    let l = layout_of table in
    codes "CREATE TABLE " ++ l.name ++ codes " "
    ++ bracketed (column_texts l 0 l.fields ++ key_text (key_names l) ++ unique_texts l l.uniques ++ map (parent_text l) l.parents)
    ++ codes " STRICT"

-- a parameter, of the first nine
abbrev pub parameter : ℕ → List ℕ
parameter n = codes "?" ++ (48 + n) ∷ []

-- adds a row
abbrev pub insert_text : Table → List ℕ
insert_text table =
    let l = layout_of table in
    codes "INSERT INTO " ++ l.name ++ codes " " ++ bracketed (names_in l) ++ codes " VALUES " ++ bracketed (map parameter (counted 1 l.fields))

-- shows all columns of rows
abbrev pub columns_text : Table → List ℕ
columns_text table = let l = layout_of table in codes "SELECT " ++ listed (names_in l) ++ codes " FROM " ++ l.name

-- all rows, in the order of the key
abbrev pub scan_text : Table → List ℕ
scan_text table = columns_text table ++ codes " ORDER BY " ++ listed (key_names (layout_of table))
