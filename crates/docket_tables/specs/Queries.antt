-- The questions to the tables, and what answers them.
use Rattle.std.specs.Prelude.{◌≡◌, ℕ, suc, Bool, true, false, if◌then◌else◌, List, [], ◌∷◌, ◌++◌, map, codes, Option, Some, None, get_or, filter, IsPermutation, IsSorted}
use Rattle.std.specs.Ordering.{on}
use Rattle.sqlite.specs.Collation.TheVariants.{Binary}
use Rattle.sqlite.specs.Order.{Row, column}
use Rattle.sqlite.specs.Query.{key_cmp, limited}
use Rattle.sqlite_value.specs.declared.keys.Key.{Key}
use Rattle.docket_tables.specs.declared.query.Query.{Query}
use Rattle.docket_tables.specs.declared.query.Query.TheVariants as ask
use Rattle.docket_tables.specs.declared.table.Table.{Table}
use Rattle.docket_tables.specs.declared.table.Table.TheVariants as table
use Rattle.docket_tables.specs.Holds.{has_key}
use Rattle.docket_tables.specs.Tables.{Layout, layout_of}
use Rattle.docket_tables.specs.Texts as text

-- a question to a table: the columns that have the parameters and those in whose order the rows come, counted from 0, and whether
-- only the last row is asked for
pub record Question : Type 0 where
  pub table : Table
  pub keys : List ℕ
  pub order : List ℕ
  pub is_last : Bool

abbrev pub question : Table → List ℕ → List ℕ → Question
question of keys order = record { table = of; keys = keys; order = order; is_last = false }

abbrev pub last : Table → List ℕ → List ℕ → Question
last of keys order = record { table = of; keys = keys; order = order; is_last = true }

abbrev pub question_of : Query → Question
question_of ask.Court = question table.Court [] []
question_of ask.Calendar = question table.Calendar [] (0 ∷ [])
question_of ask.CalendarRow = question table.Calendar (0 ∷ []) []
question_of ask.ShortDays = question table.ShortDays [] (0 ∷ [])
question_of ask.ShortDayRow = question table.ShortDays (0 ∷ []) []
question_of ask.LastCase = last table.Cases [] (0 ∷ [])
question_of ask.CaseLabelled = question table.Cases (1 ∷ []) []
question_of ask.CaseNumbered = question table.Cases (0 ∷ []) []
question_of ask.LastParty = last table.Parties (0 ∷ []) (1 ∷ [])
question_of ask.Parties = question table.Parties (0 ∷ []) (1 ∷ [])
question_of ask.LastEntry = last table.Entries (0 ∷ []) (1 ∷ [])
question_of ask.Entries = question table.Entries (0 ∷ []) (1 ∷ [])
question_of ask.LastDeadline = last table.Deadlines (0 ∷ []) (1 ∷ [])
question_of ask.Deadline = question table.Deadlines (0 ∷ 1 ∷ []) []
question_of ask.Deadlines = question table.Deadlines (0 ∷ []) (1 ∷ [])
question_of ask.Acts = question table.Acts (0 ∷ []) (1 ∷ 2 ∷ [])
question_of ask.DeadlineActs = question table.Acts (0 ∷ 1 ∷ []) (2 ∷ [])
question_of ask.Receipt = question table.Receipts (0 ∷ []) []
question_of ask.Due = question table.Due (0 ∷ []) (1 ∷ [])
question_of ask.LastLocalRule = last table.LocalRules [] (0 ∷ [])
question_of ask.LocalRuleNamed = question table.LocalRules (1 ∷ []) []
question_of ask.LocalRules = question table.LocalRules [] (0 ∷ [])

abbrev pub table_of : Query → Table
table_of query = (question_of query).table

abbrev pub keys_of : Query → List ℕ
keys_of query = (question_of query).keys

abbrev pub most_of : Query → Option ℕ
most_of query = if (question_of query).is_last then Some 1 else None

abbrev pub picks : Query → Row → Row
picks query row = map (column row) (question_of query).order

abbrev pub directions : Query → List Key
directions query = map (λ _. record { collation = Binary; descending = (question_of query).is_last }) (question_of query).order

-- the text

abbrev pub keyed : Layout → ℕ → List ℕ → List (List ℕ)
keyed l n [] = []
keyed l n (key ∷ more) = (get_or (text.names_in l) key [] ++ codes " = " ++ text.parameter n) ∷ keyed l (suc n) more

-- each of them behind the first
abbrev pub and_text : List (List ℕ) → List ℕ
and_text [] = []
and_text (one ∷ more) = codes " AND " ++ one ++ and_text more

abbrev pub where_text : List (List ℕ) → List ℕ
where_text [] = []
where_text (one ∷ more) = codes " WHERE " ++ one ++ and_text more

abbrev pub order_text : Bool → List (List ℕ) → List ℕ
order_text is_last [] = []
order_text is_last (one ∷ more) = codes " ORDER BY " ++ text.listed (one ∷ more) ++ (if is_last then codes " DESC LIMIT 1" else [])

abbrev pub question_text : Question → List ℕ
question_text q =
    let l = layout_of q.table in
    text.columns_text q.table ++ where_text (keyed l 1 q.keys) ++ order_text q.is_last (text.named l q.order)

abbrev pub select_text : Query → List ℕ
select_text query = question_text (question_of query)

-- the rows of the table that have the parameters, in that order, and the first of them where it is the last that is asked for
pub record Answers (query : Query) (params : Row) (all found : List Row) : Type 0 where
  pub whole : List Row
  pub same : IsPermutation (filter (has_key (keys_of query) params) all) whole
  pub sorted : IsSorted (on (picks query) (key_cmp 0 (directions query))) whole
  pub first : found ≡ limited (most_of query) whole

abbrev pub IsAnswer : Query → Row → List Row → List Row → Type 0
IsAnswer query params all found = ∥ Answers query params all found ∥₁
