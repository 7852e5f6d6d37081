-- What is stated of the list of all tables, or of all questions, holds of each of them. One `refl` for the whole list computes but
-- once what its members share, where a `refl` for each member computes it for each, and several times.
use Rattle.std.proofs.Common.{◌≡◌, ℕ, List, [], ◌∷◌, map, get_or, ap}
use Rattle.docket_tables.specs.Tables.{layout_of, tables}
use Rattle.docket_tables.specs.declared.query.Query.{Query}
use Rattle.docket_tables.specs.declared.query.Query.TheVariants as ask
use Rattle.docket_tables.specs.declared.table.Table.{Table}
use Rattle.docket_tables.specs.declared.table.Table.TheVariants.{Court}

pub each_table : {X : Type 0} (f g : Table → X) → map f tables ≡ map g tables → (table : Table) → f table ≡ g table
each_table f g all Court = ap (λ xs. get_or xs 0 (f Court)) all
each_table f g all table = ap (λ xs. get_or xs (layout_of table).at (f table)) all

abbrev pub queries : List Query
queries =
    ask.Court ∷ ask.Calendar ∷ ask.CalendarRow ∷ ask.ShortDays ∷ ask.ShortDayRow ∷ ask.LastCase ∷ ask.CaseLabelled ∷ ask.CaseNumbered
    ∷ ask.LastParty ∷ ask.Parties ∷ ask.LastEntry ∷ ask.Entries ∷ ask.LastDeadline ∷ ask.Deadline ∷ ask.Deadlines ∷ ask.Acts
    ∷ ask.DeadlineActs ∷ ask.Receipt ∷ ask.Due ∷ ask.LastLocalRule ∷ ask.LocalRuleNamed ∷ ask.LocalRules ∷ []

-- where it stands in that list
abbrev place : Query → ℕ
place ask.Court = 0
place ask.Calendar = 1
place ask.CalendarRow = 2
place ask.ShortDays = 3
place ask.ShortDayRow = 4
place ask.LastCase = 5
place ask.CaseLabelled = 6
place ask.CaseNumbered = 7
place ask.LastParty = 8
place ask.Parties = 9
place ask.LastEntry = 10
place ask.Entries = 11
place ask.LastDeadline = 12
place ask.Deadline = 13
place ask.Deadlines = 14
place ask.Acts = 15
place ask.DeadlineActs = 16
place ask.Receipt = 17
place ask.Due = 18
place ask.LastLocalRule = 19
place ask.LocalRuleNamed = 20
place ask.LocalRules = 21

pub each_query : {X : Type 0} (f g : Query → X) → map f queries ≡ map g queries → (query : Query) → f query ≡ g query
each_query f g all ask.Court = ap (λ xs. get_or xs 0 (f ask.Court)) all
each_query f g all query = ap (λ xs. get_or xs (place query) (f query)) all
