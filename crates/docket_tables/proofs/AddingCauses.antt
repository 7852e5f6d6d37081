-- An INSERT of a row that may stand fails only for a cause.
use Rattle.std.proofs.Common.{◌≡◌, is_some, map, ◌+◌, ◌⊎◌, inl, inr, ◌∙◌, ◌++◌, ◌/◌, ◌==◌, ℕ, zero, suc, Bool, List, [], ◌∷◌, length, length-append, append-nil, slice_get, true, false, None, Some, Option, Err, IsSome, refl, sym, ap, ap₂, subst, subst₂, arith}
use Rattle.std.specs.List.{list_all}
use Rattle.std.proofs.lemmas.Bool.{and_from, both_ways}
use Rattle.sqlite.specs.Command.{Command}
use Rattle.sqlite.specs.Command.TheVariants.{Insert}
use Rattle.sqlite.specs.Does.{Does, OnRows, AtPlace}
use Rattle.sqlite.specs.Edit.{Edit, edit_of}
use Rattle.sqlite.specs.Effect.{value_rows}
use Rattle.sqlite.specs.Listing.{understood}
use Rattle.sqlite.specs.Order.{Row, column}
use Rattle.sqlite.specs.Rowids.TheVariants.{Chosen}
use Rattle.sqlite.specs.Rows.{Task, Inserts}
use Rattle.sqlite.specs.Schema.{Schema}
use Rattle.sqlite.specs.Source.TheVariants.{Values}
use Rattle.sqlite.specs.State.{State, mode_of, ExecutesInside}
use Rattle.sqlite.specs.Term.{Term, eval_all, col}
use Rattle.sqlite.specs.declared.error.Error.{Error}
use Rattle.sqlite.specs.declared.error.Error.TheVariants.{SqliteFailure}
use Rattle.sqlite.specs.declared.error.ErrorCode.TheVariants as code
use Rattle.sqlite.specs.declared.types.Value.{Value}
use Rattle.sqlite.specs.declared.types.Value.TheVariants as value
use Rattle.sqlite.specs.declared.types.Value.TheVariants.{Int}
use Rattle.sqlite.specs.Kind.{Kind}
use Rattle.sqlite.specs.Kind.TheVariants.{Integer, Text}
use Rattle.sqlite.specs.Tree.{Trees}
use Rattle.sqlite.proofs.Callers.{statement_of}
use Rattle.sqlite_rules.specs.Action.{Writes as WritesEdit}
use Rattle.sqlite_rules.specs.Edit.{IsRefused, id_in}
use Rattle.sqlite_rules.specs.declared.error.Refusal.{Refusal}
use Rattle.sqlite_rules.specs.declared.error.Refusal.TheVariants.{NoRowid}
use Rattle.sqlite_schema.specs.Rules.{Obeys}
use Rattle.sqlite_schema.specs.declared.schema.Constraint.TheVariants.{Unique, ForeignKey}
use Rattle.sqlite_schema.specs.declared.schema.Keys.TheVariants.{Enforced}
use Rattle.sqlite_sql.specs.Ops.{fits_i64}
use Rattle.sqlite_trees.specs.Tree.{put_row, rowid}
use Rattle.docket_tables.proofs.StoredRows.{stored_by}
use Rattle.sqlite_typing.specs.Types.{accepts_terms, class_of, term_class}
use Rattle.docket_tables.specs.Additions.{AreStorable, MayStand}
use Rattle.docket_tables.specs.Causes.{HasMakingCause, HasAddCause}
use Rattle.docket_tables.specs.Layouts.{Rows, AreRows, Fits, are_of}
use Rattle.docket_tables.specs.Schema.{docket_schema, shape_of, tree_of, kinds_of, kinds_by}
use Rattle.docket_tables.specs.Stands.{Sees}
use Rattle.docket_tables.specs.Tables.{Field, layout_of}
use Rattle.docket_tables.specs.Texts.{counted, insert_text}
use Rattle.docket_tables.specs.declared.table.Table.{Table}
use Rattle.docket_tables.proofs.CauseLemmas.{so_many}
use Rattle.docket_tables.proofs.EachLemmas.{each_table}
use Rattle.docket_tables.proofs.InsertCauses.{opened, stored, entry, entered, refusals, sized, refers_after}
use Rattle.docket_tables.proofs.InsertLemmas.{puts}
use Rattle.docket_tables.proofs.LayoutLemmas.{insert_command, parameters_of, insert_read, insert_means, terms_of, terms_by, kinds, no_value}
use Rattle.docket_tables.proofs.MakingCauses.{IsOne, open_caused, write_stops}
use Rattle.docket_tables.proofs.TextLemmas.{read_command, read_one}
use Rattle.docket_tables.proofs.UpdateCauses.{plain_mode}

-- each INSERT is one statement
abbrev inserting : Table → Command
inserting table = Insert (insert_means table).at (Values (terms_of table) (insert_means table).width)

so_many_given : (table : Table) → length (parameters_of table) ≡ length (kinds_of table)
so_many_given = each_table (λ t. length (parameters_of t)) (λ t. length (kinds_of t)) refl

one_insert : (table : Table) → IsOne (insert_text table) (length (kinds_of table)) (inserting table) (understood docket_schema (insert_text table))
one_insert table =
    let read = insert_read table in
    let same : insert_command table ≡ inserting table = sym (read_command read) ∙ (insert_means table).is in
    subst (λ command. IsOne (insert_text table) (length (kinds_of table)) command (understood docket_schema (insert_text table))) same (read_one read (length (kinds_of table)) (so_many_given table))

-- the terms are columns of what is given
abbrev is_accepted : Row → Term → Bool
is_accepted given t = is_some (term_class given [] t)

accepted_from : (given : Row) (n : ℕ) (fields : List Field) (row : Row) → ((i : ℕ) → column given (n + i) ≡ column row i) → are_of (kinds fields) row ≡ true → list_all (is_accepted given) (map (col 0) (counted n fields)) ≡ true
accepted_from given n [] row stands fits = refl
accepted_from given n (field ∷ more) [] stands fits = absurd (no_value field.kind (kinds more) fits)
accepted_from given n (field ∷ more) (v ∷ row) stands fits =
    let here : column given n ≡ v = (let place : n ≡ n + 0 = omega arith in ap (column given) place ∙ stands 0) in
    let first = first_classed field.kind v fits in
    and_from _ _ (ap (λ w. is_some (class_of w)) here ∙ first.0) (accepted_from given (suc n) more row (λ i. let same : suc n + i ≡ n + suc i = omega arith in ap (column given) same ∙ stands (suc i)) first.1)
  where
    first_classed : (kind : Kind) (v : Value) → are_of (kind ∷ kinds more) (v ∷ row) ≡ true → (is_some (class_of v) ≡ true) × (are_of (kinds more) row ≡ true)
    first_classed Integer (Int n) fits = (refl, fits)
    first_classed Text (value.Text t) fits = (refl, fits)
    first_classed _ _ fits = absurd (let no = fits in cc)

accepted_by : (is_rowid : Bool) (fields : List Field) (given : Row) → are_of (kinds_by is_rowid fields) given ≡ true → accepts_terms (terms_by is_rowid fields) given ≡ true
accepted_by false fields given fits = accepted_from given 0 fields given (λ i. let same : 0 + i ≡ i = omega arith in ap (column given) same) fits
accepted_by true [] given fits = refl
accepted_by true (field ∷ more) [] fits = absurd (let no = fits in cc)
accepted_by true (field ∷ more) (Int n ∷ row) fits = accepted_from (Int n ∷ row) 1 more row (λ i. let same : 1 + i ≡ suc i = omega arith in ap (column (Int n ∷ row)) same) fits
accepted_by true (field ∷ more) (_ ∷ row) fits = absurd (let no = fits in cc)

-- a rowid that is given fits
abbrev are_numbered : Row → Bool
are_numbered row = list_all (λ r. fits_i64 (id_in (rowid r))) (row ∷ [])

hides_rowid : (is_rowid : Bool) (fields : List Field) (given : Row) (rows : List Row) → (length fields == 0) ≡ false → are_of (kinds_by is_rowid fields) given ≡ true → AreStorable given
    → are_numbered (stored_by is_rowid rows given) ≡ false → is_rowid ≡ false
hides_rowid false fields given rows some fits storable none = refl
hides_rowid true [] given rows some fits storable none = some
hides_rowid true (field ∷ more) (Int n ∷ row) rows some fits storable none = absurd (both_ways _ none (and_from _ _ storable.0 refl))
hides_rowid true (field ∷ more) _ rows some fits storable none = absurd (let no = fits in cc)

have_fields : (table : Table) → (length (layout_of table).fields == 0) ≡ false
have_fields = each_table (λ t. length (layout_of t).fields == 0) (λ t. false) refl

-- what is left: a limit on steps was set, and came, or no rowid was left in a table that hides them
abbrev IsEnded : Table → Option ℕ → Option Error → Type 0
IsEnded table limit stop = (e : Error) × (stop ≡ Some e) × (((e ≡ SqliteFailure code.OperationInterrupted) × IsSome limit) ⊎ ((e ≡ SqliteFailure code.NoRowid) × ((layout_of table).is_rowid ≡ false)))

module _ (table : Table) (given : Row) (rows : Rows) (db : Trees) (fits : Fits table given) (may : MayStand table given rows) (are : AreRows rows db) (obeys : Obeys docket_schema db) where
  abbrev edit : Edit
  edit = entry table given rows db fits

  abbrev row : Row
  row = stored table given rows db fits

  unstopped : (stop : Option Refusal) → WritesEdit docket_schema Enforced db edit (Err stop) → (stop ≡ Some NoRowid) × ((layout_of table).is_rowid ≡ false)
  unstopped stop (inl (why, refused, is)) = let same : stop ≡ Some why = cc in let it = only why refused in (same ∙ ap (λ w. Some w) it.0, it.1)
    where
      only : (why : Refusal) → IsRefused docket_schema Enforced db edit why → (why ≡ NoRowid) × ((layout_of table).is_rowid ≡ false)
      only NoRowid refused = (refl, hides_rowid (layout_of table).is_rowid (layout_of table).fields given (db (tree_of table)) (have_fields table) fits may.storable refused)
      only why refused = absurd (opened rows db are (λ here. refusals table given rows db fits may here (obeys.rules Unique) why refused (λ is. let no = is in cc)))
  unstopped stop (inr (inl (row, has, big, is))) = absurd (sized table given rows db fits may.storable row has big)
  unstopped stop (inr (inr (after, applied, (zero, leads)))) = absurd (let is = leads.1 in cc)
  unstopped stop (inr (inr (after, applied, (suc n, leads)))) =
      absurd (omega (arith, ap length (sym ((insert_means table).no_work row)), ap length leads.2, length-append leads.0 (leads.1 ∷ [])))

  abbrev task_in : Option ℕ → Task
  task_in limit = record { limit = limit; keys = Enforced; schema = docket_schema; table = shape_of table; params = given }

  abbrev from : List Term
  from = terms_of table

  abbrev width : ℕ
  width = (insert_means table).width

  source_is : (rows' : List Row) → rows' ≡ value_rows (given ++ []) width (length from / width) from → rows' ≡ eval_all from (given ∷ []) ∷ []
  source_is rows' is = is ∙ ap₂ (λ p n. value_rows p width n from) (append-nil given) (insert_means table).one ∙ ap (λ ts. eval_all ts (given ∷ []) ∷ []) (insert_means table).wide

  uninserted : (limit : Option ℕ) (stop : Option Error) → Inserts (task_in limit) (Values from width) db (Err stop) → IsEnded table limit stop
  uninserted limit stop (inl (None, bad, is)) = absurd bad
  uninserted limit stop (inl (Some e, inl bad, is)) =
      absurd (both_ways _ bad.1 (ap (accepts_terms from) (append-nil given) ∙ accepted_by (layout_of table).is_rowid (layout_of table).fields given fits))
  uninserted limit stop (inl (Some e, inr halted, is)) = (e, (let same = is in cc), inl halted)
  uninserted limit stop (inr (rows', source, inl (other, bad, is))) = absurd (let never = bad in cc)
  uninserted limit stop (inr (rows', source, inr (counter, counted, inl (other, bad, is)))) =
      let made : edit_of db (shape_of table) [] Chosen 0 rows' ≡ edit = ap (edit_of db (shape_of table) [] Chosen 0) (source_is rows' source.1) ∙ entered table given rows db fits in
      let none = unstopped bad.0 (subst (λ edit. WritesEdit docket_schema Enforced db edit (Err bad.0)) made bad.1) in
      (SqliteFailure code.NoRowid, (let same = is in let other_is = bad.2 in let why = none.0 in cc), inr (refl, none.1))
  uninserted limit stop (inr (rows', source, inr (counter, counted, inr (mid, edits, inl (other, bad, is))))) = absurd (let never = bad in cc)
  uninserted limit stop (inr (rows', source, inr (counter, counted, inr (mid, edits, inr (end, counts, bad))))) = absurd (let never = bad in cc)

  unended : (limit : Option ℕ) (stop : Option Error) → OnRows (task_in limit) plain_mode None (inserting table) db (Err stop) → IsEnded table limit stop
  unended limit stop (inl (other, bad, is)) = let ended = uninserted limit other bad in (ended.0, (let same = is in let also = ended.1 in cc), ended.2)
  unended limit stop (inr (done, went, inl (other, bad, is))) =
      absurd (opened rows db are (λ here.
      let means = insert_means table in
      let put = puts (task_in limit) from width db done refl means.one means.wide means.uncounted means.unstamped means.no_work went in
      let is_row : put.row ≡ row = put.is ∙ ap (λ (r : List Row). first_of r) (ap (λ (e : Edit). e.news) (entered table given rows db fits)) in
      bad.0 (refers_after table given rows db fits may here (obeys.rules ForeignKey) done.trees (put.rows ∙ ap (λ r. put_row r (db (tree_of table))) is_row) put.others)))
    where
      first_of : List Row → Row
      first_of [] = []
      first_of (r ∷ rs) = r
  unended limit stop (inr (done, went, inr (in_doubt, tested, inl (other, bad, is)))) = absurd (let never = bad in cc)
  unended limit stop (inr (done, went, inr (in_doubt, tested, inr (rows', shown, bad)))) = absurd (let never = bad in cc)

none_told : (e : Error) → None ≡ Some e → ⊥
none_told e is = let no = is in cc

same_told : (e f : Error) → Some e ≡ Some f → e ≡ f
same_told e f is = cc

told : (table : Table) (old new : State) (e f : Error) → e ≡ f → ((f ≡ SqliteFailure code.OperationInterrupted) × IsSome old.step_limit) ⊎ ((f ≡ SqliteFailure code.NoRowid) × ((layout_of table).is_rowid ≡ false)) → HasAddCause table old new e
told table old new e f is (inl halted) = inl (inr (inr (is ∙ halted.0, halted.1)))
told table old new e f is (inr none) = inr (is ∙ none.0, none.1)

-- an INSERT of a row that may stand, where the connection sees the rows inside a transaction, fails only for a cause
pub insert_caused : (table : Table) (given : Row) (rows : Rows) (old new : State) (e : Error) → Fits table given → MayStand table given rows → Sees old rows
    → ExecutesInside 0 (insert_text table) given old new (Err e) → HasAddCause table old new e
insert_caused table given rows old new e fits may sees ran =
    let sql : List ℕ = insert_text table in
    let command : Command = inserting table in
    let db : Trees = old.now.trees in
    let one = subst₂ (λ s n. IsOne sql n command (understood s sql)) (sym sees.shows.schema) (sym (so_many (kinds_of table) given fits)) (one_insert table) in
    let obeys : Obeys docket_schema db = subst (λ s. Obeys s db) sees.shows.schema sees.shows.live.obeys in
    let ends : (stop : Option Error) → Does old.step_limit (mode_of old) given old.now (statement_of sql (understood old.now.schema sql)) None command (Err stop) → IsEnded table old.step_limit stop =
    λ stop h. unended table given rows db fits may sees.shows.holds obeys old.step_limit stop
    (subst (λ place. AtPlace (λ t. OnRows (record { limit = old.step_limit; keys = Enforced; schema = docket_schema; table = t; params = given }) (mode_of old) None command db) place (Err stop)) (insert_means table).place
    (subst (λ (s : Schema). AtPlace (λ t. OnRows (record { limit = old.step_limit; keys = Enforced; schema = s; table = t; params = given }) (mode_of old) None command db) (slice_get s.tables (insert_means table).at) (Err stop)) sees.shows.schema h)) in
    decided (write_stops sql command given old new e one tt (λ h. let ended = ends None h in none_told ended.0 ended.1) ran) (ends (Some e))
  where
    decided : HasMakingCause old new e ⊎ Does old.step_limit (mode_of old) given old.now (statement_of (insert_text table) (understood old.now.schema (insert_text table))) None (inserting table) (Err (Some e))
        → (Does old.step_limit (mode_of old) given old.now (statement_of (insert_text table) (understood old.now.schema (insert_text table))) None (inserting table) (Err (Some e)) → IsEnded table old.step_limit (Some e))
        → HasAddCause table old new e
    decided (inl caused) ended = inl (open_caused old new e sees.shows.is_open caused)
    decided (inr refused) ended = let it = ended refused in told table old new e it.0 (same_told e it.0 it.1) it.2
