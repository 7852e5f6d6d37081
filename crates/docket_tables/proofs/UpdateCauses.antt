-- An UPDATE of rows that stand fails only for a cause.
use Rattle.std.proofs.Common.{◌≡◌, inl, inr, ℕ, zero, suc, List, [], ◌∷◌, length, length-append, slice_get, true, false, None, Some, Option, Ok, Err, IsSome, sym, ap, subst, arith, true≢false, ◌∙◌, ◌⊎◌, ◌≢◌, ◌==◌, Bool, not, ◌&&◌, cond, ℤ, pos, negsuc, refl, option_map}
use Rattle.sqlite.specs.Edit.{Edit, edit_of}
use Rattle.sqlite.specs.Command.TheVariants.{Update}
use Rattle.sqlite.specs.Does.{Does, OnRows, AtPlace}
use Rattle.sqlite.specs.Effect.{Answers, edit_error}
use Rattle.sqlite.specs.Listing.{understood}
use Rattle.sqlite.specs.Order.{Row, number}
use Rattle.sqlite.specs.Program.{ProgramOverflows}
use Rattle.sqlite.specs.Rowids.TheVariants.{Given}
use Rattle.sqlite.specs.Rows.{Task, Updates, Written}
use Rattle.sqlite.specs.Schema.{Schema}
use Rattle.sqlite.specs.State.{State, mode_of, ExecutesInside}
use Rattle.sqlite.specs.Table.{Table as Shape}
use Rattle.sqlite.specs.Tree.{Trees}
use Rattle.sqlite.specs.declared.error.Error.{Error}
use Rattle.sqlite.specs.declared.error.Error.TheVariants.{SqliteFailure}
use Rattle.sqlite.specs.declared.error.ErrorCode.TheVariants.{OperationInterrupted}
use Rattle.sqlite.specs.declared.error.ErrorCode.TheVariants as code
use Rattle.sqlite.specs.declared.run.Mode.{Mode}
use Rattle.sqlite.proofs.Callers.{statement_of, one_step}
use Rattle.sqlite_rules.specs.Action.{works, Leads, Writes as WritesEdit}
use Rattle.sqlite_rules.specs.Calls.{ids_of}
use Rattle.sqlite_rules.specs.Edit.{IsRefused, IsOversized, Applies, taken_by}
use Rattle.sqlite_rules.specs.Lists.{Has}
use Rattle.sqlite_rules.specs.declared.error.Refusal.{Refusal}
use Rattle.sqlite_schema.specs.Program.{lets_of}
use Rattle.sqlite_schema.specs.Rules.{Refers, Keeps, passes, guards, clashes, has_parent, is_key_of, is_key_if_to, references_fit}
use Rattle.sqlite_schema.specs.declared.program.Program.{Program}
use Rattle.sqlite_schema.specs.declared.schema.Among.TheVariants as among
use Rattle.sqlite_schema.specs.declared.schema.Keys.TheVariants.{Enforced}
use Rattle.sqlite_typing.specs.Types.{accepts_program}
use Rattle.docket_tables.specs.Causes.{HasMakingCause}
use Rattle.docket_tables.specs.Schema.{docket_schema, tree_of, shape_of}
use Rattle.docket_tables.proofs.InsertLemmas.{went, same_value}
use Rattle.docket_tables.proofs.MakingCauses.{IsOne, write_caused}
use Rattle.std.specs.List.{AllByRecursion, list_all}
use Rattle.docket_tables.specs.Holds.{KeepsOthers, plain_query}
use Rattle.docket_tables.specs.declared.table.Table.TheVariants.{Cases, Parties, Entries, Deadlines, Acts, Due}
use Rattle.sqlite_schema.specs.declared.schema.Constraint.TheVariants.{Unique, ForeignKey}
use Rattle.docket_tables.proofs.LayoutLemmas.{apart, others_same}
use Rattle.sqlite_trees.proofs.ListLemmas.{all_of, all_weaker}
use Rattle.sqlite_trees.specs.Tree.{with_tree}
use Rattle.std.proofs.lemmas.Bool.Decides.{nat_tests}
use Rattle.std.proofs.lemmas.Bool.{and_from}
use Rattle.sqlite.specs.Term.{Term, lit}
use Rattle.sqlite.specs.declared.types.Value.TheVariants.{Int}
use lib.Ieee.{is_nan}
use Rattle.std.specs.Float.{NotNan}
use Rattle.docket_tables.proofs.HoldsLemmas.{and_yes}
use Rattle.sqlite_rules.specs.declared.error.Refusal.TheVariants.{NoRowid}

-- what is left: a limit on steps was set, and came
abbrev pub IsHalted : Option ℕ → Option Error → Type 0
IsHalted limit stop = (e : Error) × (stop ≡ Some e) × (e ≡ SqliteFailure OperationInterrupted) × IsSome limit

abbrev pub plain_mode : Mode
plain_mode = record { keys = Enforced; in_doubt = false; may_wait = false }

pub no_step : (n : ℕ) (after : Trees) (stop : Option Refusal) → Leads docket_schema Enforced n after [] (Err stop) → ⊥
no_step zero after stop h = let is = h.1 in cc
no_step (suc n) after stop h = omega (arith, ap length h.2, length-append h.0 (h.1 ∷ []))

-- an UPDATE of this table, by this query
module _ (table : Shape) (q : Program) (params : Row) (db : Trees) where
  abbrev pub edit_by : List Row → Edit
  edit_by found = edit_of db table (ids_of found) Given 1 found

  abbrev pub IsFound : List Row → Type 0
  IsFound found = Answers (record { schema = docket_schema; trees = db }) q params found

  -- neither its query nor what it writes is refused, but where there is no rowid, which may be for one reason
  pub record IsSafe (Spare : Type 0) : Type 0 where
    pub typed : accepts_program docket_schema (lets_of q) q.body params ≡ true
    pub exact : ProgramOverflows db params [] (lets_of q) q.body → ⊥
    pub no_work : (olds news : List Row) → works docket_schema Enforced 0 table.tree olds news ≡ []
    pub unrefused : (found : List Row) → IsFound found → (why : Refusal) → IsRefused docket_schema Enforced db (edit_by found) why → (why ≡ NoRowid) × Spare
    pub fits : (found : List Row) → IsFound found → (row : Row) → Has (edit_by found).news row → IsOversized docket_schema table row → ⊥
    pub refers : (found : List Row) → IsFound found → (next : Trees) → Applies docket_schema Enforced db (edit_by found) next → ¬ Refers among.All docket_schema next → ⊥

  module _ (Spare : Type 0) (safe : IsSafe Spare) where
    unstopped : (found : List Row) → IsFound found → (stop : Option Refusal) → WritesEdit docket_schema Enforced db (edit_by found) (Err stop) → (stop ≡ Some NoRowid) × Spare
    unstopped found is stop (inl (why, refused, same)) = let spare = safe.unrefused found is why refused in let it = spare.0 in ((let also = same in cc), spare.1)
    unstopped found is stop (inr (inl (row, has, big, same))) = absurd (safe.fits found is row has big)
    unstopped found is stop (inr (inr (after, applied, (n, leads)))) = absurd (no_step n after stop (rw (safe.no_work (taken_by db (edit_by found)) (edit_by found).news) at leads))

    abbrev task_in : Option ℕ → Task
    task_in limit = record { limit = limit; keys = Enforced; schema = docket_schema; table = table; params = params }

    abbrev IsEnded : Option ℕ → Option Error → Type 0
    IsEnded limit stop = IsHalted limit stop ⊎ ((stop ≡ Some (SqliteFailure code.NoRowid)) × Spare)

    unwritten : (limit : Option ℕ) (stop : Option Error) → Updates (task_in limit) q params db (Err stop) → IsEnded limit stop
    unwritten limit stop (inl (None, bad, is)) = absurd bad
    unwritten limit stop (inl (Some e, inl bad, is)) = absurd (true≢false (sym safe.typed ∙ bad.1))
    unwritten limit stop (inl (Some e, inr (inl over), is)) = absurd (safe.exact over.1)
    unwritten limit stop (inl (Some e, inr (inr halted), is)) = inl (e, (let same = is in cc), halted.0, halted.1)
    unwritten limit stop (inr (found, is, inl (other, bad, same))) =
        let spare = unstopped found is bad.0 bad.1 in
        let ended : stop ≡ other = (let it = same in cc) in
        inr (ended ∙ bad.2 ∙ ap (option_map edit_error) spare.0, spare.1)
    unwritten limit stop (inr (found, is, inr (next, wrote, bad))) = absurd (let never = bad in cc)

    applied : (limit : Option ℕ) (done : Written) → Updates (task_in limit) q params db (Ok done) → ¬ Refers among.All docket_schema done.trees → ⊥
    applied limit done h bad =
        let found = went h in
        let wrote = went found.2 in
        let edit : Edit = edit_by found.0 in
        let trees : done.trees ≡ wrote.0 = ap (λ (it : Written). it.trees) (same_value wrote.2) in
        safe.refers found.0 found.1 wrote.0 (one_step docket_schema Enforced db wrote.0 edit (safe.no_work (taken_by db edit) edit.news) wrote.1) (subst (λ t. ¬ Refers among.All docket_schema t) trees bad)

    unended : (at : ℕ) (limit : Option ℕ) (stop : Option Error) → OnRows (task_in limit) plain_mode None (Update at q) db (Err stop) → IsEnded limit stop
    unended at limit stop (inl (other, bad, is)) = let ended : stop ≡ other = (let it = is in cc) in subst (IsEnded limit) (sym ended) (unwritten limit other bad)
    unended at limit stop (inr (done, h, inl (other, bad, is))) = absurd (applied limit done h bad.0)
    unended at limit stop (inr (done, h, inr (in_doubt, tested, inl (other, bad, is)))) = absurd (let never = bad in cc)
    unended at limit stop (inr (done, h, inr (in_doubt, tested, inr (rows, shown, bad)))) = absurd (let never = bad in cc)

-- an UPDATE that is safe fails only for a cause
pub update_caused : (table : Shape) (q : Program) (at : ℕ) (sql : List ℕ) (params : Row) (Spare : Type 0) (old new : State) (e : Error) → slice_get docket_schema.tables at ≡ Some table
    → IsOne sql (length params) (Update at q) (understood docket_schema sql) → old.now.schema ≡ docket_schema → IsSafe table q params old.now.trees Spare → (e ≡ SqliteFailure code.NoRowid → Spare → ⊥)
    → ExecutesInside 0 sql params old new (Err e) → HasMakingCause old new e
update_caused table q at sql params Spare old new e place is_one has safe barred ran =
    let one = subst (λ s. IsOne sql (length params) (Update at q) (understood s sql)) (sym has) is_one in
    let ends : (stop : Option Error) → Does old.step_limit (mode_of old) params old.now (statement_of sql (understood old.now.schema sql)) None (Update at q) (Err stop)
    → IsEnded table q params old.now.trees Spare safe old.step_limit stop =
    λ stop h.
    let of_schema = subst (λ (s : Schema). AtPlace (λ t. OnRows (record { limit = old.step_limit; keys = Enforced; schema = s; table = t; params = params }) (mode_of old) None (Update at q) old.now.trees) (slice_get s.tables at) (Err stop)) has h in
    unended table q params old.now.trees Spare safe at old.step_limit stop
    (subst (λ o. AtPlace (λ t. OnRows (record { limit = old.step_limit; keys = Enforced; schema = docket_schema; table = t; params = params }) (mode_of old) None (Update at q) old.now.trees) o (Err stop)) place of_schema) in
    write_caused sql (Update at q) params old new e one tt (λ h. of_some (ends (Some e) h)) (λ h. of_none (ends None h)) ran
  where
    of_some : IsHalted old.step_limit (Some e) ⊎ ((Some e ≡ Some (SqliteFailure code.NoRowid)) × Spare) → HasMakingCause old new e
    of_some (inl halted) = let same : e ≡ halted.0 = (let is = halted.1 in cc) in inl (inr (inr (same ∙ halted.2, halted.3)))
    of_some (inr spared) = let same : e ≡ SqliteFailure code.NoRowid = (let is = spared.0 in cc) in absurd (barred same spared.1)

    of_none : IsHalted old.step_limit None ⊎ (◌≡◌ {A = Option Error} None (Some (SqliteFailure code.NoRowid)) × Spare) → ⊥
    of_none (inl halted) = let never = halted.1 in cc
    of_none (inr spared) = let never = spared.0 in cc

-- ---- what stands after a change of one table

-- each table is this one, or stands in another tree
abbrev pub AreApart : Shape → List Shape → Type 0
AreApart table ts = AllByRecursion (λ (t : Shape). ((t.tree == table.tree) ≡ false) ⊎ (t ≡ table)) ts

-- what holds of each row of each table holds still, where it holds of the rows of the table that changed
module _ (table : Shape) (old new : Trees) (P R : Shape → Row → Type 0) (here : AllByRecursion (R table) (new table.tree)) where
  still : (ts : List Shape) → AreApart table ts → AllByRecursion (λ (t : Shape). t.tree ≢ table.tree → new t.tree ≡ old t.tree) ts
      → AllByRecursion (λ (t : Shape). new t.tree ≡ old t.tree → (row : Row) → P t row → R t row) ts
      → AllByRecursion (λ (t : Shape). AllByRecursion (P t) (old t.tree)) ts → AllByRecursion (λ (t : Shape). AllByRecursion (R t) (new t.tree)) ts
  still [] parted kept step all = tt
  still (t ∷ ts) parted kept step all = (one parted.0, still ts parted.1 kept.1 step.1 all.1)
    where
      one : ((t.tree == table.tree) ≡ false) ⊎ (t ≡ table) → AllByRecursion (R t) (new t.tree)
      one (inl other) = let same = kept.0 (apart t.tree table.tree other) in subst (AllByRecursion (R t)) (sym same) (all_weaker (P t) (R t) (step.0 same) (old t.tree) all.0)
      one (inr is) = subst (λ (x : Shape). AllByRecursion (R x) (new x.tree)) (sym is) here

-- one tree with other rows, the others as they were
pub with_others : (db : Trees) (tree : ℕ) (rows : List Row) (ts : List Shape) → AllByRecursion (λ (t : Shape). t.tree ≢ tree → with_tree db tree rows t.tree ≡ db t.tree) ts
with_others db tree rows = all_of _ (λ (t : Shape) other. let no : (t.tree == tree) ≡ false = grind (arith, nat_tests, other) in ap (λ b. cond b rows (db t.tree)) no)

-- no unique list is broken elsewhere
pub keeps_unique : (table : Shape) (db : Trees) (rows : List Row) → AreApart table docket_schema.tables → Keeps Unique docket_schema db
    → AllByRecursion (λ row. passes Unique docket_schema (with_tree db table.tree rows) table row ≡ true) (with_tree db table.tree rows table.tree) → Keeps Unique docket_schema (with_tree db table.tree rows)
keeps_unique table db rows parted was here =
    let new = with_tree db table.tree rows in
    still table db new (λ t row. passes Unique docket_schema db t row ≡ true) (λ t row. passes Unique docket_schema new t row ≡ true) here docket_schema.tables parted (with_others db table.tree rows docket_schema.tables)
    (all_of (λ (t : Shape). new t.tree ≡ db t.tree → (row : Row) → passes Unique docket_schema db t row ≡ true → passes Unique docket_schema new t row ≡ true)
    (λ (t : Shape) same row h. subst (λ (own : List Row). list_all (λ i. not (guards i t && clashes i.order i.columns own row)) docket_schema.indexes ≡ true) (sym same) h) docket_schema.tables) was

-- each row has its parents where the cases and the deadlines stand as they stood
pub keeps_parents : (table : Shape) (old new : Trees) → AreApart table docket_schema.tables → KeepsOthers docket_schema table.tree old new
    → tree_of Cases ≢ table.tree → tree_of Deadlines ≢ table.tree → Keeps ForeignKey docket_schema old
    → AllByRecursion (λ row. passes ForeignKey docket_schema new table row ≡ true) (new table.tree) → Refers among.All docket_schema new
unfolding Rattle.sqlite_schema.specs.Names.same_name Rattle.sqlite_value.specs.Keys.joined
keeps_parents table old new parted kept cases_apart deadlines_apart was here =
    let cases = others_same table.tree old new kept Cases cases_apart in
    let deadlines = others_same table.tree old new kept Deadlines deadlines_apart in
    still table old new (λ t row. passes ForeignKey docket_schema old t row ≡ true) (λ t row. passes ForeignKey docket_schema new t row ≡ true) here docket_schema.tables parted kept (
      λ same row h. refl,
      (
        λ same row h. refl,
        (
          λ same row h. refl,
          (
            λ same row h. subst (λ (rows : List Row). list_all (has_parent docket_schema.tables (λ _. rows) row) (shape_of Parties).references ≡ true) (sym cases) h,
            (
              λ same row h. subst (λ (rows : List Row). list_all (has_parent docket_schema.tables (λ _. rows) row) (shape_of Entries).references ≡ true) (sym cases) h,
              (
                λ same row h. subst (λ (rows : List Row). list_all (has_parent docket_schema.tables (λ _. rows) row) (shape_of Deadlines).references ≡ true) (sym cases) h,
                (
                  λ same row h. subst (λ (rows : List Row). list_all (has_parent docket_schema.tables (λ _. rows) row) (shape_of Acts).references ≡ true) (sym deadlines) h,
                  (
                    λ same row h. refl,
                    (
                      λ same row h. subst (λ (rows : List Row). list_all (has_parent docket_schema.tables (λ _. rows) row) (shape_of Due).references ≡ true) (sym deadlines) h,
                      (λ same row h. refl, (λ same row h. refl, tt)),
                    ),
                  ),
                ),
              ),
            ),
          ),
        ),
      ),
    ) was

-- references that fit whatever an edit adds and removes
pub referred : (table : Shape) → list_all (is_key_of docket_schema) table.references ≡ true → list_all (λ (t : Shape). list_all (is_key_if_to docket_schema table) t.references) docket_schema.tables ≡ true
    → (adds removes : Bool) → references_fit docket_schema table adds removes ≡ true
referred table own others true true = and_from _ _ own others
referred table own others true false = and_yes _ ∙ own
referred table own others false true = others
referred table own others false false = refl

pub not_nan : (z : ℤ) → NotNan (number (Int z))
unfolding is_nan
not_nan (pos n) = tt
not_nan (negsuc n) = tt

-- a plain query sums nothing up
pub never_over : (tree : ℕ) (keeps shows : List Term) (db : Trees) (params : Row) → ProgramOverflows db params [] [] (plain_query tree keeps shows [] [] (lit (Int (negsuc 0)))) → ⊥
never_over tree keeps shows db params (inl none) = none
never_over tree keeps shows db params (inr (k, row, inside, is, none)) = none
