-- Why a DELETE of the rows that a query finds fails: only for a cause, where no table refers to the table that loses them.
use Rattle.std.proofs.Common.{◌≡◌, ◌≢◌, inl, inr, ◌∙◌, ◌==◌, ◌||◌, ◌&&◌, ℕ, ℤ, pos, negsuc, zero, suc, Bool, not, nat_lt, List, [], ◌∷◌, length, length-append, true, false, cond, filter, None, Some, Option, Ok, Err, slice_get, refl, sym, ap, ap₂, subst, arith, true≢false}
use Rattle.std.specs.List.{AllByRecursion, list_all, list_any}
use Rattle.std.proofs.lemmas.Bool.{and_parts, or_parts, or_right, not-true}
use Rattle.sqlite.specs.declared.types.Value.TheVariants.{Int}
use Rattle.sqlite.specs.Edit.{Edit, edit_of, without_all}
use Rattle.sqlite.specs.Command.TheVariants.{Delete}
use Rattle.sqlite.specs.Does.{Does, OnRows, AtPlace}
use Rattle.sqlite.specs.Listing.{understood}
use Rattle.sqlite.specs.Order.{Row}
use Rattle.sqlite.specs.Program.{ProgramOverflows}
use Rattle.sqlite.specs.Rowids.TheVariants.{Given}
use Rattle.sqlite.specs.Rows.{Task, Deletes, Written}
use Rattle.sqlite.specs.Schema.{Schema}
use Rattle.sqlite.specs.State.{State, mode_of, ExecutesInside}
use Rattle.sqlite.specs.Table.{Table as Shape}
use Rattle.sqlite.specs.Term.{Term, lit, col}
use Rattle.sqlite.specs.Tree.{Trees}
use Rattle.sqlite.specs.declared.error.Error.{Error}
use Rattle.sqlite.proofs.Callers.{statement_of, one_step}
use Rattle.sqlite_catalog.specs.Listing.{IsSound}
use Rattle.sqlite_rules.specs.Action.{works, Writes as WritesEdit}
use Rattle.sqlite_rules.specs.Calls.{ids_of}
use Rattle.sqlite_rules.specs.Edit.{IsRefused}
use Rattle.sqlite_rules.specs.declared.error.Refusal.{Refusal}
use Rattle.sqlite_rules.specs.declared.error.Refusal.TheVariants.{Violates, Mismatch, NoRowid, BadReference, TooDeep}
use Rattle.sqlite_schema.specs.Program.{lets_of}
use Rattle.sqlite_schema.specs.Rules.{passes, Keeps, Refers, Obeys, ParentKey, parent_key, is_held, has_null, has_parent, is_among, clashes, guards, agree, references_fit}
use Rattle.sqlite_schema.specs.declared.program.Program.{Program}
use Rattle.sqlite_schema.specs.declared.schema.Among.TheVariants as among
use Rattle.sqlite_schema.specs.declared.schema.Constraint.TheVariants.{Datatype, NotNull, Check, PrimaryKey, Unique, ForeignKey}
use Rattle.sqlite_schema.specs.declared.schema.Keys.TheVariants.{Enforced}
use Rattle.sqlite_tied.specs.Compute.{everything}
use Rattle.sqlite_trees.proofs.ListLemmas.{all-filter, all_of, all_weaker, all_both}
use Rattle.sqlite_trees.specs.Tree.{with_tree, has_rowid, without_rowid}
use Rattle.sqlite_typing.specs.Types.{accepts_program}
use Rattle.docket_tables.specs.Causes.{HasMakingCause}
use Rattle.docket_tables.specs.Holds.{KeepsOthers, plain_query}
use Rattle.docket_tables.specs.Layouts.{Rows}
use Rattle.docket_tables.specs.Schema.{docket_schema, shape_of, tree_of}
use Rattle.docket_tables.specs.Stands.{Sees}
use Rattle.docket_tables.specs.Statements.{delete_text, delete_short_day_text, delete_end_text}
use Rattle.docket_tables.specs.Tables.{layout_of}
use Rattle.docket_tables.specs.declared.table.Table.TheVariants.{Calendar, ShortDays, Due}
use Rattle.docket_tables.proofs.DeleteLemmas.{numbered_in}
use Rattle.docket_tables.proofs.InsertLemmas.{went, same_value}
use Rattle.docket_tables.proofs.LayoutLemmas.{apart, together}
use Rattle.docket_tables.proofs.MakingCauses.{IsOne, write_caused}
use Rattle.docket_tables.proofs.QueryLemmas.{keeps_from}
use Rattle.docket_tables.proofs.UpdateCauses.{IsHalted, plain_mode}

-- what holds of none holds of none that a filter leaves
none_filtered : {X : Type 0} (P p : X → Bool) (xs : List X) → list_any P xs ≡ false → list_any P (filter p xs) ≡ false
none_filtered P p [] none = refl
none_filtered P p (x ∷ xs) none = go (none_filtered P p xs (or_parts _ _ none).1) (p x)
  where
    go : list_any P (filter p xs) ≡ false → (b : Bool) → list_any P (cond b (x ∷ filter p xs) (filter p xs)) ≡ false
    go more true = ap₂ (λ a b. a || b) (or_parts _ _ none).0 more
    go more false = more

-- the same, where rowids are taken out
pub all_left : (P : Row → Type 0) (ids : List ℤ) (rows : List Row) → AllByRecursion P rows → AllByRecursion P (without_all rows ids)
all_left P [] rows all = all
all_left P (id ∷ ids) rows all = all_left P ids (without_rowid id rows) (all-filter P (λ r. not (has_rowid id r)) rows all)

pub none_left : (P : Row → Bool) (ids : List ℤ) (rows : List Row) → list_any P rows ≡ false → list_any P (without_all rows ids) ≡ false
none_left P [] rows none = none
none_left P (id ∷ ids) rows none = none_left P ids (without_rowid id rows) (none_filtered P (λ r. not (has_rowid id r)) rows none)

-- the table has the rows that it had, but for some rowids
abbrev pub LosesRows : Trees → Trees → Shape → Type 0
LosesRows old new t = (ids : List ℤ) × (new t.tree ≡ without_all (old t.tree) ids)

-- each test that passed of each element passes, where it is weaker
weaker : {X : Type 0} (P R : X → Bool) → ((x : X) → P x ≡ true → R x ≡ true) → (xs : List X) → list_all P xs ≡ true → list_all R xs ≡ true
weaker P R f [] all = refl
weaker P R f (x ∷ xs) all = let parts = and_parts _ _ all in ap₂ (λ a b. a && b) (f x parts.0) (weaker P R f xs parts.1)

-- a test that no longer holds leaves the refusal of both
not_and : (a b c : Bool) → (b ≡ false → c ≡ false) → not (a && b) ≡ true → not (a && c) ≡ true
not_and false b c f h = refl
not_and true b c f h = ap not (f (not-true b h))

-- a row with a key that no other row has keeps it so where rows are lost
pub unique_left : (schema : Schema) (old new : Trees) (t : Shape) → LosesRows old new t → (row : Row) → passes Unique schema old t row ≡ true → passes Unique schema new t row ≡ true
unique_left schema old new t (ids, is) row =
    weaker (λ i. not (guards i t && clashes i.order i.columns (old t.tree) row)) (λ i. not (guards i t && clashes i.order i.columns (new t.tree) row))
    (λ i. not_and (guards i t) _ _ (λ none. subst (λ rows. clashes i.order i.columns rows row ≡ false) (sym is) (none_left _ ids (old t.tree) none))) schema.indexes

-- what holds of each row holds of each row that is left
rows_left : (P R : Row → Type 0) (old new : Trees) (t : Shape) → LosesRows old new t → ((row : Row) → P row → R row) → AllByRecursion P (old t.tree) → AllByRecursion R (new t.tree)
rows_left P R old new t (ids, is) f all = subst (AllByRecursion R) (sym is) (all_left R ids (old t.tree) (all_weaker P R f (old t.tree) all))

-- where tables lose rows, what was unique still is
pub keeps_unique : (schema : Schema) (old new : Trees) → AllByRecursion (LosesRows old new) schema.tables → Keeps Unique schema old → Keeps Unique schema new
keeps_unique schema old new lose =
    all_both (LosesRows old new) (λ t. AllByRecursion (λ row. passes Unique schema old t row ≡ true) (old t.tree)) (λ t. AllByRecursion (λ row. passes Unique schema new t row ≡ true) (new t.tree))
    (λ t less. rows_left _ _ old new t less (unique_left schema old new t less)) schema.tables lose

-- the key that a reference points to is of a table of the schema, and not of the one with this tree
abbrev pub is_elsewhere : Schema → ℕ → Option ParentKey → Bool
is_elsewhere schema tree None = true
is_elsewhere schema tree (Some key) = not (key.0 == tree) && list_any (λ t. t.tree == key.0) schema.tables

-- no table refers to the one with this tree
abbrev pub is_unreferred : Schema → ℕ → Bool
is_unreferred schema tree = list_all (λ t. list_all (λ ref. is_elsewhere schema tree (parent_key schema.tables ref)) t.references) schema.tables

-- the tree of another table is as it was
kept_at : (tables : List Shape) (tree at : ℕ) (old new : Trees) → AllByRecursion (λ t. t.tree ≢ tree → new t.tree ≡ old t.tree) tables → at ≢ tree
    → list_any (λ (t : Shape). t.tree == at) tables ≡ true → new at ≡ old at
kept_at [] tree at old new kept other some = absurd (true≢false (sym some))
kept_at (t ∷ tables) tree at old new kept other some = go (kept_at tables tree at old new kept.1 other) (t.tree == at) refl some
  where
    go : (list_any (λ (s : Shape). s.tree == at) tables ≡ true → new at ≡ old at) → (b : Bool) → (t.tree == at) ≡ b → (b || list_any (λ (s : Shape). s.tree == at) tables) ≡ true → new at ≡ old at
    go more true is any = subst (λ n. n ≢ tree → new n ≡ old n) (together t.tree at is) kept.0 other
    go more false is any = more any

-- a row has its parent still, where the other tables are as they were
held_still : (schema : Schema) (tree : ℕ) (old new : Trees) → KeepsOthers schema tree old new → (places : List ℕ) (row : Row) (key : Option ParentKey) → is_elsewhere schema tree key ≡ true
    → is_held old places row key ≡ true → is_held new places row key ≡ true
held_still schema tree old new kept places row None away held = held
held_still schema tree old new kept places row (Some key) away held =
    let parts = and_parts _ _ away in
    subst (λ rows. list_any (λ parent. agree key.2 key.1 parent places row) rows ≡ true) (sym (kept_at schema.tables tree key.0 old new kept (apart key.0 tree (not-true _ parts.0)) parts.1)) held

-- what follows from the second part of a choice may stand in its place
or_else : (a b c : Bool) → (b ≡ true → c ≡ true) → (a || b) ≡ true → (a || c) ≡ true
or_else true b c f h = refl
or_else false b c f h = f h

-- two tests that passed of each element make a third
both_pass : {X : Type 0} (P Q R : X → Bool) → ((x : X) → P x ≡ true → Q x ≡ true → R x ≡ true) → (xs : List X) → list_all P xs ≡ true → list_all Q xs ≡ true → list_all R xs ≡ true
both_pass P Q R f [] p q = refl
both_pass P Q R f (x ∷ xs) p q = let ps = and_parts _ _ p in let qs = and_parts _ _ q in ap₂ (λ a b. a && b) (f x ps.0 qs.0) (both_pass P Q R f xs ps.1 qs.1)

-- a test of all is one of each
all_true : {X : Type 0} (P : X → Bool) (xs : List X) → list_all P xs ≡ true → AllByRecursion (λ x. P x ≡ true) xs
all_true P [] all = tt
all_true P (x ∷ xs) all = let parts = and_parts _ _ all in (parts.0, all_true P xs parts.1)

-- where a table to which none refers loses rows, each row has its parents still
pub refers_still : (schema : Schema) (tree : ℕ) (old new : Trees) → is_unreferred schema tree ≡ true → KeepsOthers schema tree old new → AllByRecursion (LosesRows old new) schema.tables
    → Keeps ForeignKey schema old → Refers among.All schema new
refers_still schema tree old new away kept lose keeps =
    all_both (λ t. list_all (λ ref. is_elsewhere schema tree (parent_key schema.tables ref)) t.references ≡ true) _ _
    (λ t far both. rows_left _ _ old new t both.0
    (λ row. both_pass (λ ref. is_elsewhere schema tree (parent_key schema.tables ref)) (λ ref. has_parent schema.tables old row ref)
    (λ ref. not (is_among among.All ref) || has_parent schema.tables new row ref)
    (λ ref there had. or_right (not (is_among among.All ref)) _
    (or_else (has_null ref.columns row) _ _ (held_still schema tree old new kept ref.columns row (parent_key schema.tables ref) there) had)) t.references far) both.1)
    schema.tables (all_true _ schema.tables away)
    (all_both (LosesRows old new) (λ t. AllByRecursion (λ row. passes ForeignKey schema old t row ≡ true) (old t.tree))
    (λ t. LosesRows old new t × AllByRecursion (λ row. passes ForeignKey schema old t row ≡ true) (old t.tree))
    (λ t less all. (less, all)) schema.tables lose keeps)

-- each table loses rows where one does and the others are as they were
pub lose_at : (tables : List Shape) (tree : ℕ) (ids : List ℤ) (old new : Trees) → new tree ≡ without_all (old tree) ids → AllByRecursion (λ t. t.tree ≢ tree → new t.tree ≡ old t.tree) tables
    → AllByRecursion (LosesRows old new) tables
lose_at tables tree ids old new here = all_weaker _ _ (λ t kept. go t kept (t.tree == tree) refl) tables
  where
    go : (t : Shape) → (t.tree ≢ tree → new t.tree ≡ old t.tree) → (b : Bool) → (t.tree == tree) ≡ b → LosesRows old new t
    go t kept true is = (ids, subst (λ n. new n ≡ without_all (old n) ids) (sym (together t.tree tree is)) here)
    go t kept false is = ([], kept (apart t.tree tree is))

-- a tree that is set loses rows, and the others are as they were
with_fewer : (db : Trees) (tree : ℕ) (ids : List ℤ) (t : Shape) → LosesRows db (with_tree db tree (without_all (db tree) ids)) t
with_fewer db tree ids t = go (t.tree == tree) refl
  where
    go : (b : Bool) → (t.tree == tree) ≡ b → (found : List ℤ) × (cond b (without_all (db tree) ids) (db t.tree) ≡ without_all (db t.tree) found)
    go true is = (ids, ap (λ n. without_all (db n) ids) (sym (together t.tree tree is)))
    go false is = ([], refl)

-- the text deletes rows from a table to which no other refers, by a query that takes these parameters
pub record IsFreeDelete (schema : Schema) (sql : List ℕ) (at : ℕ) (table : Shape) (q : Program) (params : Row) : Type 0 where
  pub one : IsOne sql (length params) (Delete at q) (understood schema sql)
  pub place : slice_get schema.tables at ≡ Some table
  pub typed : accepts_program schema (lets_of q) q.body params ≡ true
  pub bounded : (db : Trees) → ProgramOverflows db params [] (lets_of q) q.body → ⊥
  pub fit : (removes : Bool) → references_fit schema table false removes ≡ true
  pub no_work : (olds : List Row) → works schema Enforced 0 table.tree olds [] ≡ []
  pub unreferred : is_unreferred schema table.tree ≡ true

module _ (schema : Schema) (sql : List ℕ) (at : ℕ) (table : Shape) (q : Program) (params : Row) (it : IsFreeDelete schema sql at table q params) where
  abbrev fewer : Trees → List ℤ → Edit
  fewer db ids = edit_of db table ids Given 0 []

  -- an edit that only takes rows out is not refused, where what was unique is
  unrefused : (db : Trees) (ids : List ℤ) → Keeps Unique schema db → (why : Refusal) → IsRefused schema Enforced db (fewer db ids) why → ⊥
  unrefused db ids unique (Violates Datatype) bad = true≢false bad
  unrefused db ids unique (Violates NotNull) bad = true≢false bad
  unrefused db ids unique (Violates Check) bad = true≢false bad
  unrefused db ids unique (Violates PrimaryKey) bad = true≢false bad
  unrefused db ids unique (Violates Unique) bad = bad (keeps_unique schema db (with_tree db table.tree (without_all (db table.tree) ids)) (all_of _ (with_fewer db table.tree ids) schema.tables) unique)
  unrefused db ids unique (Violates ForeignKey) bad = bad
  unrefused db ids unique Mismatch bad = true≢false bad
  unrefused db ids unique NoRowid bad = true≢false bad
  unrefused db ids unique BadReference bad = true≢false (sym (it.fit (nat_lt 0 (length ids))) ∙ bad)
  unrefused db ids unique TooDeep bad = bad

  -- nor does it stop in another way
  unstopped : (db : Trees) (ids : List ℤ) → Keeps Unique schema db → (stop : Option Refusal) → WritesEdit schema Enforced db (fewer db ids) (Err stop) → ⊥
  unstopped db ids unique stop (inl (why, refused, is)) = unrefused db ids unique why refused
  unstopped db ids unique stop (inr (inl (row, has, big, is))) = has
  unstopped db ids unique stop (inr (inr (after, applied, (zero, leads)))) = absurd (let is = leads.1 in cc)
  unstopped db ids unique stop (inr (inr (after, applied, (suc n, leads)))) =
      absurd (let none = ap length (sym leads.2 ∙ it.no_work _) in omega (arith, none, length-append leads.0 (leads.1 ∷ [])))

  abbrev task_in : Option ℕ → Task
  task_in limit = record { limit = limit; keys = Enforced; schema = schema; table = table; params = params }

  -- so the rows are deleted, unless the query comes to the limit
  undeleted : (limit : Option ℕ) (db : Trees) → Keeps Unique schema db → (stop : Option Error) → Deletes (task_in limit) q db (Err stop) → IsHalted limit stop
  undeleted limit db unique stop (inl (None, bad, is)) = absurd bad
  undeleted limit db unique stop (inl (Some e, inl mistyped, is)) = absurd (true≢false (sym it.typed ∙ mistyped.1))
  undeleted limit db unique stop (inl (Some e, inr (inl over), is)) = absurd (it.bounded db over.1)
  undeleted limit db unique stop (inl (Some e, inr (inr halted), is)) = (e, (let same = is in cc), halted.0, halted.1)
  undeleted limit db unique stop (inr (rows, found, inl (other, bad, is))) = absurd (unstopped db (ids_of rows) unique bad.0 bad.1)
  undeleted limit db unique stop (inr (rows, found, inr (next, edits, bad))) = absurd (let never = bad in cc)

  -- and then each row has its parents still
  refers_after : (limit : Option ℕ) (db : Trees) (done : Written) → Keeps ForeignKey schema db → Deletes (task_in limit) q db (Ok done) → Refers among.All schema done.trees
  refers_after limit db done keys ran =
      let found = went ran in
      let wrote = went found.2 in
      let ids : List ℤ = ids_of found.0 in
      let trees : done.trees ≡ wrote.0 = ap (λ (it : Written). it.trees) (same_value wrote.2) in
      let applied = one_step schema Enforced db wrote.0 (fewer db ids) (it.no_work _) wrote.1 in
      let after = refers_still schema table.tree db wrote.0 it.unreferred applied.tables (lose_at schema.tables table.tree ids db wrote.0 applied.rows applied.tables) keys in
      subst (Refers among.All schema) (sym trees) after

  -- so the whole statement ends, unless the query comes to the limit
  unended : (limit : Option ℕ) (db : Trees) → Obeys schema db → (stop : Option Error) → OnRows (task_in limit) plain_mode None (Delete at q) db (Err stop) → IsHalted limit stop
  unended limit db obeys stop (inl (other, bad, is)) = let halted = undeleted limit db (obeys.rules Unique) other bad in (halted.0, (let same = is in let also = halted.1 in cc), halted.2, halted.3)
  unended limit db obeys stop (inr (done, went, inl (other, bad, is))) = absurd (bad.0 (refers_after limit db done (obeys.rules ForeignKey) went))
  unended limit db obeys stop (inr (done, went, inr (in_doubt, tested, inl (other, bad, is)))) = absurd (let never = bad in cc)
  unended limit db obeys stop (inr (done, went, inr (in_doubt, tested, inr (rows, shown, bad)))) = absurd (let never = bad in cc)

  -- such a DELETE fails only for a cause
  pub delete_caused : (old new : State) (e : Error) → old.now.schema ≡ schema → IsSound old.now.schema old.now.trees → ExecutesInside 0 sql params old new (Err e) → HasMakingCause old new e
  delete_caused old new e has live ran =
      let one = subst (λ s. IsOne sql (length params) (Delete at q) (understood s sql)) (sym has) it.one in
      let sound : IsSound schema old.now.trees = subst (λ s. IsSound s old.now.trees) has live in
      let halts : (stop : Option Error) → Does old.step_limit (mode_of old) params old.now (statement_of sql (understood old.now.schema sql)) None (Delete at q) (Err stop) → IsHalted old.step_limit stop =
      λ stop h. unended old.step_limit old.now.trees sound.obeys stop
      (subst (λ o. AtPlace (λ t. OnRows (record { limit = old.step_limit; keys = Enforced; schema = schema; table = t; params = params }) (mode_of old) None (Delete at q) old.now.trees) o (Err stop)) it.place
      (subst (λ (s : Schema). AtPlace (λ t. OnRows (record { limit = old.step_limit; keys = Enforced; schema = s; table = t; params = params }) (mode_of old) None (Delete at q) old.now.trees) (slice_get s.tables at) (Err stop)) has h)) in
      write_caused sql (Delete at q) params old new e one tt
      (λ h. let halted = halts (Some e) h in let same : e ≡ halted.0 = (let is = halted.1 in cc) in inl (inr (inr (same ∙ halted.2, halted.3))))
      (λ h. let halted = halts None h in let never = halted.1 in cc) ran

-- a query of rowids with no aggregate sums nothing up
unsummed : (tree : ℕ) (keeps : List Term) (db : Trees) (params : Row)
    → ProgramOverflows db params [] [] (plain_query tree keeps (col 1 0 ∷ []) [] [] (lit (Int (negsuc 0)))) → ⊥
unsummed tree keeps db params (inl none) = none
unsummed tree keeps db params (inr (k, row, inside, is, none)) = none

-- what holds of both truth values
either : (P : Bool → Type 0) → P true → P false → (b : Bool) → P b
either P on off true = on
either P on off false = off

-- the three texts, under the schema

calendar_free : (n : ℕ) → IsFreeDelete docket_schema delete_text (layout_of Calendar).at (shape_of Calendar) (numbered_in Calendar) (Int (pos n) ∷ [])
unfolding understood everything
calendar_free n = record {
  one = (refl, refl, refl, (refl, refl));
  place = refl;
  typed = refl;
  bounded = λ db. unsummed (tree_of Calendar) (keeps_from Calendar 0 (0 ∷ [])) db (Int (pos n) ∷ []);
  fit = either (λ b. references_fit docket_schema (shape_of Calendar) false b ≡ true) refl refl;
  no_work = λ olds. refl;
  unreferred = refl;
}

short_day_free : (n : ℕ) → IsFreeDelete docket_schema delete_short_day_text (layout_of ShortDays).at (shape_of ShortDays) (numbered_in ShortDays) (Int (pos n) ∷ [])
unfolding understood everything
short_day_free n = record {
  one = (refl, refl, refl, (refl, refl));
  place = refl;
  typed = refl;
  bounded = λ db. unsummed (tree_of ShortDays) (keeps_from ShortDays 0 (0 ∷ [])) db (Int (pos n) ∷ []);
  fit = either (λ b. references_fit docket_schema (shape_of ShortDays) false b ≡ true) refl refl;
  no_work = λ olds. refl;
  unreferred = refl;
}

-- the row of the end of a deadline
abbrev pub end_keyed : Program
end_keyed = record { lets = []; body = plain_query (tree_of Due) (keeps_from Due 0 (0 ∷ 1 ∷ [])) (col 1 0 ∷ []) [] [] (lit (Int (negsuc 0))) }

end_free : (k n : ℕ) → IsFreeDelete docket_schema delete_end_text (layout_of Due).at (shape_of Due) end_keyed (Int (pos k) ∷ Int (pos n) ∷ [])
unfolding understood everything
end_free k n = record {
  one = (refl, refl, refl, (refl, refl));
  place = refl;
  typed = refl;
  bounded = λ db. unsummed (tree_of Due) (keeps_from Due 0 (0 ∷ 1 ∷ [])) db (Int (pos k) ∷ Int (pos n) ∷ []);
  fit = either (λ b. references_fit docket_schema (shape_of Due) false b ≡ true) refl refl;
  no_work = λ olds. refl;
  unreferred = refl;
}

-- the DELETE of a row of the calendar fails only for a cause
pub delete_calendar_caused : (n : ℕ) (rows : Rows) (old new : State) (e : Error) → Sees old rows → ExecutesInside 0 delete_text (Int (pos n) ∷ []) old new (Err e) → HasMakingCause old new e
delete_calendar_caused n rows old new e sees =
    delete_caused docket_schema delete_text (layout_of Calendar).at (shape_of Calendar) (numbered_in Calendar) (Int (pos n) ∷ []) (calendar_free n) old new e sees.shows.schema sees.shows.live

-- and so does that of a short day
pub delete_short_day_caused : (n : ℕ) (rows : Rows) (old new : State) (e : Error) → Sees old rows → ExecutesInside 0 delete_short_day_text (Int (pos n) ∷ []) old new (Err e) → HasMakingCause old new e
delete_short_day_caused n rows old new e sees =
    delete_caused docket_schema delete_short_day_text (layout_of ShortDays).at (shape_of ShortDays) (numbered_in ShortDays) (Int (pos n) ∷ []) (short_day_free n) old new e sees.shows.schema sees.shows.live

-- and that of the end of a deadline
pub delete_end_caused : (k n : ℕ) (rows : Rows) (old new : State) (e : Error) → Sees old rows → ExecutesInside 0 delete_end_text (Int (pos k) ∷ Int (pos n) ∷ []) old new (Err e) → HasMakingCause old new e
delete_end_caused k n rows old new e sees =
    delete_caused docket_schema delete_end_text (layout_of Due).at (shape_of Due) end_keyed (Int (pos k) ∷ Int (pos n) ∷ []) (end_free k n) old new e sees.shows.schema sees.shows.live
