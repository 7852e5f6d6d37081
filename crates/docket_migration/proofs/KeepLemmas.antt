-- What the change keeps of the tables of any schema.
use Rattle.std.proofs.Common.{◌≡◌, ◌≢◌, ◌∙◌, ◌++◌, ◌==◌, ◌&&◌, ◌||◌, inl, inr, ℕ, Bool, true, false, not, List, [], ◌∷◌, slice_get, Ok, Some, refl, sym, ap, subst, arith}
use Rattle.std.specs.List.{AllByRecursion, list_any}
use Rattle.std.proofs.lemmas.Bool.{and_from, and_parts, not-true, or_cases}
use Rattle.std.proofs.lemmas.Bool.Decides.{nat_tests}
use Rattle.std.proofs.lemmas.Option.{same_Some}
use Rattle.sqlite_schema.specs.Names.{same_name, table_named}
use Rattle.sqlite_schema.specs.declared.schema.Reference.{Reference}
use Rattle.sqlite_schema.specs.declared.schema.Schema.{Schema}
use Rattle.sqlite_schema.specs.declared.schema.Table.{Table as Shape}
use Rattle.sqlite_rules.specs.Lists.{Has}
use Rattle.sqlite_rules.proofs.ListLemmas.{all_from, all_has, has_left, some_from, some_has, test_has}
use Rattle.sqlite_trees.specs.Tree.{IsAscending}
use Rattle.sqlite.specs.Effect.{Database, IsDatabase}
use Rattle.sqlite.specs.Order.{Row}
use Rattle.sqlite.specs.State.{State, Executes}
use Rattle.docket_migration.specs.Keeping.{GoesOnWith, KeepsTables, RewritesCourt, has_courts_tree, is_court_apart, is_courts, refers_to_court}
use Rattle.docket_migration.specs.Growing.{IsNew}
use Rattle.docket_scan.specs.Scans.{AreRowsOf}
use Rattle.docket_scan.specs.Shapes.{columns_of, has_columns, has_table, name_of}
use Rattle.docket_tables.specs.declared.table.Table.{Table}
use Rattle.docket_tables.specs.declared.table.Table.TheVariants.{Court}
use Rattle.docket_migration.proofs.ExtendLemmas.{IsAlone, alone_still, nothing_acts, rewrites, same_together, stays_in}
use Rattle.docket_migration.proofs.KeptReads.{IsNamedOnce, rows_kept, there_in, there_on}
use Rattle.docket_migration.proofs.ListLemmas.{slice_has}
use Rattle.docket_migration.proofs.TextLemmas.{sets_version}
use Rattle.docket_migration.specs.Moving.{version_text}

-- names that come once do so in the first of the tables
once_in : (tables more : List Shape) → IsAscending (λ s t. same_name s.name t.name ≡ false) (tables ++ more) → IsAscending (λ s t. same_name s.name t.name ≡ false) tables
once_in [] more once = tt
once_in (t ∷ tables) more once = (all_from _ tables (λ u h. all_has _ (tables ++ more) u once.0 (has_left tables more u h)), once_in tables more once.1)

pub named_once_before : (a : Schema) (b : Database) (more : List Shape) → b.schema.tables ≡ a.tables ++ more → IsDatabase b → IsNamedOnce a
named_once_before a b more on live = once_in a.tables more (subst (IsAscending (λ s t. same_name s.name t.name ≡ false)) on live.lists.listed.named)

-- a table that is there stays there
pub there_still : (t : Table) (a b : Schema) (more : List Shape) → b.tables ≡ a.tables ++ more → has_table a t ≡ true → has_table b t ≡ true
there_still t a b more on has =
    let test : Shape → Bool = λ found. same_name found.name (name_of t) && has_columns found.columns (columns_of t) in
    let one = some_has test a.tables has in
    some_from test b.tables one.0 (subst (λ ts. Has ts one.0) (sym on) (has_left a.tables more one.0 one.1)) one.2

-- only the court has the court's name
not_courts_name : (t : Table) → t ≢ Court → same_name (name_of t) (name_of Court) ≡ false
unfolding same_name
not_courts_name Court other = absurd (other refl)
not_courts_name t other = refl

not_courts : (t : Table) (table : Shape) → t ≢ Court → same_name table.name (name_of t) ≡ true → is_courts table ≡ false
not_courts t table other named = go (is_courts table) refl
  where
    go : (b : Bool) → is_courts table ≡ b → is_courts table ≡ false
    go false is = is
    go true is = absurd (let both = same_together table.name (name_of t) (name_of Court) is named in let never = not_courts_name t other in cc)

-- the rows of a table behind the court's are kept
pub keeps_rows : (old new : State) → KeepsTables old.now new.now → (t : Table) → t ≢ Court → has_table old.now.schema t ≡ true → (rows : List Row) → AreRowsOf t old rows → AreRowsOf t new rows
keeps_rows old new it t other has rows h =
    let there = there_in t old.now.schema (named_once_before old.now.schema new.now it.more it.tables it.live) has in
    let tree = it.kept there.table (slice_has there.at there.table old.now.schema.tables there.is) (not_courts t there.table other there.same) in
    rows_kept t old.now.schema new.now.schema it.more it.tables there old new rows refl refl tree h

-- where the court stands apart, it stands alone
none_refers : (refs : List Reference) → list_any (λ (ref : Reference). same_name ref.parent (name_of Court)) refs ≡ false → AllByRecursion (λ (ref : Reference). same_name ref.parent (name_of Court) ≡ false) refs
none_refers [] none = tt
none_refers (ref ∷ refs) none = go (none_refers refs) (same_name ref.parent (name_of Court)) refl
  where
    go : (list_any (λ (r : Reference). same_name r.parent (name_of Court)) refs ≡ false → AllByRecursion (λ (r : Reference). same_name r.parent (name_of Court) ≡ false) refs)
        → (b : Bool) → same_name ref.parent (name_of Court) ≡ b → AllByRecursion (λ (r : Reference). same_name r.parent (name_of Court) ≡ false) (ref ∷ refs)
    go rest true is = absurd (let e = rw is at none in cc)
    go rest false is = (is, rest (rw is at none))

pub stands_alone : (schema : Schema) (court : Shape) → Has schema.tables court → is_courts court ≡ true → is_court_apart schema ≡ true → IsAlone (name_of Court) court.tree schema.tables
stands_alone schema court there named apart = record {
  refers = λ t h. none_refers t.references (not-true _ (tested t h).0);
  apart = λ t h same. elim (or_cases _ _ (tested t h).1) [
    | inl is ↦ is
    | inr lacks ↦ absurd (let has = shared t same in let none = not-true _ lacks in cc)
  ];
}
  where
    tested : (t : Shape) → Has schema.tables t → (not (refers_to_court t) ≡ true) × (is_courts t || not (has_courts_tree schema.tables t) ≡ true)
    tested t h = and_parts _ _ (test_has (λ (table : Shape). not (refers_to_court table) && (is_courts table || not (has_courts_tree schema.tables table))) schema.tables t apart h)

    shared : (t : Shape) → t.tree ≡ court.tree → has_courts_tree schema.tables t ≡ true
    shared t same = some_from (λ (c : Shape). is_courts c && (c.tree == t.tree)) schema.tables court there (and_from _ _ named (let equal : (court.tree == t.tree) ≡ true = grind (arith, nat_tests) in equal))

-- the version is set in the court's table, and no other changes
pub rewrites_court : (old : Database) (mid new : State) (count : ℕ) → GoesOnWith IsNew old mid.now → has_table old.schema Court ≡ true → is_court_apart old.schema ≡ true → Executes version_text [] mid new (Ok count)
    → RewritesCourt mid.now new.now
unfolding there_on
rewrites_court old mid new count on has apart ran =
    let first_one = there_in Court old.schema (named_once_before old.schema mid.now on.goes_on.more on.goes_on.tables on.live) has in
    let here = slice_has first_one.at first_one.table old.schema.tables first_one.is in
    let later = there_on Court old.schema mid.now.schema on.goes_on.more on.goes_on.tables first_one in
    let alone = alone_still (name_of Court) first_one.table old mid.now on.goes_on here (stands_alone old.schema first_one.table here first_one.same apart) in
    let found : (at : ℕ) (table : Shape) → table_named mid.now.schema (name_of Court) ≡ Some at → slice_get mid.now.schema.tables at ≡ Some table → table ≡ first_one.table =
    λ at table named place. let ats = same_Some at later.at (sym named ∙ later.named) in same_Some table first_one.table (sym place ∙ ap (slice_get mid.now.schema.tables) ats ∙ later.is) in
    let it = rewrites version_text (name_of Court) sets_version mid new count ran (λ at table named place olds news.
    nothing_acts (name_of Court) mid.now.schema table.tree (subst (λ (t : Shape). IsAlone (name_of Court) t.tree mid.now.schema.tables) (sym (found at table named place)) alone) olds news) in
    let table = found it.at it.table it.named it.place in
    record {
      schema = it.schema;
      live = it.live;
      kept = λ t h other. all_has _ mid.now.schema.tables t it.others h (λ same. let yes_it = alone.apart t h (same ∙ ap (λ (x : Shape). x.tree) table) in let never = other in absurd (cc));
    }

-- the one behind the other
pub keeps_tables : (old mid new : Database) → GoesOnWith IsNew old mid → RewritesCourt mid new → KeepsTables old new
keeps_tables old mid new on it = record {
  more = on.goes_on.more;
  tables = ap (λ (s : Schema). s.tables) it.schema ∙ on.goes_on.tables;
  kept = λ t h other. it.kept t (stays_in old mid on.goes_on t h) other ∙ on.goes_on.kept t h;
  there = λ t is. subst (λ s. has_table s t ≡ true) (sym it.schema) (on.there t is);
  live = it.live;
}
