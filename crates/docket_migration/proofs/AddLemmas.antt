-- What each CREATE leaves of a database of any schema, and what both leave.
use Rattle.std.proofs.Common.{◌≡◌, ◌&&◌, ℕ, true, [], Ok, refl, subst, sym}
use Rattle.std.proofs.lemmas.Bool.{and_from}
use Rattle.sqlite_schema.specs.Names.{same_name}
use Rattle.sqlite_rules.proofs.ListLemmas.{some_from}
use Rattle.sqlite_schema.specs.declared.schema.Table.{Table as Shape}
use Rattle.sqlite.specs.Effect.{Database}
use Rattle.sqlite.specs.Listing.{listing_schema}
use Rattle.sqlite.specs.State.{State, Executes}
use Rattle.sqlite_tied.specs.Compute.{everything}
use Rattle.docket_migration.specs.Growing.{IsNew}
use Rattle.docket_migration.specs.Keeping.{GoesOnWith}
use Rattle.docket_tables.specs.Schema.{definition_of}
use Rattle.docket_scan.specs.Shapes.{columns_of, has_columns, has_table, name_of}
use Rattle.docket_tables.specs.Texts.{create_text}
use Rattle.docket_tables.specs.declared.table.Table.{Table}
use Rattle.docket_tables.specs.declared.table.Table.TheVariants.{ShortDays, LocalRules}
use Rattle.docket_migration.proofs.ExtendLemmas.{MakesOne, extends_then, grows}
use Rattle.docket_migration.proofs.KeepLemmas.{there_still}

creates_one : (table : Table) → IsNew table → MakesOne (create_text table) (definition_of table)
unfolding everything listing_schema
creates_one ShortDays lacks = record { parsed = _; first_is = refl; creates = (_, refl, refl); whole = refl; lists = refl; defined = refl; refers = refl }
creates_one LocalRules lacks = record { parsed = _; first_is = refl; creates = (_, refl, refl); whole = refl; lists = refl; defined = refl; refers = refl }
creates_one table lacks = absurd (lacks tt)

-- what is defined is a table of the docket, at whatever tree
is_found : (table : Table) (tree : ℕ) → IsNew table → (same_name (definition_of table).name (name_of table) ≡ true) × (has_columns (definition_of table).columns (columns_of table) ≡ true)
unfolding same_name
is_found ShortDays tree lacks = (refl, refl)
is_found LocalRules tree lacks = (refl, refl)
is_found table tree lacks = absurd (lacks tt)

pub one_added : (table : Table) → IsNew table → (old new : State) (count : ℕ) → Executes (create_text table) [] old new (Ok count) → GoesOnWith (λ t. t ≡ table) old.now new.now
one_added table lacks old new count ran =
    let it = grows (create_text table) (definition_of table) (creates_one table lacks) old new count ran in
    let found = is_found table 0 lacks in
    record {
      goes_on = it.extends;
      there = λ t same. subst (λ u. has_table new.now.schema u ≡ true) (sym same) (some_from (λ (f : Shape). same_name f.name (name_of table) && has_columns f.columns (columns_of table)) new.now.schema.tables _ it.stands (and_from _ _ found.0 found.1));
      live = it.live;
    }

pub both_added : (old mid new : Database) → GoesOnWith (λ t. t ≡ ShortDays) old mid → GoesOnWith (λ t. t ≡ LocalRules) mid new → GoesOnWith IsNew old new
both_added old mid new p q = record {
  goes_on = extends_then old mid new p.goes_on q.goes_on;
  there = there;
  live = q.live;
}
  where
    there : (table : Table) → IsNew table → has_table new.schema table ≡ true
    there ShortDays lacks = there_still ShortDays mid.schema new.schema q.goes_on.more q.goes_on.tables (p.there ShortDays refl)
    there LocalRules lacks = q.there LocalRules refl
    there table lacks = absurd (lacks tt)
