use Rattle.std.proofs.Common.{◌≡◌, false, rules}
use Rattle.docket_columns.specs.declared.version.Version.TheVariants.{First}
use Rattle.docket_decisions.specs.Tables.{rows_of}
use Rattle.docket_tables.specs.Contents.{rows_by}
use Rattle.docket_tables.specs.declared.table.Table.TheVariants as table
use Rattle.docket_scan.specs.Shapes.{has_named}
use Rattle.docket_migration.proofs.MigrateLemmas.{not_unnamed}
use Rattle.docket_migration.proofs.migrating.migrate.Goals as goal

pub returns-then-not-has_named-clause-docket : goal.returns-then-not-has_named-clause-docket
returns-then-not-has_named-clause-docket g c court h settings zone history commands short was clean =
    let none : has_named c.args.conn.now.schema table.Court ≡ false = search rules in
    not_unnamed g.S.Store c.args.conn.now (rows_by First court (rows_of court h)) was clean none
