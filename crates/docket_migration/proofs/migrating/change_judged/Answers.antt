use Rattle.std.proofs.Common.{Err, refl, subst}
use Rattle.docket_columns.specs.declared.version.Version.TheVariants.{First}
use Rattle.docket_decisions.specs.Tables.{rows_of}
use Rattle.docket_tables.specs.Contents.{rows_by, rows_in}
use Rattle.docket_tables.specs.Stands.{HoldsRows}
use Rattle.docket_migration.specs.Changing.{Changes}
use Rattle.docket_migration.proofs.MigrateLemmas.{moved_rows}
use Rattle.docket_migration.proofs.migrating.change_judged.Goals as goal

pub returns-in-Ok-clause-docket : goal.returns-in-Ok-clause-docket
returns-in-Ok-clause-docket g c court h may holds =
    let t = rows_of court h in
    subst (HoldsRows g.S.Store c.change_version.new.conn) (moved_rows court h may) (c.in-Ok.ensures.changed court t.next_row (rows_by First court t) refl holds)

pub returns-in-Err-StoreFailed-clause-docket : goal.returns-in-Err-StoreFailed-clause-docket
returns-in-Err-StoreFailed-clause-docket g c court h may holds =
    let t = rows_of court h in
    let before = rows_by First court t in
    subst (λ f. Changes g.S.Store c.args.conn.now c.change_version.new.conn before (rows_in court t) (Err f)) c.in-Err-StoreFailed.field-0-is
    (subst (λ next. Changes g.S.Store c.args.conn.now c.change_version.new.conn before next (Err c.in-Err-StoreFailed.field-0)) (moved_rows court h may)
    (c.in-Err-StoreFailed.ensures.changed court t.next_row before refl holds))
