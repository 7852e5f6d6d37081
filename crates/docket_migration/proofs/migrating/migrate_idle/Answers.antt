use Rattle.std.proofs.Common.{◌≡◌, true, rules, arith}
use Rattle.docket_columns.specs.declared.version.Version.TheVariants.{First}
use Rattle.docket_decisions.specs.Tables.{rows_of}
use Rattle.docket_tables.specs.Contents.{rows_by}
use Rattle.docket_migration.specs.Keeping.{is_court_apart}
use Rattle.docket_migration.proofs.MigrateLemmas.{has_court, not_found, told_not_found, still_holds, then_migrates, then_told}
use Rattle.docket_migration.proofs.migrating.migrate_idle.Goals as goal

pub returns-in-Err-clause-docket : goal.returns-in-Err-clause-docket
returns-in-Err-clause-docket g c court h settings zone history commands none was =
    let told = c.in-Err.ensures in
    not_found g.S.Store c.args.conn.now c.find_docket.new.conn told.writes_nothing court h c.in-Err.fault was (told.mode c.requires) (λ clean. told.docket clean court h settings zone history commands none was)

pub returns-in-Err-clause-told : goal.returns-in-Err-clause-told
returns-in-Err-clause-told g c =
    let told = c.in-Err.ensures in
    told_not_found g.S.Store c.args.conn.now c.find_docket.new.conn told.writes_nothing c.in-Err.fault told.told

pub returns-clause-docket : goal.returns-clause-docket
returns-clause-docket g c court h settings zone history commands none was =
    let told = c.in_default.ensures in
    let holds = still_holds g.S.Store c.args.conn.now c.find_docket.new.conn told.writes_nothing c.in_default.field-0 told.told (rows_by First court (rows_of court h)) was (told.mode c.requires) in
    then_migrates g.S.Store c.args.conn.now c.find_docket.new.conn told.writes_nothing c.change_judged.new.conn c.change_judged.ensures.clean court h c.change_judged.result
    (c.change_judged.ensures.docket court h none holds)

pub returns-clause-told : goal.returns-clause-told
returns-clause-told g c =
    let told = c.in_default.ensures in
    let has = has_court g.S.Store c.args.conn.now c.find_docket.new.conn told.writes_nothing c.in_default.field-0 told.told in
    let apart : is_court_apart c.find_docket.new.conn.schema ≡ true = search rules in
    then_told g.S.Store c.args.conn.now c.find_docket.new.conn told.writes_nothing c.change_judged.new.conn c.change_judged.ensures.clean c.in_default.field-0 told.told c.change_judged.result
    c.change_judged.ensures.only c.change_judged.ensures.short
    (λ clean. c.change_judged.ensures.gone (has (omega (arith, c.change_judged.ensures.clean, clean))) apart clean)
    (λ clean. c.change_judged.ensures.may_go (has (omega (arith, c.change_judged.ensures.clean, clean))) apart clean)
