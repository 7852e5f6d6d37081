use Rattle.std.proofs.Common.{arith}
use Rattle.file_dockets.specs.Keeping.{rows_told}
use Rattle.file_dockets.proofs.KeepLemmas.{held}
use Rattle.file_changes.proofs.MigrateLemmas.{unmigrated}
use Rattle.file_changes.proofs.migrating.MigrateWorkUnitUnit.work.Goals as goal

pub returns-in-Ok-clause-comes : goal.returns-in-Ok-clause-comes
returns-in-Ok-clause-comes g c = record {
  migrated = λ told is known holds. held g.S.Store c.in-Ok.connection (rows_told told) (c.in-Ok.ensures.migrated told.court told.history is known holds);
  stays = λ told is known holds. tt;
  tells = c.in-Ok.ensures.told;
  trust = λ clean. omega (arith, c.in-Ok.ensures.clean, clean);
}

pub returns-clause-comes : goal.returns-clause-comes
returns-clause-comes g c =
    unmigrated g.S.Store c.args.conn c.in-Err.returned.connection c.from.result.connection c.in-Err.returned.fault c.from.result.outcome (λ clean. omega (arith, c.in-Err.ensures.clean, clean))
    c.from.ensures.1 c.from.ensures.0 (λ told. c.in-Err.ensures.migrated told.court told.history) c.in-Err.ensures.told
