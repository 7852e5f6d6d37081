use Rattle.docket_store.proofs.docket.Docket.migrate_watched.Goals as goal

pub returns-in-Ok-clause-migrated : goal.returns-in-Ok-clause-migrated
returns-in-Ok-clause-migrated g c court h is none stands =
    c.in-Ok.ensures.docket court h is.settings is.zone is.history is.commands none stands
