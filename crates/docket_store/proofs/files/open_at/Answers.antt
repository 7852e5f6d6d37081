use Rattle.std.proofs.Common.{ℕ, Bool, cond, List, sym, ap₂, subst}
use Rattle.sqlite_disk.specs.Events.{Event, replay}
use Rattle.sqlite_wal.specs.Recovery.{Image}
use Rattle.sqlite.specs.Files.{HoldsDatabase}
use Rattle.docket_store.proofs.files.open_at.Goals as goal

abbrev image : List ℕ → List ℕ → Image
image log db = record { log = log; db = db }

abbrev seen : List ℕ → List ℕ → Bool → List Event → List ℕ
seen log db is_log history = (replay (cond is_log log db) history).seen

pub returns-in-Ok-open_files-clause-found : goal.returns-in-Ok-open_files-clause-found
returns-in-Ok-open_files-clause-found g c = λ clean trees held.
    let (log, db) = c.in-Ok.ensures.fresh in
    let same = ap₂ image (ap₂ (seen g.S.Start.log g.S.Start.db) log.0 log.1) (ap₂ (seen g.S.Start.log g.S.Start.db) db.0 db.1) in
    (c.in-Ok-open_files.ensures.found clean).holds trees (subst (λ i. HoldsDatabase i trees) (sym same) held)

pub returns-in-Err-open_files-clause-failed : goal.returns-in-Err-open_files-clause-failed
returns-in-Err-open_files-clause-failed g c = (c.in-Ok.files, c.in-Ok.ensures.fresh.0, c.in-Ok.ensures.fresh.1, c.in-Err-open_files.ensures.failed)
