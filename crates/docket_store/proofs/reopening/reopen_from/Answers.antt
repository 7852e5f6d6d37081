use Rattle.std.proofs.Common.{Bool, List, ℕ, cond, inl, refl, sym, ap₂, subst, ◌∙◌}
use Rattle.sqlite_disk.specs.Events.{Event, replay}
use Rattle.sqlite_wal.specs.Files.{image_at}
use Rattle.sqlite_wal.specs.Recovery.{Image}
use Rattle.sqlite_store.specs.Laws.{settled_at}
use Rattle.sqlite.proofs.FileLemmas.{same_image}
use Rattle.docket_columns.specs.declared.version.Version.TheVariants.{Second}
use Rattle.docket_tables.specs.Stands.{IsImageIn}
use Rattle.docket_applying.specs.Applying.{docket_rows}
use Rattle.docket_store.specs.Left.{HoldSome, StillHolds}
use Rattle.docket_store.proofs.LeftLemmas.{fresh_file, still_holds}
use Rattle.docket_store.proofs.ReopeningLemmas.{err_either, holds_again, if_left, if_ok, image_known, stands_again, stands_for_either}
use Rattle.docket_store.proofs.reopening.reopen_from.Goals as goal

abbrev image : List ℕ → List ℕ → Image
image log db = record { log = log; db = db }

abbrev seen : List ℕ → List ℕ → Bool → List Event → List ℕ
seen log db is_log history = (replay (cond is_log log db) history).seen

pub returns-clause-rows : goal.returns-clause-rows
returns-clause-rows g c v rows held =
    if_ok _ _ _ _ c.open_at.result
    (λ conn new opened found. holds_again (image_at g.S.Start) conn new opened found (settled_at conn.store (λ _. inl refl)) v rows held)
    c.open_at.ensures.fresh c.open_at.ensures.opened c.open_at.ensures.found

pub returns-clause-docket : goal.returns-clause-docket
returns-clause-docket g c court h held =
    if_ok _ _ _ _ c.open_at.result
    (λ conn new opened found. stands_again (image_at g.S.Start) conn new opened found (settled_at conn.store (λ _. inl refl)) court h held)
    c.open_at.ensures.fresh c.open_at.ensures.opened c.open_at.ensures.found

pub returns-clause-either : goal.returns-clause-either
returns-clause-either g c court h next held =
    if_ok _ _ _ _ c.open_at.result
    (λ conn new opened found. stands_for_either (image_at g.S.Start) conn new opened found (settled_at conn.store (λ _. inl refl)) court h next held)
    c.open_at.ensures.fresh c.open_at.ensures.opened c.open_at.ensures.found

pub returns-clause-unharmed : goal.returns-clause-unharmed
returns-clause-unharmed g c v rows held =
    if_left _ _ (λ e left cause clean.
    let log = cause.1 in
    let db = cause.2 in
    let failed = cause.3 in
    let same = same_image failed.log failed.db ∙ ap₂ image (ap₂ (seen g.S.Start.log g.S.Start.db) log.0 log.1) (ap₂ (seen g.S.Start.log g.S.Start.db) db.0 db.1) in
    subst (λ (i : Image). StillHolds i left (IsImageIn v rows)) same
    (still_holds _ failed.seen
    (λ i may. ap₂ image (fresh_file _ _ _ _ _ _ _ log.0 log.1 i.log (failed.log.crash i.log may.0)) (fresh_file _ _ _ _ _ _ _ db.0 db.1 i.db (failed.db.crash i.db may.1)) ∙ sym same)
    (IsImageIn v rows) (image_known v rows) (subst (HoldSome (IsImageIn v rows)) (sym same) held) left (failed.unharmed clean))) c.open_at.result c.open_at.ensures.failed

pub returns-clause-either_unharmed : goal.returns-clause-either_unharmed
returns-clause-either_unharmed g c court h next =
    err_either _ _ _ _ c.open_at.result (returns-clause-unharmed g c Second (docket_rows court h)) (returns-clause-unharmed g c Second (docket_rows court next))
