-- What a crash of both disks leaves is what the store could leave before.
use Rattle.std.proofs.Common.{◌≡◌, ◌∙◌, inl, inr, IsTrue, subst}
use Rattle.std.proofs.Math.Logic.{∥∥₁_elim}
use Rattle.std.proofs.lemmas.Bool.{and_parts, and_from}
use Rattle.sqlite_disk.specs.declared.Disk.{Ghosts}
use Rattle.sqlite_pool.proofs.StateLemmas.{clean_is, may_leave_is}
use Rattle.sqlite_store.specs.declared.store.FileStore.{FileStore}
use Rattle.sqlite_store.specs.FileStore.{view, files}
use Rattle.sqlite_trees.proofs.Doubt.{no_doubt}
use Rattle.sqlite_trees.specs.View.{IsClean}
use Rattle.sqlite_wal.specs.Files.{outcomes, seen_image}
use Rattle.sqlite_wal.specs.Reads.{AreClean}
use Rattle.sqlite_wal.specs.Recovery.{Image}
use Rattle.court_days.specs.Court.{CourtSettings}
use Rattle.docket_history.specs.Histories.{History}
use Rattle.docket_store.specs.Reopening.{HoldDocket, HoldEither, MayLeave}
use Rattle.power_failure.specs.PowerFailures.{IsLeftOf}

module _ {D : Type 0} {g : Ghosts D} (store : FileStore D g) (log db log_left db_left : D) (given : (log, db) ≡ files store)
    (log_clean : IsTrue (g.is_clean log_left) → IsTrue (g.is_clean log)) (db_clean : IsTrue (g.is_clean db_left) → IsTrue (g.is_clean db)) where
  were_clean : AreClean g log_left db_left → AreClean g (files store).0 (files store).1
  were_clean clean =
      let parts = and_parts _ _ clean in
      subst (λ p. AreClean g p.0 p.1) given (and_from _ _ (log_clean parts.0) (db_clean parts.1))

  pub store_clean : AreClean g log_left db_left → IsClean (view store)
  store_clean clean = no_doubt _ (clean_is store.pool ∙ were_clean clean)

  pub left_may : g.may_leave log (g.seen log_left) → g.may_leave db (g.seen db_left) → AreClean g log_left db_left
      → MayLeave store (seen_image g log_left db_left)
  left_may log_may db_may clean =
      may_leave_is store.pool (seen_image g log_left db_left) (were_clean clean)
      (subst (λ p. outcomes g p.0 p.1 (seen_image g log_left db_left)) given (log_may, db_may))

  pub left_of : g.may_leave log (g.seen log_left) → g.may_leave db (g.seen db_left) → IsLeftOf store (record { log = log_left; db = db_left })
  left_of log_may db_may = record {
    log = subst (λ p. g.may_leave p.0 (g.seen log_left)) given log_may;
    db = subst (λ p. g.may_leave p.1 (g.seen db_left)) given db_may;
  }

-- the one or the same
pub hold_one : (files : Image) (court : CourtSettings) (h : History) → HoldEither files court h h → HoldDocket files court h
hold_one files court h held = ∥∥₁_elim held squash₁ (λ one. elim one [ inl was ↦ was | inr is ↦ is ])
