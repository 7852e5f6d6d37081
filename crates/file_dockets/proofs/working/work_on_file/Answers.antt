use Rattle.sqlite_wal.specs.Files.{image_at}
use Rattle.docket_store.proofs.ReopeningLemmas.{err_told}
use Rattle.file_dockets.proofs.working.work_on_file.Goals as goal

pub returns-clause-done : goal.returns-clause-done
returns-clause-done g c = c.work_and_leave.ensures.done (image_at g.S.Start) c.in_ok-conn.ensures.rows

pub returns-clause-unread : goal.returns-clause-unread
returns-clause-unread g c = c.work_and_leave.ensures.unread

pub returns-in_err-conn-clause-unopened : goal.returns-in_err-conn-clause-unopened
returns-in_err-conn-clause-unopened g c v rows held =
    err_told _ c.from_residual.result c.in_err-conn.field-0.0 c.from_residual.ensures.1 (c.in_err-conn.ensures.unharmed v rows held)
