use Rattle.std.proofs.Common.{Option, Result, Ok, Err}
use Rattle.std.proofs.lemmas.Result.{IfOk-weaker}
use Rattle.sqlite_disk.specs.declared.Disk.{Ghosts}
use Rattle.sqlite_wal.specs.Recovery.{Image}
use Rattle.sqlite.specs.Files.{IsCleanLeft, over_files}
use Rattle.sqlite.specs.declared.error.Error.{Error}
use Rattle.sqlite.specs.declared.file.Leftover.{Leftover}
use Rattle.docket_scan.specs.declared.fault.AdoptFault.{AdoptFault}
use Rattle.docket_columns.specs.declared.version.Version.TheVariants.{Second}
use Rattle.docket_tables.specs.Layouts.{Rows}
use Rattle.docket_store.specs.Left.{LeavesRows}
use Rattle.docket_store.specs.Reopening.{HoldRows}
use Rattle.file_dockets.specs.Keeping.{rows_told}
use Rattle.file_dockets.specs.Working.{IsDoneOn}
use Rattle.file_serving.specs.Serves.{IfUnserved, ServesOver}
use Rattle.file_serving.specs.declared.serving.ServeEnd.{ServeEnd}
use Rattle.file_serving.specs.declared.serving.ServeEnd.TheVariants.{NotAnnounced, NotListening, Stopped}
use Rattle.file_serving.specs.declared.serving.Service.{Service}
use Rattle.file_dockets.proofs.AdoptLemmas.{judged_on}
use Rattle.file_serving.proofs.LeftLemmas.{served_on}
use Rattle.file_serving.proofs.file.serve_on_file.Goals as goal

unserved : (P Q : Type 0) → (P → Q) → (outcome : Result (Result (Unit {0}) ServeEnd) AdoptFault) → IfUnserved outcome P → IfUnserved outcome Q
unserved P Q then (Ok (Ok done)) is = tt
unserved P Q then (Ok (Err (Stopped fault))) is = tt
unserved P Q then (Ok (Err (NotListening kind))) is = then is
unserved P Q then (Ok (Err (NotAnnounced kind))) is = then is
unserved P Q then (Err fault) is = then is

-- from a connection to the files that it leaves
stays_on : {D : Type 0} {g : Ghosts D} (start : Image) (service : Service) (failure : Option Error) (outcome : Result (Result (Unit {0}) ServeEnd) AdoptFault) (rest : Leftover D g) (rows : Rows)
    → IsDoneOn start (λ old new. ServesOver over_files old new service failure) outcome rest → HoldRows Second start rows → IsCleanLeft rest
    → IfUnserved outcome (LeavesRows rest rows rows)
stays_on start service failure outcome rest rows done files clean =
    unserved _ (LeavesRows rest rows rows) (λ holds. done.left rows rows holds clean) outcome (done.comes.stays rows (done.holds Second rows files))

pub returns-clause-serves : goal.returns-clause-serves
returns-clause-serves g c told is files =
    IfOk-weaker c.work_on_file.result _ _ (λ ended done. served_on _ c.args.service.now ended.failure ended.outcome ended.left done told is files) c.work_on_file.ensures.done

pub returns-clause-stays : goal.returns-clause-stays
returns-clause-stays g c told files =
    IfOk-weaker c.work_on_file.result _ _ (λ ended done. stays_on _ c.args.service.now ended.failure ended.outcome ended.left (rows_told told) done files) c.work_on_file.ensures.done

pub returns-clause-judged : goal.returns-clause-judged
returns-clause-judged g c = IfOk-weaker c.work_on_file.result _ _ (λ ended done. judged_on _ _ ended.failure ended.outcome ended.left done done.comes.adopts) c.work_on_file.ensures.done

pub returns-clause-unopened : goal.returns-clause-unopened
returns-clause-unopened g c = c.work_on_file.ensures.unopened

pub returns-clause-unserved : goal.returns-clause-unserved
returns-clause-unserved g c = c.work_on_file.ensures.unread
