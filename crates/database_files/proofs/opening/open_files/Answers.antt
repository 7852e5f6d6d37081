use Rattle.std.proofs.Common.{subst, inl, inr}
use Rattle.sqlite_pool.specs.Opening.{IsBlankFile}
use Rattle.sqlite.specs.Files.{image_of}
use Rattle.database_files.proofs.MakingLemmas.{err_both, finds_held, finds_none, ok_as}
use Rattle.database_files.proofs.opening.open_files.Goals as goal

pub returns-then-is_blank-clause-found : goal.returns-then-is_blank-clause-found
returns-then-is_blank-clause-found g c =
    let read = c.is_blank.ensures in
    ok_as _ _ c.make.result
    (λ conn made clean. finds_none c.args.files c.is_blank.new.files read.log read.db conn
    (λ still. subst (λ n. IsBlankFile n (image_of g.D.Disk c.args.files)) c.page_size-size.ensures (read.blank still c.if-is_blank.true)) (made clean))
    c.make.ensures.found

pub returns-then-is_blank-clause-failed : goal.returns-then-is_blank-clause-failed
returns-then-is_blank-clause-failed g c =
    err_both _ _ _ c.make.result
    (λ e cause unharmed. record { seen = c.is_blank.new.files; log = c.is_blank.ensures.log; db = c.is_blank.ensures.db; cause = cause; unharmed = λ clean. inr (unharmed clean) })
    c.make.ensures.cause c.make.ensures.unharmed

pub returns-clause-found : goal.returns-clause-found
returns-clause-found g c =
    let read = c.is_blank.ensures in
    ok_as _ _ c.open_files.result (λ conn found clean. finds_held c.args.files c.is_blank.new.files read.log read.db conn (found clean)) c.open_files.ensures.found

pub returns-clause-failed : goal.returns-clause-failed
returns-clause-failed g c =
    err_both _ _ _ c.open_files.result
    (λ e cause unharmed. record { seen = c.is_blank.new.files; log = c.is_blank.ensures.log; db = c.is_blank.ensures.db; cause = cause; unharmed = λ clean. inl (unharmed clean) })
    c.open_files.ensures.cause c.open_files.ensures.unharmed
