use Rattle.sqlite_store.specs.Laws.{settled_at}
use Rattle.sqlite.specs.Files.{image_of}
use Rattle.docket_store.proofs.ReopeningLemmas.{if_ok, leaves_docket, stands_again, stands_for_either}
use Rattle.docket_store.proofs.reopening.reopen.Goals as goal

pub returns-clause-docket : goal.returns-clause-docket
returns-clause-docket g c court h held =
    if_ok _ _ _ _ c.open_files.result
    (λ conn new opened found. stands_again (image_of g.D.Disk c.args.files) conn new opened (λ clean. (found clean).holds) (settled_at conn.store g.met.D.Disk.seen_may_stay) court h held)
    c.open_files.ensures.fresh c.open_files.ensures.opened c.open_files.ensures.found

pub returns-clause-either : goal.returns-clause-either
returns-clause-either g c it court h next leaves may =
    let held = leaves_docket it court h next (image_of g.D.Disk c.args.files) leaves may in
    if_ok _ _ _ _ c.open_files.result
    (λ conn new opened found. stands_for_either (image_of g.D.Disk c.args.files) conn new opened (λ clean. (found clean).holds) (settled_at conn.store g.met.D.Disk.seen_may_stay) court h next held)
    c.open_files.ensures.fresh c.open_files.ensures.opened c.open_files.ensures.found

pub returns-clause-clean : goal.returns-clause-clean
returns-clause-clean g c =
    if_ok _ _ _ _ c.open_files.result (λ conn new opened found clean. (found clean).honest) c.open_files.ensures.fresh c.open_files.ensures.opened
    c.open_files.ensures.found
