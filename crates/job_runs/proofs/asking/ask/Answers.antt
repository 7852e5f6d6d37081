use Rattle.std.proofs.Common.{MatchResult, ap, subst}
use Rattle.sqlite_wal.specs.Files.{image_at}
use Rattle.file_dockets.specs.Keeping.{rows_told}
use Rattle.job_runs.specs.Spares.{SparesAsked, WereAsked}
use Rattle.job_runs.proofs.AskLemmas.{answered, failed, spared, unwritten}
use Rattle.job_runs.proofs.asking.ask.Goals as goal

pub returns-clause-told : goal.returns-clause-told
returns-clause-told g c docket is files =
    answered docket _ c.ask_on_file-ended.result c.done_on_docket.result (c.ask_on_file-ended.ensures.told docket is files) (c.ask_on_file-ended.ensures.only.stays (rows_told docket) files) c.done_on_docket.ensures.done

pub returns-clause-spared : goal.returns-clause-spared
returns-clause-spared g c =
    let files = image_at g.S.Start in
    let after = g.E.Write.contents c.done_on_docket.new.e in
    subst (λ before. MatchResult c.done_on_docket.result (WereAsked files) (SparesAsked c.args.path.now files before after)) (ap g.E.Write.contents {x = c.ready.new.e} {y = c.args.e.now} c.in-Ok.ensures.silent)
    (spared c.args.path.now files (g.E.Write.contents c.ready.new.e) after c.ask_on_file-ended.result c.done_on_docket.result c.ask_on_file-ended.ensures.only c.done_on_docket.ensures.said c.done_on_docket.ensures.done)

pub returns-clause-failed : goal.returns-clause-failed
returns-clause-failed g c = failed c.ask_on_file-ended.result c.done_on_docket.result c.done_on_docket.ensures.done

pub returns-clause-unwritten : goal.returns-clause-unwritten
returns-clause-unwritten g c = unwritten c.ask_on_file-ended.result c.done_on_docket.result _ c.ask_on_file-ended.ensures.unwritten c.done_on_docket.ensures.done
