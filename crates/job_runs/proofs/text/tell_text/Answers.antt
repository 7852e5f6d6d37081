use Rattle.std.proofs.Common.{refl, ap}
use Rattle.std.specs.Cow.{cow_str_bytes}
use Rattle.job_runs.specs.Tells.{TellsIfAny}
use Rattle.job_runs.proofs.AskLemmas.{fails, spares, tells}
use Rattle.job_runs.proofs.EndLemmas.{failed_otherwise, said_missing}
use Rattle.job_runs.proofs.text.tell_text.Goals as goal

pub returns-in-Ok : goal.returns-in-Ok
returns-in-Ok g c = record {
  told = λ docket is files.
      let found = g.Q.Question.Text c.args.question docket.court docket.history in
      tells c.with.result c.in-Ok.left c.with.ensures.left docket _ (TellsIfAny found) _ _ (ap cow_str_bytes c.with.ensures.text) c.with.ensures.status
      (c.in-Ok.ensures.told docket is files) (c.told_if_any.ensures.told found);
  missing = said_missing c.args.missing.now c.with.result.status c.told_if_any.result.status (g.E.Write.contents c.args.e.now) (g.E.Write.contents c.ask.new.e) (g.E.Write.contents c.told_if_any.new.e)
      c.with.ensures.status (ap g.E.Write.contents c.in-Ok.ensures.silent) c.told_if_any.ensures.missing;
  spared = spares c.with.result c.in-Ok.left c.with.ensures.left c.args.path.now _ _ _ c.in-Ok.ensures.spared;
}

pub returns-in-Err : goal.returns-in-Err
returns-in-Err g c = record {
  told = λ docket is files. fails c.in-Err.end docket (TellsIfAny (g.Q.Question.Text c.args.question docket.court docket.history)) refl (c.in-Err.ensures.told docket is files);
  missing = failed_otherwise c.args.missing.now c.in-Err.end.status _ _ c.in-Err.ensures.failed.0;
  spared = c.in-Err.ensures.spared;
}
