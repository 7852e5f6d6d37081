use Rattle.std.proofs.Common.{refl, ap}
use Rattle.std.specs.Cow.{cow_str_bytes}
use Rattle.docket_scan.specs.Dockets.{holdings_in}
use Rattle.job_runs.specs.Checks.{check_text}
use Rattle.job_runs.specs.Tells.{TellsText}
use Rattle.job_runs.proofs.AskLemmas.{fails, spares, tells}
use Rattle.job_runs.proofs.check.tell_check.Goals as goal

pub returns-in-Ok : goal.returns-in-Ok
returns-in-Ok g c = record {
  told = λ docket is files.
      let held = holdings_in docket.court docket.history in
      tells c.with.result c.in-Ok.left c.with.ensures.left docket _ (TellsText (check_text docket.court held)) _ _ (ap cow_str_bytes c.with.ensures.text) c.with.ensures.status
      (c.in-Ok.ensures.told docket is files) (c.check_told.ensures.told docket.court held);
  spared = spares c.with.result c.in-Ok.left c.with.ensures.left c.args.path.now _ _ _ c.in-Ok.ensures.spared;
}

pub returns-in-Err : goal.returns-in-Err
returns-in-Err g c = record {
  told = λ docket is files. fails c.in-Err.end docket (TellsText (check_text docket.court (holdings_in docket.court docket.history))) refl (c.in-Err.ensures.told docket is files);
  spared = c.in-Err.ensures.spared;
}
