use Rattle.std.proofs.Common.{inr, refl, ap}
use Rattle.std.specs.Cow.{cow_str_bytes}
use Rattle.job_runs.specs.Entering.{ShowsEntry}
use Rattle.job_runs.proofs.AskLemmas.{fails, spares, tells}
use Rattle.job_runs.proofs.entering.show.Goals as goal

pub returns-in-Ok : goal.returns-in-Ok
returns-in-Ok g c = record {
  told = λ docket is files.
      tells c.with.result c.in-Ok.left c.with.ensures.left docket _ (ShowsEntry docket c.args.entry.now) _ _ (ap cow_str_bytes c.with.ensures.text) c.with.ensures.status
      (c.in-Ok.ensures.told docket is files) (c.shown_told.ensures.told docket c.args.entry.now);
  spared = spares c.with.result c.in-Ok.left c.with.ensures.left c.args.path.now _ _ _ c.in-Ok.ensures.spared;
}

pub returns-in-Err : goal.returns-in-Err
returns-in-Err g c = record {
  told = λ docket is files. fails c.in-Err.end docket (ShowsEntry docket c.args.entry.now) (inr (refl, refl)) (c.in-Err.ensures.told docket is files);
  spared = c.in-Err.ensures.spared;
}
