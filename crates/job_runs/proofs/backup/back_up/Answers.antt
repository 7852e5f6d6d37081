use Rattle.std.proofs.Common.{codes, refl, ap}
use Rattle.std.specs.Cow.{cow_str_bytes}
use Rattle.job_runs.specs.Tells.{TellsText}
use Rattle.job_runs.proofs.AskLemmas.{fails, spares, tells}
use Rattle.job_runs.proofs.backup.back_up.Goals as goal

pub returns-in-Ok : goal.returns-in-Ok
returns-in-Ok g c = record {
  told = λ docket is files.
      tells c.with.result c.in-Ok.left c.with.ensures.left docket _ (TellsText (codes "copied\n")) _ _ (ap cow_str_bytes c.with.ensures.text) c.with.ensures.status
      (c.in-Ok.ensures.told docket is files) (λ judged. c.copied.ensures.told);
  spared = spares c.with.result c.in-Ok.left c.with.ensures.left c.args.path.now _ _ _ c.in-Ok.ensures.spared;
}

pub returns : goal.returns
returns g c = record {
  told = λ docket is files. fails c.in-Err-ask.end docket (TellsText (codes "copied\n")) refl (c.in-Err-ask.ensures.told docket is files);
  spared = c.in-Err-ask.ensures.spared;
}
