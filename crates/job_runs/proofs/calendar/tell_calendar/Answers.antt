use Rattle.std.proofs.Common.{◌∙◌, refl, ap}
use Rattle.std.specs.Cow.{cow_str_bytes}
use Rattle.docket_calendar.specs.Calendar.{text_of_calendar}
use Rattle.job_runs.specs.Tells.{HasTold}
use Rattle.job_runs.proofs.AskLemmas.{fails, if_unopened, none_out, spares, tells}
use Rattle.job_runs.proofs.EndLemmas.{some_left}
use Rattle.job_runs.proofs.OutLemmas.{calendar_out}
use Rattle.job_runs.proofs.calendar.tell_calendar.Goals as goal

pub returns-in-Ok : goal.returns-in-Ok
returns-in-Ok g c = record {
  told = λ docket is files.
      let wanted = text_of_calendar docket.court docket.history c.args.from c.args.to in
      let before = g.W.Write.contents c.args.w.now in
      let after = g.W.Write.contents c.ask.new.w in
      tells c.with.result c.in-Ok.left c.with.ensures.left docket _ (HasTold wanted before after) _ _ (ap cow_str_bytes c.with.ensures.text ∙ c.of.ensures.text) (c.with.ensures.status ∙ c.of.ensures.status)
      (c.in-Ok.ensures.told docket is files)
      (λ lists. c.calendar_told.ensures wanted before after (calendar_out docket.court docket.history c.args.from c.args.to before after c.in-Ok.end lists));
  unopened = some_left c.with.result.left c.in-Ok.left _ (λ left. Unit {0}) c.with.ensures.left tt;
  spared = spares c.with.result c.in-Ok.left c.with.ensures.left c.args.path.now _ _ _ c.in-Ok.ensures.spared;
}

pub returns-in-Err : goal.returns-in-Err
returns-in-Err g c = record {
  told = λ docket is files.
      let wanted = text_of_calendar docket.court docket.history c.args.from c.args.to in
      let before = g.W.Write.contents c.args.w.now in
      let after = g.W.Write.contents c.ask.new.w in
      fails c.in-Err.end docket (HasTold wanted before after) (none_out before after wanted (ap g.W.Write.contents {x = c.ask.new.w} {y = c.args.w.now} c.in-Err.ensures.unwritten), refl) (c.in-Err.ensures.told docket is files);
  unopened = if_unopened c.in-Err.end.left _ (ap g.W.Write.contents {x = c.ask.new.w} {y = c.args.w.now} c.in-Err.ensures.unwritten);
  spared = c.in-Err.ensures.spared;
}
