use Rattle.std.proofs.Common.{◌∙◌, option_copied, refl, ap}
use Rattle.std.specs.Cow.{cow_str_bytes}
use Rattle.file_questions.specs.CaseLists.{case_lines, cases_told}
use Rattle.job_runs.specs.Tells.{HasListed, no_such_case}
use Rattle.job_runs.proofs.AskLemmas.{fails, if_unopened, none_out, spares, tells}
use Rattle.job_runs.proofs.EndLemmas.{failed_otherwise, said_missing, some_left}
use Rattle.job_runs.proofs.cases.tell_cases.Goals as goal

pub returns-in-Ok : goal.returns-in-Ok
returns-in-Ok g c = record {
  told = λ docket is files.
      let rows = cases_told docket.history (option_copied c.args.wanted.now.label) (option_copied c.args.wanted.now.party) in
      let before = g.W.Write.contents c.args.w.now in
      let after = g.W.Write.contents c.ask.new.w in
      tells c.with.result c.in-Ok.left c.with.ensures.left docket _ (HasListed rows before after) _ _ (ap cow_str_bytes c.with.ensures.text ∙ c.of.ensures.text) (c.with.ensures.status ∙ c.of.ensures.status)
      (c.in-Ok.ensures.told docket is files) (c.list_told.ensures.told rows before after);
  unopened = some_left c.with.result.left c.in-Ok.left _ (λ left. Unit {0}) c.with.ensures.left tt;
  missing = said_missing no_such_case c.with.result.status c.list_told.result (g.E.Write.contents c.args.e.now) (g.E.Write.contents c.ask.new.e) (g.E.Write.contents c.list_told.new.e)
      (c.with.ensures.status ∙ c.of.ensures.status) (ap g.E.Write.contents c.in-Ok.ensures.silent) c.list_told.ensures.missing;
  spared = spares c.with.result c.in-Ok.left c.with.ensures.left c.args.path.now _ _ _ c.in-Ok.ensures.spared;
}

pub returns-in-Err : goal.returns-in-Err
returns-in-Err g c = record {
  told = λ docket is files.
      let rows = cases_told docket.history (option_copied c.args.wanted.now.label) (option_copied c.args.wanted.now.party) in
      let before = g.W.Write.contents c.args.w.now in
      let after = g.W.Write.contents c.ask.new.w in
      fails c.in-Err.end docket (HasListed rows before after) (none_out before after (case_lines rows) (ap g.W.Write.contents {x = c.ask.new.w} {y = c.args.w.now} c.in-Err.ensures.unwritten), refl) (c.in-Err.ensures.told docket is files);
  unopened = if_unopened c.in-Err.end.left _ (ap g.W.Write.contents {x = c.ask.new.w} {y = c.args.w.now} c.in-Err.ensures.unwritten);
  missing = failed_otherwise no_such_case c.in-Err.end.status _ _ c.in-Err.ensures.failed.0;
  spared = c.in-Err.ensures.spared;
}
