use Rattle.std.proofs.Common.{List, Some, to_z, of_z, w64, refl, subst, sym}
use Rattle.sqlite_wal.specs.Files.{image_at}
use Rattle.command_forms.specs.declared.given.FieldText.{FieldText}
use Rattle.docket_jobs.specs.declared.job.Job.{Job}
use Rattle.docket_questions.specs.Dues.{text_of_dues}
use Rattle.docket_questions.specs.declared.dues.DueDays.TheVariants.{By}
use Rattle.docket_questions.specs.declared.dues.DueForm.{DueForm}
use Rattle.entry_lines.specs.declared.entry.Entry.{Entry}
use Rattle.job_runs.specs.Entering.{IsEntry}
use Rattle.job_runs.specs.Jobs.{Does, DoesEntry, TellsOf}
use Rattle.job_runs.specs.Tells.{TellsIfAny}
use Rattle.job_runs.proofs.AskLemmas.{whole_told}
use Rattle.job_runs.proofs.job.run_job.Goals as goal

pub returns-in-Serve-clause-does : goal.returns-in-Serve-clause-does
returns-in-Serve-clause-does g c =
    let served = c.serve_docket-end in
    subst (λ (j : Job). Does j (image_at g.S.Start) (g.R.Read.remaining c.args.r.now) (g.W.Write.contents c.args.w) (g.W.Write.contents served.new.w) served.result) (sym c.in-Serve.is)
    (served.ensures.serves _ c.service_of-service.ensures, served.ensures.unopened, served.ensures.untold)

pub returns-in-Enter-clause-does : goal.returns-in-Enter-clause-does
returns-in-Enter-clause-does g c =
    let entered = c.enter_words-end in
    let before = g.W.Write.contents c.args.w in
    let after = g.W.Write.contents entered.new.w in
    subst (λ (j : Job). Does j (image_at g.S.Start) (g.R.Read.remaining c.args.r.now) before after entered.result) (sym c.in-Enter.is)
    (subst (λ (given : List FieldText). (entry : Entry) × IsEntry c.in-Enter.kind c.in-Enter.key given entry × DoesEntry c.in-Enter.show (image_at g.S.Start) entry before after entered.result)
    c.as_slice-words.ensures.value entered.ensures.does)

pub returns-in-CalendarOf-clause-does : goal.returns-in-CalendarOf-clause-does
returns-in-CalendarOf-clause-does g c =
    let listed = c.tell_text-listed in
    let clock = to_z w64 (of_z w64 c.seconds_now-clock.result) in
    let output = g.W.Write.contents c.args.w in
    subst (λ (j : Job). Does j (image_at g.S.Start) (g.R.Read.remaining c.args.r.now) output output listed.result) (sym c.in-CalendarOf.is) (
      (
        clock,
        λ docket is files. whole_told listed.result docket _
            (subst (λ (form : DueForm). TellsOf docket (TellsIfAny (Some (text_of_dues docket.court docket.history form (By c.in-CalendarOf.due clock)))) listed.result)
            c.lines_of-form.ensures (listed.ensures.told docket is files)),
      ),
      refl,
    )

pub returns-in-Export-clause-does : goal.returns-in-Export-clause-does
returns-in-Export-clause-does g c =
    let exported = c.tell_text-exported in
    let output = g.W.Write.contents c.args.w in
    subst (λ (j : Job). Does j (image_at g.S.Start) (g.R.Read.remaining c.args.r.now) output output exported.result) (sym c.in-Export.is)
    ((to_z w64 (of_z w64 c.seconds_now-stamp.result), λ docket is files. whole_told exported.result docket _ (exported.ensures.told docket is files)), refl)
