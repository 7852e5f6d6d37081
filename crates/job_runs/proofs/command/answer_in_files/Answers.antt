use Rattle.command_lines.specs.declared.fault.RunFault.TheVariants as run
use Rattle.file_changes.proofs.RunLemmas.{some_all}
use Rattle.job_runs.specs.Jobs.{new_docket}
use Rattle.job_runs.proofs.RunLemmas.{not_begun}
use Rattle.job_runs.proofs.command.answer_in_files.Goals as goal

pub returns-in-Ok : goal.returns-in-Ok
returns-in-Ok g c = record { runs = c.answer_of_new.ensures.runs }

pub returns-in-Err : goal.returns-in-Err
returns-in-Err g c = record {
  runs = λ honest.
      some_all (g.R.Read.remaining c.args.r.now) _ (λ input.
      not_begun (new_docket c.args.court) input (g.W.Write.contents c.args.w) (g.W.Write.contents c.out_of_memory.new.w) run.NoMemory c.out_of_memory.result
      c.out_of_memory.ensures.status c.out_of_memory.ensures.told);
}
