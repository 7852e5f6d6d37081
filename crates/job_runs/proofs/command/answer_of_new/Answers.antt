use Rattle.std.proofs.Common.{[], Option, List, ℕ, arith}
use Rattle.std.proofs.KnownBytes.{Appends-nil}
use Rattle.command_lines.specs.declared.fault.RunFault.TheVariants as run
use Rattle.line_io.specs.Output.{AppendsFront}
use Rattle.file_changes.proofs.RunLemmas.{some_all, some_map}
use Rattle.job_runs.specs.Jobs.{new_docket}
use Rattle.job_runs.proofs.RunLemmas.{not_begun, told_in_memory}
use Rattle.job_runs.proofs.command.answer_of_new.Goals as goal

pub returns-in-Ok : goal.returns-in-Ok
returns-in-Ok g c = record {
  runs = λ honest.
      some_map (g.R.Read.remaining c.args.r.now) _ _ (λ input answers.
      told_in_memory (new_docket c.args.court) input (g.W.Write.contents c.args.w) (g.W.Write.contents c.answer_all-end.result.1) (g.W.Write.contents c.tell_end.new.w)
      c.answer_all-end.result.0 c.end_in_memory.result c.tell_end.result answers c.end_in_memory.ensures.same c.tell_end.ensures)
      (c.answer_all-end.ensures.answers (new_docket c.args.court) c.in-Ok.ensures.made honest);
}

pub returns-in-Err-NoMemory : goal.returns-in-Err-NoMemory
returns-in-Err-NoMemory g c = record {
  runs = λ honest.
      some_all (g.R.Read.remaining c.args.r.now) _ (λ input.
      not_begun (new_docket c.args.court) input (g.W.Write.contents c.args.w) (g.W.Write.contents c.out_of_memory.new.w) run.NoMemory c.out_of_memory.result
      c.out_of_memory.ensures.status c.out_of_memory.ensures.told);
}

pub returns : goal.returns
returns g c = record {
  runs = λ honest.
      let before : Option (List ℕ) = g.W.Write.contents c.args.w in
      let none : AppendsFront before before [] = record { count = 0; within = omega arith; front = Appends-nil before } in
      some_all (g.R.Read.remaining c.args.r.now) _ (λ input. not_begun (new_docket c.args.court) input before before run.WriteFailed c.failed.result c.failed.ensures.status none);
}
