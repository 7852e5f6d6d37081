use Rattle.std.proofs.Common.{Result, sym, subst}
use Rattle.docket_applying.specs.declared.fault.Fault.{Fault}
use Rattle.command_lines.specs.declared.fault.RunFault.TheVariants.{Store}
use Rattle.file_changes.specs.declared.entering.Entered.{Entered}
use Rattle.job_runs.specs.Entering.{TellsEntry}
use Rattle.job_runs.proofs.entering.tell_entry.Goals as goal

pub returns-in-Err : goal.returns-in-Err
returns-in-Err g c =
    subst (λ (became : Result Entered Fault). TellsEntry became (g.W.Write.contents c.args.w.now) (g.W.Write.contents c.tell_end-in-Err.new.w) c.tell_end-in-Err.result) (sym c.in-Err.is)
    (Store c.in-Err.fault, c.tell_end-in-Err.ensures)
