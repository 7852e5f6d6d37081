use Rattle.docket_jobs.specs.CommandLine.{docketctl}
use Rattle.docket_jobs.proofs.command_line.command.Goals as goal

pub returns : goal.returns
unfolding docketctl
returns c = c.with_lines.ensures _ c.in_ok-bare_command.ensures
