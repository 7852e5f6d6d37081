use Rattle.std.proofs.Common.{◌∙◌, ap}
use Rattle.clap.specs.Simple.{app_of_fields}
use Rattle.clap.specs.declared.builder.command.Command.TheOpen.{Command-F}
use Rattle.clap.specs.declared.builder.command.Command.{Command}
use Rattle.std.proofs.Common.{Bool}
use Rattle.docket_jobs.proofs.command_line.subcommand.Goals as goal

abbrev globals : Command-F Command → Bool
globals fields = fields.has_globals

pub returns : goal.returns
returns c = (
  ap app_of_fields c.after_help.ensures ∙ (ap app_of_fields c.about.ensures ∙ c.new.ensures.app),
  ap globals c.after_help.ensures ∙ (ap globals c.about.ensures ∙ c.new.ensures.local),
)
