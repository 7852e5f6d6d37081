use Rattle.std.proofs.Common.{◌∙◌, Bool, ap}
use Rattle.clap.specs.Simple.{app_of_fields}
use Rattle.clap.specs.declared.builder.command.Command.TheOpen.{Command-F}
use Rattle.clap.specs.declared.builder.command.Command.{Command}
use Rattle.docket_jobs.proofs.command_line.with_usage.Goals as goal

abbrev globals : Command-F Command → Bool
globals fields = fields.has_globals

pub returns-in-Enter : goal.returns-in-Enter
returns-in-Enter c line has = (ap app_of_fields c.override_usage.ensures ∙ has.0, ap globals c.override_usage.ensures ∙ has.1)
