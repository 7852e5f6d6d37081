use Rattle.std.proofs.Common.{◌∙◌, Bool, ap}
use Rattle.std.proofs.lemmas.Result.{IfOk-weaker}
use Rattle.clap.specs.Simple.{app_of_fields, new_app}
use Rattle.clap.specs.declared.builder.command.Command.TheOpen.{Command-F}
use Rattle.clap.specs.declared.builder.command.Command.{Command}
use Rattle.docket_jobs.proofs.entry_line.named_entry.Goals as goal

abbrev globals : Command-F Command → Bool
globals fields = fields.has_globals

pub returns : goal.returns
returns c =
    IfOk-weaker c.bin_name.result _ _
    (λ _ named. (ap app_of_fields named.0 ∙ (c.subcommand.ensures.0 ∙ ap new_app c.word-word.ensures), ap globals named.0 ∙ c.subcommand.ensures.1)) c.bin_name.ensures
