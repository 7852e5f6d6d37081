use Rattle.std.proofs.Common.{◌∙◌, Bool, true, ap}
use Rattle.clap.specs.Simple.{App, app_of_fields, on_top}
use Rattle.clap.specs.declared.builder.command.Command.TheOpen.{Command-F}
use Rattle.clap.specs.declared.builder.command.Command.{Command}
use Rattle.docket_jobs.specs.CommandLine.{bare_line}
use Rattle.docket_jobs.proofs.command_line.bare_command.Goals as goal

abbrev globals : Command-F Command → Bool
globals fields = fields.has_globals

abbrev versioned : App → App
versioned = on_top (λ top. record top { has_version = true })

pub returns : goal.returns
unfolding bare_line
returns c =
    let named = ap app_of_fields c.in_ok-bin_name.ensures.0 ∙ c.new.ensures.app in
    let told = ap app_of_fields c.after_help.ensures ∙ (ap app_of_fields c.about.ensures ∙ named) in
    let local = ap globals c.after_help.ensures ∙ (ap globals c.about.ensures ∙ (ap globals c.in_ok-bin_name.ensures.0 ∙ c.new.ensures.local)) in
    (ap app_of_fields c.version.ensures ∙ ap versioned told, ap globals c.version.ensures ∙ local)
