use Rattle.std.proofs.Common.{IfOk, List, subst}
use Rattle.clap.specs.Simple.{new_app}
use Rattle.clap.specs.Walk.{Rule, Text}
use Rattle.docket_jobs.specs.CommandLine.{HasLine, line_of, rules_of, with_rules}
use Rattle.docket_jobs.proofs.command_line.line_command.Goals as goal

pub returns : goal.returns
unfolding line_of
returns c =
    let Named : Text → Type 0 = λ name. IfOk c.with_arguments.result (HasLine (with_rules (new_app name) (rules_of c.args.verb))) in
    let Ruled : List Rule → Type 0 = λ rules. IfOk c.with_arguments.result (HasLine (with_rules (new_app c.word-word.result.now) rules)) in
    subst Named c.word-word.ensures (subst Ruled c.arguments_of.ensures (c.with_arguments.ensures _ (c.with_usage.ensures _ c.subcommand-command.ensures)))
