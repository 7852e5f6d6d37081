use Rattle.std.proofs.Common.{◌≡◌, drop, map}
use Rattle.clap.specs.Simple.{app_of}
use Rattle.clap.specs.declared.builder.command.Command.TheViews.{out-Command as fields_of}
use Rattle.docket_jobs.specs.CommandLine.{with_rules}
use Rattle.docket_jobs.specs.Arguments.{rule_read}
use Rattle.docket_jobs.proofs.argument.with_arguments.Given as goal

-- the command so far with the arguments that are left is the command with all of them
abbrev pub invariant-loop-argument : goal.invariant-loop-argument
invariant-loop-argument l = record {
  line : with_rules (app_of l.command) (map rule_read (drop l.argument-index l.arguments)) ≡ with_rules (app_of l.initial.command) (map rule_read l.arguments);
  local : (fields_of l.command).has_globals ≡ (fields_of l.initial.command).has_globals;
}
