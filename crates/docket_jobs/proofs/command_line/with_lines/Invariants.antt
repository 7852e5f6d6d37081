use Rattle.std.proofs.Common.{◌≡◌, drop, map}
use Rattle.std.specs.Prelude.{fold}
use Rattle.clap.specs.Simple.{app_of}
use Rattle.clap.specs.declared.builder.command.Command.TheViews.{out-Command as fields_of}
use Rattle.docket_jobs.specs.CommandLine.{line_of, with_line}
use Rattle.docket_jobs.proofs.command_line.with_lines.Given as goal

-- the program so far with the subcommands that are left is the program with all of them
abbrev pub invariant-loop-verb : goal.invariant-loop-verb
invariant-loop-verb l = record {
  line : fold with_line (app_of l.program) (map line_of (drop l.verb-index l.verbs)) ≡ fold with_line (app_of l.initial.program) (map line_of l.verbs);
  local : (fields_of l.program).has_globals ≡ (fields_of l.initial.program).has_globals;
}
