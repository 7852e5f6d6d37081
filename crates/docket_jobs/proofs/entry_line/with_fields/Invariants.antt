use Rattle.std.proofs.Common.{◌≡◌, drop, map}
use Rattle.clap.specs.Simple.{app_of}
use Rattle.clap.specs.declared.builder.command.Command.TheViews.{out-Command as fields_of}
use Rattle.command_forms.specs.Entered.{spec_of}
use Rattle.docket_jobs.specs.CommandLine.{with_rules}
use Rattle.docket_jobs.specs.EntryLine.{field_rule}
use Rattle.docket_jobs.proofs.entry_line.with_fields.Given as goal

-- the command so far with the fields that are left is the command with all of them
abbrev pub invariant-loop-field : goal.invariant-loop-field
invariant-loop-field l = record {
  line : with_rules (app_of l.command) (map (λ entered. field_rule (spec_of entered)) (drop l.field-index l.fields))
      ≡ with_rules (app_of l.initial.command) (map (λ entered. field_rule (spec_of entered)) l.fields);
  local : (fields_of l.command).has_globals ≡ (fields_of l.initial.command).has_globals;
}
