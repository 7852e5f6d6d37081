use Rattle.std.proofs.Common.{◌∙◌}
use Rattle.clap.specs.Simple.{with_rule}
use Rattle.command_forms.specs.Entered.{spec_of}
use Rattle.docket_jobs.specs.EntryLine.{field_rule}
use Rattle.docket_jobs.proofs.LineLemmas.{argument_added, one_added, still_local}
use Rattle.docket_jobs.proofs.entry_line.with_fields.Goals as goal

pub loop-field-preserved : goal.loop-field-preserved
loop-field-preserved c = record {
  line =
      one_added with_rule (λ entered. field_rule (spec_of entered)) c.args.fields.now c.loop-field.field-index _ _ _ _ c.loop-field-test.true c.loop-field.invariant.line
      (argument_added _ _ _ _ (c.arg_of.ensures.rule ∙ c.field_argument.ensures) c.arg_of.ensures.local c.in_ok-command.ensures);
  local = still_local _ _ _ c.in_ok-command.ensures.globals c.arg_of.ensures.local ∙ c.loop-field.invariant.local;
}
