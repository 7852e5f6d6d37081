use Rattle.command_forms.specs.Entered.{spec_of}
use Rattle.entry_pages.specs.CommandList.{field_lines}
use Rattle.entry_pages.proofs.FieldLemmas.{pushed_on}
use Rattle.entry_pages.proofs.command_list.push_each_field.Goals as goal

pub loop-field-preserved : goal.loop-field-preserved
loop-field-preserved c =
    pushed_on (λ e. field_lines c.args.kind (spec_of e)) c.args.fields.now c.loop-field.field-index _ _ _ _ c.loop-field-test.true c.loop-field.invariant c.in_ok-push_field.ensures
