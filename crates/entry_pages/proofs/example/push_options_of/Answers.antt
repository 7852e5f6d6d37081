use Rattle.command_forms.specs.Entered.{spec_of}
use Rattle.entry_pages.specs.Examples.{example_option}
use Rattle.entry_pages.proofs.FieldLemmas.{pushed_on}
use Rattle.entry_pages.proofs.example.push_options_of.Goals as goal

pub loop-entered-preserved : goal.loop-entered-preserved
loop-entered-preserved c =
    pushed_on (λ e. example_option c.args.kind (spec_of e)) c.args.fields.now c.loop-entered.entered-index _ _ _ _ c.loop-entered-test.true c.loop-entered.invariant c.in_ok-push_field.ensures
