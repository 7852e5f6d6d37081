use Rattle.entry_pages.specs.CommandList.{choice_line}
use Rattle.entry_pages.proofs.FieldLemmas.{pushed_on}
use Rattle.entry_pages.proofs.command_list.push_each_choice.Goals as goal

pub loop-choice-preserved : goal.loop-choice-preserved
loop-choice-preserved c =
    pushed_on (λ choice. choice_line (choice.0.now, choice.1.now)) c.args.choices.now c.loop-choice.choice-index _ _ _ _ c.loop-choice-test.true c.loop-choice.invariant c.in_ok-push_choice.ensures
