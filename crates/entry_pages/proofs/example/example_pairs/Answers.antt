use Rattle.std.proofs.Common.{ap}
use Rattle.command_forms.specs.Forms.{texts_of}
use Rattle.entry_pages.proofs.ExampleLemmas.{pairs_joined}
use Rattle.entry_pages.proofs.example.example_pairs.Goals as goal

pub returns : goal.returns
returns c =
    pairs_joined c.args.kind c.entered_of.result.now c.word.result.now _ _ _ _ c.entered_of.ensures c.word.ensures
    (ap texts_of c.new-pairs.ensures.items) c.in_ok-push_pair.ensures c.in_ok-push_pair-2.ensures c.in_ok-push_each.ensures
