use Rattle.std.proofs.Common.{◌≡◌, drop}
use Rattle.serde_json.specs.Data.{no_members}
use Rattle.serde_json.specs.View.{members_view}
use Rattle.command_forms.specs.Forms.{texts_of, with_pairs}
use Rattle.command_forms.proofs.line.object_of.Given as goal

abbrev pub invariant-loop-pair : goal.invariant-loop-pair
invariant-loop-pair l = with_pairs (texts_of (drop l.pair-index l.pairs)) (members_view l.members.entries) ≡ with_pairs (texts_of l.pairs) no_members
