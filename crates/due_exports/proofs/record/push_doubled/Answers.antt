use Rattle.due_exports.proofs.QuoteLemmas.{character_added, characters_ended}
use Rattle.due_exports.proofs.record.push_doubled.Goals as goal

pub loop-character-preserved : goal.loop-character-preserved
loop-character-preserved c = character_added _ _ _ _ _ c.in-Some.character c.in-Some.ensures.steps.0 c.in_ok-push_character.ensures c.loop-character.invariant

pub returns : goal.returns
returns c = characters_ended _ _ _ c.in-None.ensures.steps.0.0 c.loop-character.invariant
