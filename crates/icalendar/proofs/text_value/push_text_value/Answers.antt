use Rattle.std.proofs.Common.{◌≡◌, true}
use Rattle.std.proofs.lemmas.Bool.{both_ways}
use Rattle.icalendar.proofs.Values.{Differs, value_kept, value_skipped, value_ended}
use Rattle.icalendar.proofs.text_value.push_text_value.Goals as goal
use Rattle.icalendar.proofs.text_value.push_text_value.Goals.{else-returned-via-then-returned+else-character-eq10, else-returned-via-else-returned}

pub loop-character-preserved : goal.loop-character-preserved
loop-character-preserved c =
    let other : c.loop-character.returned ≡ true → Differs 10 c.in-Some.character = elim c.else-returned.branch [
      | else-returned-via-then-returned+else-character-eq10 w ↦ λ _. w.if-character-eq10.false
      | else-returned-via-else-returned w ↦ λ h. absurd (both_ways _ w.if-returned.false h)
    ] in
    value_kept _ _ _ _ _ c.loop-character.returned c.in-Some.character c.in-Some.ensures.steps.0 other c.in_ok-push_escaped.ensures c.loop-character.invariant

pub loop-character-preserved-then-character-eq10 : goal.loop-character-preserved-then-character-eq10
loop-character-preserved-then-character-eq10 c =
    value_skipped _ _ _ _ c.in-Some.character c.in-Some.ensures.steps.0 c.if-character-eq10.true (rw c.if-returned.true at c.loop-character.invariant)

pub returns : goal.returns
returns c = value_ended _ _ _ c.loop-character.returned c.in-None.ensures.steps.0.0 c.loop-character.invariant
