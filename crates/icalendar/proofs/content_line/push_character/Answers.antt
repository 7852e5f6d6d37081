use Rattle.icalendar.proofs.Folding.{stayed, moved}
use Rattle.icalendar.proofs.content_line.push_character.Goals as goal

pub returns-in_ok-push-clause-folded : goal.returns-in_ok-push-clause-folded
returns-in_ok-push-clause-folded c =
    moved _ _ _ c.args.at c.args.character _ c.in_ok-push_str.ensures.bytes c.in_ok-push.ensures.bytes c.len_utf8-octets.ensures.value
    c.if-at-octets-gt-MAX_OCTETS.true

pub returns-in_ok-push-2-clause-folded : goal.returns-in_ok-push-2-clause-folded
returns-in_ok-push-2-clause-folded c =
    stayed _ _ c.args.at c.args.character _ c.in_ok-push-2.ensures.bytes c.len_utf8-octets.ensures.value c.if-at-octets-gt-MAX_OCTETS.false
