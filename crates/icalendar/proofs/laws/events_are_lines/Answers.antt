use Rattle.icalendar.proofs.EventLemmas.{event_is_lines, event_utf8, head_is_lines, foot_is_lines}
use Rattle.icalendar.proofs.laws.events_are_lines.Goals as goal

pub returns-clause-event : goal.returns-clause-event
returns-clause-event c = event_is_lines

pub returns-clause-characters : goal.returns-clause-characters
returns-clause-characters c = event_utf8

pub returns-clause-head : goal.returns-clause-head
returns-clause-head c = head_is_lines

pub returns-clause-foot : goal.returns-clause-foot
returns-clause-foot c = foot_is_lines
