use Rattle.icalendar.proofs.CharacterLaws.{line_utf8}
use Rattle.icalendar.proofs.LineLaws.{line_short, line_unfolded}
use Rattle.icalendar.proofs.ValueLaws.{property_in_line}
use Rattle.icalendar.proofs.laws.lines_are_folded.Goals as goal

pub returns-clause-property : goal.returns-clause-property
returns-clause-property c = property_in_line

pub returns-clause-short : goal.returns-clause-short
returns-clause-short c = line_short

pub returns-clause-unfolded : goal.returns-clause-unfolded
returns-clause-unfolded c = line_unfolded

pub returns-clause-characters : goal.returns-clause-characters
returns-clause-characters c = line_utf8
