use Rattle.icalendar.proofs.ValueLaws.{value_in_line, value_read, text_plain, text_itself, value_utf8}
use Rattle.icalendar.proofs.laws.values_are_read_back.Goals as goal

pub returns-clause-no_break : goal.returns-clause-no_break
returns-clause-no_break c = value_in_line

pub returns-clause-read : goal.returns-clause-read
returns-clause-read c = value_read

pub returns-clause-plain : goal.returns-clause-plain
returns-clause-plain c = text_plain

pub returns-clause-same : goal.returns-clause-same
returns-clause-same c = text_itself

pub returns-clause-characters : goal.returns-clause-characters
returns-clause-characters c = value_utf8
