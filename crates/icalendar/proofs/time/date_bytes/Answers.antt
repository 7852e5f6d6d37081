use Rattle.std.proofs.Common.{refl}
use Rattle.civil_time.specs.DayText.{day_text}
use Rattle.icalendar.specs.Times.{date_value}
use Rattle.icalendar.proofs.TimeLemmas.{date_value-utf8}
use Rattle.icalendar.proofs.time.date_bytes.Goals as goal

pub returns-clause-value : goal.returns-clause-value
unfolding date_value day_text
returns-clause-value c = rw c.day_bytes.ensures.value refl

pub returns-clause-text : goal.returns-clause-text
returns-clause-text c = rw (returns-clause-value c) (date_value-utf8 c.args.day)
