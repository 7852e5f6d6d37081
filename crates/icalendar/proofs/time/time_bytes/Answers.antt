use Rattle.icalendar.proofs.TimeLemmas.{digits_of_time-utf8}
use Rattle.icalendar.proofs.time.time_bytes.Goals as goal

pub returns-clause-text : goal.returns-clause-text
returns-clause-text c = rw (c.two_digits.ensures, c.two_digits-2.ensures, c.two_digits-3.ensures) (digits_of_time-utf8 c.args.second c.requires)
