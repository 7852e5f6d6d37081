use Rattle.html_sheets.proofs.about.AboutDisplay.fmt.Goals as goal

pub returns-in-Deadline-clause-writes : goal.returns-in-Deadline-clause-writes
returns-in-Deadline-clause-writes g c plain ok = rw (c.in-Deadline.is) (c.write-in-Deadline.ensures.writes plain ok)
