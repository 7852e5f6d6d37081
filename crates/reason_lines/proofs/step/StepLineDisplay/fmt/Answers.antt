use Rattle.reason_lines.proofs.step.StepLineDisplay.fmt.Goals as goal

pub returns-in-Fixed-clause-writes : goal.returns-in-Fixed-clause-writes
returns-in-Fixed-clause-writes g c = rw c.in-Fixed.is (rw (c.day_line.ensures.day, c.day_line.ensures.words) at c.fmt-in-Fixed.ensures.writes)

pub returns-in-ExtendedTo-clause-writes : goal.returns-in-ExtendedTo-clause-writes
returns-in-ExtendedTo-clause-writes g c = rw c.in-ExtendedTo.is (rw (c.day_line-in-ExtendedTo.ensures.day, c.day_line-in-ExtendedTo.ensures.words) at c.fmt-in-ExtendedTo.ensures.writes)

pub returns-in-Resumed-clause-writes : goal.returns-in-Resumed-clause-writes
returns-in-Resumed-clause-writes g c = rw c.in-Resumed.is (rw (c.day_line-in-Resumed.ensures.day, c.day_line-in-Resumed.ensures.words) at c.fmt-in-Resumed.ensures.writes)

pub returns-in-Awaited-clause-writes : goal.returns-in-Awaited-clause-writes
returns-in-Awaited-clause-writes g c = rw c.in-Awaited.is (rw (c.day_line-in-Awaited.ensures.day, c.day_line-in-Awaited.ensures.words) at c.fmt-in-Awaited.ensures.writes)

pub returns-in-Counted-clause-writes : goal.returns-in-Counted-clause-writes
returns-in-Counted-clause-writes g c = let made = c.end_line.ensures in rw c.in-Counted.is (rw (made.court, made.end, made.of_day, made.of_moment) at c.fmt-in-Counted.ensures.writes)

pub returns-in-Moved-clause-writes : goal.returns-in-Moved-clause-writes
returns-in-Moved-clause-writes g c = let made = c.end_line-in-Moved.ensures in rw c.in-Moved.is (rw (made.court, made.end, made.of_day, made.of_moment) at c.fmt-in-Moved.ensures.writes)

pub returns-in-ThreeAdded-clause-writes : goal.returns-in-ThreeAdded-clause-writes
returns-in-ThreeAdded-clause-writes g c = rw c.in-ThreeAdded.is (rw (c.day_line-in-ThreeAdded.ensures.day, c.day_line-in-ThreeAdded.ensures.words) at c.fmt-in-ThreeAdded.ensures.writes)

pub returns-in-Ends-clause-writes : goal.returns-in-Ends-clause-writes
returns-in-Ends-clause-writes g c = let made = c.end_line-in-Ends.ensures in rw c.in-Ends.is (rw (made.court, made.end, made.of_day, made.of_moment) at c.fmt-in-Ends.ensures.writes)
