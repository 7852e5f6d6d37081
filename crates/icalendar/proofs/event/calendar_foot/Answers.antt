use Rattle.std.proofs.Common.{refl}
use Rattle.icalendar.specs.ContentLines.{content_line}
use Rattle.icalendar.proofs.event.calendar_foot.Goals as goal

pub returns : goal.returns
unfolding content_line
returns c = refl
