use Rattle.count_lines.proofs.CourtTexts.{started}
use Rattle.count_lines.proofs.count.Counter.start.Goals as goal

pub returns : goal.returns
returns c = started _ _ c.in-Ok.ensures.text c.in-Ok.ensures.close c.new.ensures
