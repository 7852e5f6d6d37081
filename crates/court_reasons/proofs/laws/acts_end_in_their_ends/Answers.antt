use Rattle.court_reasons.proofs.LastEnds.{start-ends, extension-ends, resumed-ends}
use Rattle.court_reasons.proofs.laws.acts_end_in_their_ends.Goals as goal

pub returns : goal.returns
returns c = record { start = start-ends; extension = extension-ends; resumed = resumed-ends }
