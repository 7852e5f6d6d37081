use Rattle.docket_decisions.proofs.InOrderLemmas.{stands, kept_stands}
use Rattle.docket_decisions.proofs.laws.rows_stand_until_withdrawn.Goals as goal

pub returns : goal.returns
returns c h row = (stands h row, kept_stands h row)
