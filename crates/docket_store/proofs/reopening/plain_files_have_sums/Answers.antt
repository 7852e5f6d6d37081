use Rattle.docket_store.proofs.LeftLemmas.{plain_have_sums}
use Rattle.docket_store.proofs.reopening.plain_files_have_sums.Goals as goal

pub returns : goal.returns
returns c files size db is held = plain_have_sums files size db is held
