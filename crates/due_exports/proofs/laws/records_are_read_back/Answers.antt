use Rattle.due_exports.proofs.TableLemmas.{table-read}
use Rattle.due_exports.proofs.laws.records_are_read_back.Goals as goal

pub returns : goal.returns
returns c = table-read
