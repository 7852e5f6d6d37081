use Rattle.std.proofs.Common.{refl}
use Rattle.csv.specs.Writing.{fields_text, is_blank}
use Rattle.due_exports.proofs.record.header_record.Goals as goal

pub returns : goal.returns
unfolding fields_text is_blank
returns c = refl
