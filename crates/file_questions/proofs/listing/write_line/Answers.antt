use Rattle.std.proofs.Common.{◌∙◌}
use Rattle.docket_applying.specs.declared.listing.CalendarEnd.TheVariants.{WriteFailed}
use Rattle.file_questions.proofs.CaseLemmas.{front_of_line}
use Rattle.file_questions.proofs.listing.write_line.Goals as goal

pub returns-clause-out : goal.returns-clause-out
returns-clause-out g c = front_of_line _ _ c.args.row.now c.as_bytes.result.now WriteFailed (c.as_bytes.ensures.value ∙ c.in-Ok.ensures) c.in-Err.ensures.front
