use Rattle.docket_applying.proofs.AnyLemmas.{err_preserves}
use Rattle.file_questions.proofs.listing.has_party.Goals as goal

pub returns-in_err-parties-clause-stays : goal.returns-in_err-parties-clause-stays
returns-in_err-parties-clause-stays g c rows holds =
    err_preserves g.S.Store c.parties.new.self.conn rows c.in_err-parties.field-0.0 c.from_residual.result c.from_residual.ensures.1 (c.in_err-parties.ensures.only.stays rows holds)
