use Rattle.std.proofs.Common.{ℕ, refl}
use Rattle.docket_questions.proofs.TellLemmas.{none_told, passed_told, same_told, short_told}
use Rattle.entry_lines.proofs.preparing.line_prepared.Goals as goal

pub returns-in_err-line-clause-only : goal.returns-in_err-line-clause-only
returns-in_err-line-clause-only g c serves =
    let nothing : ℕ = 0 in
    short_told g.S.Store _ _ nothing c.from_residual.result c.from_residual.ensures.1 (none_told g.S.Store _ _ nothing refl serves)

pub returns-in_err-would-clause-only : goal.returns-in_err-would-clause-only
returns-in_err-would-clause-only g c serves = passed_told g.S.Store _ _ _ c.from_residual-in_err-would.result c.from_residual-in_err-would.ensures.1 (c.in_err-would.ensures.only serves)

pub returns-clause-only : goal.returns-clause-only
returns-clause-only g c serves = same_told g.S.Store _ _ _ _ (c.in_ok-would.ensures.only serves)
