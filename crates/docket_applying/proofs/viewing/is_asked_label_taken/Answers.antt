use Rattle.std.proofs.Common.{◌∙◌, ap, sym}
use Rattle.docket_decisions.specs.Outcomes.{is_label_taken}
use Rattle.docket_tables.specs.Contents.{rows_in}
use Rattle.docket_tables.proofs.ReadLemmas.{gives_weaker}
use Rattle.docket_applying.proofs.viewing.is_asked_label_taken.Goals as goal

pub returns-in-OpenCase-clause-read : goal.returns-in-OpenCase-clause-read
returns-in-OpenCase-clause-read g c court t orderly holds =
    gives_weaker g.S.Store c.is_label_taken.new.conn (rows_in court t) _ _ c.is_label_taken.result
    (λ found is. (rw c.as_str.ensures at is) ∙ ap (λ a. is_label_taken a t.cases) (sym c.in-OpenCase.is)) (c.is_label_taken.ensures.read court t orderly holds)
