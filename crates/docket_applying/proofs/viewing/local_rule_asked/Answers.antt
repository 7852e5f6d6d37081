use Rattle.std.proofs.Common.{◌∙◌, ap, option_copied, sym}
use Rattle.std.specs.Option.{option_and_then}
use Rattle.docket_history.specs.Histories.{local_rule_in}
use Rattle.docket_tables.specs.Contents.{rows_in}
use Rattle.docket_tables.proofs.ReadLemmas.{gives_weaker}
use Rattle.docket_tables.proofs.AskLemmas.{unasked}
use Rattle.docket_applying.proofs.viewing.local_rule_asked.Goals as goal

pub returns-in-Some-clause-read : goal.returns-in-Some-clause-read
returns-in-Some-clause-read g c court t orderly holds =
    gives_weaker g.S.Store c.local_rule.new.conn (rows_in court t) _ _ c.local_rule.result
    (λ found is. (rw c.as_str.ensures at is) ∙ ap (option_and_then (local_rule_in t.local_rules)) (ap option_copied (sym c.in-Some.is) ∙ c.rule_name_asked.ensures)) (c.local_rule.ensures.read court t orderly holds)

pub returns-in-None-clause-only : goal.returns-in-None-clause-only
returns-in-None-clause-only g c = unasked
