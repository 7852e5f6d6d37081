use Rattle.std.proofs.Common.{◌≡◌, Some, None, subst}
use Rattle.std.specs.Prelude.{IfOk}
use Rattle.court_rules.specs.LocalRules.{deadline_rule_name}
use Rattle.docket_columns.proofs.RuleLemmas.{name_utf8, named_back}
use Rattle.docket_columns.proofs.deadline.rule_at.Goals as goal

pub returns-in-Some-clause-reads : goal.returns-in-Some-clause-reads
returns-in-Some-clause-reads c = λ rule is e.
    let text = c.in-Some.text.now in
    let found : Some text ≡ Some (deadline_rule_name rule) = c.in-Some.ensures.reads (deadline_rule_name rule) (name_utf8 rule is) e in
    subst (λ named. IfOk c.named.result (λ r. r ≡ named)) (named_back text rule is cc) c.named.ensures

pub returns-in-None-clause-reads : goal.returns-in-None-clause-reads
returns-in-None-clause-reads c = λ rule is e.
    let found : None ≡ Some (deadline_rule_name rule) = c.in-None.ensures.reads (deadline_rule_name rule) (name_utf8 rule is) e in
    absurd (cc)
