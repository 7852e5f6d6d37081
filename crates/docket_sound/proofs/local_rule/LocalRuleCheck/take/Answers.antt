use Rattle.std.proofs.Common.{◌∙◌, ◌+◌, ◌||◌, refl, sym, ap}
use Rattle.std.specs.Str.{bytes_eq}
use Rattle.docket_sound.specs.KnownTexts.{is_known}
use Rattle.docket_sound.proofs.LocalRuleLemmas.{rule_fails, rule_taken}
use Rattle.docket_sound.proofs.local_rule.LocalRuleCheck.take.Goals as goal

pub returns-then-not-may_follow-clause-refused : goal.returns-then-not-may_follow-clause-refused
returns-then-not-may_follow-clause-refused c rows more has refused all =
    rule_fails c.args.self.now rows c.args.row.now has more (sym c.may_follow.ensures ∙ c.if-not-may_follow.true) all

pub returns-clause-taken : goal.returns-clause-taken
returns-clause-taken c rows has taken =
    rule_taken c.args.self.now rows c.args.row.now has (record { count = c.args.self.now.count + 1; names = c.put.new.self }) refl
    (λ text. c.in_ok-put.ensures.ok text ∙ ap (λ name. bytes_eq name text || is_known c.args.self.now.names text) c.as_str.ensures) (sym c.may_follow.ensures ∙ c.if-not-may_follow.false)
