use Rattle.std.proofs.Common.{◌≡◌, ◌∙◌, ◌++◌, ◌∷◌, [], List, ap, ap₂, subst, sym}
use Rattle.court_days.specs.Court.{zone_of}
use Rattle.court_days.specs.LocalTime.{IsMoment}
use Rattle.court_rules.specs.declared.act.Act.{Act}
use Rattle.court_rules.specs.declared.act.Act.TheVariants.{Done}
use Rattle.docket_questions.specs.Filings.{filed_where}
use Rattle.docket_questions.proofs.FilingLemmas.{acts_before, filed_last, filed_none, moment_of, same_moment, unfiled}
use Rattle.docket_questions.proofs.filing.filed.Goals as goal

-- the acts are those before the filing, and it
with_last : (acts before : List Act) (last now : Act) → acts ≡ before ++ last ∷ [] → last ≡ now → acts ≡ before ++ now ∷ []
with_last acts before last now is same = is ∙ ap (λ (act : Act). before ++ act ∷ []) same

pub due-requires : goal.due-requires
due-requires c =
    let acts = c.args.acts.now in
    let before = c.in-Some.before.now in
    let done = Done c.in-Done.at c.in-Done.way in
    acts_before (zone_of c.args.court.now) c.in-Done.at c.in-Done.way before acts (with_last acts before c.in-Some.last.now done c.in-Some.ensures.cases.0 c.in-Done.is) c.requires

pub filed_where-requires : goal.filed_where-requires
filed_where-requires c =
    let acts = c.args.acts.now in
    let before = c.in-Some.before.now in
    let done = Done c.in-Done.at c.in-Done.way in
    let moment = moment_of (zone_of c.args.court.now) c.in-Done.at c.in-Done.way before acts (with_last acts before c.in-Some.last.now done c.in-Some.ensures.cases.0 c.in-Done.is) c.requires in
    subst IsMoment (sym (same_moment c.in-Done.at moment)) moment

pub returns-in-Done : goal.returns-in-Done
returns-in-Done c =
    let court = c.args.court.now in
    let calendar = c.args.calendar.now in
    let acts = c.args.acts.now in
    let before = c.in-Some.before.now in
    let done = Done c.in-Done.at c.in-Done.way in
    let is = with_last acts before c.in-Some.last.now done c.in-Some.ensures.cases.0 c.in-Done.is in
    let moment = moment_of (zone_of court) c.in-Done.at c.in-Done.way before acts is c.requires in
    c.filed_where.ensures
    ∙ ap₂ (λ at standing. filed_where court calendar at c.in-Done.way standing) (same_moment c.in-Done.at moment) c.due.ensures.value
    ∙ sym (filed_last court calendar acts before done is)

pub returns-in_default : goal.returns-in_default
returns-in_default c = sym (filed_none c.args.court.now c.args.calendar.now c.args.acts.now c.in_default.ensures.cases)

pub returns-in_default-last : goal.returns-in_default-last
returns-in_default-last c =
    let court = c.args.court.now in
    let calendar = c.args.calendar.now in
    unfiled court calendar c.in-Some.before.now c.in-Some.last.now c.in_default-last.not-Done
    ∙ sym (filed_last court calendar c.args.acts.now c.in-Some.before.now c.in-Some.last.now c.in-Some.ensures.cases.0)
