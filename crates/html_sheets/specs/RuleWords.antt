-- What each rule is about, for people who do not know it by its number.
use Rattle.std.specs.Prelude.{ℕ, List, ◌++◌, codes, Option, Some, None}
use Rattle.court_rules.specs.Rules.{rule_named}
use Rattle.court_rules.specs.declared.rule.Rule.{Rule}
use Rattle.court_rules.specs.declared.rule.Rule.TheVariants.{AnswerToSummons, AnswerAfterWaiver, AnswerAfterWaiverAbroad, AnswerToCounterclaim, ReplyToAnswer, AnswerByUnitedStates, AnswerByOfficer, AnswerAfterRuling, AnswerAfterStatement, MoreDefiniteStatement, MotionToStrike, MotionAndNotice, OpposingAffidavit, RenewedMotionForJudgment, LosingPartyNewTrial, AmendedFindings, NewTrial, NewTrialByCourt, AmendedJudgment, ReliefFromJudgment, Ordered}
use Rattle.html_sheets.specs.Elements.{told}

abbrev pub rule_words : Rule → List ℕ
rule_words AnswerToSummons = codes "answer to the complaint"
rule_words AnswerAfterWaiver = codes "answer after a waiver"
rule_words AnswerAfterWaiverAbroad = codes "answer after a waiver from abroad"
rule_words AnswerToCounterclaim = codes "answer to a counterclaim or crossclaim"
rule_words ReplyToAnswer = codes "reply to an answer"
rule_words AnswerByUnitedStates = codes "answer of the United States"
rule_words AnswerByOfficer = codes "answer of a federal officer"
rule_words AnswerAfterRuling = codes "answer after a ruling"
rule_words AnswerAfterStatement = codes "answer to a more definite statement"
rule_words MoreDefiniteStatement = codes "more definite statement"
rule_words MotionToStrike = codes "motion to strike"
rule_words MotionAndNotice = codes "motion and notice of hearing"
rule_words OpposingAffidavit = codes "opposing affidavit"
rule_words RenewedMotionForJudgment = codes "renewed motion for judgment"
rule_words LosingPartyNewTrial = codes "motion of the losing party for a new trial"
rule_words AmendedFindings = codes "motion for amended findings"
rule_words NewTrial = codes "motion for a new trial"
rule_words NewTrialByCourt = codes "order of the court for a new trial"
rule_words AmendedJudgment = codes "motion to amend the judgment"
rule_words ReliefFromJudgment = codes "motion for relief from the judgment"
rule_words Ordered = codes "time set by the court"

-- the words of a rule of the table before its name; a local rule has its name alone
abbrev pub worded : Option Rule → List ℕ → List ℕ
worded (Some rule) name = rule_words rule ++ (codes ", " ++ name)
worded None name = name

-- a rule by its name, as a text
abbrev pub rule_text : List ℕ → List ℕ
rule_text name = worded (rule_named name) name

-- and within a page
abbrev pub rule_told : List ℕ → List ℕ
rule_told name = worded (rule_named name) (told name)
