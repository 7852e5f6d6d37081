-- When the rows of deadlines are sound.
use Rattle.std.specs.Prelude.{◌≡◌, ℕ, Bool, true, false, not, ◌&&◌, if◌then◌else◌, nat_le, List, map, IsTrue, unwrap_or}
use Rattle.std.specs.List.{AllByRecursion}
use Rattle.court_rules.specs.declared.deadline_rule.DeadlineRule.{DeadlineRule}
use Rattle.court_rules.specs.declared.deadline_rule.DeadlineRule.TheVariants.{Listed, Local}
use Rattle.court_rules.specs.declared.rule.Rule.{Rule}
use Rattle.court_rules.specs.declared.rule.Rule.TheVariants.{AnswerToSummons, AnswerAfterWaiver, AnswerAfterWaiverAbroad, AnswerByUnitedStates, AnswerByOfficer, AnswerAfterRuling, AnswerAfterStatement}
use Rattle.docket_history.specs.declared.row.DeadlineRow.{DeadlineRow}
use Rattle.docket_sound.specs.Counted.{HasNumbered, cases_of, most_of, count_of}
use Rattle.docket_sound.specs.KnownTexts.{is_known}
use Rattle.docket_sound.specs.Numbers.{AreNumbered}
use Rattle.docket_sound.specs.declared.deadline.DeadlineCheck.{DeadlineCheck}
use Rattle.docket_sound.specs.declared.numbering.Key.{Key}
use Rattle.docket_sound.specs.declared.numbering.Numbering.{Numbering}

-- a time under Fed. R. Civ. P. 12(a)(4) begins again by an act, so no deadline is made with these rules
abbrev pub is_made_by : Rule → Bool
is_made_by AnswerAfterRuling = false
is_made_by AnswerAfterStatement = false
is_made_by _ = true

-- a deadline may have the rule: a local one is one of those that stand
abbrev pub is_deadline_rule : (List ℕ → Bool) → DeadlineRule → Bool
is_deadline_rule stands (Listed rule) = is_made_by rule
is_deadline_rule stands (Local name) = stands name

-- an initial deadline is one to answer the complaint (12(a)(1)(A), (2), (3))
abbrev pub may_be_initial : DeadlineRule → Bool
may_be_initial (Listed AnswerToSummons) = true
may_be_initial (Listed AnswerAfterWaiver) = true
may_be_initial (Listed AnswerAfterWaiverAbroad) = true
may_be_initial (Listed AnswerByUnitedStates) = true
may_be_initial (Listed AnswerByOfficer) = true
may_be_initial _ = false

-- the United States and its officer have the same time to answer a counterclaim, which is no initial deadline
abbrev pub is_always_initial : DeadlineRule → Bool
is_always_initial (Listed AnswerToSummons) = true
is_always_initial (Listed AnswerAfterWaiver) = true
is_always_initial (Listed AnswerAfterWaiverAbroad) = true
is_always_initial _ = false

-- by the names of the local rules that stand
abbrev pub is_sound_deadline : (List ℕ → Bool) → DeadlineRow → Bool
is_sound_deadline stands row =
    is_deadline_rule stands row.rule
    && (if row.initial then may_be_initial row.rule else not (is_always_initial row.rule))

-- the party is 0, for every party, or one of its case, which has so many
abbrev pub has_party : (ℕ → ℕ) → DeadlineRow → Bool
has_party parties row = nat_le row.party (parties row.case)

abbrev pub deadline_key : DeadlineRow → Key
deadline_key row = record { case = row.case; number = row.number }

-- each deadline is one of the cases, and numbered in its case, up to 1,000; its party is there, and its local rule stands
pub record AreSoundDeadlines (cases : ℕ) (parties : ℕ → ℕ) (stands : List ℕ → Bool) (rows : List DeadlineRow) : Type 0 where
  pub numbered : AreNumbered cases 1000 (map deadline_key rows)
  pub met : AllByRecursion (λ row. IsTrue (has_party parties row)) rows
  pub within : AllByRecursion (λ row. IsTrue (is_sound_deadline stands row)) rows

-- how many parties each case has
abbrev pub parties_of : Numbering → ℕ → ℕ
parties_of n k = unwrap_or (count_of n k) 0

abbrev pub deadlines_checked : DeadlineCheck → ℕ
deadlines_checked check = cases_of check.numbering

-- the names of the local rules that stand
abbrev pub rules_standing : DeadlineCheck → List ℕ → Bool
rules_standing check name = is_known check.names name

-- these rows were taken
pub record HasTakenDeadlines (check : DeadlineCheck) (rows : List DeadlineRow) : Type 0 where
  pub most : most_of check.numbering ≡ 1000
  pub numbered : HasNumbered check.numbering (map deadline_key rows)
  pub sound : AreSoundDeadlines (deadlines_checked check) (parties_of check.parties) (rules_standing check) rows
