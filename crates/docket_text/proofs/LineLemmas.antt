-- The lengths of the lines of a calendar.
use Rattle.std.proofs.Common.{◌≡◌, ℕ, ◌-◌, ◌<◌, ◌≤◌, ◌==◌, List, length, replicate, length-append, lit≤, arith, ◌&&◌, true, nat_le}
use Rattle.std.specs.Prelude.{decimal}
use Rattle.std.proofs.lemmas.Bool.{and_parts, cond_both}
use Rattle.std.proofs.lemmas.Bool.Decides.{nat_tests}
use Rattle.std.proofs.lemmas.Fmt.{length-decimal-le}
use Rattle.std.proofs.lemmas.List.{length-replicate}
use Rattle.civil_time.specs.LocalTime.{local_day}
use Rattle.civil_time.proofs.DayTexts.{day_text-length}
use Rattle.court_days.specs.Court.{CourtSettings, zone_of}
use Rattle.court_days.specs.declared.filing.End.{End}
use Rattle.court_days.specs.declared.filing.End.TheVariants.{LastDay, Moment}
use Rattle.court_rules.specs.LocalRules.{is_local_name, IsDeadlineRule, deadline_rule_name}
use Rattle.court_rules.specs.Rules.{line_of, name_of}
use Rattle.court_rules.specs.declared.deadline_rule.DeadlineRule.{DeadlineRule}
use Rattle.court_rules.specs.declared.deadline_rule.DeadlineRule.TheVariants.{Listed, Local}
use Rattle.court_rules.specs.declared.rule.Rule.{Rule}
use Rattle.court_rules.specs.declared.rule.Rule.TheVariants.{Ordered}
use Rattle.docket_history.specs.declared.record.DueRow.{DueRow}
use Rattle.docket_text.specs.CalendarTexts.{end_columns, calendar_line}
use Rattle.docket_text.specs.Lines.{right_in, left_in}
use Rattle.docket_text.specs.Parties.{party_text}
use Rattle.docket_text.specs.Times.{shown}

right_in-length : (width : ℕ) (text : List ℕ) → length text ≤ width → length (right_in width text) ≡ width
unfolding right_in
right_in-length width text le = omega (arith, length-append (replicate (width - length text) 32) text, length-replicate {A = ℕ} (width - length text) 32)

left_in-length : (width : ℕ) (text : List ℕ) → length text ≤ width → length (left_in width text) ≡ width
unfolding left_in
left_in-length width text le = omega (arith, length-append text (replicate (width - length text) 32), length-replicate {A = ℕ} (width - length text) 32)

party_text-length : (party : ℕ) → party < 10_000 → length (party_text party) ≤ 4
party_text-length party small =
    cond_both (party == 0) _ _ (λ text. length text ≤ 4) (λ _. omega arith) (λ _. length-decimal-le 4 party (omega arith) (omega arith) (omega arith))

end_columns-length : (court : CourtSettings) (close : ℕ) (end : End) → length (end_columns court close end) ≡ 22
end_columns-length court close (LastDay day) = simp length-append (omega (arith, day_text-length day))
end_columns-length court close (Moment at) = simp length-append (omega (arith, day_text-length (local_day (zone_of court) (shown at))))

-- 57 bytes and LF
pub calendar_line-length : (court : CourtSettings) (row : DueRow) → row.case < 10_000_000 → row.number < 10_000 → length row.rule ≤ 16 → row.party < 10_000 → length (calendar_line court row) ≡ 58
calendar_line-length court row case number rule party =
    let columns = end_columns-length court row.close row.end in
    let case_column = right_in-length 7 (decimal row.case) (length-decimal-le 7 row.case (omega arith) (omega arith) (omega arith)) in
    let number_column = right_in-length 4 (decimal row.number) (length-decimal-le 4 row.number (omega arith) (omega arith) (omega arith)) in
    let rule_column = left_in-length 16 row.rule rule in
    let party_column = right_in-length 4 (party_text row.party) (party_text-length row.party party) in
    simp length-append (omega (arith, columns, case_column, number_column, rule_column, party_column))

-- the names of the table, by computing each
pub name_of-length : (rule : Rule) → length (name_of rule) ≤ 16
unfolding line_of
name_of-length Ordered = lit≤ tt
name_of-length _ = lit≤ tt

local_name-length : (name : List ℕ) → is_local_name name ≡ true → length name ≤ 16
unfolding is_local_name
local_name-length name e =
    let lengths : (nat_le 3 (length name) && nat_le (length name) 16) ≡ true = (and_parts (nat_le 3 (length name) && nat_le (length name) 16) _ e).0 in
    let most : nat_le (length name) 16 ≡ true = (and_parts (nat_le 3 (length name)) _ lengths).1 in
    grind (arith, nat_tests)

pub rule_name-length : (rule : DeadlineRule) → IsDeadlineRule rule → length (deadline_rule_name rule) ≤ 16
rule_name-length (Listed rule) is = name_of-length rule
rule_name-length (Local name) is = local_name-length name is
