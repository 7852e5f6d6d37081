-- What every history keeps to.
use Rattle.std.specs.Prelude.{◌≡◌, ℕ, ◌≤◌, true, length}
use Rattle.std.specs.List.{All}
use Rattle.court_days.specs.Court.{CourtSettings, zone_of}
use Rattle.court_rules.specs.LocalRules.{is_local_rule}
use Rattle.court_rules.specs.Standings.{AreActs}
use Rattle.docket_history.specs.CalendarItems.{IsEnteredItem}
use Rattle.docket_history.specs.Histories.{History, standing_rows, items_of, next_row, case_rows, party_rows, parties_of_case, entry_rows, entries_of_case, deadline_rows, deadlines_of_case, act_rows, acts_of_deadline, local_rule_rows}
use Rattle.docket_history.specs.declared.row.LocalRuleRow.{LocalRuleRow}
use Rattle.court_days.specs.Limits.{most_rows}

-- The calendar has at most 4,000 rows, each of which a court may enter, with numbers up to 4,294,967,295. There are at most
-- 100,000 cases, each with at most 1,000 parties, 10,000 entries and 1,000 deadlines, each with lawful acts, at most 100. There
-- are at most 1,000 local rules, each with lawful values.
pub record IsWithinLimits (court : CourtSettings) (h : History) : Type 0 where
  pub items : All IsEnteredItem (items_of (standing_rows h))
  pub rows : length (standing_rows h) ≤ most_rows
  pub next_row : next_row h ≤ 4_294_967_296
  pub cases : length (case_rows h) ≤ 100_000
  pub parties : (k : ℕ) → length (parties_of_case k (party_rows h)) ≤ 1000
  pub entries : (k : ℕ) → length (entries_of_case k (entry_rows h)) ≤ 10_000
  pub deadlines : (k : ℕ) → length (deadlines_of_case k (deadline_rows h)) ≤ 1000
  pub acts : (k n : ℕ) → 1 ≤ n → n ≤ length (deadlines_of_case k (deadline_rows h))
      → AreActs (zone_of court) (acts_of_deadline k n (act_rows h))
  pub local_rules : length (local_rule_rows h) ≤ 1000
  pub lawful_rules : All (λ (row : LocalRuleRow). is_local_rule row.rule ≡ true) (local_rule_rows h)
