-- The order in which the rows of a table are read: that of its key.
use Rattle.std.specs.Prelude.{List, IsPermutation, IsSorted}
use Rattle.std.specs.Cmp.Lexicographic.{slice_cmp}
use Rattle.std.specs.Ordering.{nat_cmp, on, then_cmp}
use Rattle.std.specs.declared.cmp.Ordering.{Ordering}
use Rattle.docket_decisions.specs.declared.end_row.StoredEnd.{StoredEnd}
use Rattle.docket_history.specs.Histories.{History, act_rows, local_rule_rows, standing_rows}
use Rattle.docket_history.specs.ShortDays.{day_and_span_rows}
use Rattle.docket_history.specs.declared.row.ActRow.{ActRow}
use Rattle.docket_history.specs.declared.row.CalendarRow.{CalendarRow}
use Rattle.docket_history.specs.declared.row.CaseRow.{CaseRow}
use Rattle.docket_history.specs.declared.row.DeadlineRow.{DeadlineRow}
use Rattle.docket_history.specs.declared.row.EntryRow.{EntryRow}
use Rattle.docket_history.specs.declared.row.LocalRuleRow.{LocalRuleRow}
use Rattle.docket_history.specs.declared.row.PartyRow.{PartyRow}
use Rattle.docket_history.specs.declared.row.Receipt.{Receipt}
use Rattle.docket_history.specs.declared.row.ShortDayRow.{ShortDayRow}
use Rattle.docket_sound.specs.Deadlines.{deadline_key}
use Rattle.docket_sound.specs.Entries.{entry_key}
use Rattle.docket_sound.specs.Parties.{party_key}
use Rattle.docket_sound.specs.Receipts.{key_of}
use Rattle.docket_sound.specs.declared.numbering.Key.{Key}

-- the same rows, and none stands before one that comes before it in the order
pub record AreInOrder {R : Type 0} (order : R → R → Ordering) (all rows : List R) : Type 0 where
  pub same : IsPermutation all rows
  pub sorted : IsSorted order rows

-- by the case, and in a case by the number
abbrev pub key_order : Key → Key → Ordering
key_order = then_cmp (on (λ key. key.case) nat_cmp) (on (λ key. key.number) nat_cmp)

abbrev pub calendar_order : CalendarRow → CalendarRow → Ordering
calendar_order = on (λ row. row.number) nat_cmp

abbrev pub short_day_order : ShortDayRow → ShortDayRow → Ordering
short_day_order = on (λ row. row.number) nat_cmp

abbrev pub local_rule_order : LocalRuleRow → LocalRuleRow → Ordering
local_rule_order = on (λ row. row.number) nat_cmp

abbrev pub case_order : CaseRow → CaseRow → Ordering
case_order = on (λ row. row.number) nat_cmp

abbrev pub party_order : PartyRow → PartyRow → Ordering
party_order = on party_key key_order

abbrev pub entry_order : EntryRow → EntryRow → Ordering
entry_order = on entry_key key_order

abbrev pub deadline_order : DeadlineRow → DeadlineRow → Ordering
deadline_order = on deadline_key key_order

-- the deadline of an act
abbrev pub deadline_of : ActRow → Key
deadline_of row = record { case = row.case; number = row.deadline }

-- by the deadline, and in a deadline by the number
abbrev pub act_order : ActRow → ActRow → Ordering
act_order = then_cmp (on deadline_of key_order) (on (λ row. row.number) nat_cmp)

-- the deadline of an end
abbrev pub end_key : StoredEnd → Key
end_key row = record { case = row.case; number = row.deadline }

abbrev pub end_order : StoredEnd → StoredEnd → Ordering
end_order = on end_key key_order

-- by the key, byte by byte
abbrev pub receipt_order : Receipt → Receipt → Ordering
receipt_order = on key_of (slice_cmp nat_cmp)

-- the rows of a history, as they are read

-- its days and spans
abbrev pub AreDaysOf : History → List CalendarRow → Type 0
AreDaysOf h days = AreInOrder calendar_order (day_and_span_rows (standing_rows h)) days

abbrev pub AreLocalRulesOf : History → List LocalRuleRow → Type 0
AreLocalRulesOf h rules = AreInOrder local_rule_order (local_rule_rows h) rules

abbrev pub AreActsOf : History → List ActRow → Type 0
AreActsOf h acts = AreInOrder act_order (act_rows h) acts
