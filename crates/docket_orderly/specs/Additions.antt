-- Rows that a command adds: each stands once among the rows at that moment, and has its parents.
use Rattle.std.specs.Prelude.{◌≡◌, ◌≢◌, ℕ, ◌==◌, ◌&&◌, true, false, List, [], ◌∷◌}
use Rattle.std.specs.List.{AllByRecursion, list_any}
use Rattle.docket_command.specs.declared.command.Command.{Command}
use Rattle.docket_history.specs.CalendarItems.{is_same_item}
use Rattle.docket_history.specs.declared.row.ActRow.{ActRow}
use Rattle.docket_history.specs.declared.row.CalendarRow.{CalendarRow}
use Rattle.docket_history.specs.declared.row.CaseRow.{CaseRow}
use Rattle.docket_history.specs.declared.row.Change.{Change}
use Rattle.docket_history.specs.declared.row.Change.TheVariants.{AddCalendar, RemoveCalendar, AddCase, AddParty, AddEntry, AddDeadline, AddAct, AddLocalRule}
use Rattle.docket_history.specs.declared.row.DeadlineRow.{DeadlineRow}
use Rattle.docket_history.specs.declared.row.EntryRow.{EntryRow}
use Rattle.docket_history.specs.declared.row.LocalRuleRow.{LocalRuleRow}
use Rattle.docket_history.specs.declared.row.PartyRow.{PartyRow}
use Rattle.docket_history.specs.declared.row.Receipt.{Receipt}
use Rattle.docket_decisions.specs.Tables.{Tables, changed}

-- a case of that number stands
abbrev pub HasCase : Tables → ℕ → Type 0
HasCase t k = list_any (λ (r : CaseRow). r.number == k) t.cases ≡ true

-- a deadline of that number stands in that case
abbrev pub HasDeadline : Tables → ℕ → ℕ → Type 0
HasDeadline t k n = list_any (λ (r : DeadlineRow). r.case == k && r.number == n) t.deadlines ≡ true

-- the change may be made: no row of the table has the key of the row that is added, or what stands once beside it, and its parent
-- stands; a row may always be removed
abbrev pub MayAdd : Change → Tables → Type 0
MayAdd (AddCalendar row) t = AllByRecursion (λ (r : CalendarRow). (r.number ≢ row.number) × (is_same_item r.item row.item ≡ false)) t.calendar
MayAdd (RemoveCalendar number) t = Unit {0}
MayAdd (AddCase row) t = AllByRecursion (λ (r : CaseRow). (r.number ≢ row.number) × (r.label ≢ row.label)) t.cases
MayAdd (AddParty row) t = AllByRecursion (λ (r : PartyRow). r.case ≡ row.case → r.number ≢ row.number) t.parties × HasCase t row.case
MayAdd (AddEntry row) t = AllByRecursion (λ (r : EntryRow). r.case ≡ row.case → r.number ≢ row.number) t.entries × HasCase t row.case
MayAdd (AddDeadline row) t = AllByRecursion (λ (r : DeadlineRow). r.case ≡ row.case → r.number ≢ row.number) t.deadlines × HasCase t row.case
MayAdd (AddAct row) t =
    AllByRecursion (λ (r : ActRow). r.case ≡ row.case → r.deadline ≡ row.deadline → r.number ≢ row.number) t.acts × HasDeadline t row.case row.deadline
MayAdd (AddLocalRule row) t = AllByRecursion (λ (r : LocalRuleRow). (r.number ≢ row.number) × (r.rule.name ≢ row.rule.name)) t.local_rules

-- the changes may be made, one after another
abbrev pub MayAddAll : List Change → Tables → Type 0
MayAddAll [] t = Unit {0}
MayAddAll (x ∷ xs) t = MayAdd x t × MayAddAll xs (changed x t)

-- no receipt has the command's key
abbrev pub MayReceive : Command → Tables → Type 0
MayReceive c t = AllByRecursion (λ (r : Receipt). r.command.key ≢ c.key) t.receipts
