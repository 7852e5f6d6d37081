-- The rows of each table of a docket are apart: no two have one number, or what stands once beside it.
use Rattle.std.proofs.Common.{◌≡◌, ◌≢◌, ℕ, ◌+◌, Bool, true, false, ◌&&◌, not, Option, Some, None, List, [], ◌∷◌, ◌++◌, map, refl, sym, ap, ◌∙◌, subst, arith, append_assoc, append-nil}
use Rattle.std.specs.Prelude.{◌==◌, bytes_eq, if◌then◌else◌}
use Rattle.std.specs.List.{AllByRecursion}
use Rattle.std.proofs.lemmas.Bool.Decides.{nat_tests}
use Rattle.std.proofs.lemmas.Bool.{or_parts}
use Rattle.std.proofs.lemmas.List.{map-append}
use Rattle.std.proofs.lemmas.Slice.Eq.{bytes_eq-Decides}
use Rattle.court_days.specs.Court.{CourtSettings}
use Rattle.docket_history.specs.Actions.{rows_asked, row_withdrawn}
use Rattle.docket_history.specs.CalendarItems.{is_same_item, stands_among, fresh}
use Rattle.docket_history.specs.Histories.{History, items_of, numbered, without_row, standing_rows, next_row, rows_added, case_rows, party_rows, entry_rows, deadline_rows, act_rows, local_rule_rows}
use Rattle.docket_history.specs.declared.item.CalendarItem.{CalendarItem}
use Rattle.docket_history.specs.declared.row.ActRow.{ActRow}
use Rattle.docket_history.specs.declared.row.CalendarRow.{CalendarRow}
use Rattle.docket_history.specs.declared.row.CaseRow.{CaseRow}
use Rattle.docket_history.specs.declared.row.DeadlineRow.{DeadlineRow}
use Rattle.docket_history.specs.declared.row.EntryRow.{EntryRow}
use Rattle.docket_history.specs.declared.row.LocalRuleRow.{LocalRuleRow}
use Rattle.docket_history.specs.declared.row.PartyRow.{PartyRow}
use Rattle.docket_history.specs.declared.row.Receipt.{Receipt}
use Rattle.docket_decisions.specs.Outcomes.{IsHistory, receipts}
use Rattle.docket_decisions.specs.Tables.{Tables, rows_of}
use Rattle.docket_orderly.proofs.ActionLemmas.{NewRow}
use Rattle.docket_orderly.proofs.ActLemmas.{acts_run}
use Rattle.docket_orderly.proofs.CalendarLemmas.{calendar_rises}
use Rattle.docket_orderly.proofs.LabelLemmas.{one_case}
use Rattle.docket_orderly.proofs.ListLemmas.{runs_rise}
use Rattle.docket_orderly.proofs.LocalRuleLemmas.{local_rules_run, one_local_rule}
use Rattle.docket_orderly.proofs.PairLemmas.{Pairwise, one_apart, left_apart, apart_by, apart_both, rising_apart, key_apart, single_apart}
use Rattle.docket_orderly.proofs.ReceiptLemmas.{one_receipt}
use Rattle.docket_orderly.proofs.RowLemmas.{cases_run, parties_run, entries_run, deadlines_run}

-- items, and rows of a table, that may both stand: they have not the same number, or what stands once beside it
abbrev pub IsOtherItem : CalendarItem → CalendarItem → Type 0
IsOtherItem one other = is_same_item one other ≡ false

abbrev pub IsOtherDay : CalendarRow → CalendarRow → Type 0
IsOtherDay r s = (r.number ≢ s.number) × (is_same_item r.item s.item ≡ false)

abbrev pub IsOtherCase : CaseRow → CaseRow → Type 0
IsOtherCase r s = (r.number ≢ s.number) × (r.label ≢ s.label)

abbrev pub IsOtherParty : PartyRow → PartyRow → Type 0
IsOtherParty r s = r.case ≡ s.case → r.number ≢ s.number

abbrev pub IsOtherEntry : EntryRow → EntryRow → Type 0
IsOtherEntry r s = r.case ≡ s.case → r.number ≢ s.number

abbrev pub IsOtherDeadline : DeadlineRow → DeadlineRow → Type 0
IsOtherDeadline r s = r.case ≡ s.case → r.number ≢ s.number

abbrev pub IsOtherAct : ActRow → ActRow → Type 0
IsOtherAct r s = r.case ≡ s.case → r.deadline ≡ s.deadline → r.number ≢ s.number

abbrev pub IsOtherRule : LocalRuleRow → LocalRuleRow → Type 0
IsOtherRule r s = (r.number ≢ s.number) × (r.rule.name ≢ s.rule.name)

abbrev pub IsOtherReceipt : Receipt → Receipt → Type 0
IsOtherReceipt r s = r.command.key ≢ s.command.key

-- the rows of each table are apart
pub record AreApart (t : Tables) : Type 0 where
  pub calendar : Pairwise IsOtherDay t.calendar
  pub cases : Pairwise IsOtherCase t.cases
  pub parties : Pairwise IsOtherParty t.parties
  pub entries : Pairwise IsOtherEntry t.entries
  pub deadlines : Pairwise IsOtherDeadline t.deadlines
  pub acts : Pairwise IsOtherAct t.acts
  pub local_rules : Pairwise IsOtherRule t.local_rules

-- tests of equals
same_number : (m n : ℕ) → m ≡ n → (n == m) ≡ true
same_number m n e = grind (arith, nat_tests)

same_numbers : (i j m n : ℕ) → i ≡ j → m ≡ n → (j == i && n == m) ≡ true
same_numbers i j m n e f = grind (arith, nat_tests)

same_bytes : (a b : List ℕ) → a ≡ b → bytes_eq b a ≡ true
same_bytes a b e = (bytes_eq-Decides b a).1 (sym e)

-- items of the calendar
none_same : (items : List CalendarItem) (item : CalendarItem) → stands_among items item ≡ false → AllByRecursion (λ one. IsOtherItem one item) items
none_same [] item e = tt
none_same (one ∷ items) item e = let both = or_parts (is_same_item one item) (stands_among items item) e in (both.0, none_same items item both.1)

-- new rows are apart from what stood before, and from one another
abbrev new_items : List NewRow → List CalendarItem
new_items rows = map (λ (row : NewRow). row.item) rows

fresh_apart : (standing : List CalendarItem) (asked : List NewRow) → Pairwise IsOtherItem standing → Pairwise IsOtherItem (standing ++ new_items (fresh standing asked))
fresh_apart standing [] apart = subst (Pairwise IsOtherItem) (sym (append-nil standing)) apart
fresh_apart standing (new ∷ others) apart =
    at (stands_among standing new.item) (fresh_apart standing others apart)
    (λ e. fresh_apart (standing ++ new.item ∷ []) others (one_apart IsOtherItem standing new.item apart (none_same standing new.item e)))
    refl
  where
    at : (b : Bool) → Pairwise IsOtherItem (standing ++ new_items (fresh standing others))
        → (stands_among standing new.item ≡ false → Pairwise IsOtherItem ((standing ++ new.item ∷ []) ++ new_items (fresh (standing ++ new.item ∷ []) others)))
        → stands_among standing new.item ≡ b → Pairwise IsOtherItem (standing ++ new_items (if b then fresh standing others else new ∷ fresh (standing ++ new.item ∷ []) others))
    at true without with e = without
    at false without with e = subst (Pairwise IsOtherItem) (append_assoc standing (new.item ∷ []) (new_items (fresh (standing ++ new.item ∷ []) others))) (with e)

-- numbering changes no item
items-numbered : (n : ℕ) (rows : List NewRow) → items_of (numbered n rows) ≡ new_items rows
items-numbered n [] = refl
items-numbered n (row ∷ rows) = ap (λ items. row.item ∷ items) (items-numbered (n + 1) rows)

-- rows by their items
abbrev IsOtherEntered : CalendarRow → CalendarRow → Type 0
IsOtherEntered r s = IsOtherItem r.item s.item

all_items : (item : CalendarItem) (rows : List CalendarRow) → AllByRecursion (IsOtherItem item) (items_of rows) → AllByRecursion (λ (r : CalendarRow). IsOtherItem item r.item) rows
all_items item [] all = tt
all_items item (row ∷ rows) all = (all.0, all_items item rows all.1)

by_items : (rows : List CalendarRow) → Pairwise IsOtherItem (items_of rows) → Pairwise IsOtherEntered rows
by_items [] apart = tt
by_items (row ∷ rows) apart = (all_items row.item rows apart.0, by_items rows apart.1)

of_items : (item : CalendarItem) (rows : List CalendarRow) → AllByRecursion (λ (r : CalendarRow). IsOtherItem item r.item) rows → AllByRecursion (IsOtherItem item) (items_of rows)
of_items item [] all = tt
of_items item (row ∷ rows) all = (all.0, of_items item rows all.1)

to_items : (rows : List CalendarRow) → Pairwise IsOtherEntered rows → Pairwise IsOtherItem (items_of rows)
to_items [] apart = tt
to_items (row ∷ rows) apart = (of_items row.item rows apart.0, to_items rows apart.1)

-- without the row that is withdrawn
without_apart : (w : Option ℕ) (rows more : List CalendarRow) → Pairwise IsOtherEntered (rows ++ more) → Pairwise IsOtherEntered (without_row w rows ++ more)
without_apart None rows more apart = apart
without_apart (Some number) rows more apart = left_apart IsOtherEntered (λ row. not (row.number == number)) rows more apart

-- no two rows of the calendar enter the same
items_apart : (h : History) → Pairwise IsOtherEntered (standing_rows h)
items_apart [] = tt
items_apart (c ∷ h) =
    let rows = standing_rows h in
    let added = rows_added (items_of rows) c.action in
    let new = numbered (next_row h) added in
    let all : items_of (rows ++ new) ≡ items_of rows ++ new_items added =
    map-append (λ (row : CalendarRow). row.item) rows new ∙ ap (λ items. items_of rows ++ items) (items-numbered (next_row h) added) in
    without_apart (row_withdrawn c.action) rows new
    (by_items (rows ++ new) (subst (Pairwise IsOtherItem) (sym all) (fresh_apart (items_of rows) (rows_asked c.action) (to_items rows (items_apart h)))))

-- the tables of a docket
pub tables_apart : (court : CourtSettings) (h : History) → IsHistory court h → AreApart (rows_of court h)
tables_apart court h is = record {
  calendar = apart_both (λ (r s : CalendarRow). r.number ≢ s.number) IsOtherEntered (standing_rows h) (rising_apart (λ (r : CalendarRow). r.number) (standing_rows h) (calendar_rises h)) (items_apart h);
  cases = apart_both (λ (r s : CaseRow). r.number ≢ s.number) (λ (r s : CaseRow). r.label ≢ s.label) (case_rows h)
      (rising_apart (λ (r : CaseRow). r.number) (case_rows h) (runs_rise 1 _ (cases_run h)))
      (apart_by (λ (r s : CaseRow). bytes_eq s.label r.label ≢ true) (λ (r s : CaseRow). r.label ≢ s.label) (λ r s other same. other (same_bytes r.label s.label same)) (case_rows h)
      (single_apart (λ label (r : CaseRow). bytes_eq r.label label) (λ (r : CaseRow). r.label) (λ r. same_bytes r.label r.label refl) (case_rows h) (one_case court h is)));
  parties = apart_by (λ (r s : PartyRow). (s.case == r.case) ≡ true → r.number ≢ s.number) IsOtherParty (λ r s other same. other (same_number r.case s.case same)) (party_rows h)
      (key_apart (λ k (r : PartyRow). r.case == k) (λ (r : PartyRow). r.case) (λ r. same_number r.case r.case refl) (λ (r : PartyRow). r.number) (party_rows h)
      (λ k. runs_rise 1 _ (parties_run h k)));
  entries = apart_by (λ (r s : EntryRow). (s.case == r.case) ≡ true → r.number ≢ s.number) IsOtherEntry (λ r s other same. other (same_number r.case s.case same)) (entry_rows h)
      (key_apart (λ k (r : EntryRow). r.case == k) (λ (r : EntryRow). r.case) (λ r. same_number r.case r.case refl) (λ (r : EntryRow). r.number) (entry_rows h)
      (λ k. runs_rise 1 _ (entries_run h k)));
  deadlines = apart_by (λ (r s : DeadlineRow). (s.case == r.case) ≡ true → r.number ≢ s.number) IsOtherDeadline (λ r s other same. other (same_number r.case s.case same)) (deadline_rows h)
      (key_apart (λ k (r : DeadlineRow). r.case == k) (λ (r : DeadlineRow). r.case) (λ r. same_number r.case r.case refl) (λ (r : DeadlineRow). r.number) (deadline_rows h)
      (λ k. runs_rise 1 _ (deadlines_run h k)));
  acts = apart_by (λ (r s : ActRow). (s.case == r.case && s.deadline == r.deadline) ≡ true → r.number ≢ s.number) IsOtherAct
      (λ r s other same there. other (same_numbers r.case s.case r.deadline s.deadline same there)) (act_rows h)
      (key_apart (λ (k : ℕ × ℕ) (r : ActRow). r.case == k.0 && r.deadline == k.1) (λ (r : ActRow). (r.case, r.deadline)) (λ r. same_numbers r.case r.case r.deadline r.deadline refl refl)
      (λ (r : ActRow). r.number) (act_rows h) (λ k. runs_rise 1 _ (acts_run court h is k.0 k.1)));
  local_rules = apart_both (λ (r s : LocalRuleRow). r.number ≢ s.number) (λ (r s : LocalRuleRow). r.rule.name ≢ s.rule.name) (local_rule_rows h)
      (rising_apart (λ (r : LocalRuleRow). r.number) (local_rule_rows h) (runs_rise 1 _ (local_rules_run h)))
      (apart_by (λ (r s : LocalRuleRow). bytes_eq s.rule.name r.rule.name ≢ true) (λ (r s : LocalRuleRow). r.rule.name ≢ s.rule.name) (λ r s other same. other (same_bytes r.rule.name s.rule.name same)) (local_rule_rows h)
      (single_apart (λ name (r : LocalRuleRow). bytes_eq r.rule.name name) (λ (r : LocalRuleRow). r.rule.name) (λ r. same_bytes r.rule.name r.rule.name refl) (local_rule_rows h) (one_local_rule court h is)));
}

-- and its receipts
pub receipts_apart : (court : CourtSettings) (h : History) → IsHistory court h → Pairwise IsOtherReceipt (receipts court h)
receipts_apart court h is =
    apart_by (λ (r s : Receipt). bytes_eq s.command.key r.command.key ≢ true) IsOtherReceipt (λ r s other same. other (same_bytes r.command.key s.command.key same)) (receipts court h)
    (single_apart (λ key (r : Receipt). bytes_eq r.command.key key) (λ (r : Receipt). r.command.key) (λ r. same_bytes r.command.key r.command.key refl) (receipts court h) (one_receipt court h is))
