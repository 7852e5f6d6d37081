-- A row that may be added to a docket may stand, by its SQL values, beside the rows of all tables.
use Rattle.std.proofs.Common.{◌≡◌, ◌≢◌, ◌∙◌, inl, inr, ℕ, ℤ, pos, Bool, true, false, ◌&&◌, not, Ordering, Less, Equal, Greater, is_eq, int_cmp, List, [], ◌∷◌, map, refl, sym, subst, arith}
use Rattle.std.specs.Prelude.{◌==◌}
use Rattle.std.specs.List.{AllByRecursion, list_any, cons_option}
use Rattle.std.proofs.lemmas.Bool.{cases_eq, and_parts, and_from, and_cases, and_left, and_right, or_cases, or_left, or_right, eqb-true, eqb-false, false_from_ne_true}
use Rattle.std.proofs.lemmas.Int.{ints}
use Rattle.std.proofs.lemmas.Slice.Eq.{bytes_eq-Decides}
use Rattle.court_days.specs.Court.{CourtSettings}
use Rattle.court_days.specs.declared.calendar.DayKind.{DayKind}
use Rattle.court_days.specs.declared.calendar.DayKind.TheVariants.{Federal, State, Closed}
use Rattle.docket_command.specs.declared.command.Command.{Command}
use Rattle.docket_command.specs.declared.refusal.Reply.{Reply}
use Rattle.docket_history.specs.CalendarItems.{is_same_item, is_same_kind, is_short_day}
use Rattle.docket_history.specs.ShortDays.{day_and_span_rows, short_day_row, short_day_rows}
use Rattle.docket_history.specs.declared.item.CalendarItem.{CalendarItem}
use Rattle.docket_history.specs.declared.item.CalendarItem.TheVariants.{Day, Span, Short}
use Rattle.docket_history.specs.declared.row.ActRow.{ActRow}
use Rattle.docket_history.specs.declared.row.CalendarRow.{CalendarRow}
use Rattle.docket_history.specs.declared.row.CaseRow.{CaseRow}
use Rattle.docket_history.specs.declared.row.Change.TheVariants.{AddCalendar, AddCase, AddParty, AddEntry, AddDeadline, AddAct, AddLocalRule}
use Rattle.docket_history.specs.declared.row.DeadlineRow.{DeadlineRow}
use Rattle.docket_history.specs.declared.row.EntryRow.{EntryRow}
use Rattle.docket_history.specs.declared.row.LocalRuleRow.{LocalRuleRow}
use Rattle.docket_history.specs.declared.row.PartyRow.{PartyRow}
use Rattle.docket_history.specs.declared.row.ShortDayRow.{ShortDayRow}
use Rattle.docket_decisions.specs.EndRows.{is_of}
use Rattle.docket_decisions.specs.Tables.{Tables}
use Rattle.docket_decisions.specs.declared.end_row.StoredEnd.{StoredEnd}
use Rattle.docket_orderly.specs.Additions.{MayAdd, MayReceive, HasCase, HasDeadline}
use Rattle.docket_columns.specs.Cells.{calendar_cells, short_day_cells, case_cells, party_cells, entry_cells, deadline_cells, act_cells, receipt_cells, end_cells, local_rule_cells}
use Rattle.docket_columns.specs.Codes.{day_kind_number, item_code}
use Rattle.sqlite.specs.declared.types.Value.TheVariants.{Int, Text}
use Rattle.sqlite.specs.Order.{Row, column}
use Rattle.sqlite.specs.Collation.TheVariants.{Binary}
use Rattle.sqlite_schema.specs.Rules.{equal}
use Rattle.sqlite_trees.proofs.ListLemmas.{all-filter}
use Rattle.docket_tables.specs.Additions.{AreStorable, MayStand}
use Rattle.docket_tables.specs.Contents.{rows_with}
use Rattle.docket_tables.specs.declared.table.Table.TheVariants.{Calendar, Cases, Parties, Entries, Deadlines, Acts, Receipts, Due, ShortDays, LocalRules}
use Rattle.docket_tables.proofs.CellLemmas.{equal_text}
use Rattle.docket_tables.proofs.HoldsLemmas.{equal_int, same_int}

-- lists of rows, and their values

-- from what holds of all rows to what holds of the values of each
all_cells : {X : Type 0} (cells : X → Row) (P : X → Type 0) (Q : Row → Type 0) → ((x : X) → P x → Q (cells x)) → (xs : List X) → AllByRecursion P xs → AllByRecursion Q (map cells xs)
all_cells cells P Q follows [] all = tt
all_cells cells P Q follows (x ∷ xs) all = (follows x all.0, all_cells cells P Q follows xs all.1)

-- from a row that passes a test to the values of one
any_cells : {X : Type 0} (cells : X → Row) (p : X → Bool) (q : Row → Bool) → ((x : X) → p x ≡ true → q (cells x) ≡ true) → (xs : List X)
    → list_any p xs ≡ true → list_any q (map cells xs) ≡ true
any_cells cells p q follows [] any = any
any_cells cells p q follows (x ∷ xs) any =
    elim (or_cases (p x) (list_any p xs) any) [
      | inl here ↦ or_left _ _ (follows x here)
      | inr there ↦ or_right _ _ (any_cells cells p q follows xs there)
    ]

-- tests of values

-- other numbers are not equal values
int_apart : (m n : ℤ) → m ≢ n → equal Binary (Int m) (Int n) ≡ false
int_apart m n other = equal_int m n ∙ false_from_ne_true _ (λ e. other (same_int _ m n refl e))

-- numbers from zero on are the same where their integers are
pos_same : (m n : ℕ) → pos m ≡ pos n → m ≡ n
pos_same m n e = grind (arith, ints)

-- nor are other numbers from zero on
number_apart : (m n : ℕ) → m ≢ n → equal Binary (Int (pos m)) (Int (pos n)) ≡ false
number_apart m n other = int_apart (pos m) (pos n) (λ e. other (pos_same m n e))

-- the order finds a number equal to itself
self_equal : (o : Ordering) (n : ℤ) → int_cmp n n ≡ o → is_eq o ≡ true
self_equal Less n is = grind (arith, ints)
self_equal Equal n is = refl
self_equal Greater n is = grind (arith, ints)

-- numbers that pass the test are equal values
number_same : (m n : ℕ) → (m == n) ≡ true → equal Binary (Int (pos m)) (Int (pos n)) ≡ true
number_same m n e = subst (λ k. equal Binary (Int (pos m)) (Int (pos k)) ≡ true) (eqb-true m n e) (equal_int (pos m) (pos m) ∙ self_equal _ (pos m) refl)

-- other texts are not equal values
text_apart : (s t : List ℕ) → s ≢ t → equal Binary (Text s) (Text t) ≡ false
text_apart s t other = equal_text s t ∙ false_from_ne_true _ (λ e. other ((bytes_eq-Decides s t).0 e))

-- rows of other numbers in one case are not alike in both
pair_apart : (i j m n : ℕ) → (i ≡ j → m ≢ n) → (equal Binary (Int (pos i)) (Int (pos j)) && (equal Binary (Int (pos m)) (Int (pos n)) && true)) ≡ false
pair_apart i j m n other =
    elim (cases_eq i j) [
      | inl same ↦ and_right _ _ (and_left _ _ (number_apart m n (other same)))
      | inr apart ↦ and_left _ _ (number_apart i j apart)
    ]

-- nor are acts of other numbers on one deadline, in all three
triple_apart : (h i j k m n : ℕ) → (h ≡ i → j ≡ k → m ≢ n)
    → (equal Binary (Int (pos h)) (Int (pos i)) && (equal Binary (Int (pos j)) (Int (pos k)) && (equal Binary (Int (pos m)) (Int (pos n)) && true))) ≡ false
triple_apart h i j k m n other =
    elim (cases_eq h i) [
      | inl same ↦ and_right _ _ (pair_apart j k m n (other same))
      | inr apart ↦ and_left _ _ (number_apart h i apart)
    ]

-- nor are ends of other deadlines
end_apart : (row other : StoredEnd) → is_of row.case row.deadline other ≡ false
    → (equal Binary (Int (pos other.case)) (Int (pos row.case)) && (equal Binary (Int (pos other.deadline)) (Int (pos row.deadline)) && true)) ≡ false
end_apart row other apart =
    elim (and_cases _ _ apart) [
      | inl case ↦ and_left _ _ (number_apart other.case row.case (eqb-false _ _ case))
      | inr deadline ↦ and_right _ _ (and_left _ _ (number_apart other.deadline row.deadline (eqb-false _ _ deadline)))
    ]

-- rows of the calendar

-- days of other kinds have other numbers for them
kinds_apart : (one other : DayKind) → is_same_kind one other ≡ false → day_kind_number one ≢ day_kind_number other
kinds_apart Federal Federal apart = absurd (cc)
kinds_apart Federal State apart = λ e. omega (arith, e)
kinds_apart Federal Closed apart = λ e. omega (arith, e)
kinds_apart State Federal apart = λ e. omega (arith, e)
kinds_apart State State apart = absurd (cc)
kinds_apart State Closed apart = λ e. omega (arith, e)
kinds_apart Closed Federal apart = λ e. omega (arith, e)
kinds_apart Closed State apart = λ e. omega (arith, e)
kinds_apart Closed Closed apart = absurd (cc)

-- the number of a kind of day is none of the others
kind_low : (kind : DayKind) → (day_kind_number kind ≢ 4) × (day_kind_number kind ≢ 0)
kind_low Federal = (λ e. omega (arith, e), λ e. omega (arith, e))
kind_low State = (λ e. omega (arith, e), λ e. omega (arith, e))
kind_low Closed = (λ e. omega (arith, e), λ e. omega (arith, e))

-- the codes are equal values
abbrev are_equal_codes : CalendarItem → CalendarItem → Bool
are_equal_codes one other =
    equal Binary (Int (pos (item_code one).kind)) (Int (pos (item_code other).kind))
    && (equal Binary (Int (item_code one).a) (Int (item_code other).a) && (equal Binary (Int (item_code one).b) (Int (item_code other).b) && true))

-- other items have other codes
codes_apart : (one other : CalendarItem) → is_same_item one other ≡ false → are_equal_codes one other ≡ false
codes_apart (Day kind day) (Day other_kind other_day) apart =
    elim (and_cases _ _ apart) [
      | inl kinds ↦ and_left _ _ (number_apart _ _ (kinds_apart kind other_kind kinds))
      | inr days ↦ and_right _ _ (and_left _ _ (number_apart day other_day (eqb-false _ _ days)))
    ]
codes_apart (Day kind day) (Span start end) apart = and_left _ _ (number_apart _ _ (kind_low kind).0)
codes_apart (Day kind day) (Short other_day close) apart = and_left _ _ (number_apart _ _ (kind_low kind).1)
codes_apart (Span start end) (Day kind day) apart = and_left _ _ (number_apart _ _ (λ e. (kind_low kind).0 (sym e)))
codes_apart (Span start end) (Span other_start other_end) apart =
    elim (and_cases _ _ apart) [
      | inl starts ↦ and_right _ _ (and_left _ _ (number_apart start other_start (eqb-false _ _ starts)))
      | inr ends ↦ and_right _ _ (and_right _ _ (and_left _ _ (number_apart end other_end (eqb-false _ _ ends))))
    ]
codes_apart (Span start end) (Short day close) apart = and_left _ _ (number_apart 4 0 (λ e. omega (arith, e)))
codes_apart (Short day close) (Day kind other_day) apart = and_left _ _ (number_apart _ _ (λ e. (kind_low kind).1 (sym e)))
codes_apart (Short day close) (Span start end) apart = and_left _ _ (number_apart 0 4 (λ e. omega (arith, e)))
codes_apart (Short day close) (Short other_day other_close) apart = and_right _ _ (and_left _ _ (number_apart day other_day (eqb-false _ _ apart)))

-- where the rows of the calendar have other numbers and other items, those of short days have other numbers and other days
short_days_apart : (number day close : ℕ) (rows : List CalendarRow) → AllByRecursion (λ (r : CalendarRow). (r.number ≢ number) × (is_same_item r.item (Short day close) ≡ false)) rows
    → AllByRecursion (λ (r : ShortDayRow). (r.number ≢ number) × (r.day ≢ day)) (short_day_rows rows)
short_days_apart number day close [] all = tt
short_days_apart number day close (row ∷ rows) all = at row.item all.0.1 (short_days_apart number day close rows all.1)
  where
    at : (item : CalendarItem) → is_same_item item (Short day close) ≡ false → AllByRecursion (λ (r : ShortDayRow). (r.number ≢ number) × (r.day ≢ day)) (short_day_rows rows)
        → AllByRecursion (λ (r : ShortDayRow). (r.number ≢ number) × (r.day ≢ day)) (cons_option (short_day_row row.number row.name item) (short_day_rows rows))
    at (Day kind other_day) apart rest = rest
    at (Span start end) apart rest = rest
    at (Short other_day other_close) apart rest = ((all.0.0, eqb-false _ _ apart), rest)

-- parents

-- the case stands, by the values of its row
has_case : (court : CourtSettings) (t : Tables) (ends : List StoredEnd) (k : ℕ)
    → HasCase t k → list_any (λ other. equal Binary (column other 0) (Int (pos k)) && true) (rows_with court t ends Cases) ≡ true
has_case court t ends k has =
    any_cells case_cells (λ (r : CaseRow). r.number == k) (λ other. equal Binary (column other 0) (Int (pos k)) && true) (λ r e. and_from _ _ (number_same r.number k e) refl) t.cases has

-- the deadline stands, by the values of its row
has_deadline : (court : CourtSettings) (t : Tables) (ends : List StoredEnd) (k n : ℕ)
    → HasDeadline t k n → list_any (λ other. equal Binary (column other 0) (Int (pos k)) && (equal Binary (column other 1) (Int (pos n)) && true)) (rows_with court t ends Deadlines) ≡ true
has_deadline court t ends k n has =
    any_cells deadline_cells (λ (r : DeadlineRow). r.case == k && r.number == n) (λ other. equal Binary (column other 0) (Int (pos k)) && (equal Binary (column other 1) (Int (pos n)) && true))
    (λ r e. let both = and_parts _ _ e in and_from _ _ (number_same r.case k both.0) (and_from _ _ (number_same r.number n both.1) refl)) t.deadlines has

module _ (court : CourtSettings) (t : Tables) (ends : List StoredEnd) where
  -- a case
  pub case_may : (row : CaseRow) → MayAdd (AddCase row) t → AreStorable (case_cells row) → MayStand Cases (case_cells row) (rows_with court t ends)
  case_may row may storable = record {
    storable = storable;
    alone = (
      all_cells case_cells _ _ (λ r apart. and_left _ _ (number_apart r.number row.number apart.0)) t.cases may,
      (all_cells case_cells _ _ (λ r apart. and_left _ _ (text_apart r.label row.label apart.1)) t.cases may, tt),
    );
    parents = tt;
  }

  -- a party of a case that stands
  pub party_may : (row : PartyRow) → MayAdd (AddParty row) t → AreStorable (party_cells row) → MayStand Parties (party_cells row) (rows_with court t ends)
  party_may row may storable = record {
    storable = storable;
    alone = (all_cells party_cells _ _ (λ r apart. pair_apart r.case row.case r.number row.number apart) t.parties may.0, tt);
    parents = (has_case court t ends row.case may.1, tt);
  }

  -- an entry of a case that stands
  pub entry_may : (row : EntryRow) → MayAdd (AddEntry row) t → AreStorable (entry_cells row) → MayStand Entries (entry_cells row) (rows_with court t ends)
  entry_may row may storable = record {
    storable = storable;
    alone = (all_cells entry_cells _ _ (λ r apart. pair_apart r.case row.case r.number row.number apart) t.entries may.0, tt);
    parents = (has_case court t ends row.case may.1, tt);
  }

  -- a deadline in a case that stands
  pub deadline_may : (row : DeadlineRow) → MayAdd (AddDeadline row) t → AreStorable (deadline_cells row) → MayStand Deadlines (deadline_cells row) (rows_with court t ends)
  deadline_may row may storable = record {
    storable = storable;
    alone = (all_cells deadline_cells _ _ (λ r apart. pair_apart r.case row.case r.number row.number apart) t.deadlines may.0, tt);
    parents = (has_case court t ends row.case may.1, tt);
  }

  -- an act on a deadline that stands
  pub act_may : (row : ActRow) → MayAdd (AddAct row) t → AreStorable (act_cells row) → MayStand Acts (act_cells row) (rows_with court t ends)
  act_may row may storable = record {
    storable = storable;
    alone = (all_cells act_cells _ _ (λ r apart. triple_apart r.case row.case r.deadline row.deadline r.number row.number apart) t.acts may.0, tt);
    parents = (has_deadline court t ends row.case row.deadline may.1, tt);
  }

  -- a local rule
  pub local_rule_may : (row : LocalRuleRow) → MayAdd (AddLocalRule row) t → AreStorable (local_rule_cells row) → MayStand LocalRules (local_rule_cells row) (rows_with court t ends)
  local_rule_may row may storable = record {
    storable = storable;
    alone = (
      all_cells local_rule_cells _ _ (λ r apart. and_left _ _ (number_apart r.number row.number apart.0)) t.local_rules may,
      (all_cells local_rule_cells _ _ (λ r apart. and_left _ _ (text_apart r.rule.name row.rule.name apart.1)) t.local_rules may, tt),
    );
    parents = tt;
  }

  -- a receipt
  pub receipt_may : (c : Command) (reply : Reply) → MayReceive c t → AreStorable (receipt_cells (record { command = c; reply = reply }))
      → MayStand Receipts (receipt_cells (record { command = c; reply = reply })) (rows_with court t ends)
  receipt_may c reply may storable = record {
    storable = storable;
    alone = (all_cells receipt_cells _ _ (λ r apart. and_left _ _ (text_apart r.command.key c.key apart)) t.receipts may, tt);
    parents = tt;
  }

  -- the end of a deadline that stands
  pub end_may : (row : StoredEnd) → AllByRecursion (λ (other : StoredEnd). is_of row.case row.deadline other ≡ false) ends → HasDeadline t row.case row.deadline → AreStorable (end_cells row)
      → MayStand Due (end_cells row) (rows_with court t ends)
  end_may row may has storable = record {
    storable = storable;
    alone = (
      all_cells end_cells _ _ (λ r apart. end_apart row r apart) ends may,
      (all_cells end_cells _ _ (λ r apart. and_right _ _ (and_right _ _ (end_apart row r apart))) ends may, tt),
    );
    parents = (has_deadline court t ends row.case row.deadline has, tt);
  }

  -- a short day
  pub short_day_may : (number day close : ℕ) (name : List ℕ) → MayAdd (AddCalendar (record { number = number; item = Short day close; name = name })) t
      → AreStorable (short_day_cells (record { number = number; day = day; close = close; name = name }))
      → MayStand ShortDays (short_day_cells (record { number = number; day = day; close = close; name = name })) (rows_with court t ends)
  short_day_may number day close name may storable =
      let apart = short_days_apart number day close t.calendar may in
      record {
        storable = storable;
        alone = (
          all_cells short_day_cells _ _ (λ r other. and_left _ _ (number_apart r.number number other.0)) (short_day_rows t.calendar) apart,
          (all_cells short_day_cells _ _ (λ r other. and_left _ _ (number_apart r.day day other.1)) (short_day_rows t.calendar) apart, tt),
        );
        parents = tt;
      }

  -- a day or a span of the calendar
  pub calendar_may : (row : CalendarRow) → MayAdd (AddCalendar row) t → AreStorable (calendar_cells row) → MayStand Calendar (calendar_cells row) (rows_with court t ends)
  calendar_may row may storable =
      let apart = all-filter _ (λ (r : CalendarRow). not (is_short_day r.item)) t.calendar may in
      record {
        storable = storable;
        alone = (
          all_cells calendar_cells _ _ (λ r other. and_left _ _ (number_apart r.number row.number other.0)) (day_and_span_rows t.calendar) apart,
          (all_cells calendar_cells _ _ (λ r other. codes_apart r.item row.item other.1) (day_and_span_rows t.calendar) apart, tt),
        );
        parents = tt;
      }
