-- What an accepted command adds can be stored: its numbers fit in 64 bits, and its texts are short.
use Rattle.std.proofs.Common.{◌≡◌, ℕ, ◌+◌, ◌≤◌, ◌<◌, ◌^◌, Bool, true, false, not, ◌&&◌, Option, Some, None, List, [], ◌∷◌, ◌++◌, length, map, ℤ, pos, negsuc, SFits, w64, lt-ltb, refl, sym, subst, arith, nat_le}
use Rattle.std.specs.Prelude.{filter, if◌then◌else◌}
use Rattle.std.specs.List.{AllByRecursion}
use Rattle.std.proofs.lemmas.Bool.Decides.{nat_tests}
use Rattle.std.proofs.lemmas.Bool.{and_parts, not-false}
use Rattle.std.proofs.lemmas.List.Elements.{filter-append, filter_map-append}
use Rattle.court_days.specs.Court.{CourtSettings}
use Rattle.court_days.specs.declared.calendar.DayKind.{DayKind}
use Rattle.court_days.specs.declared.calendar.DayKind.TheVariants.{Federal, State, Closed}
use Rattle.court_days.specs.declared.calendar.Direction.{Direction}
use Rattle.court_days.specs.declared.calendar.Direction.TheVariants.{Forward, Backward}
use Rattle.court_days.specs.declared.filing.Way.{Way}
use Rattle.court_days.specs.declared.filing.Way.TheVariants.{Electronic, Office}
use Rattle.court_rules.specs.LocalRules.{deadline_rule_name, is_local_name, IsDeadlineRule}
use Rattle.court_rules.specs.Rules.{name_of, line_of}
use Rattle.court_rules.specs.declared.act.Act.{Act}
use Rattle.court_rules.specs.declared.act.Act.TheVariants as act
use Rattle.court_rules.specs.declared.act.MotionKind.{MotionKind}
use Rattle.court_rules.specs.declared.act.MotionKind.TheVariants.{B, E, F}
use Rattle.court_rules.specs.declared.act.Start.TheVariants as start
use Rattle.court_rules.specs.declared.deadline_rule.DeadlineRule.{DeadlineRule}
use Rattle.court_rules.specs.declared.deadline_rule.DeadlineRule.TheVariants.{Listed, Local}
use Rattle.court_rules.specs.declared.rule.Rule.{Rule}
use Rattle.court_rules.specs.declared.rule.Rule.TheVariants.{AnswerToSummons}
use Rattle.court_rules.specs.declared.table.Period.{Period}
use Rattle.court_rules.specs.declared.table.Period.TheVariants as period
use Rattle.docket_command.specs.declared.choice.Role.{Role}
use Rattle.docket_command.specs.declared.choice.Role.TheVariants as role
use Rattle.docket_command.specs.declared.command.Action.{Action}
use Rattle.docket_command.specs.declared.command.Action.TheVariants as action
use Rattle.docket_command.specs.declared.command.Command.{Command}
use Rattle.docket_command.specs.declared.refusal.Refusal.{Refusal}
use Rattle.docket_command.specs.declared.refusal.Reply.{Reply}
use Rattle.docket_history.specs.Actions.{rows_asked, row_withdrawn}
use Rattle.docket_history.specs.CalendarItems.{stands_among, fresh, is_short_day}
use Rattle.docket_history.specs.Histories.{History, numbered, rows_added, new_case, new_party, new_entry, new_local_rule}
use Rattle.docket_history.specs.ShortDays.{day_and_span_rows, short_day_rows, short_day_row}
use Rattle.docket_history.specs.Views.{parties_in, entries_in}
use Rattle.docket_history.specs.declared.item.CalendarItem.{CalendarItem}
use Rattle.docket_history.specs.declared.item.CalendarItem.TheVariants as item
use Rattle.docket_history.specs.declared.item.NewRow.{NewRow}
use Rattle.docket_history.specs.declared.row.CalendarRow.{CalendarRow}
use Rattle.docket_history.specs.declared.row.Change.{Change}
use Rattle.docket_history.specs.declared.row.Change.TheVariants as change
use Rattle.docket_history.specs.declared.row.ShortDayRow.{ShortDayRow}
use Rattle.docket_history.specs.declared.view.View.{View}
use Rattle.docket_decisions.specs.Outcomes.{IsHistory, outcome, accepted, shown, receipts, reply_to, replied}
use Rattle.docket_decisions.specs.Refusals.{on, first_some}
use Rattle.docket_decisions.specs.Tables.{Tables, rows_of, changed, all_changed, with_receipt, withdrawal, action_changes, calendar_changes, case_changes, party_changes, entry_changes, deadline_changes, first_act_changes, act_changes, view_in}
use Rattle.docket_decisions.specs.CalendarRows.{is_sound_item, is_well_named}
use Rattle.docket_decisions.proofs.GoodValues.{IsGoodRow, rows_good, passes}
use Rattle.docket_decisions.proofs.Leading.{leads, is_accepted}
use Rattle.docket_decisions.proofs.LimitsKept.{IsPassed, passed}
use Rattle.docket_decisions.proofs.ListLemmas.{all_both}
use Rattle.docket_wire.specs.Valid.{IsCommand}
use Rattle.docket_wire.specs.Writing.{canonical}
use Rattle.docket_columns.specs.Cells.{receipt_cells}
use Rattle.docket_columns.specs.Codes.{flag_number, role_number, direction_number, way_number, motion_number, day_kind_number, unit_number, act_code}
use Rattle.docket_columns.specs.Fits.{IsCalendarRow, IsShortDayRow, IsCaseRow, IsPartyRow, IsEntryRow, IsDeadlineRow, IsActRow, IsReceipt, IsLocalRuleRow, IsAct}
use Rattle.docket_orderly.proofs.ParentLemmas.{additions_of, withdrawal_first}
use Rattle.docket_orderly.specs.Orderly.{IsCourtSettings, IsOrderly}
use Rattle.docket_orderly.proofs.DocketLemmas.{orderly}
use Rattle.docket_orderly.proofs.AdditionLemmas.{all_add}
use Rattle.docket_tables.specs.Additions.{IsStorableValue, AreStorable, calendar_values, values_added}
use Rattle.sqlite.specs.declared.types.Value.TheVariants.{Int}

-- what holds of both of two lists, one after the other, holds of each
all_parts : {X : Type 0} (P : X → Type 0) (xs ys : List X) → AllByRecursion P (xs ++ ys) → AllByRecursion P xs × AllByRecursion P ys
all_parts P [] ys all = (tt, all)
all_parts P (x ∷ xs) ys all = let rest = all_parts P xs ys all.1 in ((all.0, rest.0), rest.1)

-- and what holds of a list with one more, of that one and the others
all_last : {X : Type 0} (P : X → Type 0) (xs : List X) (x : X) → AllByRecursion P (xs ++ x ∷ []) → P x × AllByRecursion P xs
all_last P xs x all = let parts = all_parts P xs (x ∷ []) all in (parts.1.0, parts.0)

-- the same of those that are kept
kept_parts : {X : Type 0} (P : X → Type 0) (p : X → Bool) (xs ys : List X) → AllByRecursion P (filter p (xs ++ ys)) → AllByRecursion P (filter p xs) × AllByRecursion P (filter p ys)
kept_parts P p xs ys all = all_parts P (filter p xs) (filter p ys) (subst (AllByRecursion P) (filter-append p xs ys) all)

-- and of the short days among rows
short_parts : (xs ys : List CalendarRow) → AllByRecursion IsShortDayRow (short_day_rows (xs ++ ys)) → AllByRecursion IsShortDayRow (short_day_rows xs) × AllByRecursion IsShortDayRow (short_day_rows ys)
short_parts xs ys all =
    let pick : CalendarRow → Option ShortDayRow = λ row. short_day_row row.number row.name row.item in
    all_parts IsShortDayRow (short_day_rows xs) (short_day_rows ys) (subst (AllByRecursion IsShortDayRow) (filter_map-append pick xs ys) all)

-- numbers

-- the row that a change adds is one that its type holds
abbrev IsTyped : Change → Type 0
IsTyped (change.AddCalendar row) = AllByRecursion IsCalendarRow (day_and_span_rows (row ∷ [])) × AllByRecursion IsShortDayRow (short_day_rows (row ∷ []))
IsTyped (change.RemoveCalendar number) = Unit {0}
IsTyped (change.AddCase row) = IsCaseRow row
IsTyped (change.AddParty row) = IsPartyRow row
IsTyped (change.AddEntry row) = IsEntryRow row
IsTyped (change.AddDeadline row) = IsDeadlineRow row
IsTyped (change.AddAct row) = IsActRow row
IsTyped (change.AddLocalRule row) = IsLocalRuleRow row

-- so are the rows of tables
record AreTyped (t : Tables) : Type 0 where
  calendar : AllByRecursion IsCalendarRow (day_and_span_rows t.calendar)
  short_days : AllByRecursion IsShortDayRow (short_day_rows t.calendar)
  cases : AllByRecursion IsCaseRow t.cases
  parties : AllByRecursion IsPartyRow t.parties
  entries : AllByRecursion IsEntryRow t.entries
  deadlines : AllByRecursion IsDeadlineRow t.deadlines
  acts : AllByRecursion IsActRow t.acts
  local_rules : AllByRecursion IsLocalRuleRow t.local_rules

-- it adds a row
abbrev IsAddition : Change → Type 0
IsAddition (change.RemoveCalendar number) = ⊥
IsAddition _ = Unit {0}

-- of tables with one row more, the row and the others
typed_here : (x : Change) (t : Tables) → IsAddition x → AreTyped (changed x t) → IsTyped x × AreTyped t
typed_here (change.AddCalendar row) t is all =
    let days = kept_parts IsCalendarRow (λ (r : CalendarRow). not (is_short_day r.item)) t.calendar (row ∷ []) all.calendar in
    let shorts = short_parts t.calendar (row ∷ []) all.short_days in
    ((days.1, shorts.1), record { calendar = days.0; short_days = shorts.0; cases = all.cases; parties = all.parties; entries = all.entries; deadlines = all.deadlines; acts = all.acts; local_rules = all.local_rules })
typed_here (change.RemoveCalendar number) t is all = absurd is
typed_here (change.AddCase row) t is all =
    let parts = all_last IsCaseRow t.cases row all.cases in
    (parts.0, record { calendar = all.calendar; short_days = all.short_days; cases = parts.1; parties = all.parties; entries = all.entries; deadlines = all.deadlines; acts = all.acts; local_rules = all.local_rules })
typed_here (change.AddParty row) t is all =
    let parts = all_last IsPartyRow t.parties row all.parties in
    (parts.0, record { calendar = all.calendar; short_days = all.short_days; cases = all.cases; parties = parts.1; entries = all.entries; deadlines = all.deadlines; acts = all.acts; local_rules = all.local_rules })
typed_here (change.AddEntry row) t is all =
    let parts = all_last IsEntryRow t.entries row all.entries in
    (parts.0, record { calendar = all.calendar; short_days = all.short_days; cases = all.cases; parties = all.parties; entries = parts.1; deadlines = all.deadlines; acts = all.acts; local_rules = all.local_rules })
typed_here (change.AddDeadline row) t is all =
    let parts = all_last IsDeadlineRow t.deadlines row all.deadlines in
    (parts.0, record { calendar = all.calendar; short_days = all.short_days; cases = all.cases; parties = all.parties; entries = all.entries; deadlines = parts.1; acts = all.acts; local_rules = all.local_rules })
typed_here (change.AddAct row) t is all =
    let parts = all_last IsActRow t.acts row all.acts in
    (parts.0, record { calendar = all.calendar; short_days = all.short_days; cases = all.cases; parties = all.parties; entries = all.entries; deadlines = all.deadlines; acts = parts.1; local_rules = all.local_rules })
typed_here (change.AddLocalRule row) t is all =
    let parts = all_last IsLocalRuleRow t.local_rules row all.local_rules in
    (parts.0, record { calendar = all.calendar; short_days = all.short_days; cases = all.cases; parties = all.parties; entries = all.entries; deadlines = all.deadlines; acts = all.acts; local_rules = parts.1 })

-- with rows added one after another
typed_all : (xs : List Change) (t : Tables) → AllByRecursion IsAddition xs → AreTyped (all_changed xs t) → AllByRecursion IsTyped xs × AreTyped t
typed_all [] t add all = (tt, all)
typed_all (x ∷ xs) t add all =
    let after = typed_all xs (changed x t) add.1 all in
    let here = typed_here x t add.0 after.1 in
    ((here.0, after.0), here.1)

-- after a withdrawal
typed_after : (w : Option ℕ) (xs : List Change) (t : Tables) → AllByRecursion IsAddition xs → AreTyped (all_changed (withdrawal w ++ xs) t) → AllByRecursion IsTyped (withdrawal w ++ xs)
typed_after None xs t add all = (typed_all xs t add all).0
typed_after (Some number) xs t add all = (tt, (typed_all xs (changed (change.RemoveCalendar number) t) add all).0)

-- all changes of an action but the withdrawal are
are_additions : (v : View) (a : Action) → AllByRecursion IsAddition (additions_of v a)
are_additions v a =
    all_both IsAddition (calendar_changes v a) _ (all_add change.AddCalendar (λ row. tt) _)
    (all_both IsAddition (case_changes v a) _ (all_add change.AddCase (λ row. tt) _)
    (all_both IsAddition (party_changes v a) _ (all_add change.AddParty (λ row. tt) _)
    (all_both IsAddition (entry_changes v a) _ (all_add change.AddEntry (λ row. tt) _)
    (all_both IsAddition (deadline_changes v a) _ (all_add change.AddDeadline (λ row. tt) _)
    (all_both IsAddition (first_act_changes v a) _ (all_add change.AddAct (λ row. tt) _)
    (all_both IsAddition (act_changes v a) _ (all_add change.AddAct (λ row. tt) _)
    (all_add change.AddLocalRule (λ row. tt) _)))))))

-- the rows of a docket's tables are
typed_tables : (court : CourtSettings) (t : Tables) → IsOrderly court t → AreTyped t
typed_tables court t all =
    record { calendar = all.calendar; short_days = all.short_days; cases = all.cases; parties = all.parties; entries = all.entries; deadlines = all.deadlines; acts = all.acts; local_rules = all.local_rules }

-- with a receipt or without
but_receipt : (c : Command) (reply : Reply) (t : Tables) → AreTyped (with_receipt c reply t) → AreTyped t
but_receipt c reply t all =
    record { calendar = all.calendar; short_days = all.short_days; cases = all.cases; parties = all.parties; entries = all.entries; deadlines = all.deadlines; acts = all.acts; local_rules = all.local_rules }

-- the rows that an accepted command adds are what their types hold
changes_typed : (court : CourtSettings) (h : History) (c : Command) → IsCourtSettings court → IsHistory court (c ∷ h) → AllByRecursion IsCommand (c ∷ h) → AllByRecursion IsTyped (action_changes (shown court h c) c.action)
changes_typed court h c held is all =
    let v = shown court h c in
    let p = passed court h c is.0.0 is.0.1 in
    let in_turn = withdrawal_first v c.action in
    let after : AreTyped (all_changed (action_changes v c.action) (rows_of court h)) =
    but_receipt c (replied (reply_to court v c.action)) _
    (subst AreTyped (sym (leads court h c p.case p.deadline)) (typed_tables court (rows_of court (c ∷ h)) (orderly court (c ∷ h) held is all))) in
    subst (AllByRecursion IsTyped) (sym in_turn)
    (typed_after (row_withdrawn c.action) (additions_of v c.action) (rows_of court h) (are_additions v c.action)
    (subst (λ (xs : List Change). AreTyped (all_changed xs (rows_of court h))) in_turn after))

-- texts

-- ten million bytes at most
abbrev IsShort : List ℕ → Type 0
IsShort text = length text ≤ 10 ^ 7

-- the texts of the row that a change adds are short
abbrev HasShortTexts : Change → Type 0
HasShortTexts (change.AddCalendar row) = IsShort row.name
HasShortTexts (change.AddCase row) = IsShort row.label × IsShort row.caption
HasShortTexts (change.AddParty row) = IsShort row.name
HasShortTexts (change.AddEntry row) = IsShort row.text
HasShortTexts (change.AddLocalRule row) = IsShort row.rule.name
HasShortTexts _ = Unit {0}

-- a text within a limit that is less
within : (low limit : ℕ) (text : List ℕ) (b : Bool) → limit ≤ 10_000_000 → ((nat_le low (length text) && nat_le (length text) limit) && b) ≡ true → IsShort text
within low limit text b few e =
    let most : nat_le (length text) limit ≡ true = (and_parts (nat_le low (length text)) _ (and_parts (nat_le low (length text) && nat_le (length text) limit) b e).0).1 in
    let least : length text ≤ limit = grind (arith, nat_tests) in
    omega (arith, least, few)

-- a text that is not bad
good : (limit : ℕ) (text : List ℕ) (b : Bool) → limit ≤ 10_000_000 → not ((nat_le 1 (length text) && nat_le (length text) limit) && b) ≡ false → IsShort text
good limit text b few e = within 1 limit text b few (not-false ((nat_le 1 (length text) && nat_le (length text) limit) && b) e)

-- the name of a local rule
local_short : (name : List ℕ) → is_local_name name ≡ true → IsShort name
unfolding is_local_name
local_short name e = within 3 16 name _ (omega arith) e

-- the name of a rule of the table
listed_few : (rule : Rule) → nat_le (length (name_of rule)) 10_000_000 ≡ true
unfolding line_of
listed_few AnswerToSummons = refl
listed_few rule = refl

-- the name of a deadline's rule
name_short : (rule : DeadlineRule) → IsDeadlineRule rule → IsShort (deadline_rule_name rule)
name_short (Listed rule) is = let few = listed_few rule in grind (arith, nat_tests)
name_short (Local name) is = local_short name is

-- names of calendar rows
abbrev AreShort : List NewRow → Type 0
AreShort rows = AllByRecursion (λ (row : NewRow). IsShort row.name) rows

-- the name of a row that the court may enter
named_short : (item : CalendarItem) (name : List ℕ) → is_well_named item name ≡ true → IsShort name
named_short (item.Day kind day) name e = within 1 100 name _ (omega arith) e
named_short (item.Span start end) name e = let none : length name ≡ 0 = grind (arith, nat_tests) in omega (arith, none)
named_short (item.Short day close) name e = within 1 100 name _ (omega arith) e

all_short : (court : CourtSettings) (rows : List NewRow) → AllByRecursion (IsGoodRow court) rows → AreShort rows
all_short court [] good = tt
all_short court (row ∷ rows) good =
    (named_short row.item row.name (and_parts (is_sound_item court row.item) (is_well_named row.item row.name) good.0).1, all_short court rows good.1)

-- the texts of a command that is accepted
module _ (court : CourtSettings) (h : History) where
  -- the names of the calendar rows that it asks for
  asked_short : (a : Action) → IsPassed court h a → AreShort (rows_asked a)
  asked_short a p = all_short court (rows_asked a) (rows_good court a p.values)

  -- the label and the caption of a case
  case_short : (count : ℕ) (a : Action) → IsPassed court h a → AllByRecursion HasShortTexts (map change.AddCase (new_case count a))
  case_short count (action.OpenCase a) p =
      let label = passes _ _ _ p.values in
      ((good 40 a.label _ (omega arith) label.0, good 200 a.caption _ (omega arith) (passes _ _ _ label.1).0), tt)
  case_short count _ p = tt

  -- the name of a party
  party_short : (count : ℕ) (a : Action) → IsPassed court h a → AllByRecursion HasShortTexts (map change.AddParty (new_party count a))
  party_short count (action.AddParty a) p = (good 100 a.name _ (omega arith) (passes _ _ _ p.values).0, tt)
  party_short count _ p = tt

  -- the text of an entry
  entry_short : (count : ℕ) (a : Action) → IsPassed court h a → AllByRecursion HasShortTexts (map change.AddEntry (new_entry count a))
  entry_short count (action.FileEntry a) p = (good 2000 a.text _ (omega arith) (passes _ _ _ (passes _ _ _ p.values).1).0, tt)
  entry_short count _ p = tt

  -- the name of a local rule
  rule_short : (count : ℕ) (a : Action) → IsPassed court h a → AllByRecursion HasShortTexts (map change.AddLocalRule (new_local_rule count a))
  rule_short count (action.LocalRule a) p = (local_short a.name (not-false (is_local_name a.name) (passes _ _ _ p.values).0), tt)
  rule_short count _ p = tt

-- of rows that are asked for, those that don't stand
fresh_if : (b : Bool) (new : NewRow) (rows others : List NewRow) → IsShort new.name → AreShort rows → AreShort others → AreShort (if b then rows else new ∷ others)
fresh_if true new rows others here less more = less
fresh_if false new rows others here less more = (here, more)

fresh_short : (standing : List CalendarItem) (asked : List NewRow) → AreShort asked → AreShort (fresh standing asked)
fresh_short standing [] all = tt
fresh_short standing (new ∷ others) all =
    fresh_if (stands_among standing new.item) new _ _ all.0 (fresh_short standing others all.1) (fresh_short (standing ++ new.item ∷ []) others all.1)

-- as numbered rows
numbered_short : (number : ℕ) (rows : List NewRow) → AreShort rows → AllByRecursion HasShortTexts (map change.AddCalendar (numbered number rows))
numbered_short number [] all = tt
numbered_short number (row ∷ rows) all = (all.0, numbered_short (number + 1) rows all.1)

-- other changes have no text of their own
all_plain : {R : Type 0} (make : R → Change) → ((row : R) → HasShortTexts (make row)) → (rows : List R) → AllByRecursion HasShortTexts (map make rows)
all_plain make is [] = tt
all_plain make is (row ∷ rows) = (is row, all_plain make is rows)

-- a withdrawal has none at all
withdrawal_short : (w : Option ℕ) → AllByRecursion HasShortTexts (withdrawal w)
withdrawal_short None = tt
withdrawal_short (Some number) = (tt, tt)

-- the texts of the rows that an accepted command adds are short
changes_short : (court : CourtSettings) (h : History) (v : View) (a : Action) → IsPassed court h a → AllByRecursion HasShortTexts (action_changes v a)
changes_short court h v a p =
    subst (AllByRecursion HasShortTexts) (sym (withdrawal_first v a))
    (all_both HasShortTexts (withdrawal (row_withdrawn a)) _ (withdrawal_short (row_withdrawn a))
    (all_both HasShortTexts (calendar_changes v a) _ (numbered_short v.next_row (rows_added v.calendar a) (fresh_short v.calendar (rows_asked a) (asked_short court h a p)))
    (all_both HasShortTexts (case_changes v a) _ (case_short court h v.cases a p)
    (all_both HasShortTexts (party_changes v a) _ (party_short court h (parties_in v.case) a p)
    (all_both HasShortTexts (entry_changes v a) _ (entry_short court h (entries_in v.case) a p)
    (all_both HasShortTexts (deadline_changes v a) _ (all_plain change.AddDeadline (λ row. tt) _)
    (all_both HasShortTexts (first_act_changes v a) _ (all_plain change.AddAct (λ row. tt) _)
    (all_both HasShortTexts (act_changes v a) _ (all_plain change.AddAct (λ row. tt) _)
    (rule_short court h v.local_rules a p)))))))))

-- values

-- a number that fits
fits : (n : ℕ) → n < 2 ^ 63 → IsStorableValue (Int (pos n))
fits n few = lt-ltb n (2 ^ 63) few

-- seconds, which may be before 1970
seconds_fit : (at : ℤ) → SFits w64 at → IsStorableValue (Int at)
seconds_fit (pos n) is = lt-ltb n (2 ^ 63) is.sfits
seconds_fit (negsuc n) is = lt-ltb n (2 ^ 63) is.sfits

-- the codes of choices
flag_fits : (b : Bool) → IsStorableValue (Int (pos (flag_number b)))
flag_fits true = refl
flag_fits false = refl

role_fits : (r : Role) → IsStorableValue (Int (pos (role_number r)))
role_fits role.Plaintiff = refl
role_fits role.Defendant = refl
role_fits role.Other = refl

direction_fits : (d : Direction) → IsStorableValue (Int (pos (direction_number d)))
direction_fits Forward = refl
direction_fits Backward = refl

way_fits : (w : Way) → IsStorableValue (Int (pos (way_number w)))
way_fits Electronic = refl
way_fits Office = refl

motion_fits : (k : MotionKind) → IsStorableValue (Int (pos (motion_number k)))
motion_fits B = refl
motion_fits E = refl
motion_fits F = refl

kind_fits : (k : DayKind) → IsStorableValue (Int (pos (day_kind_number k)))
kind_fits Federal = refl
kind_fits State = refl
kind_fits Closed = refl

unit_fits : (p : Period) → IsStorableValue (Int (pos (unit_number p)))
unit_fits (period.Days n) = refl
unit_fits (period.Months n) = refl

-- a row of the calendar, in whichever table
calendar_storable : (n : ℕ) (name : List ℕ) (i : CalendarItem) → IsTyped (change.AddCalendar (record { number = n; item = i; name = name })) → IsShort name → AreStorable (calendar_values n name i)
calendar_storable n name (item.Day kind day) is short = (fits n (omega (arith, is.0.0.0)), (kind_fits kind, (fits day (omega (arith, is.0.0.1.1)), (refl, (short, tt)))))
calendar_storable n name (item.Span start end) is short =
    (fits n (omega (arith, is.0.0.0)), (refl, (fits start (omega (arith, is.0.0.1.0.0.1)), (fits end (omega (arith, is.0.0.1.1.0.1)), (short, tt)))))
calendar_storable n name (item.Short day close) is short = (fits n (omega (arith, is.1.0.0)), (fits day (omega (arith, is.1.0.1.1)), (fits close (omega (arith, is.1.0.2)), (short, tt))))

-- what an act holds
act_storable : (a : Act) → IsAct a
    → AreStorable (Int (pos (act_code a).kind) ∷ Int (act_code a).p1 ∷ Int (pos (act_code a).p2) ∷ Int (pos (act_code a).p3) ∷ Int (pos (act_code a).p4) ∷ Int (pos (act_code a).p5) ∷ [])
act_storable (act.Start (start.Days s)) is = (refl, (fits s.trigger (omega (arith, is.0.1)), (unit_fits s.period, (fits _ (omega (arith, is.1)), (direction_fits s.direction, (flag_fits s.three_days, tt))))))
act_storable (act.Start (start.Hours s)) is = (refl, (seconds_fit s.at is.0, (refl, (fits s.hours (omega (arith, is.1)), (direction_fits s.direction, (refl, tt))))))
act_storable (act.Fixed day) is = (refl, (fits day (omega (arith, is.1)), (refl, (refl, (refl, (refl, tt))))))
act_storable (act.ExtendBy days) is = (refl, (fits days (omega (arith, is)), (refl, (refl, (refl, (refl, tt))))))
act_storable (act.ExtendTo day) is = (refl, (fits day (omega (arith, is.1)), (refl, (refl, (refl, (refl, tt))))))
act_storable (act.Motion served kind) is = (refl, (fits served (omega (arith, is.1)), (motion_fits kind, (refl, (refl, (refl, tt))))))
act_storable (act.Resume day three) is = (refl, (fits day (omega (arith, is.1)), (flag_fits three, (refl, (refl, (refl, tt))))))
act_storable (act.AwaitStatement notice) is = (refl, (fits notice (omega (arith, is.1)), (refl, (refl, (refl, (refl, tt))))))
act_storable (act.Done at way) is = (refl, (seconds_fit at is, (way_fits way, (refl, (refl, (refl, tt))))))
act_storable act.Vacated is = (refl, (refl, (refl, (refl, (refl, (refl, tt))))))

-- a row that its type holds, with short texts, can be stored
change_storable : (x : Change) → IsTyped x → HasShortTexts x → AreStorable (values_added x)
change_storable (change.AddCalendar row) is short = calendar_storable row.number row.name row.item is short
change_storable (change.RemoveCalendar number) is short = tt
change_storable (change.AddCase row) is short = (fits row.number (omega (arith, is.0)), (short.0, (short.1, (fits row.filed (omega (arith, is.3.1)), tt))))
change_storable (change.AddParty row) is short = (fits row.case (omega (arith, is.0)), (fits row.number (omega (arith, is.1)), (short, (role_fits row.role, tt))))
change_storable (change.AddEntry row) is short = (fits row.case (omega (arith, is.0)), (fits row.number (omega (arith, is.1)), (fits row.day (omega (arith, is.2.1)), (short, tt))))
change_storable (change.AddDeadline row) is short =
    (fits row.case (omega (arith, is.0)), (fits row.number (omega (arith, is.1)), (fits row.party (omega (arith, is.2)), (name_short row.rule is.3, (flag_fits row.initial, tt)))))
change_storable (change.AddAct row) is short =
    (fits row.case (omega (arith, is.0)), (fits row.deadline (omega (arith, is.1)), (fits row.number (omega (arith, is.2)), act_storable row.act is.3)))
change_storable (change.AddLocalRule row) is short =
    (fits row.number (omega (arith, is.0)), (short, (fits row.rule.days (omega (arith, is.2)), (direction_fits row.rule.direction, (flag_fits row.rule.three, (flag_fits row.rule.extendable, tt))))))

-- so can several
all_storable : (xs : List Change) → AllByRecursion IsTyped xs → AllByRecursion HasShortTexts xs → AllByRecursion (λ x. AreStorable (values_added x)) xs
all_storable [] typed short = tt
all_storable (x ∷ xs) typed short = (change_storable x typed.0 short.0, all_storable xs typed.1 short.1)

-- the rows that an accepted command adds can be stored
pub changes_storable : (court : CourtSettings) (h : History) (c : Command) → IsCourtSettings court → IsHistory court (c ∷ h) → AllByRecursion IsCommand (c ∷ h)
    → AllByRecursion (λ x. AreStorable (values_added x)) (action_changes (view_in (rows_of court h) c) c.action)
changes_storable court h c held is all =
    all_storable (action_changes (shown court h c) c.action) (changes_typed court h c held is all) (changes_short court h (shown court h c) c.action (passed court h c is.0.0 is.0.1))

-- the key is no bad one
first_off : (b : Bool) (r : Refusal) (rest : List (Option Refusal)) → first_some (on b r ∷ rest) ≡ None → b ≡ false
first_off true r rest e = absurd (cc)
first_off false r rest e = refl

-- its receipt can be stored, where its canonical text is short
pub receipt_storable : (court : CourtSettings) (h : History) (c : Command) (reply : Reply) → IsCourtSettings court → IsHistory court (c ∷ h) → AllByRecursion IsCommand (c ∷ h) → outcome court h c ≡ accepted reply
    → length (canonical c) ≤ 10 ^ 7 → AreStorable (receipt_cells (record { command = c; reply = reply }))
receipt_storable court h c reply held is all answer few =
    let v = shown court h c in
    let said = is_accepted court v c reply answer in
    let last = (all_last IsReceipt (receipts court h) _ (orderly court (c ∷ h) held is all).receipts).0 in
    let count : reply.number < 2 ^ 32 = subst (λ (r : Reply). r.number < 2 ^ 32) (sym said.due) last.1 in
    (good 64 c.key _ (omega arith) (first_off _ _ _ said.free), (few, (fits reply.number (omega (arith, count)), tt)))
