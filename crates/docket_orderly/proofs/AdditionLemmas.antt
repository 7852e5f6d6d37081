-- The rows that an accepted command adds each stand once among the rows at that moment, and have their parents.
use Rattle.std.proofs.Common.{ℕ, Option, Some, None, List, [], ◌∷◌, ◌++◌, map, sym, subst}
use Rattle.std.specs.List.{AllByRecursion}
use Rattle.court_days.specs.Court.{CourtSettings}
use Rattle.docket_command.specs.declared.command.Action.{Action}
use Rattle.docket_command.specs.declared.command.Command.{Command}
use Rattle.docket_history.specs.Actions.{row_withdrawn}
use Rattle.docket_history.specs.Histories.{History}
use Rattle.docket_history.specs.declared.row.Change.{Change}
use Rattle.docket_history.specs.declared.row.Change.TheVariants as change
use Rattle.docket_history.specs.declared.view.View.{View}
use Rattle.docket_decisions.specs.Outcomes.{IsHistory, shown, shown_fresh, receipts, reply_to, replied}
use Rattle.docket_decisions.specs.Tables.{Tables, rows_of, changed, all_changed, with_receipt, withdrawal, action_changes, calendar_changes, case_changes, party_changes, entry_changes, deadline_changes, first_act_changes, act_changes, view_in}
use Rattle.docket_decisions.proofs.Leading.{leads}
use Rattle.docket_decisions.proofs.LimitsKept.{passed}
use Rattle.docket_decisions.proofs.ListLemmas.{all_both}
use Rattle.docket_orderly.specs.Additions.{MayAdd, MayAddAll, MayReceive}
use Rattle.docket_orderly.proofs.ApartLemmas.{IsOtherDay, IsOtherCase, IsOtherParty, IsOtherEntry, IsOtherDeadline, IsOtherAct, IsOtherRule, IsOtherReceipt, AreApart, tables_apart, receipts_apart}
use Rattle.docket_orderly.proofs.PairLemmas.{all_before, front_apart}
use Rattle.docket_orderly.proofs.ParentLemmas.{HasParents, AllHaveParents, additions_of, withdrawal_first, parents}

-- a row is apart from those of its table
abbrev IsApart : Change → Tables → Type 0
IsApart (change.AddCalendar row) t = AllByRecursion (λ r. IsOtherDay r row) t.calendar
IsApart (change.RemoveCalendar number) t = Unit {0}
IsApart (change.AddCase row) t = AllByRecursion (λ r. IsOtherCase r row) t.cases
IsApart (change.AddParty row) t = AllByRecursion (λ r. IsOtherParty r row) t.parties
IsApart (change.AddEntry row) t = AllByRecursion (λ r. IsOtherEntry r row) t.entries
IsApart (change.AddDeadline row) t = AllByRecursion (λ r. IsOtherDeadline r row) t.deadlines
IsApart (change.AddAct row) t = AllByRecursion (λ r. IsOtherAct r row) t.acts
IsApart (change.AddLocalRule row) t = AllByRecursion (λ r. IsOtherRule r row) t.local_rules

-- so are rows that are added one after another
abbrev AllApart : List Change → Tables → Type 0
AllApart [] t = Unit {0}
AllApart (x ∷ xs) t = IsApart x t × AllApart xs (changed x t)

-- it adds a row
abbrev IsAddition : Change → Type 0
IsAddition (change.RemoveCalendar number) = ⊥
IsAddition _ = Unit {0}

-- where rows are apart with one more, it is apart from the others, and they are apart
apart_here : (x : Change) (t : Tables) → IsAddition x → AreApart (changed x t) → IsApart x t × AreApart t
apart_here (change.AddCalendar row) t is all = (
  all_before IsOtherDay t.calendar row all.calendar,
  record { calendar = front_apart IsOtherDay t.calendar (row ∷ []) all.calendar; cases = all.cases; parties = all.parties; entries = all.entries; deadlines = all.deadlines; acts = all.acts; local_rules = all.local_rules },
)
apart_here (change.RemoveCalendar number) t is all = absurd is
apart_here (change.AddCase row) t is all = (
  all_before IsOtherCase t.cases row all.cases,
  record { calendar = all.calendar; cases = front_apart IsOtherCase t.cases (row ∷ []) all.cases; parties = all.parties; entries = all.entries; deadlines = all.deadlines; acts = all.acts; local_rules = all.local_rules },
)
apart_here (change.AddParty row) t is all = (
  all_before IsOtherParty t.parties row all.parties,
  record { calendar = all.calendar; cases = all.cases; parties = front_apart IsOtherParty t.parties (row ∷ []) all.parties; entries = all.entries; deadlines = all.deadlines; acts = all.acts; local_rules = all.local_rules },
)
apart_here (change.AddEntry row) t is all = (
  all_before IsOtherEntry t.entries row all.entries,
  record { calendar = all.calendar; cases = all.cases; parties = all.parties; entries = front_apart IsOtherEntry t.entries (row ∷ []) all.entries; deadlines = all.deadlines; acts = all.acts; local_rules = all.local_rules },
)
apart_here (change.AddDeadline row) t is all = (
  all_before IsOtherDeadline t.deadlines row all.deadlines,
  record { calendar = all.calendar; cases = all.cases; parties = all.parties; entries = all.entries; deadlines = front_apart IsOtherDeadline t.deadlines (row ∷ []) all.deadlines; acts = all.acts; local_rules = all.local_rules },
)
apart_here (change.AddAct row) t is all = (
  all_before IsOtherAct t.acts row all.acts,
  record { calendar = all.calendar; cases = all.cases; parties = all.parties; entries = all.entries; deadlines = all.deadlines; acts = front_apart IsOtherAct t.acts (row ∷ []) all.acts; local_rules = all.local_rules },
)
apart_here (change.AddLocalRule row) t is all = (
  all_before IsOtherRule t.local_rules row all.local_rules,
  record { calendar = all.calendar; cases = all.cases; parties = all.parties; entries = all.entries; deadlines = all.deadlines; acts = all.acts; local_rules = front_apart IsOtherRule t.local_rules (row ∷ []) all.local_rules },
)

-- the same of additions one after another
apart_all : (xs : List Change) (t : Tables) → AllByRecursion IsAddition xs → AreApart (all_changed xs t) → AllApart xs t × AreApart t
apart_all [] t add all = (tt, all)
apart_all (x ∷ xs) t add all =
    let after = apart_all xs (changed x t) add.1 all in
    let here = apart_here x t add.0 after.1 in
    ((here.0, after.0), here.1)

-- after a withdrawal
apart_after : (w : Option ℕ) (xs : List Change) (t : Tables) → AllByRecursion IsAddition xs → AreApart (all_changed (withdrawal w ++ xs) t) → AllApart (withdrawal w ++ xs) t
apart_after None xs t add all = (apart_all xs t add all).0
apart_after (Some number) xs t add all = (tt, (apart_all xs (changed (change.RemoveCalendar number) t) add all).0)

-- all but the withdrawal are additions
pub all_add : {R : Type 0} (make : R → Change) → ((row : R) → IsAddition (make row)) → (rows : List R) → AllByRecursion IsAddition (map make rows)
all_add make is [] = tt
all_add make is (row ∷ rows) = (is row, all_add make is rows)

are_additions : (v : View) (a : Action) → AllByRecursion IsAddition (additions_of v a)
are_additions v a =
    all_both IsAddition (calendar_changes v a) _ (all_add change.AddCalendar (λ row. tt) _)
    (all_both IsAddition (case_changes v a) _ (all_add change.AddCase (λ row. tt) _)
    (all_both IsAddition (party_changes v a) _ (all_add change.AddParty (λ row. tt) _)
    (all_both IsAddition (entry_changes v a) _ (all_add change.AddEntry (λ row. tt) _)
    (all_both IsAddition (deadline_changes v a) _ (all_add change.AddDeadline (λ row. tt) _)
    (all_both IsAddition (first_act_changes v a) _ (all_add change.AddAct (λ row. tt) _)
    (all_both IsAddition (act_changes v a) _ (all_add change.AddAct (λ row. tt) _)
    (all_add change.AddLocalRule (λ row. tt) _)))))))

-- a row that is apart, and has its parents, may be added
may_add : (x : Change) (t : Tables) → IsApart x t → HasParents x t → MayAdd x t
may_add (change.AddCalendar row) t apart has = apart
may_add (change.RemoveCalendar number) t apart has = tt
may_add (change.AddCase row) t apart has = apart
may_add (change.AddParty row) t apart has = (apart, has)
may_add (change.AddEntry row) t apart has = (apart, has)
may_add (change.AddDeadline row) t apart has = (apart, has)
may_add (change.AddAct row) t apart has = (apart, has)
may_add (change.AddLocalRule row) t apart has = apart

-- so may rows one after another
may_add_all : (xs : List Change) (t : Tables) → AllApart xs t → AllHaveParents xs t → MayAddAll xs t
may_add_all [] t apart has = tt
may_add_all (x ∷ xs) t apart has = (may_add x t apart.0 has.0, may_add_all xs (changed x t) apart.1 has.1)

-- with a receipt or without, the rows of the other tables are apart
but_receipt : (c : Command) (v : View) (court : CourtSettings) (t : Tables) → AreApart (with_receipt c (replied (reply_to court v c.action)) t) → AreApart t
but_receipt c v court t all =
    record { calendar = all.calendar; cases = all.cases; parties = all.parties; entries = all.entries; deadlines = all.deadlines; acts = all.acts; local_rules = all.local_rules }

-- what an accepted command adds may be added, one change after another, to the rows of the history before it
pub may_be_added : (court : CourtSettings) (h : History) (c : Command) → IsHistory court (c ∷ h) → MayAddAll (action_changes (shown court h c) c.action) (rows_of court h)
may_be_added court h c is =
    let v = shown court h c in
    let p = passed court h c is.0.0 is.0.1 in
    let in_turn = withdrawal_first v c.action in
    let after : AreApart (all_changed (action_changes v c.action) (rows_of court h)) =
    but_receipt c v court _ (subst AreApart (sym (leads court h c p.case p.deadline)) (tables_apart court (c ∷ h) is)) in
    may_add_all (action_changes v c.action) (rows_of court h)
    (subst (λ (xs : List Change). AllApart xs (rows_of court h)) (sym in_turn)
    (apart_after (row_withdrawn c.action) (additions_of v c.action) (rows_of court h) (are_additions v c.action)
    (subst (λ (xs : List Change). AreApart (all_changed xs (rows_of court h))) in_turn after)))
    (parents court h c is v)

-- and so may its receipt
pub may_be_received : (court : CourtSettings) (h : History) (c : Command) → IsHistory court (c ∷ h) → MayReceive c (rows_of court h)
may_be_received court h c is =
    all_before IsOtherReceipt (receipts court h) (record { command = c; reply = replied (reply_to court (shown_fresh h c.action) c.action) }) (receipts_apart court (c ∷ h) is)

-- the changes of an accepted command, and its receipt
pub additions : (court : CourtSettings) (h : History) (c : Command) → IsHistory court (c ∷ h)
    → MayAddAll (action_changes (view_in (rows_of court h) c) c.action) (rows_of court h) × MayReceive c (rows_of court h)
additions court h c is = (may_be_added court h c is, may_be_received court h c is)

-- no change touches the receipts
pub receive_after : (c : Command) (xs : List Change) (t : Tables) → MayReceive c t → MayReceive c (all_changed xs t)
receive_after c [] t none = none
receive_after c (x ∷ xs) t none = receive_after c xs (changed x t) (receipts_kept x none)
  where
    receipts_kept : (y : Change) → MayReceive c t → MayReceive c (changed y t)
    receipts_kept (change.AddCalendar row) all = all
    receipts_kept (change.RemoveCalendar number) all = all
    receipts_kept (change.AddCase row) all = all
    receipts_kept (change.AddParty row) all = all
    receipts_kept (change.AddEntry row) all = all
    receipts_kept (change.AddDeadline row) all = all
    receipts_kept (change.AddAct row) all = all
    receipts_kept (change.AddLocalRule row) all = all
