-- From what the tables' functions leave to what a command leaves.
use Rattle.std.proofs.Common.{◌≡◌, ◌⊎◌, inl, inr, [], ◌∷◌, ℕ, ◌+◌, ◌<◌, ◌^◌, Bool, if◌then◌else◌, List, Option, Some, Result, Ok, Err, IfErr, refl, sym, ap, subst, ◌∙◌, arith}
use Rattle.std.specs.Prelude.{true, false}
use Rattle.sqlite.specs.Store.{Ghosts}
use Rattle.sqlite.specs.Tree.{Trees}
use Rattle.sqlite.specs.State.{HasCleanDisk, State}
use Rattle.sqlite.specs.declared.error.Error.{Error}
use Rattle.sqlite.specs.Held.{Held, state}
use Rattle.court_days.specs.Court.{CourtSettings}
use Rattle.docket_command.specs.declared.command.Command.{Command}
use Rattle.docket_command.specs.declared.refusal.Reply.{Reply}
use Rattle.docket_decisions.specs.Decisions.{IsSoundView}
use Rattle.docket_history.specs.Actions.{asks_calendar, subject_of}
use Rattle.docket_history.specs.declared.subject.Subject.{Subject}
use Rattle.docket_history.specs.Histories.{History, items_of, next_row, standing_rows}
use Rattle.docket_decisions.specs.Outcomes.{Answer, repeated, refused, accepted, shown, outcome, after, after_answer}
use Rattle.docket_decisions.specs.Tables.{Tables, rows_of, with_receipt, all_changed}
use Rattle.docket_decisions.specs.declared.decision.Changes.{Changes}
use Rattle.docket_decisions.specs.declared.decision.Decision.{Decision}
use Rattle.docket_history.specs.declared.view.View.{View}
use Rattle.docket_decisions.proofs.LimitsKept.{within_limits, sound_view}
use Rattle.docket_wire.specs.Valid.{IsCommand}
use Rattle.docket_tables.specs.Contents.{rows_in}
use Rattle.docket_tables.specs.Layouts.{Rows}
use Rattle.docket_orderly.specs.Orderly.{IsOrderly}
use Rattle.docket_tables.specs.Stands.{HoldsRows, IsImage, Lasts, LastsAsEither, IsSettled, IsEither}
use Rattle.docket_applying.specs.Settling.{IsUpdate}
use Rattle.docket_applying.proofs.HistoryLemmas.{update_right}
use Rattle.docket_orderly.proofs.DocketLemmas.{orderly}
use Rattle.docket_history.specs.declared.item.CalendarItem.{CalendarItem}
use Rattle.docket_applying.specs.Applying.{Decides, IsDocket, IsAccepted, IsNoFailure, docket_rows, Keeps, FailsAs, Faults, Judges, Stands}
use Rattle.docket_applying.specs.Causes.{IsCausedBy, IsNamed}
use Rattle.docket_applying.specs.Dockets.{Docket, serving}
use Rattle.docket_applying.specs.declared.fault.Fault.{Fault}
use Rattle.docket_applying.specs.declared.fault.Fault.TheVariants.{Refused, NoMemory, StoreFailed, Closed, Damaged}

pub docket_orderly : (court : CourtSettings) (h : History) → IsDocket court h → IsOrderly court (rows_of court h)
docket_orderly court h is = orderly court h is.settings is.history is.commands

pub shown_sound : (court : CourtSettings) (h : History) (c : Command) (v : View) → IsDocket court h → v ≡ shown court h c → IsSoundView court v
shown_sound court h c v is seen = subst (λ (w : View). IsSoundView court w) (sym seen) (sound_view court h is.history c)

-- the docket after a command
pub docket_after : (court : CourtSettings) (h : History) (c : Command) → IsDocket court h → IsCommand c → IsDocket court (after court h c)
docket_after court h c is lawful = at (outcome court h c) refl
  where
    at : (a : Answer) → outcome court h c ≡ a → IsDocket court (after_answer a h c)
    at (repeated reply) e = is
    at (refused r) e = is
    at (accepted reply) e = record { settings = is.settings; zone = is.zone; history = ((reply, e), is.history); commands = (lawful, is.commands) }

pub after_accepted : (court : CourtSettings) (h : History) (c : Command) (n : Reply) → outcome court h c ≡ accepted n → after court h c ≡ c ∷ h
after_accepted court h c n e = ap (λ a. after_answer a h c) e

pub after_repeated : (court : CourtSettings) (h : History) (c : Command) (n : Reply) → outcome court h c ≡ repeated n → after court h c ≡ h
after_repeated court h c n e = ap (λ a. after_answer a h c) e

pub numbers_fit : (court : CourtSettings) (h : History) (count : ℕ) → IsDocket court h → count < 2 ^ 62 → next_row h + count < 2 ^ 63
numbers_fit court h count is few = omega (arith, (within_limits court h is.history).next_row, few)

-- the rows after an accepted command
pub rows_after : (court : CourtSettings) (h : History) (c : Command) (changes : Changes) → IsAccepted court h c changes
    → rows_in court (with_receipt c changes.reply (all_changed changes.rows.items (rows_of court h))) ≡ docket_rows court (after court h c)
rows_after court h c changes is = ap (rows_in court) (is.1 ∙ ap (rows_of court) (sym (after_accepted court h c changes.reply is.0)))

-- what is done about the ends with an accepted command
pub update_written : (court : CourtSettings) (h : History) (c : Command) (changes : Changes) → IsDocket court h → IsCommand c → IsAccepted court h c changes
    → IsUpdate court changes.ends (rows_of court h) (with_receipt c changes.reply (all_changed changes.rows.items (rows_of court h)))
update_written court h c changes is lawful accepts =
    subst (λ (next : Tables). IsUpdate court changes.ends (rows_of court h) next) (sym accepts.1)
    (update_right court h c changes.rows.items changes.ends is.settings ((changes.reply, accepts.0), is.history) (lawful, is.commands) accepts.3)

module _ {S : Type 0} (g : Ghosts S) (conn : Held S) where
  pub either_from_lasts : (rows next : Rows) → Lasts g conn rows → LastsAsEither g conn rows next
  either_from_lasts rows next lasts = (lasts.0, λ clean. record { images = λ db may. inl ((lasts.1 clean).images db may); settled = (lasts.1 clean).settled })

  pub holds_same : (rows next : Rows) → (HasCleanDisk (state g conn) → rows ≡ next) → HoldsRows g conn rows → HoldsRows g conn next
  holds_same rows next same holds = (holds.0, λ clean. subst (λ (r : Rows). IsSettled (state g conn) r) (same clean) (holds.1 clean))

  pub either_same : (rows one next : Rows) → (HasCleanDisk (state g conn) → one ≡ next) → LastsAsEither g conn rows one → LastsAsEither g conn rows next
  either_same rows one next same lasts = (lasts.0, λ clean. subst (λ (r : Rows). IsEither (state g conn) rows r) (same clean) (lasts.1 clean))

  -- an error of the database, with a command under way
  pub faults_of : (court : CourtSettings) (kept : Option (List CalendarItem)) (h : History) (c : Command) (f : Fault) → IsDocket court h → (HasCleanDisk (state g conn) → Keeps kept h)
      → FailsAs g conn (docket_rows court h) (docket_rows court (after court h c)) f → Faults g (serving conn court kept) h c f
  faults_of court kept h c (Refused r) is keeps fails = absurd fails
  faults_of court kept h c NoMemory is keeps fails = record { docket = is; serves = refl; rows = fails; calendar = keeps }
  faults_of court kept h c StoreFailed is keeps fails = fails
  faults_of court kept h c Closed is keeps fails = absurd fails
  faults_of court kept h c Damaged is keeps fails = fails

  pub lasts_from_either : (rows : Rows) → LastsAsEither g conn rows rows → Lasts g conn rows
  lasts_from_either rows either =
      (either.0, λ clean. record { images = λ db may. same db ((either.1 clean).images db may); settled = (either.1 clean).settled })
    where
      same : (db : Trees) → IsImage rows db ⊎ IsImage rows db → IsImage rows db
      same db (inl a) = a
      same db (inr b) = b

-- the decision by what the docket shows, with the docket that stands
pub judged_by : {S : Type 0} (g : Ghosts S) (d : Docket S) (h : History) (c : Command) (r : Result Decision Fault) → Stands g d h → IfErr r IsNoFailure → (HasCleanDisk (state g d.conn) → Decides d.court h c r) → Judges g d h c r
judged_by g d h c (Ok decision) stands own told = (stands, told)
judged_by g d h c (Err (Refused r)) stands own told = (stands, told)
judged_by g d h c (Err NoMemory) stands own told = stands
judged_by g d h c (Err Damaged) stands own told = told
judged_by g d h c (Err StoreFailed) stands own told = absurd own
judged_by g d h c (Err Closed) stands own told = absurd own

-- a fault that is no failure of the database needs no error of it, and no cause
pub none_named : {X : Type 0} (failure : Option Error) (r : Result X Fault) → IfErr r IsNoFailure → IfErr r (IsNamed failure)
none_named failure (Ok x) own = tt
none_named failure (Err (Refused r)) own = tt
none_named failure (Err NoMemory) own = tt
none_named failure (Err Damaged) own = tt
none_named failure (Err _) own = absurd own

pub none_caused : {X : Type 0} (old new : State) (failure : Option Error) (r : Result X Fault) → IfErr r IsNoFailure → IfErr r (IsCausedBy old new failure)
none_caused old new failure (Ok x) own = tt
none_caused old new failure (Err (Refused r)) own = tt
none_caused old new failure (Err NoMemory) own = tt
none_caused old new failure (Err Damaged) own = tt
none_caused old new failure (Err _) own = absurd own

-- the calendar that the action asked for is kept again
pub calendar_kept : (court : CourtSettings) (h : History) (c : Command) (v : View) (kept now : Option (List CalendarItem)) (s : Subject) → s ≡ subject_of c.action → v ≡ shown court h c
    → now ≡ (if s.asks.calendar then Some v.calendar else kept) → Keeps kept h → Keeps now h
calendar_kept court h c v kept now s about seen is keeps =
    by_asking (asks_calendar c.action) (ap (λ (x : View). x.calendar) seen) (is ∙ ap (λ (subject : Subject). if subject.asks.calendar then Some v.calendar else kept) about)
  where
    by_asking : (asks : Bool) → v.calendar ≡ (if asks then items_of (standing_rows h) else []) → now ≡ (if asks then Some v.calendar else kept) → Keeps now h
    by_asking true items is = subst (λ k. Keeps k h) (sym is) items
    by_asking false items is = subst (λ k. Keeps k h) (sym is) keeps
