-- The lines of deadlines that end otherwise by another calendar.
use Rattle.std.proofs.Common.{◌≡◌, ◌∙◌, ◌++◌, ◌∷◌, ◌≤◌, [], ℕ, List, ap, arith, codes, length, refl}
use Rattle.std.specs.List.{flat_map}
use Rattle.court_days.specs.Calendar.{Entered}
use Rattle.court_days.specs.Court.{CourtSettings}
use Rattle.docket_calendar.specs.Calendar.{calendar_rows}
use Rattle.docket_command.specs.declared.command.Command.{Command}
use Rattle.docket_decisions.specs.EndRows.{calendar_in}
use Rattle.docket_decisions.specs.Tables.{Tables, rows_of}
use Rattle.docket_history.specs.CalendarItems.{calendar_of}
use Rattle.docket_history.specs.Histories.{History, items_of, standing_rows}
use Rattle.docket_history.specs.Records.{calendar}
use Rattle.docket_history.specs.declared.record.DueRow.{DueRow}
use Rattle.docket_history.specs.declared.row.CalendarRow.{CalendarRow}
use Rattle.docket_questions.specs.Moves.{move_of, moves_of, moves_or_none}

-- by the rows of the calendar with a command, and the court that the docket had before
pub moves_told : (h : History) (c : Command) (t : Tables) (old mid last : CourtSettings) (other : Entered) (first final : ℕ) (listed dues : List DueRow) (start text : List ℕ)
    → mid ≡ old → last ≡ mid → other ≡ calendar_in t → t.calendar ≡ standing_rows (c ∷ h) → first ≡ 3652 → final ≡ 741_441 → listed ≡ calendar_rows mid h first final → dues ≡ listed
    → start ≡ [] → text ≡ start ++ flat_map (move_of last h other) dues → text ≡ moves_of old h (calendar (c ∷ h))
moves_told h c t old mid last other first final listed dues start text kept still by leads from to found same none is =
    is
    ∙ ap (λ s. s ++ flat_map (move_of last h other) dues) none
    ∙ ap (λ rows. flat_map (move_of last h other) rows) (same ∙ found)
    ∙ ap (λ (n : ℕ). flat_map (move_of last h other) (calendar_rows mid h n final)) from
    ∙ ap (λ (n : ℕ). flat_map (move_of last h other) (calendar_rows mid h 3652 n)) to
    ∙ ap (λ (e : Entered). flat_map (move_of last h e) (calendar_rows mid h 3652 741_441)) (by ∙ ap (λ rows. calendar_of (items_of rows)) leads)
    ∙ ap (λ (court : CourtSettings). flat_map (move_of court h (calendar (c ∷ h))) (calendar_rows mid h 3652 741_441)) (still ∙ kept)
    ∙ ap (λ (court : CourtSettings). flat_map (move_of old h (calendar (c ∷ h))) (calendar_rows court h 3652 741_441)) kept

-- the tables of a docket without a command, but with these rows of the calendar
abbrev pub tables_with : CourtSettings → List CalendarRow → Tables
tables_with court rows = record (rows_of court []) { calendar = rows }

-- no moves, and some
pub no_moves : (moves : List ℕ) → length moves ≡ 0 → codes "No deadline would move.\n" ≡ moves_or_none moves
no_moves [] none = refl
no_moves (byte ∷ moves) none = absurd (cc)

pub some_moves : (moves : List ℕ) → 1 ≤ length moves → moves ≡ moves_or_none moves
some_moves [] some = absurd (omega (arith, some))
some_moves (byte ∷ moves) some = refl
