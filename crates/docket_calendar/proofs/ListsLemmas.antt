-- A database that holds a docket's rows answers the question by the calendar.
use Rattle.std.proofs.Common.{◌≡◌, ℕ, zero, suc, ◌≤◌, List, [], ◌∷◌, ◌++◌, map, take, length, length-append, refl, sym, ap, subst, ◌∙◌, arith}
use Rattle.std.proofs.Math.Logic.{∥∥₁_elim}
use Rattle.std.proofs.Math.Seq.{take-append_seam}
use Rattle.std.proofs.lemmas.List.{length-map}
use Rattle.std.proofs.lemmas.List.Elements.{recursion_from_All}
use Rattle.sqlite_trees.specs.Props.{rows_set}
use Rattle.sqlite.specs.declared.types.Value.TheVariants.{Null}
use Rattle.sqlite.specs.Order.{Row}
use Rattle.sqlite.specs.Command.TheVariants.{Select}
use Rattle.sqlite.specs.Effect.{Database}
use Rattle.sqlite.specs.Given.{IsPlain}
use Rattle.sqlite.specs.Listing.{understood, reads_listing}
use Rattle.sqlite.specs.Program.{overlay}
use Rattle.sqlite.specs.Query.{IsAnswerAs}
use Rattle.sqlite.specs.Schema.{Schema}
use Rattle.court_days.specs.Court.{CourtSettings}
use Rattle.docket_decisions.specs.EndRows.{calendar_in}
use Rattle.docket_decisions.specs.Tables.{Tables}
use Rattle.docket_history.specs.declared.record.DueRow.{DueRow}
use Rattle.docket_text.specs.CalendarOrder.{IsCalendar}
use Rattle.docket_tables.specs.Contents.{rows_in}
use Rattle.docket_tables.specs.Layouts.{AreRows}
use Rattle.docket_tables.specs.Schema.{docket_schema}
use Rattle.docket_tables.specs.declared.table.Table.TheVariants.{Deadlines, Due}
use Rattle.docket_calendar.specs.Asked.{Lists, command_of}
use Rattle.docket_calendar.specs.Calendar.{due_within}
use Rattle.docket_calendar.specs.DueCells.{due_cells, IsDue}
use Rattle.docket_calendar.specs.Question.{question, days_asked}
use Rattle.docket_calendar.proofs.DueLemmas.{the_rows}
use Rattle.docket_calendar.proofs.HistoryLemmas.{IsListable, listed_due, listed_few}
use Rattle.docket_calendar.proofs.JoinLemmas.{answered}
use Rattle.docket_calendar.proofs.JoinMeans.{asked, names, asks, asks_plainly, asks_no_listing}

-- the front of a list
front_is : (xs ys whole : List Row) → xs ++ ys ≡ whole → (length xs ≤ length whole) × (xs ≡ take (length xs) whole)
front_is xs ys whole e = (omega (arith, ap length e, length-append xs ys), sym (take-append_seam xs ys) ∙ ap (take (length xs)) e)

-- and of one that is shown
shown_front : (court : CourtSettings) (listed : List DueRow) (xs ys : List Row) → xs ++ ys ≡ map (due_cells court) listed → (length xs ≤ length listed) × (xs ≡ map (due_cells court) (take (length xs) listed))
shown_front court listed xs ys e =
    let front = front_is xs ys _ e in
    (omega (arith, front.0, length-map listed (due_cells court)), front.1 ∙ taken (length xs) listed)
  where
    taken : (n : ℕ) (ds : List DueRow) → take n (map (due_cells court) ds) ≡ map (due_cells court) (take n ds)
    taken n [] = take_none n
      where
        take_none : (k : ℕ) → take k (map (due_cells court) []) ≡ map (due_cells court) (take k [])
        take_none zero = refl
        take_none (suc k) = refl
    taken zero (d ∷ ds) = refl
    taken (suc n) (d ∷ ds) = ap (λ (l : List Row). due_cells court d ∷ l) (taken n ds)

pub lists : (court : CourtSettings) (from to : ℕ) (t : Tables) (listed : List DueRow) (db : Database) → IsListable court t → db.schema ≡ docket_schema → AreRows (rows_in court t) db.trees
    → IsCalendar court (due_within court from to t) listed → Lists question (days_asked from to) court (calendar_in t) db listed
lists court from to t listed db can schema holds calendar =
    let back = sym schema in
    let params = days_asked from to in
    let due = listed_due court from to t can listed calendar in
    let rows_are : (rows : List Row) → IsAnswerAs Null asked (overlay db.trees []) params rows → rows ≡ map (due_cells court) listed = λ rows a.
    let it = answered db.trees params rows a in
    ∥∥₁_elim (holds Due) (rows_set _ _) (λ ds. ∥∥₁_elim (holds Deadlines) (rows_set _ _) (λ ls.
    the_rows court from to t listed _ _ rows can.apart can.ends (λ k d inside. (due k d inside).0) ds.0 ls.0 calendar it.same it.sorted)) in
    record {
      command = Select (record { lets = []; body = asked }) names;
      is = ap (λ (s : Schema). command_of (understood s question)) schema ∙ asks;
      plain = subst (λ (s : Schema). IsPlain (understood s question)) back asks_plainly;
      unlisted = ap (λ (s : Schema). reads_listing s question) schema ∙ asks_no_listing;
      begins = λ rows first. let tail = first.1 in shown_front court listed rows tail.0 (rows_are (rows ++ tail.0) (tail.1 Null));
      whole = λ rows read. rows_are rows (read.answer Null);
      sound = recursion_from_All (IsDue court (calendar_in t)) listed due;
      few = listed_few court from to t can listed calendar;
    }
