-- Which ends stay where they are: those of a history after a command that makes no deadline and no act, and enters or withdraws no day
-- and no span.
use Rattle.std.proofs.Common.{◌≡◌, ◌∙◌, ◌⊎◌, inl, inr, ◌+◌, ◌||◌, ℕ, Bool, true, false, cond, Option, Some, List, [], ◌∷◌, ◌++◌, length, None, refl, sym, ap, ap₂, append-nil}
use Rattle.std.specs.List.{flat_map}
use Rattle.std.specs.Option.{option_and_then, option_map_or}
use Rattle.std.specs.Prelude.{is_some}
use Rattle.std.proofs.lemmas.List.{map-append}
use Rattle.civil_time.specs.Zone.{ZoneRules}
use Rattle.court_days.specs.Court.{CourtSettings, zone_of}
use Rattle.court_rules.specs.Standings.{standing}
use Rattle.court_rules.specs.declared.act.Act.{Act}
use Rattle.docket_command.specs.declared.command.Action.{Action}
use Rattle.docket_command.specs.declared.command.Command.{Command}
use Rattle.docket_history.specs.Actions.{CalendarWork, enters, imports, shortens, withdraws, DeadlineWork, Work, on_calendar, opens, enters_rule, in_case, work, calendar_in, calendar_work, case_in, made_by, rows_of_work, withdrawn_by, may_move, may_enter, is_timed, FoundRule, row_withdrawn, rows_asked, deadlines_made, acts_made, asks_calendar, changes_calendar, moves_all_cases}
use Rattle.docket_history.specs.CalendarItems.{fresh, stands_among, calendar_of}
use Rattle.docket_history.specs.Histories.{History, standing_rows, next_row, items_of, numbered, without_row, case_number, deadline_rows, deadlines_of_case, deadline_rows_from, act_rows, acts_of_deadline, first_acts_from, act_rows_on, deadline_number, rule_found}
use Rattle.docket_history.specs.declared.item.CalendarItem.TheVariants.{Short}
use Rattle.docket_history.specs.declared.row.CalendarRow.{CalendarRow}
use Rattle.docket_history.specs.declared.row.NewDeadline.{NewDeadline}
use Rattle.docket_history.proofs.ShortDays.{standing-short}
use Rattle.docket_decisions.specs.EndRows.{end_row, end_rows, end_running, row_of_deadline}
use Rattle.docket_decisions.specs.Tables.{rows_of}

-- the action makes no deadline and no act
abbrev pub MakesNothing : Action → Type 0
MakesNothing a = ((found : FoundRule) → deadlines_made found a ≡ []) × (acts_made a ≡ [])

-- the same of its work
abbrev WorksNothing : Work → Type 0
WorksNothing w =
    ((found : FoundRule) → option_map_or (made_by found) (case_in w) [] ≡ [])
    × (option_map_or (λ work. work.acts) (option_and_then (λ work. work.acting) (case_in w)) [] ≡ [])

-- so do those by which ends of any case may move
pub makes_nothing : (a : Action) → moves_all_cases a ≡ true → MakesNothing a
makes_nothing a e = at (work a) e
  where
    at : (w : Work) → option_map_or may_move (calendar_in w) false ≡ true → WorksNothing w
    at (on_calendar work) e = (λ found. refl, refl)
    at (opens case) e = absurd (let no = e in cc)
    at (enters_rule rule) e = absurd (let no = e in cc)
    at (in_case work) e = absurd (let no = e in cc)

-- every other makes nothing, or asks about the calendar and leaves it as it is
pub nothing_or_asked : (a : Action) → moves_all_cases a ≡ false → MakesNothing a ⊎ ((asks_calendar a ≡ true) × (changes_calendar a ≡ false))
nothing_or_asked a e = at (work a)
  where
    by_parts : (made : Option (FoundRule → List NewDeadline)) (acting : Option DeadlineWork)
        → (((found : FoundRule) → option_map_or (λ make. make found) made [] ≡ []) × (option_map_or (λ work. work.acts) acting [] ≡ []))
        ⊎ (((is_some acting || is_some made) ≡ true) × (false ≡ false))
    by_parts None None = inl (λ found. refl, refl)
    by_parts None (Some acting) = inr (refl, refl)
    by_parts (Some make) None = inr (refl, refl)
    by_parts (Some make) (Some acting) = inr (refl, refl)

    at : (w : Work) → WorksNothing w ⊎ (((option_map_or may_enter (calendar_in w) false || option_map_or is_timed (case_in w) false) ≡ true) × (is_some (calendar_in w) ≡ false))
    at (on_calendar work) = inl (λ found. refl, refl)
    at (opens case) = inl (λ found. refl, refl)
    at (enters_rule rule) = inl (λ found. refl, refl)
    at (in_case work) = by_parts work.deadlines work.acting

quiet : (a : Action) → changes_calendar a ≡ false → (row_withdrawn a ≡ None) × (rows_asked a ≡ [])
quiet a e = at (calendar_work a) e
  where
    at : (o : Option CalendarWork) → is_some o ≡ false → (option_and_then withdrawn_by o ≡ None) × (option_map_or rows_of_work o [] ≡ [])
    at None e = (refl, refl)
    at (Some work) e = absurd (let no = e in cc)

pub calendar_kept : (h : History) (c : Command) → changes_calendar c.action ≡ false → items_of (standing_rows (c ∷ h)) ≡ items_of (standing_rows h)
calendar_kept h c e =
    let q = quiet c.action e in
    let standing = standing_rows h in
    ap₂ (λ w asked. items_of (without_row w standing ++ numbered (next_row h) (fresh (items_of standing) asked))) q.0 q.1 ∙ ap items_of (append-nil standing)

-- no deadline stands elsewhere after an action that moves no case but the one that it names: a short day is entered or was
-- there already, and after the others the calendar is as it was

with_short_row : (zone : ZoneRules) (rows : List CalendarRow) (number day close : ℕ) (name : List ℕ) (acts : List Act)
    → standing zone (calendar_of (items_of (rows ++ numbered number (fresh (items_of rows) (record { item = Short day close; name = name } ∷ []))))) acts
    ≡ standing zone (calendar_of (items_of rows)) acts
with_short_row zone rows number day close name acts = at (stands_among (items_of rows) (Short day close))
  where
    at : (b : Bool) → standing zone (calendar_of (items_of (rows ++ numbered number (cond b [] (record { item = Short day close; name = name } ∷ []))))) acts
        ≡ standing zone (calendar_of (items_of rows)) acts
    at true = ap (λ kept. standing zone (calendar_of (items_of kept)) acts) (append-nil rows)
    at false =
        ap (λ items. standing zone (calendar_of items) acts) (map-append (λ (row : CalendarRow). row.item) rows (numbered number (record { item = Short day close; name = name } ∷ [])))
        ∙ standing-short zone (items_of rows) day close acts

standings_after : (a : Action) → moves_all_cases a ≡ false → (zone : ZoneRules) (rows : List CalendarRow) (number : ℕ) (acts : List Act)
    → standing zone (calendar_of (items_of (without_row (row_withdrawn a) rows ++ numbered number (fresh (items_of rows) (rows_asked a))))) acts
    ≡ standing zone (calendar_of (items_of rows)) acts
standings_after a e zone rows number acts = at (calendar_work a) e
  where
    at : (o : Option CalendarWork) → option_map_or may_move o false ≡ false
        → standing zone (calendar_of (items_of (without_row (option_and_then withdrawn_by o) rows ++ numbered number (fresh (items_of rows) (option_map_or rows_of_work o []))))) acts
        ≡ standing zone (calendar_of (items_of rows)) acts
    at None e = ap (λ kept. standing zone (calendar_of (items_of kept)) acts) (append-nil rows)
    at (Some (shortens short)) e = with_short_row zone rows number short.day short.close short.name acts
    at (Some (enters row)) e = absurd (let no = e in cc)
    at (Some (imports added)) e = absurd (let no = e in cc)
    at (Some (withdraws gone)) e = absurd (let no = e in cc)

standings_kept : (h : History) (c : Command) → moves_all_cases c.action ≡ false → (zone : ZoneRules) (acts : List Act)
    → standing zone (calendar_of (items_of (standing_rows (c ∷ h)))) acts ≡ standing zone (calendar_of (items_of (standing_rows h))) acts
standings_kept h c calm zone acts = standings_after c.action calm zone (standing_rows h) (next_row h) acts

-- an action that makes nothing leaves the rows of deadlines and of acts as they are

pub deadlines_stay : (h : History) (c : Command) → MakesNothing c.action → deadline_rows (c ∷ h) ≡ deadline_rows h
deadlines_stay h c makes =
    let k = case_number c.action in
    ap (λ made. deadline_rows h ++ deadline_rows_from k (length (deadlines_of_case k (deadline_rows h)) + 1) made) (makes.0 (rule_found h c.action)) ∙ append-nil _

pub acts_stay : (h : History) (c : Command) → MakesNothing c.action → act_rows (c ∷ h) ≡ act_rows h
acts_stay h c makes =
    let k = case_number c.action in
    ap₂ (λ made news. act_rows h ++ (first_acts_from k (length (deadlines_of_case k (deadline_rows h)) + 1) made
    ++ act_rows_on k (deadline_number c.action) (length (acts_of_deadline k (deadline_number c.action) (act_rows h)) + 1) news)) (makes.0 (rule_found h c.action)) makes.1 ∙ append-nil _

-- where nothing is made and no case moves, the ends stay
pub ends_kept : (court : CourtSettings) (h : History) (c : Command) → MakesNothing c.action → moves_all_cases c.action ≡ false → end_rows court (rows_of court h) ≡ end_rows court (rows_of court (c ∷ h))
unfolding end_rows
ends_kept court h c makes calm =
    let zone = zone_of court in
    let deadlines = deadlines_stay h c makes in
    let acts = acts_stay h c makes in
    sym ((λ i. flat_map (row_of_deadline zone (calendar_of (items_of (standing_rows (c ∷ h)))) (acts i)) (deadlines i))
    ∙ (λ i. flat_map (λ d. end_row d.case d.number (end_running zone (standings_kept h c calm zone (acts_of_deadline d.case d.number (act_rows h)) i))) (deadline_rows h)))
