-- The ends of deadlines, taken one after another from the rows that are stored of a case.
use Rattle.std.proofs.Common.{◌≡◌, ◌∙◌, ◌<◌, ◌==◌, ◌+◌, ◌++◌, ℕ, Bool, true, false, List, [], ◌∷◌, length, drop, get_or, Option, Some, None, if◌then◌else◌, refl, sym, ap, subst, arith, append_assoc, unwrap_or}
use Rattle.std.proofs.lemmas.Bool.Decides.{nat_tests}
use Rattle.std.proofs.lemmas.List.{drop_more}
use Rattle.civil_time.specs.Zone.{ZoneRules}
use Rattle.court_days.specs.Calendar.{Entered}
use Rattle.court_days.specs.Court.{CourtSettings, zone_of}
use Rattle.court_days.specs.declared.filing.End.{End}
use Rattle.court_rules.specs.Standings.{standing}
use Rattle.court_rules.specs.declared.act.Act.{Act}
use Rattle.court_rules.specs.declared.act.Standing.{Standing}
use Rattle.court_rules.specs.declared.act.Standing.TheVariants.{Running, Suspended, Awaiting, Done, Vacated}
use Rattle.docket_decisions.specs.EndRows.{time_of, end_running, ends_running, end_rows_from, first_end, after_first}
use Rattle.docket_history.specs.Records.{line_of, lines_from}
use Rattle.docket_decisions.specs.declared.end_row.StoredEnd.{StoredEnd}
use Rattle.docket_decisions.specs.declared.end_row.EndTime.{EndTime}
use Rattle.docket_history.specs.declared.record.DeadlineLine.{DeadlineLine}
use Rattle.docket_history.specs.declared.view.DeadlineView.{DeadlineView}

-- a time that runs, by the end that is stored
pub runs_to : (court : CourtSettings) (entered : Entered) (acts : List Act) (stored : EndTime) → Some stored ≡ end_running (zone_of court) (standing (zone_of court) entered acts)
    → (end : End) × (stored ≡ time_of (zone_of court) end) × (standing (zone_of court) entered acts ≡ Running end)
runs_to court entered acts stored same = by (standing (zone_of court) entered acts) refl same
  where
    by : (s : Standing) → standing (zone_of court) entered acts ≡ s → Some stored ≡ end_running (zone_of court) s
        → (end : End) × (stored ≡ time_of (zone_of court) end) × (standing (zone_of court) entered acts ≡ Running end)
    by (Running end) is e = (end, ap (λ o. unwrap_or o stored) e, is)
    by Suspended is e = absurd (let no = e in cc)
    by Awaiting is e = absurd (let no = e in cc)
    by Done is e = absurd (let no = e in cc)
    by Vacated is e = absurd (let no = e in cc)

-- the first row is that of deadline n, if its time runs, and the other rows are those of later ones
abbrev pub IsTaken : ℕ → ℕ → Option EndTime → List (Option EndTime) → List StoredEnd → Type 0
IsTaken k n end ends rows = (first_end n rows ≡ end) × (after_first n rows ≡ end_rows_from k (n + 1) ends)

later : (k n m : ℕ) (ends : List (Option EndTime)) → n < m → (first_end n (end_rows_from k m ends) ≡ None) × (after_first n (end_rows_from k m ends) ≡ end_rows_from k m ends)
later k n m [] low = (refl, refl)
later k n m (None ∷ ends) low = later k n (m + 1) ends (omega (arith, low))
later k n m (Some end ∷ ends) low =
    let other : (m == n) ≡ false = grind (arith, nat_tests, low) in
    let rows = end_rows_from k (m + 1) ends in
    let row : StoredEnd = record { case = k; deadline = m; end = end } in
    (ap (λ (b : Bool). if b then Some end else None) other, ap (λ (b : Bool). if b then rows else row ∷ rows) other)

taken : (k n : ℕ) (end : Option EndTime) (ends : List (Option EndTime)) → IsTaken k n end ends (end_rows_from k n (end ∷ ends))
taken k n None ends = later k n (n + 1) ends (omega arith)
taken k n (Some end) ends =
    let here : (n == n) ≡ true = grind (arith, nat_tests) in
    let rows = end_rows_from k (n + 1) ends in
    let row : StoredEnd = record { case = k; deadline = n; end = end } in
    (ap (λ (b : Bool). if b then Some end else None) here, ap (λ (b : Bool). if b then rows else row ∷ rows) here)

-- the same of the deadlines that are left
pub next_taken : (zone : ZoneRules) (entered : Entered) (k n i : ℕ) (ds : List DeadlineView) (d : DeadlineView) (rows : List StoredEnd) → i < length ds → rows ≡ end_rows_from k n (ends_running zone entered (drop i ds))
    → IsTaken k n (end_running zone (standing zone entered (get_or ds i d).acts)) (ends_running zone entered (drop (i + 1) ds)) rows
next_taken zone entered k n i ds d rows low are =
    let end = end_running zone (standing zone entered (get_or ds i d).acts) in
    let ends = ends_running zone entered (drop (i + 1) ds) in
    subst (IsTaken k n end ends) (sym (are ∙ ap (λ all. end_rows_from k n (ends_running zone entered all)) (drop_more ds i d low))) (taken k n end ends)

-- one line more, and the rows that are left then
pub next_line : (court : CourtSettings) (entered : Entered) (k n i : ℕ) (ds : List DeadlineView) (d : DeadlineView) (rows left : List StoredEnd) (end : Option EndTime) (s : Standing) (lines more all : List DeadlineLine) → i < length ds
    → (rows ≡ end_rows_from k n (ends_running (zone_of court) entered (drop i ds))) × (lines ++ lines_from court entered n (drop i ds) ≡ all)
    → end ≡ first_end n rows → left ≡ after_first n rows
    → (end ≡ end_running (zone_of court) (standing (zone_of court) entered (get_or ds i d).acts) → s ≡ standing (zone_of court) entered (get_or ds i d).acts)
    → more ≡ lines ++ line_of court entered n (get_or ds i d) s ∷ []
    → (left ≡ end_rows_from k (n + 1) (ends_running (zone_of court) entered (drop (i + 1) ds))) × (more ++ lines_from court entered (n + 1) (drop (i + 1) ds) ≡ all)
next_line court entered k n i ds d rows left end s lines more all low was first rest told pushed =
    let x = get_or ds i d in
    let it = next_taken (zone_of court) entered k n i ds d rows low was.0 in
    let stands : s ≡ standing (zone_of court) entered x.acts = told (first ∙ it.0) in
    let others = lines_from court entered (n + 1) (drop (i + 1) ds) in (
      rest ∙ it.1,
      ap (λ l. l ++ others) (pushed ∙ ap (λ at. lines ++ line_of court entered n x at ∷ []) stands)
          ∙ append_assoc lines (line_of court entered n x (standing (zone_of court) entered x.acts) ∷ []) others
          ∙ ap (λ l. lines ++ lines_from court entered n l) (sym (drop_more ds i d low)) ∙ was.1,
    )
