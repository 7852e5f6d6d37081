-- The calendar of a history, by an induction on it.
use Rattle.std.proofs.Common.{◌≡◌, ◌∙◌, ℕ, suc, ◌+◌, ◌<◌, ◌≤◌, ◌==◌, not, Bool, true, false, cond, IsTrue, List, [], ◌∷◌, ◌++◌, map, length, refl, sym, subst, arith, append-nil, append_assoc}
use Rattle.std.proofs.lemmas.Bool.{or_from, or_parts}
use Rattle.std.proofs.lemmas.List.{map-append}
use Rattle.std.proofs.lemmas.List.Filters.{length-filter_both}
use Rattle.std.proofs.lemmas.List.Folds.{list_any-append}
use Rattle.std.specs.Prelude.{filter, Option, Some, None}
use Rattle.std.specs.List.{AllByRecursion}
use Rattle.std.specs.Option.{option_and_then, option_map_or}
use Rattle.court_days.specs.Court.{CourtSettings}
use Rattle.docket_command.specs.declared.command.Action.{Action}
use Rattle.docket_history.specs.Actions.{CalendarWork, enters, imports, shortens, withdraws, calendar_work, rows_of_work, withdrawn_by, short_row, row_withdrawn}
use Rattle.docket_history.specs.CalendarItems.{is_same_item, stands_among, fresh}
use Rattle.docket_history.specs.Histories.{History, items_of, numbered, without_row, standing_rows, next_row, rows_added}
use Rattle.docket_decisions.specs.Outcomes.{IsHistory}
use Rattle.docket_values.specs.Values.{first_bad, bad_values}
use Rattle.docket_history.specs.declared.item.CalendarItem.{CalendarItem}
use Rattle.docket_history.specs.declared.row.CalendarRow.{CalendarRow}
use Rattle.docket_decisions.proofs.GoodValues.{IsGoodRow, rows_good}
use Rattle.docket_decisions.proofs.LimitsKept.{within_limits}
use Rattle.sqlite_trees.proofs.ListLemmas.{all-append}
use Rattle.docket_sound.specs.Calendars.{is_sound_row, EachIsNew, IsGiven, AreSoundCalendarRows}
use Rattle.docket_sound.specs.Numbers.{Rises}
use Rattle.docket_sound.proofs.AcceptedLemmas.{freed}
use Rattle.docket_sound.proofs.CalendarLemmas.{rises_more, new_more}
use Rattle.docket_history.specs.declared.item.NewRow.{NewRow}

abbrev numbers : List CalendarRow → List ℕ
numbers rows = map (λ (row : CalendarRow). row.number) rows

-- a row of that number
abbrev row_at : ℕ → NewRow → CalendarRow
row_at n new = record { number = n; item = new.item; name = new.name }

-- rows that are sound, but for how many there are
record AreKept (court : CourtSettings) (next : ℕ) (rows : List CalendarRow) : Type 0 where
  rising : Rises (numbers rows)
  below : AllByRecursion (λ m. m < next) (numbers rows)
  given : AllByRecursion (λ row. IsGiven next row.number) rows
  apart : EachIsNew [] (items_of rows)
  within : AllByRecursion (λ row. IsTrue (is_sound_row court row)) rows

lower : (n : ℕ) (ns : List ℕ) → AllByRecursion (λ m. m < n) ns → AllByRecursion (λ m. m < n + 1) ns
lower n [] all = tt
lower n (m ∷ ms) all = (omega (arith, all.0), lower n ms all.1)

still_given : (n : ℕ) (rows : List CalendarRow) → AllByRecursion (λ row. IsGiven n row.number) rows → AllByRecursion (λ row. IsGiven (n + 1) row.number) rows
still_given n [] all = tt
still_given n (row ∷ rows) all = ((all.0.0, omega (arith, all.0.1)), still_given n rows all.1)

-- one more row, which has the next number
kept_more : (court : CourtSettings) (n : ℕ) (rows : List CalendarRow) (new : NewRow) → 1 ≤ n → AreKept court n rows → stands_among (items_of rows) new.item ≡ false → IsGoodRow court new → AreKept court (n + 1) (rows ++ row_at n new ∷ [])
kept_more court n rows new some kept none sound =
    let row = row_at n new in
    let all_numbers : numbers (rows ++ row ∷ []) ≡ numbers rows ++ n ∷ [] = map-append (λ (r : CalendarRow). r.number) rows (row ∷ []) in
    let items : items_of (rows ++ row ∷ []) ≡ items_of rows ++ new.item ∷ [] = map-append (λ (r : CalendarRow). r.item) rows (row ∷ []) in
    record {
      rising = subst Rises (sym all_numbers) (rises_more (numbers rows) n kept.rising kept.below);
      below = subst (AllByRecursion (λ m. m < n + 1)) (sym all_numbers) (all-append (λ m. m < n + 1) (numbers rows) (n ∷ []) (lower n (numbers rows) kept.below) (omega arith, tt));
      given = all-append (λ (r : CalendarRow). IsGiven (n + 1) r.number) rows (row ∷ []) (still_given n rows kept.given) ((some, omega arith), tt);
      apart = subst (EachIsNew []) (sym items) (new_more [] (items_of rows) new.item kept.apart none);
      within = all-append (λ (r : CalendarRow). IsTrue (is_sound_row court r)) rows (row ∷ []) kept.within (sound, tt);
    }

-- the rows that are added: those of the asked ones that are fresh
module _ (court : CourtSettings) where
  abbrev AreAdded : ℕ → List CalendarRow → List NewRow → Type 0
  AreAdded n rows news = AreKept court (n + length news) (rows ++ numbered n news)

  added : (n : ℕ) (rows : List CalendarRow) (asked : List NewRow) → 1 ≤ n → AreKept court n rows → AllByRecursion (IsGoodRow court) asked → AreAdded n rows (fresh (items_of rows) asked)
  added n rows [] some kept sound =
      let same : n + 0 ≡ n = omega arith in
      subst (AreKept court (n + 0)) (sym (append-nil rows)) (subst (λ m. AreKept court m rows) (sym same) kept)
  added n rows (new ∷ others) some kept sound =
      at (stands_among (items_of rows) new.item) refl (added n rows others some kept sound.1)
      (λ none. added (n + 1) (rows ++ row_at n new ∷ []) others (omega arith) (kept_more court n rows new some kept none sound.0) sound.1)
    where
      at : (b : Bool) → stands_among (items_of rows) new.item ≡ b → AreAdded n rows (fresh (items_of rows) others)
          → (stands_among (items_of rows) new.item ≡ false → AreAdded (n + 1) (rows ++ row_at n new ∷ []) (fresh (items_of (rows ++ row_at n new ∷ [])) others))
          → AreAdded n rows (cond b (fresh (items_of rows) others) (new ∷ fresh (items_of rows ++ new.item ∷ []) others))
      at true stood same more = same
      at false none same more =
          let rest = fresh (items_of rows ++ new.item ∷ []) others in
          let items : items_of (rows ++ row_at n new ∷ []) ≡ items_of rows ++ new.item ∷ [] = map-append (λ (r : CalendarRow). r.item) rows (row_at n new ∷ []) in
          let grown : AreAdded (n + 1) (rows ++ row_at n new ∷ []) rest = subst (λ l. AreAdded (n + 1) (rows ++ row_at n new ∷ []) (fresh l others)) items (more none) in
          let count : n + 1 + length rest ≡ n + suc (length rest) = omega arith in
          subst (λ m. AreKept court m (rows ++ row_at n new ∷ numbered (n + 1) rest)) count
          (subst (AreKept court (n + 1 + length rest)) (append_assoc rows (row_at n new ∷ []) (numbered (n + 1) rest)) grown)

-- the rows that are left
module _ (p : CalendarRow → Bool) where
  all_left : (P : CalendarRow → Type 0) (rows : List CalendarRow) → AllByRecursion P rows → AllByRecursion P (filter p rows)
  all_left P [] all = tt
  all_left P (row ∷ rows) all = at (p row) (all_left P rows all.1)
    where
      at : (b : Bool) → AllByRecursion P (filter p rows) → AllByRecursion P (cond b (row ∷ filter p rows) (filter p rows))
      at true rest = (all.0, rest)
      at false rest = rest

  numbers_left : (P : ℕ → Type 0) (rows : List CalendarRow) → AllByRecursion P (numbers rows) → AllByRecursion P (numbers (filter p rows))
  numbers_left P [] all = tt
  numbers_left P (row ∷ rows) all = at (p row) (numbers_left P rows all.1)
    where
      at : (b : Bool) → AllByRecursion P (numbers (filter p rows)) → AllByRecursion P (numbers (cond b (row ∷ filter p rows) (filter p rows)))
      at true rest = (all.0, rest)
      at false rest = rest

  rises_left : (rows : List CalendarRow) → Rises (numbers rows) → Rises (numbers (filter p rows))
  rises_left [] rises = tt
  rises_left (row ∷ rows) rises = at (p row) (numbers_left (λ m. row.number < m) rows rises.0) (rises_left rows rises.1)
    where
      at : (b : Bool) → AllByRecursion (λ m. row.number < m) (numbers (filter p rows)) → Rises (numbers (filter p rows)) → Rises (numbers (cond b (row ∷ filter p rows) (filter p rows)))
      at true above rest = (above, rest)
      at false above rest = rest

  -- what does not stand among items does not stand among fewer
  abbrev AreFewer : List CalendarItem → List CalendarItem → Type 0
  AreFewer more fewer = (item : CalendarItem) → stands_among more item ≡ false → stands_among fewer item ≡ false

  fewer_with : (more fewer : List CalendarItem) (x : CalendarItem) → AreFewer more fewer → AreFewer (more ++ x ∷ []) (fewer ++ x ∷ [])
  fewer_with more fewer x are item none =
      let parts = or_parts (stands_among more item) (stands_among (x ∷ []) item) (sym (list_any-append (λ other. is_same_item other item) more (x ∷ [])) ∙ none) in
      list_any-append (λ other. is_same_item other item) fewer (x ∷ []) ∙ or_from (stands_among fewer item) (stands_among (x ∷ []) item) (are item parts.0) parts.1

  fewer_without : (more fewer : List CalendarItem) (x : CalendarItem) → AreFewer more fewer → AreFewer (more ++ x ∷ []) fewer
  fewer_without more fewer x are item none =
      are item (or_parts (stands_among more item) (stands_among (x ∷ []) item) (sym (list_any-append (λ other. is_same_item other item) more (x ∷ [])) ∙ none)).0

  new_left : (more fewer : List CalendarItem) → AreFewer more fewer → (rows : List CalendarRow) → EachIsNew more (items_of rows) → EachIsNew fewer (items_of (filter p rows))
  new_left more fewer are [] new = tt
  new_left more fewer are (row ∷ rows) new =
      at (p row) (new_left (more ++ row.item ∷ []) (fewer ++ row.item ∷ []) (fewer_with more fewer row.item are) rows new.1)
      (new_left (more ++ row.item ∷ []) fewer (fewer_without more fewer row.item are) rows new.1)
    where
      at : (b : Bool) → EachIsNew (fewer ++ row.item ∷ []) (items_of (filter p rows)) → EachIsNew fewer (items_of (filter p rows)) → EachIsNew fewer (items_of (cond b (row ∷ filter p rows) (filter p rows)))
      at true kept gone = (are row.item new.0, kept)
      at false kept gone = gone

  kept_left : (court : CourtSettings) (n : ℕ) (rows : List CalendarRow) → AreKept court n rows → AreKept court n (filter p rows)
  kept_left court n rows kept = record {
    rising = rises_left rows kept.rising;
    below = numbers_left (λ m. m < n) rows kept.below;
    given = all_left (λ row. IsGiven n row.number) rows kept.given;
    apart = new_left [] [] (λ item none. none) rows kept.apart;
    within = all_left (λ row. IsTrue (is_sound_row court row)) rows kept.within;
  }

  pub sound_left : (court : CourtSettings) (n : ℕ) (rows : List CalendarRow) → AreSoundCalendarRows court n rows → AreSoundCalendarRows court n (filter p rows)
  sound_left court n rows sound = record {
    rising = rises_left rows sound.rising;
    given = all_left (λ row. IsGiven n row.number) rows sound.given;
    apart = new_left [] [] (λ item none. none) rows sound.apart;
    few = omega (arith, sound.few, length-filter_both p (λ row. not (p row)) (λ row. refl) rows);
    within = all_left (λ row. IsTrue (is_sound_row court row)) rows sound.within;
  }

-- a command withdraws a row or adds rows, and never both
abbrev AreStepped : CourtSettings → ℕ → List CalendarRow → Option CalendarWork → Type 0
AreStepped court n rows o =
    let news = fresh (items_of rows) (option_map_or rows_of_work o []) in
    AreKept court (n + length news) (without_row (option_and_then withdrawn_by o) rows ++ numbered n news)

calendar_step : (court : CourtSettings) (n : ℕ) (rows : List CalendarRow) (a : Action) → 1 ≤ n → first_bad (bad_values court a) ≡ None → AreKept court n rows
    → AreKept court (n + length (rows_added (items_of rows) a)) (without_row (row_withdrawn a) rows ++ numbered n (rows_added (items_of rows) a))
calendar_step court n rows a some good kept = at (calendar_work a) (rows_good court a good)
  where
    at : (o : Option CalendarWork) → AllByRecursion (IsGoodRow court) (option_map_or rows_of_work o []) → AreStepped court n rows o
    at None sound = added court n rows [] some kept tt
    at (Some (enters row)) sound = added court n rows (row ∷ []) some kept sound
    at (Some (imports asked)) sound = added court n rows asked some kept sound
    at (Some (shortens short)) sound = added court n rows (short_row short ∷ []) some kept sound
    at (Some (withdraws number)) sound =
        let left = filter (λ (row : CalendarRow). not (row.number == number)) rows in
        let same : n + 0 ≡ n = omega arith in
        subst (AreKept court (n + 0)) (sym (append-nil left)) (subst (λ m. AreKept court m left) (sym same) (kept_left (λ row. not (row.number == number)) court n rows kept))

some_next : (h : History) → 1 ≤ next_row h
some_next [] = omega arith
some_next (c ∷ h) = let was = some_next h in omega (arith, was)

calendar_kept : (court : CourtSettings) (h : History) → IsHistory court h → AreKept court (next_row h) (standing_rows h)
calendar_kept court [] is = record { rising = tt; below = tt; given = tt; apart = tt; within = tt }
calendar_kept court (c ∷ h) is =
    calendar_step court (next_row h) (standing_rows h) c.action (some_next h) (freed court h c is.0.0 is.0.1).values (calendar_kept court h is.1)

pub sound_calendar : (court : CourtSettings) (h : History) → IsHistory court h → AreSoundCalendarRows court (next_row h) (standing_rows h)
sound_calendar court h is =
    let kept = calendar_kept court h is in
    record { rising = kept.rising; given = kept.given; apart = kept.apart; few = (within_limits court h is).rows; within = kept.within }
