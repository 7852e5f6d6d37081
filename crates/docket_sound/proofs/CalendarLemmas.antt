-- Rows of a calendar that come one after another.
use Rattle.std.proofs.Common.{◌≡◌, ◌∙◌, ◌≢◌, ℕ, ◌+◌, ◌<◌, ◌≤◌, ◌==◌, ◌&&◌, ◌||◌, nat_lt, Bool, true, false, IsTrue, cond, List, [], ◌∷◌, ◌++◌, map, length, Err, Some, is_some, refl, sym, ap, subst, arith}
use Rattle.std.proofs.lemmas.Bool.{and_parts, false≢true}
use Rattle.std.proofs.lemmas.Bool.Decides.{nat_tests}
use Rattle.std.proofs.lemmas.List.{length-append, map-append, append_assoc}
use Rattle.std.proofs.lemmas.List.Folds.{list_any-append}
use Rattle.std.specs.List.{AllByRecursion}
use Rattle.std.specs.FinMap as fin_map
use Rattle.std.specs.FinSet.{FinSet, contains, insert, len, contains-insert, len-insert, contains-empty, len-empty}
use Rattle.std.specs.Ordering.{nat_cmp, eq_by_cmp}
use Rattle.std.specs.declared.cmp.Ordering.{Ordering}
use Rattle.std.specs.Cmp.{IsTotalOrder, nat_cmp_total}
use Rattle.court_days.specs.Spans.{span_cmp}
use Rattle.court_days.proofs.SpanSets.{span_cmp_total}
use Rattle.court_days.specs.Calendar.{Entered, rows_of, no_days}
use Rattle.court_days.specs.Court.{CourtSettings}
use Rattle.court_days.specs.declared.calendar.CalendarFault.{CalendarFault}
use Rattle.court_days.specs.declared.calendar.CalendarFault.TheVariants as fault
use Rattle.court_days.specs.declared.calendar.DayKind.TheVariants.{Federal, State, Closed}
use Rattle.docket_history.specs.CalendarItems.{is_same_item, stands_among, with_item, entered_with, calendar_of, IsEnteredItem}
use Rattle.docket_history.specs.Histories.{items_of}
use Rattle.docket_history.specs.declared.item.CalendarItem.{CalendarItem}
use Rattle.docket_history.specs.declared.item.CalendarItem.TheVariants.{Day, Span, Short}
use Rattle.docket_history.specs.declared.row.CalendarRow.{CalendarRow}
use Rattle.docket_decisions.proofs.GoodValues.{may_be_entered}
use Rattle.docket_decisions.proofs.ListLemmas.{all_later}
use Rattle.sqlite_trees.proofs.ListLemmas.{all-append}
use Rattle.docket_sound.specs.Calendars.{is_sound_item, is_sound_row, is_well_named, EachIsNew, IsGiven, AreSoundCalendarRows, stands, Enters, may_come, last_of, HasEntered}
use Rattle.docket_sound.specs.Numbers.{Rises}
use Rattle.docket_sound.proofs.TestLemmas.{or_last}

-- numbers that rise, one more
last_below : (n x : ℕ) (xs : List ℕ) → n < x → AllByRecursion (λ m. m < x) xs → last_of n xs < x
last_below n x [] low all = low
last_below n x (y ∷ ys) low all = last_below y x ys all.0 all.1

last_above : (y : ℕ) (ys : List ℕ) → AllByRecursion (λ m. y < m) ys → Rises ys → y ≤ last_of y ys
last_above y [] above rises = omega arith
last_above y (z ∷ zs) above rises = let more = last_above z zs rises.0 rises.1 in omega (arith, above.0, more)

below_last : (n : ℕ) (xs : List ℕ) → Rises xs → AllByRecursion (λ m. m ≤ last_of n xs) xs
below_last n [] rises = tt
below_last n (y ∷ ys) rises = (last_above y ys rises.0 rises.1, below_last y ys rises.1)

all_under : (a b : ℕ) (xs : List ℕ) → a < b → AllByRecursion (λ m. m ≤ a) xs → AllByRecursion (λ m. m < b) xs
all_under a b [] low all = tt
all_under a b (y ∷ ys) low all = (omega (arith, low, all.0), all_under a b ys low all.1)

pub rises_more : (xs : List ℕ) (x : ℕ) → Rises xs → AllByRecursion (λ m. m < x) xs → Rises (xs ++ x ∷ [])
rises_more [] x rises below = (tt, tt)
rises_more (y ∷ ys) x rises below = (all-append (λ m. y < m) ys (x ∷ []) rises.0 (below.0, tt), rises_more ys x rises.1 below.1)

rises_from : (xs : List ℕ) (x : ℕ) (more : List ℕ) → Rises (xs ++ x ∷ more) → AllByRecursion (λ m. m < x) xs
rises_from [] x more rises = tt
rises_from (y ∷ ys) x more rises = ((all_later (λ m. y < m) ys (x ∷ more) rises.0).0, rises_from ys x more rises.1)

last_more : (n : ℕ) (xs : List ℕ) (x : ℕ) → last_of n (xs ++ x ∷ []) ≡ x
last_more n [] x = refl
last_more n (y ∷ ys) x = last_more y ys x

-- items that are new, one more
pub new_more : (before xs : List CalendarItem) (x : CalendarItem) → EachIsNew before xs → stands_among (before ++ xs) x ≡ false → EachIsNew before (xs ++ x ∷ [])
new_more before [] x new none = (subst (λ l. stands_among l x ≡ false) (plain before) none, tt)
  where
    plain : (l : List CalendarItem) → l ++ [] ≡ l
    plain [] = refl
    plain (y ∷ ys) = ap (λ m. y ∷ m) (plain ys)
new_more before (y ∷ ys) x new none =
    (new.0, new_more (before ++ y ∷ []) ys x new.1 (subst (λ l. stands_among l x ≡ false) (sym (append_assoc before (y ∷ []) ys)) none))

new_from : (before xs : List CalendarItem) (x : CalendarItem) (more : List CalendarItem) → EachIsNew before (xs ++ x ∷ more) → stands_among (before ++ xs) x ≡ false
new_from before [] x more new = subst (λ l. stands_among l x ≡ false) (sym (plain before)) new.0
  where
    plain : (l : List CalendarItem) → l ++ [] ≡ l
    plain [] = refl
    plain (y ∷ ys) = ap (λ m. y ∷ m) (plain ys)
new_from before (y ∷ ys) x more new = subst (λ l. stands_among l x ≡ false) (append_assoc before (y ∷ []) ys) (new_from (before ++ y ∷ []) ys x more new.1)

-- the calendar of items, one more
entered_more : (e : Entered) (items : List CalendarItem) (item : CalendarItem) → entered_with e (items ++ item ∷ []) ≡ with_item (entered_with e items) item
entered_more e [] item = refl
entered_more e (x ∷ xs) item = entered_more (with_item e x) xs item

-- what stands in a calendar, one more
same_day : (q k : ℕ) → eq_by_cmp nat_cmp q k ≡ (k == q)
same_day q k = grind (arith, nat_tests)

same_span : (s e a b : ℕ) → eq_by_cmp span_cmp (record { start = a; end = b }) (record { start = s; end = e }) ≡ (s == a && e == b)
same_span s e a b = grind (arith, nat_tests)

day_more : (s : FinSet nat_cmp) (day q : ℕ) → contains (insert s day) q ≡ (day == q || contains s q)
day_more s day q = contains-insert nat_cmp_total s day q ∙ ap (λ b. b || contains s q) (same_day q day)

-- a short day that stands stays as it is
short_more : (m : fin_map.FinMap nat_cmp ℕ) (day close q : ℕ)
    → fin_map.contains_key (cond (fin_map.contains_key m day) m (fin_map.insert m day close)) q ≡ (day == q || fin_map.contains_key m q)
short_more m day close q = at (fin_map.contains_key m day) refl
  where
    here : (b : Bool) → (day == q) ≡ b → fin_map.contains_key m day ≡ true → fin_map.contains_key m q ≡ (b || fin_map.contains_key m q)
    here true same stood = let on : day ≡ q = grind (arith, nat_tests, same) in ap (fin_map.contains_key m) (sym on) ∙ stood
    here false other stood = refl

    added : (b : Bool) → is_some (cond b (Some close) (fin_map.get m q)) ≡ (b || is_some (fin_map.get m q))
    added true = refl
    added false = refl

    at : (b : Bool) → fin_map.contains_key m day ≡ b → fin_map.contains_key (cond b m (fin_map.insert m day close)) q ≡ (day == q || fin_map.contains_key m q)
    at true stood = here (day == q) refl stood
    at false none =
        ap is_some (fin_map.get-insert nat_cmp_total m day close q) ∙ added (eq_by_cmp nat_cmp q day) ∙ ap (λ b. b || fin_map.contains_key m q) (same_day q day)

stands_more : (e : Entered) (item other : CalendarItem) → stands (with_item e item) other ≡ (is_same_item item other || stands e other)
stands_more e (Day Federal day) (Day Federal q) = day_more e.federal day q
stands_more e (Day Federal day) (Day State q) = refl
stands_more e (Day Federal day) (Day Closed q) = refl
stands_more e (Day State day) (Day Federal q) = refl
stands_more e (Day State day) (Day State q) = day_more e.state day q
stands_more e (Day State day) (Day Closed q) = refl
stands_more e (Day Closed day) (Day Federal q) = refl
stands_more e (Day Closed day) (Day State q) = refl
stands_more e (Day Closed day) (Day Closed q) = day_more e.closed day q
stands_more e (Day Federal day) (Short q b) = refl
stands_more e (Day State day) (Short q b) = refl
stands_more e (Day Closed day) (Short q b) = refl
stands_more e (Span s t) (Short q b) = refl
stands_more e (Short day close) (Day Federal q) = refl
stands_more e (Short day close) (Day State q) = refl
stands_more e (Short day close) (Day Closed q) = refl
stands_more e (Short day close) (Span a b) = refl
stands_more e (Short day close) (Short q b) = short_more e.short day close q
stands_more e (Day Federal day) (Span a b) = refl
stands_more e (Day State day) (Span a b) = refl
stands_more e (Day Closed day) (Span a b) = refl
stands_more e (Span s t) (Day Federal q) = refl
stands_more e (Span s t) (Day State q) = refl
stands_more e (Span s t) (Day Closed q) = refl
stands_more e (Span s t) (Span a b) =
    contains-insert span_cmp_total e.spans (record { start = s; end = t }) (record { start = a; end = b }) ∙ ap (λ x. x || contains e.spans (record { start = a; end = b })) (same_span s t a b)

long_more : {K : Type 0} {R : K → K → Ordering} (o : IsTotalOrder R) (s : FinSet R) (k : K) → contains s k ≡ false → len (insert s k) ≡ len s + 1
long_more o s k none = len-insert o s k ∙ ap (λ b. cond b (len s) (len s + 1)) none

rows_more : (e : Entered) (item : CalendarItem) → stands e item ≡ false → rows_of (with_item e item) ≡ rows_of e + 1
rows_more e (Day Federal day) none = omega (arith, long_more nat_cmp_total e.federal day none)
rows_more e (Day State day) none = omega (arith, long_more nat_cmp_total e.state day none)
rows_more e (Day Closed day) none = omega (arith, long_more nat_cmp_total e.closed day none)
rows_more e (Span s t) none = omega (arith, long_more span_cmp_total e.spans (record { start = s; end = t }) none)
rows_more e (Short day close) none = omega (arith, short_longer e.short day close none)
  where
    short_longer : (m : fin_map.FinMap nat_cmp ℕ) (day close : ℕ) → fin_map.contains_key m day ≡ false
        → fin_map.len (cond (fin_map.contains_key m day) m (fin_map.insert m day close)) ≡ fin_map.len m + 1
    short_longer m day close none =
        ap (λ b. fin_map.len (cond b m (fin_map.insert m day close))) none
        ∙ fin_map.len-insert nat_cmp_total m day close ∙ ap (λ b. cond b (fin_map.len m) (fin_map.len m + 1)) none

-- after these rows, one more
module _ (court : CourtSettings) (next_row last : ℕ) (entered : Entered) (rows : List CalendarRow) (row : CalendarRow) (has : HasEntered court next_row last entered rows) where
  pub row_fails : (more : List CalendarRow) → may_come court next_row last row ≡ false → AreSoundCalendarRows court next_row (rows ++ row ∷ more) → ⊥
  row_fails more fail all =
      let below = rises_from (map (λ (r : CalendarRow). r.number) rows) row.number (map (λ (r : CalendarRow). r.number) more) (subst Rises (map-append (λ (r : CalendarRow). r.number) rows (row ∷ more)) all.rising) in
      let given = (all_later (λ (r : CalendarRow). IsGiven next_row r.number) rows (row ∷ more) all.given).0 in
      let above : last_of 0 (map (λ (r : CalendarRow). r.number) rows) < row.number = last_below 0 row.number (map (λ (r : CalendarRow). r.number) rows) (omega (arith, given.0)) below in
      let first : nat_lt last row.number ≡ true = grind (arith, nat_tests, has.highest, above) in
      let second : nat_lt row.number next_row ≡ true = grind (arith, nat_tests, given.1) in
      let third : is_sound_row court row ≡ true = (all_later (λ (r : CalendarRow). IsTrue (is_sound_row court r)) rows (row ∷ more) all.within).0 in
      let passes : may_come court next_row last row ≡ true = rw (first, second, third) refl in
      false≢true (sym fail ∙ passes)

  pub row_twice : (more : List CalendarRow) → stands entered row.item ≡ true → AreSoundCalendarRows court next_row (rows ++ row ∷ more) → ⊥
  row_twice more stood all =
      let new = new_from [] (items_of rows) row.item (items_of more) (subst (EachIsNew []) (map-append (λ (r : CalendarRow). r.item) rows (row ∷ more)) all.apart) in
      false≢true (sym (has.standing row.item ∙ new) ∙ stood)

  pub row_too_many : (more : List CalendarRow) → rows_of entered ≡ 4000 → AreSoundCalendarRows court next_row (rows ++ row ∷ more) → ⊥
  row_too_many more full all = absurd (omega (arith, full, has.counted, all.few, length-append rows (row ∷ more)))

  pub row_out_of_range : may_come court next_row last row ≡ true → IsEnteredItem row.item
  row_out_of_range pass = let sound = and_parts _ (is_sound_row court row) pass in may_be_entered court row.item (and_parts (is_sound_item court row.item) (is_well_named row.item row.name) sound.1).0

  pub row_faulty : (new : Entered) (why : CalendarFault) (more : List CalendarRow) → may_come court next_row last row ≡ true → Enters entered row.item new (Err why) → why ≢ fault.NoMemory
      → AreSoundCalendarRows court next_row (rows ++ row ∷ more) → ⊥
  row_faulty new fault.OutOfRange more pass enters other all = enters (row_out_of_range pass)
  row_faulty new fault.Full more pass enters other all = row_too_many more enters all
  row_faulty new fault.NoMemory more pass enters other all = other refl

  pub row_taken : (new : Entered) → stands entered row.item ≡ false → new ≡ with_item entered row.item → rows_of new ≤ 4000 → may_come court next_row last row ≡ true
      → HasEntered court next_row row.number new (rows ++ row ∷ [])
  row_taken new none grown room pass =
      let sound = and_parts _ (is_sound_row court row) pass in
      let between = and_parts (nat_lt last row.number) (nat_lt row.number next_row) sound.0 in
      let at : last < row.number = grind (arith, nat_tests, between.0) in
      let below : AllByRecursion (λ m. m < row.number) (map (λ (r : CalendarRow). r.number) rows) =
      all_under (last_of 0 (map (λ (r : CalendarRow). r.number) rows)) row.number (map (λ (r : CalendarRow). r.number) rows) (omega (arith, at, has.highest)) (below_last 0 (map (λ (r : CalendarRow). r.number) rows) has.sound.rising) in
      let items : items_of (rows ++ row ∷ []) ≡ items_of rows ++ row.item ∷ [] = map-append (λ (r : CalendarRow). r.item) rows (row ∷ []) in
      let count : rows_of new ≡ length (rows ++ row ∷ []) = ap rows_of grown ∙ rows_more entered row.item none ∙ omega (arith, has.counted, length-append rows (row ∷ [])) in
      record {
        highest = sym (ap (last_of 0) (map-append (λ (r : CalendarRow). r.number) rows (row ∷ [])) ∙ last_more 0 (map (λ (r : CalendarRow). r.number) rows) row.number);
        calendar = grown ∙ ap (λ e. with_item e row.item) has.calendar ∙ sym (ap calendar_of items ∙ entered_more no_days (items_of rows) row.item);
        standing = λ item. ap (λ e. stands e item) grown ∙ stands_more entered row.item item ∙ ap (λ b. is_same_item row.item item || b) (has.standing item)
            ∙ or_last (is_same_item row.item item) (stands_among (items_of rows) item) ∙ sym (ap (λ l. stands_among l item) items ∙ list_any-append (λ other. is_same_item other item) (items_of rows) (row.item ∷ []));
        counted = count;
        sound = record {
          rising = subst Rises (sym (map-append (λ (r : CalendarRow). r.number) rows (row ∷ []))) (rises_more (map (λ (r : CalendarRow). r.number) rows) row.number has.sound.rising below);
          given = all-append (λ (r : CalendarRow). IsGiven next_row r.number) rows (row ∷ []) has.sound.given ((omega (arith, at), grind (arith, nat_tests, between.1)), tt);
          apart = subst (EachIsNew []) (sym items) (new_more [] (items_of rows) row.item has.sound.apart (sym (has.standing row.item) ∙ none));
          few = omega (arith, room, count);
          within = all-append (λ (r : CalendarRow). IsTrue (is_sound_row court r)) rows (row ∷ []) has.sound.within (sound.1, tt);
        };
      }

pub none_entered : (court : CourtSettings) (next_row : ℕ) (entered : Entered) → entered ≡ no_days → HasEntered court next_row 0 entered []
none_entered court next_row entered empty = record {
  highest = refl;
  calendar = empty;
  standing = λ item. ap (λ e. stands e item) empty ∙ none_stands item;
  counted = ap rows_of empty ∙ omega (arith, len-empty nat_cmp, len-empty span_cmp, fin_map.len-empty nat_cmp ℕ);
  sound = record { rising = tt; given = tt; apart = tt; few = omega arith; within = tt };
}
  where
    none_stands : (item : CalendarItem) → stands no_days item ≡ false
    none_stands (Day Federal day) = contains-empty nat_cmp day
    none_stands (Day State day) = contains-empty nat_cmp day
    none_stands (Day Closed day) = contains-empty nat_cmp day
    none_stands (Span s t) = contains-empty span_cmp (record { start = s; end = t })
    none_stands (Short day close) = ap is_some (fin_map.get-empty nat_cmp day)
