-- From the rows of the two tables to the calendar.
use Rattle.std.proofs.Common.{◌≡◌, ◌⊎◌, inl, inr, ℕ, suc, ◌+◌, ◌<◌, ◌≤◌, ◌==◌, ◌&&◌, nat_le, ℤ, pos, Bool, true, false, cond, List, [], ◌∷◌, ◌++◌, map, filter, length, get_or, append-nil, length-append, All, IsPermutation, IsSorted, Ordering, Less, Equal, Greater, is_lt, is_eq, refl, sym, ap, ap₂, subst, ◌∙◌, arith, int_cmp, Some, None}
use Rattle.std.specs.Ordering.{on, nat_cmp, ordering_then}
use Rattle.std.specs.List.{AllByRecursion, flat_map}
use Rattle.std.proofs.lemmas.Bool.Decides.{nat_tests}
use Rattle.std.proofs.lemmas.Int.{ints}
use Rattle.std.proofs.lemmas.Cmp.{on_total}
use Rattle.std.proofs.lemmas.Grind.{flat_map-append}
use Rattle.std.proofs.lemmas.List.{get_or-map, length-map}
use Rattle.std.proofs.lemmas.List.Elements.{filter-append}
use Rattle.std.proofs.lemmas.List.Sorted.{IsPermutation-trans, IsPermutation-sym, IsPermutation-map, length_permutation}
use Rattle.sqlite_keyed.proofs.ListLemmas.{all_weaker}
use Rattle.sqlite_trees.proofs.ListLemmas.{all-flat_map, map-flat_map, flat_map-map, flat_map_same_on, IsPermutation-flat_map, IsPermutation-flat_map_each}
use Rattle.sqlite_trees.specs.Tree.{IsAscending}
use Rattle.sqlite_keyed.proofs.SortLemmas.{sorted_is-sort_by}
use Rattle.sqlite_sql.proofs.QueryLemmas.{key_cmp_total}
use Rattle.sqlite_value.proofs.OrderLemmas.{value_cmp-Int}
use Rattle.sqlite_value.specs.Order.{Row, value_cmp}
use Rattle.sqlite.specs.declared.types.Value.TheVariants.{Int}
use Rattle.sqlite.specs.Collation.TheVariants.{Binary}
use Rattle.sqlite.specs.Query.{key_cmp}
use Rattle.sqlite_sql.specs.declared.ops.BinaryOp.TheVariants.{Compare}
use Rattle.sqlite_sql.specs.declared.ops.CompareOp.{CompareOp}
use Rattle.sqlite_sql.specs.declared.ops.CompareOp.TheVariants.{Eq, Le, Ge}
use Rattle.sqlite_sql.specs.Ops.{binary, is_true, from_truth, test}
use Rattle.civil_time.specs.LocalTime.{local_day, seconds}
use Rattle.court_days.specs.Calendar.{Entered}
use Rattle.court_days.specs.Court.{CourtSettings, zone_of}
use Rattle.court_days.specs.declared.filing.End.{End}
use Rattle.court_days.specs.declared.filing.End.TheVariants.{LastDay, Moment}
use Rattle.court_rules.specs.LocalRules.{deadline_rule_name}
use Rattle.court_rules.specs.Standings.{standing}
use Rattle.court_rules.specs.declared.act.Standing.{Standing}
use Rattle.court_rules.specs.declared.act.Standing.TheVariants.{Running, Suspended, Awaiting, Done, Vacated}
use Rattle.docket_decisions.specs.EndRows.{IsDueEnd, calendar_in, end_row, end_rows, end_running, row_of_deadline, time_of}
use Rattle.docket_history.specs.Histories.{acts_of_deadline}
use Rattle.docket_history.specs.Records.{close_of_end}
use Rattle.docket_decisions.specs.Tables.{Tables}
use Rattle.docket_decisions.specs.declared.end_row.StoredEnd.{StoredEnd}
use Rattle.docket_history.specs.declared.record.DueRow.{DueRow}
use Rattle.docket_history.specs.declared.row.ActRow.{ActRow}
use Rattle.docket_history.specs.declared.row.DeadlineRow.{DeadlineRow}
use Rattle.docket_columns.specs.Cells.{deadline_cells, end_cells, moment_cell}
use Rattle.docket_text.specs.CalendarOrder.{day_of_end, end_cmp, calendar_cmp, IsCalendar}
use Rattle.docket_text.specs.Times.{shown}
use Rattle.docket_calendar.specs.Calendar.{row_where, due_of, is_within, due_within}
use Rattle.docket_calendar.specs.DueCells.{due_cells}
use Rattle.docket_calendar.specs.Joined.{joined, shown_cells, order_cells}
use Rattle.docket_calendar.specs.Question.{days_asked}
use Rattle.docket_calendar.proofs.JoinLemmas.{passes, keys}
use Rattle.docket_calendar.proofs.KeyLemmas.{is_same, Apart, once}

truth_back : (b : Bool) → is_true (from_truth (Some b)) ≡ b
truth_back true = refl
truth_back false = refl

-- a comparison of whole numbers
compared : (op : CompareOp) (m n : ℤ) → is_true (binary (Compare op Binary) (Int m) (Int n)) ≡ test op (int_cmp m n)
unfolding binary
compared op m n = truth_back (test op (value_cmp (Int m) (Int n))) ∙ ap (test op) (value_cmp-Int m n)

same_number : (m n : ℕ) → test Eq (int_cmp (pos m) (pos n)) ≡ (m == n)
same_number m n = grind (arith, ints, nat_tests)

at_most : (m n : ℕ) → test Le (int_cmp (pos m) (pos n)) ≡ nat_le m n
at_most m n = grind (arith, ints, nat_tests)

at_least : (m n : ℕ) → test Ge (int_cmp (pos m) (pos n)) ≡ nat_le n m
at_least m n = grind (arith, ints, nat_tests)

-- where each gives the same
same_each : {A B : Type 0} (f g : A → List B) (xs : List A) → AllByRecursion (λ x. f x ≡ g x) xs → flat_map f xs ≡ flat_map g xs
same_each f g [] same = refl
same_each f g (x ∷ xs) same = ap₂ (λ a b. a ++ b) same.0 (same_each f g xs same.1)

flat_map-twice : {A B C : Type 0} (f : B → List C) (g : A → List B) (xs : List A) → flat_map f (flat_map g xs) ≡ flat_map (λ x. flat_map f (g x)) xs
flat_map-twice f g [] = refl
flat_map-twice f g (x ∷ xs) = flat_map-append f (g x) (flat_map g xs) ∙ ap (λ l. flat_map f (g x) ++ l) (flat_map-twice f g xs)

filter-flat_map : {A B : Type 0} (p : B → Bool) (g : A → List B) (xs : List A) → filter p (flat_map g xs) ≡ flat_map (λ x. filter p (g x)) xs
filter-flat_map p g [] = refl
filter-flat_map p g (x ∷ xs) = filter-append p (g x) (flat_map g xs) ∙ ap (λ l. filter p (g x) ++ l) (filter-flat_map p g xs)

abbrev no_rows : List Row
no_rows = []

nothing_each : (ds : List DeadlineRow) → flat_map (λ _. no_rows) ds ≡ no_rows
nothing_each [] = refl
nothing_each (d ∷ ds) = nothing_each ds

as_numbers : (m n : ℕ) → int_cmp (pos m) (pos n) ≡ nat_cmp m n
as_numbers m n = grind (arith, ints)

-- the day that is stored of an end is the one by which it is listed
day_is : (court : CourtSettings) (end : End) → IsDueEnd end → (time_of (zone_of court) end).day ≡ day_of_end court end
unfolding shown
day_is court (LastDay day) due = refl
day_is court (Moment at) due =
    let same : shown at ≡ seconds at = omega (arith, due) in
    ap (local_day (zone_of court)) (sym same)

-- the order of the stored moments is that of the ends
moments_as : (court : CourtSettings) (a b : End) → IsDueEnd a → IsDueEnd b → int_cmp (moment_cell (time_of (zone_of court) a).moment) (moment_cell (time_of (zone_of court) b).moment) ≡ end_cmp a b
moments_as court (LastDay day) (LastDay other) due last = grind (arith, ints)
moments_as court (Moment at) (Moment other) due last = refl
moments_as court (Moment (pos n)) (LastDay day) due last = grind (arith, ints, due)
moments_as court (LastDay day) (Moment (pos n)) due last = grind (arith, ints, last)
moments_as court (Moment (Rattle.std.proofs.Common.negsuc n)) (LastDay day) due last = absurd (omega (arith, due))
moments_as court (LastDay day) (Moment (Rattle.std.proofs.Common.negsuc n)) due last = absurd (omega (arith, last))

-- each of the other
abbrev first_of : Ordering → Ordering → Ordering → Ordering → Ordering
first_of a b c d = ordering_then a (ordering_then b (ordering_then c (ordering_then d Equal)))

then_equal : (o : Ordering) → ordering_then o Equal ≡ o
then_equal Less = refl
then_equal Equal = refl
then_equal Greater = refl

not_equal : (a b c d : Ordering) → (is_eq c && is_eq d) ≡ false → is_eq (first_of a b c d) ≡ false
not_equal Less b c d e = refl
not_equal Greater b c d e = refl
not_equal Equal Less c d e = refl
not_equal Equal Greater c d e = refl
not_equal Equal Equal Less d e = refl
not_equal Equal Equal Greater d e = refl
not_equal Equal Equal Equal d e = ap is_eq (then_equal d) ∙ e

nested : {A : Type 0} (a w : Bool) (xs : List A) → cond (a && w) xs [] ≡ cond w (cond a xs []) []
nested true true xs = refl
nested true false xs = refl
nested false true xs = refl
nested false false xs = refl

four : (a b c d : Bool) → (a && (b && (c && (d && true)))) ≡ ((a && b) && (c && d))
four true true true true = refl
four true true true false = refl
four true true false d = refl
four true false c d = refl
four false b c d = refl

each_show : {A X : Type 0} (P : (A → X) → A → Type 0) (xs : List A) → ((show : A → X) → AllByRecursion (P show) xs) → AllByRecursion (λ x. (show : A → X) → P show x) xs
each_show P [] all = tt
each_show P (x ∷ xs) all = ((λ show. (all show).0), each_show P xs (λ show. (all show).1))

pub all_two : {A : Type 0} (P Q R : A → Type 0) (xs : List A) → ((x : A) → P x → Q x → R x) → AllByRecursion P xs → AllByRecursion Q xs → AllByRecursion R xs
all_two P Q R [] both p q = tt
all_two P Q R (x ∷ xs) both p q = (both x p.0 q.0, all_two P Q R xs both p.1 q.1)

-- the ends of these deadlines, where their times run, are days and instants
abbrev pub HaveEnds : CourtSettings → Entered → List ActRow → List DeadlineRow → Type 0
HaveEnds court entered acts ds = AllByRecursion (λ d. (end : End) → standing (zone_of court) entered (acts_of_deadline d.case d.number acts) ≡ Running end → IsDueEnd end) ds

module _ (court : CourtSettings) (from to : ℕ) where
  abbrev params : Row
  params = days_asked from to

  abbrev stored : DeadlineRow → End → StoredEnd
  stored d end = record { case = d.case; deadline = d.number; end = time_of (zone_of court) end }

  abbrev listed_as : ℕ → DeadlineRow → End → DueRow
  listed_as close d end = record { end = end; close = close; case = d.case; number = d.number; party = d.party; rule = deadline_rule_name d.rule }

  passes_as : (close : ℕ) (d other : DeadlineRow) (end : End) → IsDueEnd end → passes params (end_cells (stored d end)) (deadline_cells other) ≡ (is_same d other && is_within court from to (listed_as close d end))
  passes_as close d other end due =
      let day = day_of_end court end in
      let is = day_is court end due in
      let all : (a b c d : Bool) → Bool = λ a b c d. a && (b && (c && (d && true))) in
      (λ i. all ((compared Eq (pos other.case) (pos d.case) ∙ same_number other.case d.case) i) ((compared Eq (pos other.number) (pos d.number) ∙ same_number other.number d.number) i)
      ((compared Ge (pos (time_of (zone_of court) end).day) (pos from) ∙ ap (λ n. test Ge (int_cmp (pos n) (pos from))) is ∙ at_least day from) i)
      ((compared Le (pos (time_of (zone_of court) end).day) (pos to) ∙ ap (λ n. test Le (int_cmp (pos n) (pos to))) is ∙ at_most day to) i))
      ∙ four (other.case == d.case) (other.number == d.number) (nat_le from day) (nat_le day to)

  abbrev show : DeadlineRow → End → DeadlineRow → Row
  show d end other = shown_cells (end_cells (stored d end)) (deadline_cells other)

  shown_one : (close : ℕ) (d other : DeadlineRow) (end : End) → IsDueEnd end → cond (passes params (end_cells (stored d end)) (deadline_cells other)) (show d end other ∷ []) []
      ≡ cond (is_within court from to (listed_as close d end)) (cond (is_same d other) (show d end other ∷ []) []) []
  shown_one close d other end due =
      ap (λ (b : Bool). cond b (show d end other ∷ []) []) (passes_as close d other end due) ∙ nested (is_same d other) (is_within court from to (listed_as close d end)) (show d end other ∷ [])

  -- what the question shows of a row of ends, among these deadlines
  abbrev beside : List DeadlineRow → Row → List Row
  beside ds D = flat_map (λ L. cond (passes params D L) (shown_cells D L ∷ []) []) (map deadline_cells ds)

  of_end : (close : ℕ) (d : DeadlineRow) (end : End) (ds : List DeadlineRow) → IsDueEnd end → flat_map (λ other. cond (is_same d other) (show d end other ∷ []) []) ds ≡ show d end d ∷ []
      → beside ds (end_cells (stored d end)) ≡ map (due_cells court) (filter (is_within court from to) (listed_as close d end ∷ []))
  of_end close d end ds due once =
      flat_map-map (λ L. cond (passes params (end_cells (stored d end)) L) (shown_cells (end_cells (stored d end)) L ∷ []) []) deadline_cells ds
      ∙ flat_map_same_on _ _ (λ other. shown_one close d other end due) ds ∙ by (is_within court from to (listed_as close d end))
    where
      by : (w : Bool) → flat_map (λ other. cond w (cond (is_same d other) (show d end other ∷ []) []) []) ds ≡ map (due_cells court) (cond w (listed_as close d end ∷ []) [])
      by true = once
      by false = nothing_each ds

  abbrev part : Entered → List ActRow → DeadlineRow → List Row
  part entered acts d = map (due_cells court) (filter (is_within court from to) (due_of court entered acts d))

  of_deadline : (entered : Entered) (acts : List ActRow) (ds : List DeadlineRow) (d : DeadlineRow)
      → ((end : End) → standing (zone_of court) entered (acts_of_deadline d.case d.number acts) ≡ Running end → IsDueEnd end)
      → ((shows : DeadlineRow → Row) → flat_map (λ other. cond (is_same d other) (shows other ∷ []) []) ds ≡ shows d ∷ [])
      → flat_map (λ e. beside ds (end_cells e)) (row_of_deadline (zone_of court) entered acts d) ≡ part entered acts d
  of_deadline entered acts ds d due once = by (standing (zone_of court) entered (acts_of_deadline d.case d.number acts)) refl
    where
      by : (s : Standing) → standing (zone_of court) entered (acts_of_deadline d.case d.number acts) ≡ s
          → flat_map (λ e. beside ds (end_cells e)) (end_row d.case d.number (end_running (zone_of court) s)) ≡ map (due_cells court) (filter (is_within court from to) (row_where court entered d s))
      by (Running end) e = append-nil (beside ds (end_cells (stored d end))) ∙ of_end (close_of_end court entered end) d end ds (due end e) (once (show d end))
      by Suspended e = refl
      by Awaiting e = refl
      by Done e = refl
      by Vacated e = refl

  -- what the question shows, deadline by deadline
  shown_parts : (t : Tables) → Apart t.deadlines → HaveEnds court (calendar_in t) t.acts t.deadlines
      → joined (passes params) shown_cells (map end_cells (end_rows court t)) (map deadline_cells t.deadlines) ≡ flat_map (part (calendar_in t) t.acts) t.deadlines
  unfolding end_rows
  shown_parts t apart ends =
      let ds = t.deadlines in
      let row_of = row_of_deadline (zone_of court) (calendar_in t) t.acts in
      flat_map-map (beside ds) end_cells (end_rows court t)
      ∙ flat_map-twice (λ e. beside ds (end_cells e)) row_of ds
      ∙ same_each _ _ ds (all_two _ _ (λ d. flat_map (λ e. beside ds (end_cells e)) (row_of d) ≡ part (calendar_in t) t.acts d) ds (λ d due once. of_deadline (calendar_in t) t.acts ds d due once) ends
      (each_show (λ shows d. flat_map (λ other. cond (is_same d other) (shows other ∷ []) []) ds ≡ shows d ∷ []) ds (λ shows. once shows ds apart)))

  listed_parts : (t : Tables) → flat_map (part (calendar_in t) t.acts) t.deadlines ≡ map (due_cells court) (due_within court from to t)
  listed_parts t =
      let due = due_of court (calendar_in t) t.acts in
      let within = is_within court from to in
      sym (map-flat_map (due_cells court) (λ d. filter within (due d)) t.deadlines) ∙ ap (map (due_cells court)) (sym (filter-flat_map within due t.deadlines))

  -- the order of the columns is that of the calendar
  ordered_as : (a b : DueRow) → IsDueEnd a.end → IsDueEnd b.end → on order_cells (key_cmp 0 keys) (due_cells court a) (due_cells court b) ≡ calendar_cmp court a b
  ordered_as a b due last =
      let day = λ (r : DueRow). pos (time_of (zone_of court) r.end).day in
      let moment = λ (r : DueRow). moment_cell (time_of (zone_of court) r.end).moment in
      let days : value_cmp (Int (day a)) (Int (day b)) ≡ nat_cmp (day_of_end court a.end) (day_of_end court b.end) = value_cmp-Int (day a) (day b) ∙ ap₂ (λ m n. int_cmp (pos m) (pos n)) (day_is court a.end due) (day_is court b.end last) ∙ as_numbers (day_of_end court a.end) (day_of_end court b.end) in
      let ends : value_cmp (Int (moment a)) (Int (moment b)) ≡ end_cmp a.end b.end = value_cmp-Int (moment a) (moment b) ∙ moments_as court a.end b.end due last in
      (λ i. first_of (days i) (ends i) ((value_cmp-Int (pos a.case) (pos b.case) ∙ as_numbers a.case b.case) i) ((value_cmp-Int (pos a.number) (pos b.number) ∙ as_numbers a.number b.number) i))
      ∙ ap (λ o. ordering_then (nat_cmp (day_of_end court a.end) (day_of_end court b.end)) (ordering_then (end_cmp a.end b.end) (ordering_then (nat_cmp a.case b.case) o))) (then_equal (nat_cmp a.number b.number))

  -- no two of the rows have one place in it
  equal_as : (m n : ℕ) → is_eq (value_cmp (Int (pos m)) (Int (pos n))) ≡ (m == n)
  equal_as m n = ap is_eq (value_cmp-Int (pos m) (pos n)) ∙ same_number m n

  abbrev order : Row → Row → Ordering
  order = on order_cells (key_cmp 0 keys)

  apart_cells : (a b : DueRow) → (a.case == b.case && a.number == b.number) ≡ false → is_eq (order (due_cells court a) (due_cells court b)) ≡ false
  apart_cells a b off =
      let keys_off : (is_eq (value_cmp (Int (pos a.case)) (Int (pos b.case))) && is_eq (value_cmp (Int (pos a.number)) (Int (pos b.number)))) ≡ false = ap₂ (λ x y. x && y) (equal_as a.case b.case) (equal_as a.number b.number) ∙ off in
      not_equal (value_cmp (Int (pos (time_of (zone_of court) a.end).day)) (Int (pos (time_of (zone_of court) b.end).day))) (value_cmp (Int (moment_cell (time_of (zone_of court) a.end).moment)) (Int (moment_cell (time_of (zone_of court) b.end).moment))) _ _ keys_off

  -- the rows of one deadline are apart from those of others
  abbrev IsPart : DeadlineRow → List Row → Type 0
  IsPart d rows = (rows ≡ []) ⊎ ((r : DueRow) × (rows ≡ due_cells court r ∷ []) × (r.case ≡ d.case) × (r.number ≡ d.number))

  one_part : (entered : Entered) (d : DeadlineRow) (s : Standing) → IsPart d (map (due_cells court) (filter (is_within court from to) (row_where court entered d s)))
  one_part entered d (Running end) = by (is_within court from to (listed_as (close_of_end court entered end) d end))
    where
      close : ℕ
      close = close_of_end court entered end

      by : (w : Bool) → IsPart d (map (due_cells court) (cond w (listed_as close d end ∷ []) []))
      by true = inr (listed_as close d end, refl, refl, refl)
      by false = inl refl
  one_part entered d Suspended = inl refl
  one_part entered d Awaiting = inl refl
  one_part entered d Done = inl refl
  one_part entered d Vacated = inl refl

  module _ (entered : Entered) (acts : List ActRow) where
    is_part : (d : DeadlineRow) → IsPart d (part entered acts d)
    is_part d = one_part entered d (standing (zone_of court) entered (acts_of_deadline d.case d.number acts))

    abbrev IsNotTied : Row → Row → Type 0
    IsNotTied row other = is_eq (order row other) ≡ false

    untied : (r : DueRow) (d other : DeadlineRow) (rows : List Row) → r.case ≡ d.case → r.number ≡ d.number → is_same d other ≡ false → IsPart other rows → AllByRecursion (IsNotTied (due_cells court r)) rows
    untied r d other rows case number off (inl none) = subst (AllByRecursion (IsNotTied (due_cells court r))) (sym none) tt
    untied r d other rows case number off (inr (x, is, x_case, x_number)) =
        let keys_off : (r.case == x.case && r.number == x.number) ≡ false = differ r.case x.case r.number x.number off case number x_case x_number in
        subst (AllByRecursion (IsNotTied (due_cells court r))) (sym is) (apart_cells r x keys_off, tt)
      where
        differ : (a b m n : ℕ) → (other.case == d.case && other.number == d.number) ≡ false → a ≡ d.case → m ≡ d.number → b ≡ other.case → n ≡ other.number → (a == b && m == n) ≡ false
        differ a b m n off p q u v = by (other.case == d.case) refl off
          where
            by : (c : Bool) → (other.case == d.case) ≡ c → (c && other.number == d.number) ≡ false → (a == b && m == n) ≡ false
            by true e h = numbers (a == b) (grind (arith, nat_tests, h, q, v))
              where
                numbers : (c : Bool) → (m == n) ≡ false → (c && m == n) ≡ false
                numbers true h = h
                numbers false h = refl
            by false e h = ap (λ (c : Bool). c && m == n) (cases_apart e)
              where
                cases_apart : (other.case == d.case) ≡ false → (a == b) ≡ false
                cases_apart e = grind (arith, nat_tests, e, p, u)

    untied_all : (r : DueRow) (d : DeadlineRow) (ds : List DeadlineRow) → r.case ≡ d.case → r.number ≡ d.number → AllByRecursion (λ other. is_same d other ≡ false) ds
        → AllByRecursion (IsNotTied (due_cells court r)) (flat_map (part entered acts) ds)
    untied_all r d ds case number off =
        all-flat_map (IsNotTied (due_cells court r)) (part entered acts) ds (all_weaker _ (λ other. AllByRecursion (IsNotTied (due_cells court r)) (part entered acts other)) (λ other away. untied r d other _ case number away (is_part other)) ds off)

    no_ties : (ds : List DeadlineRow) → Apart ds → IsAscending IsNotTied (flat_map (part entered acts) ds)
    no_ties [] off = tt
    no_ties (d ∷ ds) off = by (part entered acts d) (is_part d) (no_ties ds off.1)
      where
        by : (rows : List Row) → IsPart d rows → IsAscending IsNotTied (flat_map (part entered acts) ds) → IsAscending IsNotTied (rows ++ flat_map (part entered acts) ds)
        by rows (inl none) more = subst (λ (l : List Row). IsAscending IsNotTied (l ++ flat_map (part entered acts) ds)) (sym none) more
        by rows (inr (r, is, case, number)) more = subst (λ (l : List Row). IsAscending IsNotTied (l ++ flat_map (part entered acts) ds)) (sym is) (untied_all r d ds case number off.0, more)

    few_parts : (ds : List DeadlineRow) → length (flat_map (part entered acts) ds) ≤ length ds
    few_parts [] = omega arith
    few_parts (d ∷ ds) = by (part entered acts d) (is_part d) (few_parts ds)
      where
        by : (rows : List Row) → IsPart d rows → length (flat_map (part entered acts) ds) ≤ length ds → length (rows ++ flat_map (part entered acts) ds) ≤ suc (length ds)
        by rows (inl none) more = omega (arith, length-append rows (flat_map (part entered acts) ds), ap length none, more)
        by rows (inr (r, is, case, number)) more = omega (arith, length-append rows (flat_map (part entered acts) ds), ap length is, more)

  -- tables that hold their rows in some order
  joined_permutes : (D E L M : List Row) → IsPermutation D E → IsPermutation L M → IsPermutation (joined (passes params) shown_cells D L) (joined (passes params) shown_cells E M)
  joined_permutes D E L M ds ls =
      let of_one : List Row → Row → List Row = λ rows d. flat_map (λ l. cond (passes params d l) (shown_cells d l ∷ []) []) rows in
      IsPermutation-trans _ _ _ (IsPermutation-flat_map (of_one L) D E ds) (IsPermutation-flat_map_each (of_one L) (of_one M) (λ d. IsPermutation-flat_map _ L M ls) E)

  sorted_cells : (listed : List DueRow) → All (λ (r : DueRow). IsDueEnd r.end) listed → IsSorted (calendar_cmp court) listed → IsSorted order (map (due_cells court) listed)
  sorted_cells listed due sorted k row low high =
      let inside : k + 1 < length listed = rw length-map at high in
      let r : DueRow = record { end = LastDay 0; close = 0; case = 0; number = 0; party = 0; rule = [] } in
      let is = ap is_lt (ordered_as (get_or listed (k + 1) r) (get_or listed k r) (due (k + 1) r inside) (due k r (omega arith))) in
      rw (get_or-map (due_cells court) listed (k + 1) r row inside, get_or-map (due_cells court) listed k r row (omega arith)) (is ∙ sorted k r low inside)

  -- the rows that answer the question are those of the calendar
  pub the_rows : (t : Tables) (listed : List DueRow) (D L rows : List Row) → Apart t.deadlines → HaveEnds court (calendar_in t) t.acts t.deadlines → All (λ (r : DueRow). IsDueEnd r.end) listed
      → IsPermutation D (map end_cells (end_rows court t)) → IsPermutation L (map deadline_cells t.deadlines) → IsCalendar court (due_within court from to t) listed
      → IsPermutation (joined (passes params) shown_cells D L) rows → IsSorted order rows → rows ≡ map (due_cells court) listed
  the_rows t listed D L rows apart ends due ds ls calendar same sorted =
      let parts = flat_map (part (calendar_in t) t.acts) t.deadlines in
      let total = on_total order_cells (key_cmp_total keys 0) in
      let untied_parts = no_ties (calendar_in t) t.acts t.deadlines apart in
      let held : IsPermutation (joined (passes params) shown_cells D L) parts =
      subst (λ xs. IsPermutation (joined (passes params) shown_cells D L) xs) (shown_parts t apart ends) (joined_permutes D _ L _ ds ls) in
      let told : IsPermutation parts (map (due_cells court) listed) = subst (λ xs. IsPermutation xs (map (due_cells court) listed)) (sym (listed_parts t)) (IsPermutation-map (due_cells court) _ _ calendar.same) in
      sorted_is-sort_by order total parts rows untied_parts (IsPermutation-trans _ _ _ (IsPermutation-sym _ _ held) same) sorted
      ∙ sym (sorted_is-sort_by order total parts (map (due_cells court) listed) untied_parts told (sorted_cells listed due calendar.ordered))

  pub few_listed : (t : Tables) (listed : List DueRow) → IsCalendar court (due_within court from to t) listed → length listed ≤ length t.deadlines
  few_listed t listed calendar =
      omega (arith, length_permutation _ _ calendar.same, ap length (listed_parts t), length-map (due_within court from to t) (due_cells court), few_parts (calendar_in t) t.acts t.deadlines)
