-- The ends of times that run lie within the limits of days and of instants.
use Rattle.std.proofs.Common.{◌≡◌, ℕ, ◌+◌, ◌-◌, ◌*◌, ◌≤◌, Bool, true, false, List, [], ◌∷◌, length, inl, inr, subst, arith}
use Rattle.std.specs.List.{AllByRecursion, list_all}
use Rattle.std.proofs.lemmas.Bool.Decides.{nat_tests}
use Rattle.civil_time.specs.LocalTime.{local_day, seconds}
use Rattle.civil_time.specs.Zone.{ZoneRules, IsZone}
use Rattle.civil_time.proofs.MonthsAway.{months_later-finds, months_earlier-finds}
use Rattle.civil_time.specs.Months.{months_later, months_earlier}
use Rattle.court_days.specs.Civil.{IsEnteredDay}
use Rattle.court_days.specs.Calendar.{Entered, no_days, with_day, with_span, with_short, IsWithinLimits}
use Rattle.court_days.specs.Ends.{end_from, end_of_days}
use Rattle.court_days.specs.Hours.{IsNearEntered}
use Rattle.court_days.specs.declared.calendar.Direction.{Direction}
use Rattle.court_days.specs.declared.calendar.Direction.TheVariants.{Forward, Backward}
use Rattle.court_days.specs.declared.filing.End.{End}
use Rattle.court_days.specs.declared.filing.End.TheVariants.{LastDay, Moment}
use Rattle.court_days.proofs.Accessible.{near_entered_day}
use Rattle.court_days.proofs.Ends.{last_business-finds, last_business-is, end_from-finds, end_of_days-near}
use Rattle.court_days.proofs.EndsOfHours.{end_of_hours-near}
use Rattle.court_days.proofs.MonthEnds.{end_of_months-near}
use Rattle.court_days.proofs.Entries.{no_days-limits, with_day-limits, with_span-limits, with_short-limits}
use Rattle.court_rules.specs.Acts.{is_entered_day, is_period, is_start, is_within}
use Rattle.court_rules.specs.Ends.{end_of_period, end_after_service}
use Rattle.court_rules.specs.Standings.{end_of_start, extended_by, resumed_end, standing_after, standing_through, standing, begins_on_entered_day, AreActs}
use Rattle.court_rules.specs.declared.act.Act.{Act}
use Rattle.court_rules.specs.declared.act.Act.TheVariants as act
use Rattle.court_rules.specs.declared.act.Standing.{Standing}
use Rattle.court_rules.specs.declared.act.Standing.TheVariants.{Running, Vacated}
use Rattle.court_rules.specs.declared.act.Start.{Start}
use Rattle.court_rules.specs.declared.act.Start.TheVariants as start
use Rattle.court_rules.specs.declared.table.Period.{Period}
use Rattle.court_rules.specs.declared.table.Period.TheVariants as period
use Rattle.docket_history.specs.CalendarItems.{IsEnteredItem, entered_with, calendar_of}
use Rattle.docket_history.specs.declared.item.CalendarItem.{CalendarItem}
use Rattle.docket_history.specs.declared.item.CalendarItem.TheVariants.{Day, Span, Short}
use Rattle.docket_decisions.specs.EndRows.{IsDueEnd}

-- a last day is at most so late after that many acts, each of which moves it by at most ten years and some days
abbrev IsEnd : ℕ → End → Type 0
IsEnd count (LastDay day) = (3652 ≤ day) × (day ≤ 47_871 + 3737 * count)
IsEnd count (Moment at) = IsNearEntered (seconds at)

abbrev Stands : ℕ → Standing → Type 0
Stands count (Running end) = IsEnd count end
Stands count _ = Unit {0}

later : (count more : ℕ) (end : End) → count ≤ more → IsEnd count end → IsEnd more end
later count more (LastDay day) le h = (h.0, omega (arith, h.1, le))
later count more (Moment at) le h = h

stands_later : (count more : ℕ) (s : Standing) → count ≤ more → Stands count s → Stands more s
stands_later count more (Running end) le h = later count more end le h
stands_later count more _ le h = tt

module _ (entered : Entered) (limits : IsWithinLimits entered) where
  forward_low : (from : ℕ) → from ≤ 720_000 → from ≤ end_from entered Forward from
  forward_low from h = (end_from-finds entered limits Forward from h).0.reached

  backward_low : (from : ℕ) → 7_000 ≤ from → from ≤ 47_481 → 6_990 ≤ end_from entered Backward from
  backward_low from low high =
      let found = (end_from-finds entered limits Backward from (low, high)).0 in
      let same = last_business-is entered limits from found.0 low (omega (arith, high)) found.1 in
      let near = (last_business-finds entered limits from low (omega (arith, high))).1 in
      elim found.2 [
        | inl stays ↦ omega (arith, same, near, stays.1, low)
        | inr moves ↦ omega (arith, same, near, moves.1.reached, low)
      ]

  period_low : (direction : Direction) (trigger : ℕ) (lasts : Period) → IsEnteredDay trigger → is_period lasts ≡ true → 6_990 ≤ end_of_period entered direction trigger lasts
  period_low Forward trigger (period.Days count) h is =
      let few : count ≤ 3650 = grind (arith, nat_tests, is) in
      omega (arith, forward_low (trigger + count) (omega (arith, few, h)), h)
  period_low Backward trigger (period.Days count) h is =
      let few : count ≤ 3650 = grind (arith, nat_tests, is) in
      backward_low (trigger - count) (omega (arith, few, h)) (omega (arith, h))
  period_low Forward trigger (period.Months months) h is =
      let few : months ≤ 120 = grind (arith, nat_tests, is) in
      let found = months_later-finds trigger months (omega (arith, h), omega (arith, h)) (omega (arith, h)) few in
      omega (arith, forward_low (months_later trigger months) (omega (arith, found.1, few, h)), found.2, h)
  period_low Backward trigger (period.Months months) h is =
      let few : months ≤ 120 = grind (arith, nat_tests, is) in
      let found = months_earlier-finds trigger months (omega (arith, h), omega (arith, h)) h.0 few in
      backward_low (months_earlier trigger months) (omega (arith, found.2, few, h)) (omega (arith, found.1, h))

  period_high : (direction : Direction) (trigger : ℕ) (lasts : Period) → IsEnteredDay trigger → is_period lasts ≡ true → end_of_period entered direction trigger lasts ≤ 51_208
  period_high Forward trigger (period.Days count) h is =
      let few : count ≤ 3650 = grind (arith, nat_tests, is) in
      omega (arith, end_of_days-near entered Forward trigger count limits (omega (arith, h)) few, few, h)
  period_high Backward trigger (period.Days count) h is =
      let few : count ≤ 3650 = grind (arith, nat_tests, is) in
      omega (arith, end_of_days-near entered Backward trigger count limits h few, few, h)
  period_high Forward trigger (period.Months months) h is =
      let few : months ≤ 120 = grind (arith, nat_tests, is) in
      omega (arith, end_of_months-near entered Forward trigger months limits (omega (arith, h), omega (arith, h)) (omega (arith, h)) few, few, h)
  period_high Backward trigger (period.Months months) h is =
      let few : months ≤ 120 = grind (arith, nat_tests, is) in
      omega (arith, end_of_months-near entered Backward trigger months limits (omega (arith, h), omega (arith, h)) h few, few, h)

  -- with the three days that service adds
  served : (three : Bool) (end : ℕ) → 6_990 ≤ end → end ≤ 51_208 → IsEnd 1 (LastDay (end_after_service entered three end))
  served false end low high = (omega (arith, low), omega (arith, high))
  served true end low high =
      (omega (arith, forward_low (end + 3) (omega (arith, high)), low), omega (arith, end_of_days-near entered Forward end 3 limits (omega (arith, high)) (omega arith), high))

  module _ (zone : ZoneRules) (is_zone : IsZone zone) where
    started : (begins : Start) → is_start begins ≡ true → begins_on_entered_day zone (act.Start begins) ≡ true → IsEnd 1 (end_of_start zone entered begins)
    started (start.Days days) within on_day =
        let day : IsEnteredDay days.trigger = (grind (arith, nat_tests, within), grind (arith, nat_tests, within)) in
        let lasts : is_period days.period ≡ true = grind (arith, within) in
        served days.three_days _ (period_low days.direction days.trigger days.period day lasts) (period_high days.direction days.trigger days.period day lasts)
    started (start.Hours hours) within on_day =
        let few : hours.hours ≤ 8760 = grind (arith, nat_tests, within) in
        let day : IsEnteredDay (local_day zone (seconds hours.at)) = (grind (arith, nat_tests, on_day), grind (arith, nat_tests, on_day)) in
        end_of_hours-near entered zone hours.direction (seconds hours.at) hours.hours limits is_zone day few

    extended : (count days : ℕ) (before : Standing) → count ≤ 99 → days ≤ 3650 → Stands count before → Stands (count + 1) (extended_by zone entered days before)
    extended count days (Running (LastDay day)) few short was =
        (omega (arith, forward_low (day + days) (omega (arith, few, short, was)), was), omega (arith, end_of_days-near entered Forward day days limits (omega (arith, few, was)) short, short, was))
    extended count days (Running (Moment at)) few short was =
        let near = near_entered_day zone (seconds at) is_zone was in
        let day = local_day zone (seconds at) in
        (omega (arith, forward_low (day + days) (omega (arith, short, near)), near), omega (arith, end_of_days-near entered Forward day days limits (omega (arith, near)) short, short, near))
    extended count days _ few short was = tt

    resumed : (day : ℕ) (three : Bool) → IsEnteredDay day → IsEnd 1 (LastDay (resumed_end entered day three))
    resumed day three h =
        let end = end_of_days entered Forward day 14 in
        served three end (omega (arith, forward_low (day + 14) (omega (arith, h)), h)) (omega (arith, end_of_days-near entered Forward day 14 limits (omega (arith, h)) (omega arith), h))

    entered_end : (count day : ℕ) → is_entered_day day ≡ true → IsEnd count (LastDay day)
    entered_end count day is =
        let low : 10_957 ≤ day = grind (arith, nat_tests, is) in
        let high : day ≤ 47_481 = grind (arith, nat_tests, is) in
        (omega (arith, low), omega (arith, high))

    step : (count : ℕ) (before : Standing) (a : Act) → count ≤ 99 → Stands count before → is_within a ≡ true → begins_on_entered_day zone a ≡ true → Stands (count + 1) (standing_after zone entered before a)
    step count before (act.Start begins) few was within on_day = later 1 (count + 1) (end_of_start zone entered begins) (omega arith) (started begins within on_day)
    step count before (act.Fixed day) few was within on_day = entered_end (count + 1) day within
    step count before (act.ExtendBy days) few was within on_day =
        let short : days ≤ 3650 = grind (arith, nat_tests, within) in extended count days before few short was
    step count before (act.ExtendTo day) few was within on_day = entered_end (count + 1) day within
    step count before (act.Motion day kind) few was within on_day = tt
    step count before (act.Resume day three) few was within on_day =
        let h : IsEnteredDay day = (grind (arith, nat_tests, within), grind (arith, nat_tests, within)) in
        later 1 (count + 1) (LastDay (resumed_end entered day three)) (omega arith) (resumed day three h)
    step count before (act.AwaitStatement notice) few was within on_day = tt
    step count before (act.Done at way) few was within on_day = tt
    step count before act.Vacated few was within on_day = tt

    through : (count : ℕ) (before : Standing) (acts : List Act) → count + length acts ≤ 100 → Stands count before → list_all is_within acts ≡ true → list_all (begins_on_entered_day zone) acts ≡ true
        → Stands 100 (standing_through zone entered before acts)
    through count before [] few was within on_day = stands_later count 100 before (omega (arith, few)) was
    through count before (a ∷ acts) few was within on_day =
        let here : is_within a ≡ true = grind (arith, within) in
        let rest : list_all is_within acts ≡ true = grind (arith, within) in
        let begins : begins_on_entered_day zone a ≡ true = grind (arith, on_day) in
        let others : list_all (begins_on_entered_day zone) acts ≡ true = grind (arith, on_day) in
        through (count + 1) (standing_after zone entered before a) acts (omega (arith, few)) (step count before a (omega (arith, few)) was here begins) rest others

    due_end : (end : End) → IsEnd 100 end → IsDueEnd end
    due_end (LastDay day) h = (h.0, omega (arith, h.1))
    due_end (Moment at) h = h

    pub ends_are_due : (acts : List Act) (end : End) → AreActs zone acts → standing zone entered acts ≡ Running end → IsDueEnd end
    ends_are_due acts end are is =
        let few : length acts ≤ 100 = grind (arith, nat_tests, are.0) in
        let within : list_all is_within acts ≡ true = grind (arith, are.0) in
        due_end end (subst (Stands 100) is (through 0 Vacated acts (omega (arith, few)) tt within are.1))

-- the calendar of items that a court may enter
pub items_within : (entered : Entered) (items : List CalendarItem) → IsWithinLimits entered → AllByRecursion IsEnteredItem items → IsWithinLimits (entered_with entered items)
items_within entered [] limits all = limits
items_within entered (Day kind day ∷ items) limits all = items_within (with_day entered kind day) items (with_day-limits entered kind day limits all.0) all.1
items_within entered (Span start end ∷ items) limits all = items_within (with_span entered start end) items (with_span-limits entered start end limits all.0) all.1
items_within entered (Short day close ∷ items) limits all = items_within (with_short entered day close) items (with_short-limits entered day close limits all.0) all.1

pub calendar_within : (items : List CalendarItem) → AllByRecursion IsEnteredItem items → IsWithinLimits (calendar_of items)
calendar_within items all = items_within no_days items no_days-limits all
