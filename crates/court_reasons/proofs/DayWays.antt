-- The steps of periods of days and of months explain their ends.
use Rattle.std.proofs.Common.{◌≡◌, ℕ, ◌+◌, ◌≤◌, max, Bool, true, false, ◌++◌, inl, inr, refl, sym, subst, arith}
use Rattle.std.proofs.lemmas.Bool.{cases_Bool, both_ways}
use Rattle.std.proofs.lemmas.Bool.Decides.{nat_tests}
use Rattle.civil_time.proofs.MonthsAway.{months_later-finds, months_earlier-finds}
use Rattle.court_days.specs.Calendar.{Entered, IsWithinLimits}
use Rattle.court_days.specs.Civil.{IsEnteredDay}
use Rattle.court_days.specs.Ends.{first_open, last_business, open_from, end_from}
use Rattle.court_days.specs.Legal.{is_open}
use Rattle.court_days.specs.Period.{IsInReach}
use Rattle.court_days.specs.declared.calendar.Direction.{Direction}
use Rattle.court_days.specs.declared.calendar.Direction.TheVariants.{Forward, Backward}
use Rattle.court_days.proofs.Ends.{first_open-finds, last_business-finds, end_from-finds}
use Rattle.court_days.proofs.TestLaws.{is_open-means}
use Rattle.court_rules.specs.Acts.{is_period}
use Rattle.court_rules.specs.Ends.{end_of_period, end_after_service}
use Rattle.court_rules.specs.declared.act.DayPeriod.{DayPeriod}
use Rattle.court_rules.specs.declared.table.Period.{Period}
use Rattle.court_rules.specs.declared.table.Period.TheVariants as period
use Rattle.court_reasons.specs.Causes.{business_causes, day_causes}
use Rattle.court_reasons.specs.Explains.{GoesOn, GoesFromLast, Goes, IsCountedTo, AddsThree, Counts, ExplainsDays}
use Rattle.court_reasons.specs.Steps.{passed, passed_back, way_on, from_last, way_from, counted_to, way, three_more, steps_of_days}
use Rattle.court_reasons.proofs.PassedDays.{names_on, names_back_to}

module _ (entered : Entered) (limits : IsWithinLimits entered) where
  pub goes_on : (direction : Direction) (from : ℕ) → from ≤ 720_000 → GoesOn entered direction from (first_open entered direction from) (way_on entered direction from)
  goes_on direction from h =
      let found = first_open-finds entered limits direction from h in record {
        days = passed (day_causes entered direction) from (first_open entered direction from);
        named = names_on entered direction from (first_open entered direction from) (omega (arith, found.1, h)) found.0;
        ends = found.0;
        are = refl;
      }

  goes_from_last : (last : ℕ) → last ≤ 55_000 → GoesFromLast entered last (open_from entered last) (from_last entered last)
  unfolding open_from
  goes_from_last last h =
      elim (cases_Bool (is_open entered last)) [
        | inl opens ↦ rw opens (inl ((is_open-means entered last).0 opens, refl, refl))
        | inr fails ↦ rw fails (inr (λ o. both_ways _ fails ((is_open-means entered last).1 o), (way_on entered Backward (last + 1), goes_on Backward (last + 1) (omega arith), refl)))
      ]

  -- the way from the day to which a period is counted leads to its end
  pub goes : (direction : Direction) (from : ℕ) → IsInReach direction from → Goes entered direction from (end_from entered direction from) (way_from entered direction from)
  unfolding end_from
  goes Forward from h = goes_on Forward from h
  goes Backward from h =
      let found = last_business-finds entered limits from h.0 (omega (arith, h.1)) in record {
        last = last_business entered from;
        days = passed_back (business_causes entered Backward) from (last_business entered from);
        on = from_last entered (last_business entered from);
        is_last = found.0;
        named = names_back_to entered from (last_business entered from) (omega (arith, h.1)) found.0;
        goes = goes_from_last (last_business entered from) (omega (arith, found.0.reached, h.1));
        are = refl;
      }

  adds : (three : Bool) (before : ℕ) → before ≤ 705_282 → AddsThree entered three before (end_after_service entered three before) (three_more entered three before)
  unfolding end_from
  adds true before h = (way_on entered Forward (before + 3), goes_on Forward (before + 3) (omega arith), refl)
  adds false before h = (refl, refl)

  pub counts : (direction : Direction) (from : ℕ) (three : Bool) → IsInReach direction from → from ≤ 700_000
      → Counts entered direction from three (end_after_service entered three (end_from entered direction from)) (way entered direction from ++ three_more entered three (end_from entered direction from))
  counts direction from three h near = record {
    before = end_from entered direction from;
    way = way_from entered direction from;
    more = three_more entered three (end_from entered direction from);
    goes = goes direction from h;
    adds = adds three (end_from entered direction from) (omega (arith, (end_from-finds entered limits direction from h).1, near));
    are = refl;
  }

  -- the end lies near
  pub served_near : (three : Bool) (before : ℕ) → before ≤ 700_000 → end_after_service entered three before ≤ max (before + 3) 47_482 + 7
  served_near true before h = (end_from-finds entered limits Forward (before + 3) (omega arith)).1
  served_near false before h = omega arith

  pub end_near : (direction : Direction) (from : ℕ) → IsInReach direction from → end_from entered direction from ≤ max from 47_482 + 7
  end_near direction from h = (end_from-finds entered limits direction from h).1

  -- the day to which a period is counted
  record IsCounted (direction : Direction) (trigger : ℕ) (lasts : Period) : Type 0 where
    counted : IsCountedTo direction trigger lasts (counted_to direction trigger lasts)
    reach : IsInReach direction (counted_to direction trigger lasts)
    near : counted_to direction trigger lasts ≤ 51_201
    ends : end_of_period entered direction trigger lasts ≡ end_from entered direction (counted_to direction trigger lasts)

  is_counted : (direction : Direction) (trigger : ℕ) (lasts : Period) → IsEnteredDay trigger → is_period lasts ≡ true → IsCounted direction trigger lasts
  is_counted Forward trigger (period.Days count) h is =
      let few : count ≤ 3650 = grind (arith, nat_tests, is) in
      record { counted = refl; reach = omega (arith, few, h); near = omega (arith, few, h); ends = refl }
  is_counted Backward trigger (period.Days count) h is =
      let few : count ≤ 3650 = grind (arith, nat_tests, is) in
      record { counted = refl; reach = (omega (arith, few, h), omega (arith, h)); near = omega (arith, h); ends = refl }
  is_counted Forward trigger (period.Months months) h is =
      let few : months ≤ 120 = grind (arith, nat_tests, is) in
      let found = months_later-finds trigger months (omega (arith, h), omega (arith, h)) (omega (arith, h)) few in
      record { counted = found.0; reach = omega (arith, found.1, few, h); near = omega (arith, found.1, few, h); ends = refl }
  is_counted Backward trigger (period.Months months) h is =
      let few : months ≤ 120 = grind (arith, nat_tests, is) in
      let found = months_earlier-finds trigger months (omega (arith, h), omega (arith, h)) h.0 few in
      record { counted = found.0; reach = (omega (arith, found.2, few, h), omega (arith, found.1, h)); near = omega (arith, found.1, h); ends = refl }

  pub explains_days : (days : DayPeriod) → IsEnteredDay days.trigger → is_period days.period ≡ true
      → ExplainsDays entered days (end_after_service entered days.three_days (end_of_period entered days.direction days.trigger days.period)) (steps_of_days entered days)
      × (end_after_service entered days.three_days (end_of_period entered days.direction days.trigger days.period) ≤ 51_218)
  explains_days days h lasts =
      let from = counted_to days.direction days.trigger days.period in
      let is = is_counted days.direction days.trigger days.period h lasts in
      let near : end_of_period entered days.direction days.trigger days.period ≤ 51_208 = omega (arith, is.ends, is.near, end_near days.direction from is.reach) in (
        record {
          from = from;
          rest = way entered days.direction from ++ three_more entered days.three_days (end_of_period entered days.direction days.trigger days.period);
          counted = is.counted;
          counts = subst (λ b. Counts entered days.direction from days.three_days (end_after_service entered days.three_days b) (way entered days.direction from ++ three_more entered days.three_days b)) (sym is.ends) (counts days.direction from days.three_days is.reach (omega (arith, is.near)));
          are = refl;
        },
        omega (arith, near, served_near days.three_days (end_of_period entered days.direction days.trigger days.period) (omega (arith, near))),
      )
