-- The steps of the acts of a deadline explain them.
use Rattle.std.proofs.Common.{◌≡◌, ℕ, ◌+◌, ◌*◌, ◌≤◌, Bool, true, List, [], ◌∷◌, length, Result, Ok, Err, IfOk, refl, sym, subst, ◌↔◌, arith}
use Rattle.std.specs.List.{list_all}
use Rattle.std.proofs.lemmas.Bool.{and_parts}
use Rattle.std.proofs.lemmas.Bool.Decides.{nat_tests}
use Rattle.civil_time.specs.LocalTime.{local_day, seconds}
use Rattle.civil_time.specs.Zone.{ZoneRules, IsZone}
use Rattle.court_days.specs.Calendar.{Entered, IsWithinLimits}
use Rattle.court_days.specs.Civil.{IsEnteredDay}
use Rattle.court_days.specs.Ends.{end_from}
use Rattle.court_days.specs.declared.calendar.Direction.TheVariants.{Forward}
use Rattle.court_days.specs.declared.filing.End.{End}
use Rattle.court_days.specs.declared.filing.End.TheVariants.{LastDay, Moment}
use Rattle.court_days.proofs.Accessible.{entered_start, near_entered_day}
use Rattle.court_days.proofs.EndsOfHours.{end_of_hours-near}
use Rattle.court_rules.specs.Acts.{is_entered_day, is_period, is_start, is_within}
use Rattle.court_rules.specs.Standings.{last_day, extended_by, resumed_end, end_of_start, begins_on_entered_day, standing_after, AreActs, IsEndAfter, StandsAfter}
use Rattle.court_rules.specs.declared.act.Act.{Act}
use Rattle.court_rules.specs.declared.act.Act.TheVariants as act
use Rattle.court_rules.specs.declared.act.Standing.{Standing}
use Rattle.court_rules.specs.declared.act.Standing.TheVariants.{Running, Suspended, Awaiting, Done, Vacated}
use Rattle.court_rules.specs.declared.act.Start.{Start}
use Rattle.court_rules.specs.declared.act.Start.TheVariants as start
use Rattle.court_reasons.specs.declared.step.Step.{Step}
use Rattle.court_reasons.specs.Explains.{ExplainsStart, ExplainsExtension, ExplainsResumed, ExplainsAct, Explains}
use Rattle.court_reasons.specs.Steps.{way_on, way, steps_of_start, steps_of_resumed, extended, steps_of_act, steps_through, steps_of}
use Rattle.court_reasons.proofs.DayWays.{goes_on, counts, served_near, end_near, explains_days}
use Rattle.court_reasons.proofs.HourWays.{explains_hours}
use Rattle.court_reasons.proofs.OneWay.{explained_once}

day_told : (day : ℕ) → is_entered_day day ≡ true → IsEnteredDay day
day_told day is = (grind (arith, nat_tests, is), grind (arith, nat_tests, is))

module _ (entered : Entered) (limits : IsWithinLimits entered) (zone : ZoneRules) (is_zone : IsZone zone) where
  explains_start : (begins : Start) (count : ℕ) → is_start begins ≡ true → begins_on_entered_day zone (act.Start begins) ≡ true
      → ExplainsStart zone entered begins (Running (end_of_start zone entered begins)) (steps_of_start zone entered begins) × IsEndAfter (count + 1) (end_of_start zone entered begins)
  explains_start (start.Days days) count within on_day =
      let day : IsEnteredDay days.trigger = (grind (arith, nat_tests, within), grind (arith, nat_tests, within)) in
      let lasts : is_period days.period ≡ true = grind (arith, within) in
      let found = explains_days entered limits days day lasts in
      ((_, found.0, refl), omega (arith, found.1))
  explains_start (start.Hours hours) count within on_day =
      let few : hours.hours ≤ 8760 = grind (arith, nat_tests, within) in
      let day = day_told (local_day zone (seconds hours.at)) on_day in
      let begins = entered_start zone is_zone (seconds hours.at) day.0 day.1 in
      ((_, explains_hours entered limits zone is_zone hours begins.0 begins.1 few, refl), end_of_hours-near entered zone hours.direction (seconds hours.at) hours.hours limits is_zone day few)

  last_near : (count : ℕ) (end : End) → IsEndAfter count end → last_day zone end ≤ 47_871 + 3737 * count
  last_near count (LastDay day) h = h
  last_near count (Moment at) h = omega (arith, near_entered_day zone (seconds at) is_zone h)

  explains_extension : (days count : ℕ) (before : Standing) → days ≤ 3650 → count ≤ 99 → StandsAfter count before
      → ExplainsExtension zone entered days before (extended_by zone entered days before) (extended zone entered days before) × StandsAfter (count + 1) (extended_by zone entered days before)
  unfolding end_from
  explains_extension days count (Running time) short few was =
      let near = last_near count time was in
      let from = last_day zone time + days in (
        (_, way_on entered Forward from, goes_on entered limits Forward from (omega (arith, near, short, few)), refl, refl),
        omega (arith, near, short, end_near entered limits Forward from (omega (arith, near, short, few))),
      )
  explains_extension days count Suspended short few was = ((refl, refl), tt)
  explains_extension days count Awaiting short few was = ((refl, refl), tt)
  explains_extension days count Done short few was = ((refl, refl), tt)
  explains_extension days count Vacated short few was = ((refl, refl), tt)

  explains_resumed : (day count : ℕ) (three : Bool) → IsEnteredDay day
      → ExplainsResumed entered day three (Running (LastDay (resumed_end entered day three))) (steps_of_resumed entered day three) × IsEndAfter (count + 1) (LastDay (resumed_end entered day three))
  explains_resumed day count three h =
      let near = end_near entered limits Forward (day + 14) (omega (arith, h)) in (
        (_, _, counts entered limits Forward (day + 14) three (omega (arith, h)) (omega (arith, h)), refl, refl),
        omega (arith, near, h, served_near entered limits three (end_from entered Forward (day + 14)) (omega (arith, near, h))),
      )

  entered_end : (day count : ℕ) → is_entered_day day ≡ true → day ≤ 47_871 + 3737 * count
  entered_end day count is = omega (arith, (day_told day is).1)

  explains_act : (before : Standing) (a : Act) (count : ℕ) → count ≤ 99 → is_within a ≡ true → begins_on_entered_day zone a ≡ true → StandsAfter count before
      → ExplainsAct zone entered before a (standing_after zone entered before a) (steps_of_act zone entered before a) × StandsAfter (count + 1) (standing_after zone entered before a)
  explains_act before (act.Start begins) count few within on_day was = explains_start begins count within on_day
  explains_act before (act.Fixed day) count few within on_day was = ((refl, refl), entered_end day (count + 1) within)
  explains_act before (act.ExtendBy days) count few within on_day was =
      let short : days ≤ 3650 = grind (arith, nat_tests, within) in explains_extension days count before short few was
  explains_act before (act.ExtendTo day) count few within on_day was = ((refl, refl), entered_end day (count + 1) within)
  explains_act before (act.Motion served kind) count few within on_day was = ((refl, refl), tt)
  explains_act before (act.Resume day three) count few within on_day was = explains_resumed day count three (day_told day within)
  explains_act before (act.AwaitStatement notice) count few within on_day was = ((refl, refl), tt)
  explains_act before (act.Done at way) count few within on_day was = ((refl, refl), tt)
  explains_act before act.Vacated count few within on_day was = ((refl, refl), tt)

  explains_through : (before : Standing) (acts : List Act) (count : ℕ) → count + length acts ≤ 100 → list_all is_within acts ≡ true → list_all (begins_on_entered_day zone) acts ≡ true → StandsAfter count before
      → Explains zone entered before acts (steps_through zone entered before acts)
  explains_through before [] count few within on_day was = refl
  explains_through before (a ∷ acts) count few within on_day was =
      let fits = and_parts (is_within a) (list_all is_within acts) within in
      let begins = and_parts (begins_on_entered_day zone a) (list_all (begins_on_entered_day zone) acts) on_day in
      let here = explains_act before a count (omega (arith, few)) fits.0 begins.0 was in (
        steps_of_act zone entered before a,
        steps_through zone entered (standing_after zone entered before a) acts,
        here.0,
        explains_through (standing_after zone entered before a) acts (count + 1) (omega (arith, few)) fits.1 begins.1 here.1,
        refl,
      )

  pub steps_explain : (acts : List Act) → AreActs zone acts → Explains zone entered Vacated acts (steps_of zone entered acts)
  steps_explain acts are =
      let few : length acts ≤ 100 = grind (arith, nat_tests, are.0) in
      let within : list_all is_within acts ≡ true = grind (arith, are.0) in
      explains_through Vacated acts 0 (omega (arith, few)) within are.1 tt

  pub explained : {E : Type 0} (acts : List Act) (found : Result (List Step) E) → AreActs zone acts → IfOk found (λ steps. steps ≡ steps_of zone entered acts) → IfOk found (λ steps. Explains zone entered Vacated acts steps)
  explained acts (Ok steps) are is = subst (Explains zone entered Vacated acts) (sym is) (steps_explain acts are)
  explained acts (Err e) are is = is

  pub explained_alone : (acts : List Act) (steps : List Step) → AreActs zone acts → Explains zone entered Vacated acts steps ↔ (steps ≡ steps_of zone entered acts)
  explained_alone acts steps are =
      let within : list_all is_within acts ≡ true = grind (arith, are.0) in (
        λ explains. explained_once entered zone Vacated acts steps (steps_of zone entered acts) within explains (steps_explain acts are),
        λ is. subst (Explains zone entered Vacated acts) (sym is) (steps_explain acts are),
      )
