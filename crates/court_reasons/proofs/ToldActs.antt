-- The acts among the steps of a deadline are its acts, in order.
use Rattle.std.proofs.Common.{◌≡◌, ℕ, zero, suc, ◌+◌, ◌-◌, Bool, true, false, inl, inr, List, [], ◌∷◌, ◌++◌, map, is_some, Result, Ok, Err, IfOk, pos, refl, sym, ap, ap₂, ◌∙◌}
use Rattle.std.specs.List.{range_with_len}
use Rattle.std.proofs.lemmas.Bool.{true≢false, and_parts, cases_Bool}
use Rattle.std.proofs.lemmas.List.Concat.{flat_map-append}
use Rattle.civil_time.specs.LocalTime.{local_day, seconds}
use Rattle.civil_time.specs.Zone.{ZoneRules}
use Rattle.court_days.specs.Calendar.{Entered}
use Rattle.court_days.specs.Ends.{first_open, last_business, end_from}
use Rattle.court_days.specs.HourEnds.{is_accessible, first_accessible}
use Rattle.court_days.specs.Hours.{same_time_on}
use Rattle.court_days.specs.Legal.{is_open}
use Rattle.court_days.specs.declared.calendar.Direction.{Direction}
use Rattle.court_days.specs.declared.calendar.Direction.TheVariants.{Forward, Backward}
use Rattle.court_days.specs.declared.filing.End.{End}
use Rattle.court_days.specs.declared.filing.End.TheVariants.{LastDay, Moment}
use Rattle.court_rules.specs.Acts.{phase_through, acts_ok}
use Rattle.court_rules.specs.Ends.{end_of_period}
use Rattle.court_rules.specs.Standings.{last_day, end_of_start, extended_by, resumed_end, phase_of, standing_after, AreActs}
use Rattle.court_rules.specs.declared.act.Act.{Act}
use Rattle.court_rules.specs.declared.act.Act.TheVariants as act
use Rattle.court_rules.specs.declared.act.Standing.{Standing}
use Rattle.court_rules.specs.declared.act.Standing.TheVariants.{Running, Suspended, Awaiting, Done, Vacated}
use Rattle.court_rules.specs.declared.act.Start.{Start}
use Rattle.court_rules.specs.declared.act.Start.TheVariants as start
use Rattle.court_reasons.specs.declared.cause.Causes.{Causes}
use Rattle.court_reasons.specs.declared.step.Step.{Step}
use Rattle.court_reasons.specs.declared.step.Step.TheVariants as step
use Rattle.court_reasons.specs.Causes.{business_causes, day_causes, hour_causes}
use Rattle.court_reasons.specs.Steps.{days_passed, passed, passed_back, way_on, from_last, counted_to, way, three_more, hours_on, from_last_hour, hours_from, hours_away, extended, steps_of_start, steps_of_resumed, steps_of_act, steps_through, steps_of}
use Rattle.court_reasons.specs.Told.{act_of, acts_of}

-- these steps show no act
abbrev Silent : List Step → Type 0
Silent steps = acts_of steps ≡ []

both : (a b : List Step) → Silent a → Silent b → Silent (a ++ b)
both a b p q = flat_map-append act_of a b ∙ ap₂ (λ x y. x ++ y) p q

days-silent : (causes : ℕ → Causes) (from count : ℕ) → Silent (days_passed causes from count)
days-silent causes from zero = refl
days-silent causes from (suc count) = days-silent causes (from + 1) count

back-silent : (causes : ℕ → Causes) (from k count : ℕ) → Silent (map (λ n. step.Passed (from - n) (causes (from - n))) (range_with_len k count))
back-silent causes from k zero = refl
back-silent causes from k (suc count) = back-silent causes from (k + 1) count

on-silent : (entered : Entered) (direction : Direction) (from : ℕ) → Silent (way_on entered direction from)
on-silent entered direction from =
    let end = first_open entered direction from in
    both (passed (day_causes entered direction) from end) (step.Ends (LastDay end) ∷ []) (days-silent (day_causes entered direction) from (end - from)) refl

last-silent : (entered : Entered) (last : ℕ) → Silent (from_last entered last)
last-silent entered last =
    elim (cases_Bool (is_open entered last)) [
      | inl opens ↦ rw opens refl
      | inr fails ↦ rw fails (on-silent entered Backward (last + 1))
    ]

way-silent : (entered : Entered) (direction : Direction) (from : ℕ) → Silent (way entered direction from)
way-silent entered Forward from = on-silent entered Forward from
way-silent entered Backward from =
    let last = last_business entered from in
    both (passed_back (business_causes entered Backward) from last) (from_last entered last) (back-silent (business_causes entered Backward) from 0 (from - last)) (last-silent entered last)

three-silent : (entered : Entered) (three : Bool) (end : ℕ) → Silent (three_more entered three end)
three-silent entered true end = on-silent entered Forward (end + 3)
three-silent entered false end = refl

hours_on-silent : (entered : Entered) (zone : ZoneRules) (direction : Direction) (instant from : ℕ) → Silent (hours_on entered zone direction instant from)
hours_on-silent entered zone direction instant from =
    let end = first_accessible entered zone direction instant from in
    both (passed (hour_causes entered zone direction instant) from end) (step.Ends (Moment (pos (same_time_on zone instant end))) ∷ []) (days-silent (hour_causes entered zone direction instant) from (end - from)) refl

last_hour-silent : (entered : Entered) (zone : ZoneRules) (instant last : ℕ) → Silent (from_last_hour entered zone instant last)
last_hour-silent entered zone instant last =
    elim (cases_Bool (is_accessible entered zone (same_time_on zone instant last))) [
      | inl passes ↦ rw passes refl
      | inr fails ↦ rw fails (hours_on-silent entered zone Backward instant (last + 1))
    ]

hours-silent : (entered : Entered) (zone : ZoneRules) (direction : Direction) (instant : ℕ) → Silent (hours_from entered zone direction instant)
hours-silent entered zone Forward instant = hours_on-silent entered zone Forward instant (local_day zone instant)
hours-silent entered zone Backward instant =
    let from = local_day zone instant in
    let last = last_business entered from in
    both (passed_back (business_causes entered Backward) from last) (from_last_hour entered zone instant last) (back-silent (business_causes entered Backward) from 0 (from - last)) (last_hour-silent entered zone instant last)

module _ (zone : ZoneRules) (entered : Entered) where
  -- the steps of an act show it
  start-told : (begins : Start) → acts_of (steps_of_start zone entered begins) ≡ act.Start begins ∷ []
  start-told (start.Days days) =
      let from = counted_to days.direction days.trigger days.period in
      let end = end_of_period entered days.direction days.trigger days.period in
      ap (λ acts. act.Start (start.Days days) ∷ acts) (both (way entered days.direction from) (three_more entered days.three_days end) (way-silent entered days.direction from) (three-silent entered days.three_days end))
  start-told (start.Hours hours) =
      ap (λ acts. act.Start (start.Hours hours) ∷ acts) (hours-silent entered zone hours.direction (hours_away hours.direction (seconds hours.at) hours.hours))

  extension-told : (days : ℕ) (time : End) → acts_of (extended zone entered days (Running time)) ≡ act.ExtendBy days ∷ []
  extension-told days time = ap (λ acts. act.ExtendBy days ∷ acts) (way-silent entered Forward (last_day zone time + days))

  resumed-told : (day : ℕ) (three : Bool) → acts_of (steps_of_resumed entered day three) ≡ act.Resume day three ∷ []
  resumed-told day three =
      let end = end_from entered Forward (day + 14) in
      ap (λ acts. act.Resume day three ∷ acts) (both (way entered Forward (day + 14)) (three_more entered three end) (way-silent entered Forward (day + 14)) (three-silent entered three end))

  joined : (before : Standing) (a : Act) (acts : List Act) → acts_of (steps_of_act zone entered before a) ≡ a ∷ []
      → acts_of (steps_through zone entered (standing_after zone entered before a) acts) ≡ acts
      → acts_of (steps_through zone entered before (a ∷ acts)) ≡ a ∷ acts
  joined before a acts own rest =
      flat_map-append act_of (steps_of_act zone entered before a) (steps_through zone entered (standing_after zone entered before a) acts)
      ∙ ap₂ (λ x y. x ++ y) own rest

  -- an act that may come is shown
  told_from : (before : Standing) (acts : List Act) → is_some (phase_through (phase_of before) acts) ≡ true → acts_of (steps_through zone entered before acts) ≡ acts
  told_from before [] ok = refl
  told_from (Running time) (act.ExtendBy days ∷ acts) ok =
      joined (Running time) (act.ExtendBy days) acts (extension-told days time) (told_from (extended_by zone entered days (Running time)) acts ok)
  told_from (Running time) (act.ExtendTo day ∷ acts) ok =
      joined (Running time) (act.ExtendTo day) acts refl (told_from (Running (LastDay day)) acts ok)
  told_from (Running time) (act.Motion served kind ∷ acts) ok =
      joined (Running time) (act.Motion served kind) acts refl (told_from Suspended acts ok)
  told_from (Running time) (act.Done at by ∷ acts) ok =
      joined (Running time) (act.Done at by) acts refl (told_from Done acts ok)
  told_from (Running time) (act.Vacated ∷ acts) ok = joined (Running time) act.Vacated acts refl (told_from Vacated acts ok)
  told_from Suspended (act.Resume day three ∷ acts) ok =
      joined Suspended (act.Resume day three) acts (resumed-told day three) (told_from (Running (LastDay (resumed_end entered day three))) acts ok)
  told_from Suspended (act.Fixed day ∷ acts) ok =
      joined Suspended (act.Fixed day) acts refl (told_from (Running (LastDay day)) acts ok)
  told_from Suspended (act.AwaitStatement notice ∷ acts) ok =
      joined Suspended (act.AwaitStatement notice) acts refl (told_from Awaiting acts ok)
  told_from Suspended (act.Done at by ∷ acts) ok = joined Suspended (act.Done at by) acts refl (told_from Done acts ok)
  told_from Suspended (act.Vacated ∷ acts) ok = joined Suspended act.Vacated acts refl (told_from Vacated acts ok)
  told_from Awaiting (act.Resume day three ∷ acts) ok =
      joined Awaiting (act.Resume day three) acts (resumed-told day three) (told_from (Running (LastDay (resumed_end entered day three))) acts ok)
  told_from Awaiting (act.Done at by ∷ acts) ok = joined Awaiting (act.Done at by) acts refl (told_from Done acts ok)
  told_from Awaiting (act.Vacated ∷ acts) ok = joined Awaiting act.Vacated acts refl (told_from Vacated acts ok)
  told_from _ (_ ∷ acts) ok = absurd (true≢false (sym ok))

  -- and so is an act that may be the first
  told_acts : (acts : List Act) → acts_ok acts ≡ true → acts_of (steps_of zone entered acts) ≡ acts
  told_acts [] ok = refl
  told_acts (act.Start begins ∷ acts) ok =
      joined Vacated (act.Start begins) acts (start-told begins) (told_from (Running (end_of_start zone entered begins)) acts (and_parts _ _ ok).1)
  told_acts (act.Fixed day ∷ acts) ok =
      joined Vacated (act.Fixed day) acts refl (told_from (Running (LastDay day)) acts (and_parts _ _ ok).1)
  told_acts (_ ∷ acts) ok = absurd (true≢false (sym (and_parts _ _ ok).1))

  pub told : {E : Type 0} (acts : List Act) (found : Result (List Step) E) → AreActs zone acts → IfOk found (λ steps. steps ≡ steps_of zone entered acts) → IfOk found (λ steps. acts_of steps ≡ acts)
  told acts (Ok steps) are is = ap acts_of is ∙ told_acts acts are.0
  told acts (Err e) are is = is
