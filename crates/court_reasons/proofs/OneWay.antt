-- No other steps explain the acts of a deadline.
use Rattle.std.proofs.Common.{◌≡◌, ℕ, ◌+◌, ◌-◌, ◌≤◌, Bool, true, false, inl, inr, Option, Some, None, List, [], ◌∷◌, ◌++◌, pos, refl, sym, ap, ap₂, ◌∙◌, subst, arith}
use Rattle.std.specs.List.{list_all}
use Rattle.std.proofs.lemmas.Bool.{and_parts}
use Rattle.std.proofs.lemmas.Bool.Decides.{nat_tests}
use Rattle.std.proofs.lemmas.Option.{none-some}
use Rattle.civil_time.specs.LocalTime.{local_day, seconds}
use Rattle.civil_time.specs.Zone.{ZoneRules}
use Rattle.court_days.specs.Calendar.{Entered}
use Rattle.court_days.specs.Hours.{IsAccessibleDay, same_time_on}
use Rattle.court_days.specs.Legal.{IsBusinessDay, IsOpenBusinessDay}
use Rattle.court_days.specs.declared.calendar.Direction.{Direction}
use Rattle.court_days.specs.declared.calendar.Direction.TheVariants.{Forward, Backward}
use Rattle.court_days.specs.declared.filing.End.TheVariants.{LastDay, Moment}
use Rattle.court_days.proofs.MonthEnds.{months_away-is}
use Rattle.court_days.proofs.Search.{first_once, last_once}
use Rattle.court_days.proofs.TestLaws.{same_test}
use Rattle.court_rules.specs.Acts.{is_period, is_start, is_within}
use Rattle.court_rules.specs.Standings.{last_day, standing_after}
use Rattle.court_rules.specs.declared.act.Act.{Act}
use Rattle.court_rules.specs.declared.act.Act.TheVariants as act
use Rattle.court_rules.specs.declared.act.DayPeriod.{DayPeriod}
use Rattle.court_rules.specs.declared.act.HourPeriod.{HourPeriod}
use Rattle.court_rules.specs.declared.act.Standing.{Standing}
use Rattle.court_rules.specs.declared.act.Standing.TheVariants.{Running, Suspended, Awaiting, Done, Vacated}
use Rattle.court_rules.specs.declared.act.Start.{Start}
use Rattle.court_rules.specs.declared.act.Start.TheVariants as start
use Rattle.court_rules.specs.declared.table.Period.{Period}
use Rattle.court_rules.specs.declared.table.Period.TheVariants as period
use Rattle.court_reasons.specs.declared.cause.Causes.{Causes}
use Rattle.court_reasons.specs.declared.statutory.StatutoryHoliday.{StatutoryHoliday}
use Rattle.court_reasons.specs.declared.step.Step.{Step}
use Rattle.court_reasons.specs.declared.step.Step.TheVariants as step
use Rattle.court_reasons.specs.Explains.{GoesOn, GoesFromLast, GoesBack, Goes, IsCountedTo, AddsThree, Counts, HoursGoOn, HoursGoFromLast, HoursGoBack, HoursGo, ExplainsDays, ExplainsHours, ExplainsStart, ExplainsExtension, ExplainsResumed, ExplainsAct, Explains}
use Rattle.court_reasons.specs.Passing.{AreBusinessCauses, AreDayCauses, AreBackCauses, AreHourCauses, IsPassed, NamesDays, NamesDaysBack}
use Rattle.court_reasons.specs.Steps.{hours_away}

-- A day has one set of causes.

same_holiday : (a b : Option StatutoryHoliday) → ((s : StatutoryHoliday) → a ≡ Some s → b ≡ Some s) → ((s : StatutoryHoliday) → b ≡ Some s → a ≡ Some s) → a ≡ b
same_holiday (Some s) b h k = sym (h s refl)
same_holiday None (Some s) h k = absurd (none-some s (k s refl))
same_holiday None None h k = refl

same_causes : (a b : Causes) → a.saturday ≡ b.saturday → a.sunday ≡ b.sunday → a.statutory ≡ b.statutory → a.federal ≡ b.federal → a.state ≡ b.state → a.closed ≡ b.closed → a.inaccessible ≡ b.inaccessible → a ≡ b
same_causes a b sa su st fe sta cl ina = λ i. record { saturday = sa i; sunday = su i; statutory = st i; federal = fe i; state = sta i; closed = cl i; inaccessible = ina i }

business_same : (entered : Entered) (direction : Direction) (day : ℕ) (a b : Causes) → AreBusinessCauses entered direction day a → AreBusinessCauses entered direction day b → a.closed ≡ b.closed → a.inaccessible ≡ b.inaccessible → a ≡ b
business_same entered direction day a b p q cl ina =
    same_causes a b (same_test _ _ _ p.saturday q.saturday) (same_test _ _ _ p.sunday q.sunday)
    (same_holiday a.statutory b.statutory (λ s e. (q.which s).1 ((p.which s).0 e)) (λ s e. (p.which s).1 ((q.which s).0 e)))
    (same_test _ _ _ p.federal q.federal) (same_test _ _ _ p.state q.state) cl ina

-- on each day, one set of causes
abbrev One : (ℕ → Causes → Type 0) → Type 0
One Are = (day : ℕ) (a b : Causes) → Are day a → Are day b → a ≡ b

day-one : (entered : Entered) (direction : Direction) → One (IsPassed (AreDayCauses entered direction))
day-one entered direction day a b p q =
    business_same entered direction day a b p.0.business q.0.business (same_test _ _ _ p.0.closed q.0.closed) (p.0.inaccessible ∙ sym q.0.inaccessible)

back-one : (entered : Entered) (direction : Direction) → One (IsPassed (AreBackCauses entered direction))
back-one entered direction day a b p q =
    business_same entered direction day a b p.0.business q.0.business (p.0.closed ∙ sym q.0.closed) (p.0.inaccessible ∙ sym q.0.inaccessible)

hour-one : (entered : Entered) (zone : ZoneRules) (direction : Direction) (instant : ℕ) → One (IsPassed (AreHourCauses entered zone direction instant))
hour-one entered zone direction instant day a b p q =
    business_same entered direction day a b p.0.business q.0.business (p.0.closed ∙ sym q.0.closed) (same_test _ _ _ p.0.inaccessible q.0.inaccessible)

-- The days are named one way.

named_same : (Are : ℕ → Causes → Type 0) → One Are → (day other from : ℕ) (a b : Causes) → day ≡ from → other ≡ from → Are day a → Are other b → step.Passed day a ≡ step.Passed other b
named_same Are one day other from a b e k p q =
    let same : day ≡ other = e ∙ sym k in
    let causes : a ≡ b = one other a b (subst (λ d. Are d a) same p) q in
    λ i. step.Passed (same i) (causes i)

names-one : (Are : ℕ → Causes → Type 0) → One Are → (from end : ℕ) (xs ys : List Step) → NamesDays Are from end xs → NamesDays Are from end ys → xs ≡ ys
names-one Are one from end [] [] p q = refl
names-one Are one from end [] (step.Passed day b ∷ ys) p q = absurd (omega (arith, p, q.1))
names-one Are one from end (step.Passed day a ∷ xs) [] p q = absurd (omega (arith, q, p.1))
names-one Are one from end (step.Passed day a ∷ xs) (step.Passed other b ∷ ys) p q =
    ap₂ (λ x s. x ∷ s) (named_same Are one day other from a b p.0 q.0 p.2 q.2) (names-one Are one (from + 1) end xs ys p.3 q.3)
names-one Are one from end [] (_ ∷ ys) p q = absurd q
names-one Are one from end (step.Passed day a ∷ xs) (_ ∷ ys) p q = absurd q
names-one Are one from end (_ ∷ xs) ys p q = absurd p

back_names-one : (Are : ℕ → Causes → Type 0) → One Are → (from last : ℕ) (xs ys : List Step) → NamesDaysBack Are from last xs → NamesDaysBack Are from last ys → xs ≡ ys
back_names-one Are one from last [] [] p q = refl
back_names-one Are one from last [] (step.Passed day b ∷ ys) p q = absurd (omega (arith, p, q.1))
back_names-one Are one from last (step.Passed day a ∷ xs) [] p q = absurd (omega (arith, q, p.1))
back_names-one Are one from last (step.Passed day a ∷ xs) (step.Passed other b ∷ ys) p q =
    ap₂ (λ x s. x ∷ s) (named_same Are one day other from a b p.0 q.0 p.2 q.2) (back_names-one Are one (from - 1) last xs ys p.3 q.3)
back_names-one Are one from last [] (_ ∷ ys) p q = absurd q
back_names-one Are one from last (step.Passed day a ∷ xs) (_ ∷ ys) p q = absurd q
back_names-one Are one from last (_ ∷ xs) ys p q = absurd p

-- The ways go one way: to one end, by the same steps.

-- a way and its end
abbrev Alike : ℕ → ℕ → List Step → List Step → Type 0
Alike end other xs ys = (end ≡ other) × (xs ≡ ys)

module _ (entered : Entered) where
  on-one : (direction : Direction) (from end other : ℕ) (xs ys : List Step) → GoesOn entered direction from end xs → GoesOn entered direction from other ys → Alike end other xs ys
  on-one direction from end other xs ys p q =
      let same : end ≡ other = first_once (IsOpenBusinessDay entered direction) from end other p.ends q.ends in
      let named = subst (λ d. NamesDays (IsPassed (AreDayCauses entered direction)) from d p.days) same p.named in
      let days : p.days ≡ q.days = names-one (IsPassed (AreDayCauses entered direction)) (day-one entered direction) from other p.days q.days named q.named in
      (same, p.are ∙ (λ i. days i ++ step.Ends (LastDay (same i)) ∷ []) ∙ sym q.are)

  from_last-one : (last end other : ℕ) (xs ys : List Step) → GoesFromLast entered last end xs → GoesFromLast entered last other ys → Alike end other xs ys
  from_last-one last end other xs ys (inl p) (inl q) = (p.1 ∙ sym q.1, p.2 ∙ sym q.2)
  from_last-one last end other xs ys (inl p) (inr q) = absurd (q.0 p.0)
  from_last-one last end other xs ys (inr p) (inl q) = absurd (p.0 q.0)
  from_last-one last end other xs ys (inr (shut, (on, p, e))) (inr (also, (too, q, k))) =
      let same = on-one Backward (last + 1) end other on too p q in
      (same.0, e ∙ ap (λ s. step.Moved (LastDay last) ∷ s) same.1 ∙ sym k)

  back-way : (from end other : ℕ) (xs ys : List Step) → GoesBack entered from end xs → GoesBack entered from other ys → Alike end other xs ys
  back-way from end other xs ys p q =
      let same : p.last ≡ q.last = last_once (IsBusinessDay entered Backward) from p.last q.last p.is_last q.is_last in
      let named = subst (λ d. NamesDaysBack (IsPassed (AreBackCauses entered Backward)) from d p.days) same p.named in
      let days = back_names-one (IsPassed (AreBackCauses entered Backward)) (back-one entered Backward) from q.last p.days q.days named q.named in
      let rest = from_last-one q.last end other p.on q.on (subst (λ d. GoesFromLast entered d end p.on) same p.goes) q.goes in
      (rest.0, p.are ∙ ap₂ (λ a b. a ++ b) days rest.1 ∙ sym q.are)

  way-one : (direction : Direction) (from end other : ℕ) (xs ys : List Step) → Goes entered direction from end xs → Goes entered direction from other ys → Alike end other xs ys
  way-one Forward from end other xs ys p q = on-one Forward from end other xs ys p q
  way-one Backward from end other xs ys p q = back-way from end other xs ys p q

  adds-one : (three : Bool) (before end other : ℕ) (xs ys : List Step) → AddsThree entered three before end xs → AddsThree entered three before other ys → Alike end other xs ys
  adds-one true before end other xs ys (on, p, e) (too, q, k) =
      let same = on-one Forward (before + 3) end other on too p q in
      (same.0, e ∙ ap (λ s. step.ThreeAdded (before + 3) ∷ s) same.1 ∙ sym k)
  adds-one false before end other xs ys p q = (p.0 ∙ sym q.0, p.1 ∙ sym q.1)

  counts-one : (direction : Direction) (from : ℕ) (three : Bool) (end other : ℕ) (xs ys : List Step) → Counts entered direction from three end xs → Counts entered direction from three other ys → Alike end other xs ys
  counts-one direction from three end other xs ys p q =
      let first = way-one direction from p.before q.before p.way q.way p.goes q.goes in
      let added = adds-one three q.before end other p.more q.more (subst (λ b. AddsThree entered three b end p.more) first.0 p.adds) q.adds in
      (added.0, p.are ∙ (λ i. step.Counted (LastDay from) ∷ (first.1 i ++ added.1 i)) ∙ sym q.are)

  counted-one : (direction : Direction) (trigger : ℕ) (lasts : Period) (from other : ℕ) → is_period lasts ≡ true → IsCountedTo direction trigger lasts from → IsCountedTo direction trigger lasts other → from ≡ other
  counted-one direction trigger (period.Days count) from other is p q = p ∙ sym q
  counted-one direction trigger (period.Months months) from other is p q =
      let few : months ≤ 120 = grind (arith, nat_tests, is) in
      months_away-is direction trigger months from few p ∙ sym (months_away-is direction trigger months other few q)

  days-one : (days : DayPeriod) (end other : ℕ) (xs ys : List Step) → is_period days.period ≡ true → ExplainsDays entered days end xs → ExplainsDays entered days other ys → Alike end other xs ys
  days-one days end other xs ys is p q =
      let same = counted-one days.direction days.trigger days.period p.from q.from is p.counted q.counted in
      let rest = counts-one days.direction q.from days.three_days end other p.rest q.rest (subst (λ f. Counts entered days.direction f days.three_days end p.rest) same p.counts) q.counts in
      (rest.0, p.are ∙ ap (λ s. step.Period days ∷ s) rest.1 ∙ sym q.are)

  module _ (zone : ZoneRules) where
    hours_on-one : (direction : Direction) (instant from end other : ℕ) (xs ys : List Step) → HoursGoOn entered zone direction instant from end xs → HoursGoOn entered zone direction instant from other ys → Alike end other xs ys
    hours_on-one direction instant from end other xs ys p q =
        let day : p.day ≡ q.day = first_once (IsAccessibleDay entered zone direction instant) from p.day q.day p.first q.first in
        let same : end ≡ other = p.ends ∙ ap (same_time_on zone instant) day ∙ sym q.ends in
        let named = subst (λ d. NamesDays (IsPassed (AreHourCauses entered zone direction instant)) from d p.days) day p.named in
        let days = names-one (IsPassed (AreHourCauses entered zone direction instant)) (hour-one entered zone direction instant) from q.day p.days q.days named q.named in
        (same, p.are ∙ (λ i. days i ++ step.Ends (Moment (pos (same i))) ∷ []) ∙ sym q.are)

    last_hour-one : (instant last end other : ℕ) (xs ys : List Step) → HoursGoFromLast entered zone instant last end xs → HoursGoFromLast entered zone instant last other ys → Alike end other xs ys
    last_hour-one instant last end other xs ys (inl p) (inl q) = (p.1 ∙ sym q.1, p.2 ∙ sym q.2)
    last_hour-one instant last end other xs ys (inl p) (inr q) = absurd (q.0 p.0)
    last_hour-one instant last end other xs ys (inr p) (inl q) = absurd (p.0 q.0)
    last_hour-one instant last end other xs ys (inr (shut, (on, p, e))) (inr (also, (too, q, k))) =
        let same = hours_on-one Backward instant (last + 1) end other on too p q in
        (same.0, e ∙ ap (λ s. step.Moved (Moment (pos (same_time_on zone instant last))) ∷ s) same.1 ∙ sym k)

    hours_back-one : (instant end other : ℕ) (xs ys : List Step) → HoursGoBack entered zone instant end xs → HoursGoBack entered zone instant other ys → Alike end other xs ys
    hours_back-one instant end other xs ys p q =
        let from = local_day zone instant in
        let same : p.last ≡ q.last = last_once (IsBusinessDay entered Backward) from p.last q.last p.is_last q.is_last in
        let named = subst (λ d. NamesDaysBack (IsPassed (AreBackCauses entered Backward)) from d p.days) same p.named in
        let days = back_names-one (IsPassed (AreBackCauses entered Backward)) (back-one entered Backward) from q.last p.days q.days named q.named in
        let rest = last_hour-one instant q.last end other p.on q.on (subst (λ d. HoursGoFromLast entered zone instant d end p.on) same p.goes) q.goes in
        (rest.0, p.are ∙ ap₂ (λ a b. a ++ b) days rest.1 ∙ sym q.are)

    hours-way : (direction : Direction) (instant end other : ℕ) (xs ys : List Step) → HoursGo entered zone direction instant end xs → HoursGo entered zone direction instant other ys → Alike end other xs ys
    hours-way Forward instant end other xs ys p q = hours_on-one Forward instant (local_day zone instant) end other xs ys p q
    hours-way Backward instant end other xs ys p q = hours_back-one instant end other xs ys p q

    hours-one : (hours : HourPeriod) (end other : ℕ) (xs ys : List Step) → ExplainsHours entered zone hours end xs → ExplainsHours entered zone hours other ys → Alike end other xs ys
    hours-one hours end other xs ys p q =
        let instant = hours_away hours.direction (seconds hours.at) hours.hours in
        let rest = hours-way hours.direction instant end other p.way q.way p.goes q.goes in
        (rest.0, p.are ∙ ap (λ s. step.Hours hours ∷ step.Counted (Moment (pos instant)) ∷ s) rest.1 ∙ sym q.are)

    -- The steps of an act.

    start-one : (begins : Start) (after : Standing) (xs ys : List Step) → is_start begins ≡ true → ExplainsStart zone entered begins after xs → ExplainsStart zone entered begins after ys → xs ≡ ys
    start-one (start.Days days) after xs ys within (end, p, e) (other, q, k) =
        let lasts : is_period days.period ≡ true = grind (arith, within) in
        (days-one days end other xs ys lasts p q).1
    start-one (start.Hours hours) after xs ys within (end, p, e) (other, q, k) = (hours-one hours end other xs ys p q).1

    extension-one : (days : ℕ) (before after : Standing) (xs ys : List Step) → ExplainsExtension zone entered days before after xs → ExplainsExtension zone entered days before after ys → xs ≡ ys
    extension-one days (Running time) after xs ys (end, way, p, e, is) (other, also, q, k, too) =
        let from = last_day zone time + days in
        let same = on-one Forward from end other way also p q in
        is ∙ ap (λ s. step.Extended (last_day zone time) days ∷ step.Counted (LastDay from) ∷ s) same.1 ∙ sym too
    extension-one days Suspended after xs ys p q = p.1 ∙ sym q.1
    extension-one days Awaiting after xs ys p q = p.1 ∙ sym q.1
    extension-one days Done after xs ys p q = p.1 ∙ sym q.1
    extension-one days Vacated after xs ys p q = p.1 ∙ sym q.1

    resumed-one : (day : ℕ) (three : Bool) (after : Standing) (xs ys : List Step) → ExplainsResumed entered day three after xs → ExplainsResumed entered day three after ys → xs ≡ ys
    resumed-one day three after xs ys (end, rest, p, e, is) (other, also, q, k, too) =
        is ∙ ap (λ s. step.Resumed day three ∷ s) (counts-one Forward (day + 14) three end other rest also p q).1 ∙ sym too

    act-one : (before : Standing) (a : Act) (after : Standing) (xs ys : List Step) → is_within a ≡ true → ExplainsAct zone entered before a after xs → ExplainsAct zone entered before a after ys → xs ≡ ys
    act-one before (act.Start begins) after xs ys within p q = start-one begins after xs ys within p q
    act-one before (act.Fixed day) after xs ys within p q = p.1 ∙ sym q.1
    act-one before (act.ExtendBy days) after xs ys within p q = extension-one days before after xs ys p q
    act-one before (act.ExtendTo day) after xs ys within p q = p.1 ∙ sym q.1
    act-one before (act.Motion served kind) after xs ys within p q = p.1 ∙ sym q.1
    act-one before (act.Resume day three) after xs ys within p q = resumed-one day three after xs ys p q
    act-one before (act.AwaitStatement notice) after xs ys within p q = p.1 ∙ sym q.1
    act-one before (act.Done at by) after xs ys within p q = p.1 ∙ sym q.1
    act-one before act.Vacated after xs ys within p q = p.1 ∙ sym q.1

    pub explained_once : (before : Standing) (acts : List Act) (xs ys : List Step) → list_all is_within acts ≡ true → Explains zone entered before acts xs → Explains zone entered before acts ys → xs ≡ ys
    explained_once before [] xs ys within p q = p ∙ sym q
    explained_once before (a ∷ acts) xs ys within (own, rest, p, others, e) (also, more, q, too, k) =
        let fits = and_parts (is_within a) (list_all is_within acts) within in
        let first = act-one before a (standing_after zone entered before a) own also fits.0 p q in
        let added = explained_once (standing_after zone entered before a) acts rest more fits.1 others too in
        e ∙ ap₂ (λ x y. x ++ y) first added ∙ sym k
