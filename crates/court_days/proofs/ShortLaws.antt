-- No end depends on short days.
use Rattle.std.proofs.Common.{◌≡◌, ℕ, refl}
use Rattle.civil_time.specs.Zone.{ZoneRules}
use Rattle.court_days.specs.Calendar.{Entered, with_short}
use Rattle.court_days.specs.Ends.{first_open, last_business, open_from, end_from, end_of_days, end_of_months, service_end}
use Rattle.court_days.specs.HourEnds.{is_accessible, is_accessible_day, forward_end, moved_end, end_of_hours}
use Rattle.court_days.specs.Legal.{is_state_holiday, is_legal_holiday, is_business_day, is_open, is_open_business_day}
use Rattle.court_days.specs.declared.calendar.Direction.{Direction}
use Rattle.court_days.specs.declared.calendar.Direction.TheVariants.{Forward, Backward}

module _ (entered : Entered) (day minute : ℕ) where
  pub end_from-short : (direction : Direction) (last : ℕ) → end_from (with_short entered day minute) direction last ≡ end_from entered direction last
  unfolding is_state_holiday is_legal_holiday is_business_day is_open is_open_business_day first_open last_business open_from end_from
  end_from-short Forward last = refl
  end_from-short Backward last = refl

  pub end_of_days-short : (direction : Direction) (trigger count : ℕ) → end_of_days (with_short entered day minute) direction trigger count ≡ end_of_days entered direction trigger count
  end_of_days-short direction trigger count = end_from-short direction _

  pub end_of_months-short : (direction : Direction) (trigger months : ℕ) → end_of_months (with_short entered day minute) direction trigger months ≡ end_of_months entered direction trigger months
  end_of_months-short direction trigger months = end_from-short direction _

  pub service_end-short : (end : ℕ) → service_end (with_short entered day minute) end ≡ service_end entered end
  service_end-short end = end_from-short Forward _

  pub end_of_hours-short : (zone : ZoneRules) (direction : Direction) (start hours : ℕ) → end_of_hours (with_short entered day minute) zone direction start hours ≡ end_of_hours entered zone direction start hours
  unfolding is_state_holiday is_legal_holiday is_business_day last_business is_accessible is_accessible_day forward_end moved_end end_of_hours
  end_of_hours-short zone Forward start hours = refl
  end_of_hours-short zone Backward start hours = refl
