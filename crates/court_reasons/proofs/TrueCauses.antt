-- The causes of a day are exactly those that are true of it.
use Rattle.std.proofs.Common.{ℕ, ◌≤◌, IsTrue, ◌↔◌, refl, sym, arith}
use Rattle.std.proofs.lemmas.Bool.{true≢false, eqb-true, eq-eqb}
use Rattle.civil_time.specs.Civil.{weekday}
use Rattle.civil_time.specs.LocalTime.{IsInstant}
use Rattle.civil_time.specs.Zone.{ZoneRules, IsZone}
use Rattle.court_days.specs.Calendar.{Entered, IsWithinLimits}
use Rattle.court_days.specs.Hours.{same_time_on}
use Rattle.court_days.specs.Legal.{IsStateHoliday}
use Rattle.court_days.specs.declared.calendar.Direction.{Direction}
use Rattle.court_days.specs.declared.calendar.Direction.TheVariants.{Forward, Backward}
use Rattle.court_days.proofs.Accessible.{is_accessible-means, same_time_on-near}
use Rattle.court_days.proofs.TestLaws.{tells-not}
use Rattle.court_reasons.specs.Causes.{business_causes, day_causes, hour_causes}
use Rattle.court_reasons.specs.Passing.{AreBusinessCauses, AreDayCauses, AreBackCauses, AreHourCauses}
use Rattle.court_reasons.proofs.StatutoryDays.{statutory_holiday-means}
use Rattle.court_reasons.proofs.WhichHoliday.{statutory_holiday-tells}

state_means : (entered : Entered) (direction : Direction) (day : ℕ) → IsTrue (business_causes entered direction day).state ↔ IsStateHoliday entered direction day
state_means entered Forward day = (λ e. e, λ e. e)
state_means entered Backward day = (λ e. absurd (true≢false (sym e)), λ e. absurd e)

business_true : (entered : Entered) (direction : Direction) (day : ℕ) → day ≤ 1_000_000 → AreBusinessCauses entered direction day (business_causes entered direction day)
business_true entered direction day limit = record {
  saturday = (eqb-true (weekday day) 6, eq-eqb (weekday day) 6);
  sunday = (eqb-true (weekday day) 0, eq-eqb (weekday day) 0);
  statutory = statutory_holiday-means day limit;
  which = statutory_holiday-tells day limit;
  federal = (λ e. e, λ e. e);
  state = state_means entered direction day;
}

pub back_causes-true : (entered : Entered) (direction : Direction) (day : ℕ) → day ≤ 1_000_000 → AreBackCauses entered direction day (business_causes entered direction day)
back_causes-true entered direction day limit = record { business = business_true entered direction day limit; closed = refl; inaccessible = refl }

pub day_causes-true : (entered : Entered) (direction : Direction) (day : ℕ) → day ≤ 1_000_000 → AreDayCauses entered direction day (day_causes entered direction day)
day_causes-true entered direction day limit =
    let b = business_true entered direction day limit in record {
      business = record { saturday = b.saturday; sunday = b.sunday; statutory = b.statutory; which = b.which; federal = b.federal; state = b.state };
      closed = (λ e. e, λ e. e);
      inaccessible = refl;
    }

-- the causes at a time are those that are true of the day
pub hour_causes-true : (entered : Entered) (zone : ZoneRules) (direction : Direction) (instant day : ℕ) → IsWithinLimits entered → IsZone zone → IsInstant instant → 3660 ≤ day → day ≤ 741_000 → AreHourCauses entered zone direction instant day (hour_causes entered zone direction instant day)
hour_causes-true entered zone direction instant day limits is moment low high =
    let near = same_time_on-near zone is instant day moment low in
    let b = business_true entered direction day (omega arith) in record {
      business = record { saturday = b.saturday; sunday = b.sunday; statutory = b.statutory; which = b.which; federal = b.federal; state = b.state };
      closed = refl;
      inaccessible = tells-not (is_accessible-means entered zone is (same_time_on zone instant day) limits (omega arith) (omega arith));
    }
