-- A period of months has one end.
use Rattle.std.proofs.Common.{◌≡◌, ◌↔◌, ℕ, ◌+◌, ◌*◌, ◌≤◌, max, sym, arith, subst}
use Rattle.civil_time.specs.Months.{IsMonthsAfter}
use Rattle.civil_time.specs.Civil.{IsDayNumber}
use Rattle.court_days.specs.Calendar.{Entered, IsWithinLimits}
use Rattle.court_days.specs.Period.{IsEndFrom, IsEndOfMonths, IsTrigger, IsInReach, shift}
use Rattle.court_days.specs.Ends.{months_away, end_of_months}
use Rattle.court_days.specs.declared.calendar.Direction.{Direction}
use Rattle.court_days.specs.declared.calendar.Direction.TheVariants.{Forward, Backward}
use Rattle.civil_time.proofs.MonthsAway.{months_later-is, months_earlier-is, months_later-finds, months_earlier-finds}
use Rattle.court_days.proofs.Ends.{end_from-is, end_from-finds}

-- the day that lies so many months away
pub months_away-is : (direction : Direction) (day months away : ℕ) → months ≤ 120 → IsMonthsAfter day (shift direction months) away → away ≡ months_away direction day months
months_away-is Forward day months away h is = months_later-is day months away is
months_away-is Backward day months away h is = months_earlier-is day months away h is

months_away-finds : (direction : Direction) (day months : ℕ) → IsDayNumber day → IsTrigger direction day → months ≤ 120 → IsMonthsAfter day (shift direction months) (months_away direction day months) × IsInReach direction (months_away direction day months) × (months_away direction day months ≤ day + 31 * months)
months_away-finds Forward day months limits h k =
    let found = months_later-finds day months limits h k in
    (found.0, omega (arith, found.1, h, k), found.1)
months_away-finds Backward day months limits h k =
    let found = months_earlier-finds day months limits h.0 k in
    (found.0, (omega (arith, found.2, h, k), omega (arith, found.1, h)), omega (arith, found.1))

pub end_of_months-only : (entered : Entered) (direction : Direction) (trigger months day : ℕ) → IsWithinLimits entered → IsDayNumber trigger → IsTrigger direction trigger → months ≤ 120 → IsEndOfMonths entered direction trigger months day ↔ (day ≡ end_of_months entered direction trigger months)
end_of_months-only entered direction trigger months day limits number h k =
    let away = months_away-finds direction trigger months number h k in
    let from = months_away direction trigger months in (
      λ is. end_from-is entered limits direction from day away.1 (subst (λ f. IsEndFrom entered direction f day) (months_away-is direction trigger months is.0 k is.1) is.2),
      λ e. (from, away.0, subst (λ d. IsEndFrom entered direction from d) (sym e) (end_from-finds entered limits direction from away.1).0),
    )

pub end_of_months-near : (entered : Entered) (direction : Direction) (trigger months : ℕ) → IsWithinLimits entered → IsDayNumber trigger → IsTrigger direction trigger → months ≤ 120 → end_of_months entered direction trigger months ≤ max (trigger + 31 * months) 47_482 + 7
end_of_months-near entered direction trigger months limits number h k =
    let away = months_away-finds direction trigger months number h k in
    omega (arith, away.2, (end_from-finds entered limits direction (months_away direction trigger months) away.1).1)
