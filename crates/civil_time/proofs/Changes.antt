-- The dates of clock changes.
use Rattle.std.proofs.Common.{◌≡◌, ℕ, ◌+◌, ◌-◌, ◌*◌, ◌<◌, ◌≤◌, inl, inr, ℤ, pos, negsuc, ◌+ℤ◌, nat_eq, false, refl, ap, ◌∙◌, arith}
use Rattle.jiff_core.specs.declared.civil.date.Date.{Date}
use Rattle.jiff_core.specs.declared.civil.weekday.Weekday.{Weekday}
use Rattle.jiff_core.specs.Weekday.{monday_zero, sunday_zero}
use Rattle.jiff_core.specs.Calendar.{days_from_civil, days_in_month, weekday_number}
use Rattle.jiff_core.specs.Date.{epoch_day, weekday_of, IsInWeek, IsNthFromStart, IsNthFromEnd, IsNthWeekdayOfMonth}
use Rattle.std.proofs.lemmas.Bool.{cases_order}
use Rattle.civil_time.specs.declared.zone.ChangeDate.{ChangeDate}
use Rattle.civil_time.specs.Zone.{IsChangeDate}
use Rattle.jiff_core.proofs.SignedLemmas.{signed_arith, one_part}
use Rattle.jiff_core.proofs.CalendarLemmas.{weekday_number-parts}
use Rattle.jiff_core.proofs.DateLemmas.{days_from_civil-day}
use Rattle.civil_time.specs.Civil.{weekday}
use Rattle.civil_time.specs.LocalTime.{change_day, first_of_month, last_of_month, weekday_from, weekday_up_to}
use Rattle.civil_time.proofs.NewYears.{not_negative}
use Rattle.civil_time.proofs.MonthsAway.{same_length}

-- a date of the month that `first` begins lies that many days after its first
in_month : (first d : Date) (year : ℕ) → first.year ≡ pos year → 1970 ≤ year → year ≤ 3999 → 2 ≤ first.month → d.year ≡ first.year → d.month ≡ first.month → epoch_day d ≡ pos (first_of_month year first.month + d.day - 1)
in_month first d year y low high month sy sm =
    let F = days_from_civil (pos year) first.month 1 in
    let begin = not_negative first year y low high month in
    let e : epoch_day d +ℤ pos 1 ≡ F +ℤ pos d.day =
    rw (sy, sm, y) (days_from_civil-day (pos year) first.month d.day 1 d.day_in.0 (omega arith)) in
    let some = d.day_in.0 in
    omega (arith, signed_arith, one_part F)

weekday_is : (d : Date) (day wd : ℕ) (w : Weekday) → epoch_day d ≡ pos day → weekday_of d ≡ monday_zero w → sunday_zero w ≡ wd → weekday day ≡ wd
weekday_is d day wd w e h s =
    let n : weekday_number (pos day) ≡ monday_zero w = rw e at h in
    omega (arith, signed_arith, weekday_number-parts (pos day), n, s)

shown_from : (F day week wd x : ℕ) → 1 ≤ day → 1 ≤ week → wd ≤ 6 → day ≤ 7 * week → 7 * week < 7 + day → x ≡ F + day - 1 → weekday x ≡ wd → x ≡ weekday_from wd F + 7 * (week - 1)
shown_from F day week wd x a b c d e f g = omega arith

shown_up_to : (F day length wd x : ℕ) → 1 ≤ day → day ≤ length → wd ≤ 6 → length + 1 - day ≤ 7 → x ≡ F + day - 1 → weekday x ≡ wd → x ≡ weekday_up_to wd (F + length - 1)
shown_up_to F day length wd x a b c d e f = omega arith

near_end : (F day length length' wd x : ℕ) → length ≡ length' → 1 ≤ day → day ≤ length → wd ≤ 6 → IsInWeek 1 (pos (length + 1 - day)) → x ≡ F + day - 1 → weekday x ≡ wd → x ≡ weekday_up_to wd (F + length' - 1)
near_end F day length length' wd x same a b c h e f =
    shown_up_to F day length' wd x a (omega arith) c (omega (arith, signed_arith, h, same)) e f

pub nth_day : (first d : Date) (year week wd : ℕ) (w : Weekday) → first.year ≡ pos year → 1970 ≤ year → year ≤ 3999 → 2 ≤ first.month → 1 ≤ week → wd ≤ 6 → sunday_zero w ≡ wd → IsNthFromStart first week w d → epoch_day d ≡ pos (weekday_from wd (first_of_month year first.month) + 7 * (week - 1))
nth_day first d year week wd w y low high month some wd_in s h =
    let e = in_month first d year y low high month h.0.0 h.0.1 in
    let x = first_of_month year first.month + d.day - 1 in
    let is = weekday_is d x wd w e h.0.2 s in
    let a : d.day ≤ 7 * week = omega (arith, signed_arith, h.1) in
    let b : 7 * week < 7 + d.day = omega (arith, signed_arith, h.1) in
    e ∙ ap pos (shown_from _ d.day week wd x d.day_in.0 some wd_in a b refl is)

pub last_day : (first d : Date) (year wd : ℕ) (w : Weekday) → first.year ≡ pos year → 1970 ≤ year → year ≤ 3999 → 2 ≤ first.month → wd ≤ 6 → sunday_zero w ≡ wd → IsNthFromEnd first 1 w d → epoch_day d ≡ pos (weekday_up_to wd (last_of_month year first.month))
last_day first d year wd w y low high month wd_in s h =
    let e = in_month first d year y low high month h.0.0 h.0.1 in
    let x = first_of_month year first.month + d.day - 1 in
    let is = weekday_is d x wd w e h.0.2 s in
    let same = same_length d.year (pos year) d.month first.month (h.0.0 ∙ y) h.0.1 in
    e ∙ ap pos (near_end _ d.day (days_in_month d.year d.month) (days_in_month (pos year) first.month) wd x same d.day_in.0 d.day_in.1 wd_in h.1 refl is)

pub change_day-date : (date : ChangeDate) (is : IsChangeDate date) (first d : Date) (nth : ℤ) (year : ℕ) (w : Weekday) → first.year ≡ pos year → 1970 ≤ year → year ≤ 3999 → first.month ≡ date.month → sunday_zero w ≡ date.weekday → (date.week ≡ 5 → nth ≡ negsuc 0) → (¬ (date.week ≡ 5) → nth ≡ pos date.week) → IsNthWeekdayOfMonth first nth w d → epoch_day d ≡ pos (change_day date year)
change_day-date date is first d nth year w y low high m s last other h =
    let month : 2 ≤ first.month = omega (arith, is.month) in
    elim (cases_order date.week 5) [
      | inl e ↦ let at_end : IsNthFromEnd first 1 w d = rw (last e) at h in
          rw (e, ← m) (last_day first d year date.weekday w y low high month is.weekday s at_end)
      | inr (inl lt) ↦ let apart : ¬ (date.week ≡ 5) = omega arith in
          let test : nat_eq date.week 5 ≡ false = grind arith in
          let from : IsNthFromStart first date.week w d = rw (other apart) at h in
          rw (test, ← m) (nth_day first d year date.week date.weekday w y low high month is.week.0 is.weekday s from)
      | inr (inr gt) ↦ absurd (omega (arith, is.week))
    ]
