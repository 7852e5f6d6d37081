-- Which holiday of statute a day is, as a relation: 5 U.S.C. 6103(a), which Fed. R. Civ. P. 6(a)(6)(A) lists.
use Rattle.std.specs.Prelude.{◌≡◌, ℕ, ◌+◌, ◌-◌, ◌==◌, ◌⊎◌, Bool, true, false, ◌&&◌}
use Rattle.civil_time.specs.Civil.{weekday, FallsOn}
use Rattle.court_days.specs.Holiday.{is_within}
use Rattle.court_reasons.specs.declared.statutory.Holiday.{Holiday}
use Rattle.court_reasons.specs.declared.statutory.Holiday.TheVariants.{NewYear, King, Washington, Memorial, Juneteenth, Independence, Labor, Columbus, Veterans, Thanksgiving, Christmas}
use Rattle.court_reasons.specs.declared.statutory.StatutoryHoliday.{StatutoryHoliday}

-- that date
abbrev pub is_date : ℕ → ℕ → ℕ → ℕ → Bool
is_date the_month the_day month day = (month == the_month) && (day == the_day)

-- the holiday falls on the day
abbrev pub IsHoliday : Holiday → ℕ → Type 0
-- New Year's Day, January 1
IsHoliday NewYear day = FallsOn (is_date 1 1) day
-- the birthday of Martin Luther King, Jr., the third Monday in January
IsHoliday King day = (weekday day ≡ 1) × FallsOn (is_within 1 15 21) day
-- Washington's Birthday, the third Monday in February
IsHoliday Washington day = (weekday day ≡ 1) × FallsOn (is_within 2 15 21) day
-- Memorial Day, the last Monday in May
IsHoliday Memorial day = (weekday day ≡ 1) × FallsOn (is_within 5 25 31) day
-- Juneteenth National Independence Day, June 19
IsHoliday Juneteenth day = FallsOn (is_date 6 19) day
-- Independence Day, July 4
IsHoliday Independence day = FallsOn (is_date 7 4) day
-- Labor Day, the first Monday in September
IsHoliday Labor day = (weekday day ≡ 1) × FallsOn (is_within 9 1 7) day
-- Columbus Day, the second Monday in October
IsHoliday Columbus day = (weekday day ≡ 1) × FallsOn (is_within 10 8 14) day
-- Veterans Day, November 11
IsHoliday Veterans day = FallsOn (is_date 11 11) day
-- Thanksgiving Day, the fourth Thursday in November
IsHoliday Thanksgiving day = (weekday day ≡ 4) × FallsOn (is_within 11 22 28) day
-- Christmas Day, December 25
IsHoliday Christmas day = FallsOn (is_date 12 25) day

-- the holiday is observed on the day: by this project's choice, on the Friday before, where it falls on a Saturday, and on the
-- Monday after, where it falls on a Sunday
abbrev pub IsObserved : Holiday → ℕ → Type 0
IsObserved holiday day =
    ((weekday day ≡ 5) × IsHoliday holiday (day + 1)) ⊎ ((weekday day ≡ 1) × IsHoliday holiday (day - 1))

-- the day has the holiday itself, or it is the day on which the holiday is observed
abbrev pub IsHad : Bool → Holiday → ℕ → Type 0
IsHad false holiday day = IsHoliday holiday day
IsHad true holiday day = IsObserved holiday day

abbrev pub IsStatutoryAs : StatutoryHoliday → ℕ → Type 0
IsStatutoryAs had day = IsHad had.observed had.holiday day
