-- Which holiday of statute a day is: 5 U.S.C. 6103(a), which Fed. R. Civ. P. 6(a)(6)(A) lists.
use Rattle.std.specs.Prelude.{ℕ, ◌+◌, ◌-◌, ◌==◌, true, false, ◌&&◌, if◌then◌else◌, Option, Some, None}
use Rattle.civil_time.specs.Civil.{weekday, month_of, day_of_month}
use Rattle.court_days.specs.Holiday.{is_within}
use Rattle.court_reasons.specs.declared.statutory.Holiday.{Holiday}
use Rattle.court_reasons.specs.declared.statutory.Holiday.TheVariants.{NewYear, King, Washington, Memorial, Juneteenth, Independence, Labor, Columbus, Veterans, Thanksgiving, Christmas}
use Rattle.court_reasons.specs.declared.statutory.StatutoryHoliday.{StatutoryHoliday}

-- the holiday of a fixed date
abbrev pub fixed_holiday : ℕ → ℕ → Option Holiday
fixed_holiday month day =
    if (month == 1) && (day == 1) then Some NewYear
    else (if (month == 6) && (day == 19) then Some Juneteenth
    else (if (month == 7) && (day == 4) then Some Independence
    else (if (month == 11) && (day == 11) then Some Veterans
    else (if (month == 12) && (day == 25) then Some Christmas
    else None))))

-- the holiday of a Monday: the third of January and of February, the last of May, the first of September and the second of
-- October
abbrev pub monday_holiday : ℕ → ℕ → Option Holiday
monday_holiday month day =
    if is_within 1 15 21 month day then Some King
    else (if is_within 2 15 21 month day then Some Washington
    else (if is_within 5 25 31 month day then Some Memorial
    else (if is_within 9 1 7 month day then Some Labor
    else (if is_within 10 8 14 month day then Some Columbus
    else None))))

-- the holiday of a Thursday: the fourth of November
abbrev pub thursday_holiday : ℕ → ℕ → Option Holiday
thursday_holiday month day = if is_within 11 22 28 month day then Some Thanksgiving else None

-- the holiday of a fixed date that falls on the day
abbrev pub fixed_on : ℕ → Option Holiday
fixed_on day = fixed_holiday (month_of day) (day_of_month day)

-- the holiday on its own day
abbrev pub own_day : Option Holiday → Option StatutoryHoliday
own_day (Some h) = Some (record { holiday = h; observed = false })
own_day None = None

-- the holiday on the day on which it is observed
abbrev pub observed_day : Option Holiday → Option StatutoryHoliday
observed_day (Some h) = Some (record { holiday = h; observed = true })
observed_day None = None

-- a Monday has a holiday of its own, or it is the day after a Sunday with one of a fixed date
abbrev pub on_monday : Option Holiday → Option Holiday → Option StatutoryHoliday
on_monday (Some h) before = own_day (Some h)
on_monday None before = observed_day before

-- the holiday of a day that is none of a fixed date, by its weekday: of a Monday, of a Thursday, or of a Friday before a
-- Saturday with one of a fixed date
abbrev pub other_holiday : ℕ → ℕ → Option StatutoryHoliday
other_holiday day the_weekday =
    if the_weekday == 1 then on_monday (monday_holiday (month_of day) (day_of_month day)) (fixed_on (day - 1))
    else (if the_weekday == 4 then own_day (thursday_holiday (month_of day) (day_of_month day))
    else (if the_weekday == 5 then observed_day (fixed_on (day + 1))
    else None))

abbrev pub fixed_or : Option Holiday → Option StatutoryHoliday → Option StatutoryHoliday
fixed_or (Some h) other = own_day (Some h)
fixed_or None other = other

-- which holiday of statute the day is, if it is one
unfoldable pub statutory_holiday : ℕ → Option StatutoryHoliday
statutory_holiday day = fixed_or (fixed_on day) (other_holiday day (weekday day))
