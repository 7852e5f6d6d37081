-- The names of holidays and of weekdays.
use Rattle.std.specs.Prelude.{ℕ, ◌+◌, ◌-◌, ◌≡◌, ◌⊎◌, ◌==◌, ◌&&◌, if◌then◌else◌, List, ◌++◌, codes}
use Rattle.civil_time.specs.Civil.{weekday, month_of}
use Rattle.court_days.specs.Holiday.{is_fixed_holiday, IsFixedHoliday}

-- the weekday, in three letters
abbrev pub weekday_word : ℕ → List ℕ
weekday_word day =
    if day == 0 then codes "Sun"
    else (if day == 1 then codes "Mon"
    else (if day == 2 then codes "Tue"
    else (if day == 3 then codes "Wed"
    else (if day == 4 then codes "Thu"
    else (if day == 5 then codes "Fri"
    else codes "Sat")))))

-- the holiday of a fixed date, by its month: no month has two
abbrev pub fixed_name : ℕ → List ℕ
fixed_name month =
    if month == 1 then codes "New Year's Day"
    else (if month == 6 then codes "Juneteenth"
    else (if month == 7 then codes "Independence Day"
    else (if month == 11 then codes "Veterans' Day"
    else codes "Christmas Day")))

-- the holiday on a Monday, by its month
abbrev pub monday_name : ℕ → List ℕ
monday_name month =
    if month == 1 then codes "Martin Luther King Jr.'s Birthday"
    else (if month == 2 then codes "Washington's Birthday"
    else (if month == 5 then codes "Memorial Day"
    else (if month == 9 then codes "Labor Day"
    else codes "Columbus Day")))

-- a day on which a holiday of a fixed date is observed: the Friday before one on a Saturday, the Monday after one on a Sunday
abbrev pub IsObserved : ℕ → Type 0
IsObserved day =
    ((weekday day ≡ 5) × IsFixedHoliday (day + 1)) ⊎ ((weekday day ≡ 1) × IsFixedHoliday (day - 1))

-- the name of a holiday of a fixed date on a Saturday or a Sunday, where it is observed on another day
abbrev pub observed_name : ℕ → List ℕ
observed_name day = fixed_name (month_of day) ++ codes " (observed)"

-- the name of a statutory holiday: one of a fixed date, the Monday after one, the Friday before one, or one that falls on a
-- Thursday or on a Monday
abbrev pub holiday_name : ℕ → List ℕ
holiday_name day =
    if is_fixed_holiday day then fixed_name (month_of day)
    else (if (weekday day == 1) && is_fixed_holiday (day - 1) then observed_name (day - 1)
    else (if weekday day == 5 then observed_name (day + 1)
    else (if weekday day == 4 then codes "Thanksgiving Day"
    else monday_name (month_of day))))
