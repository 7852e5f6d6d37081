-- Local time: what the clocks of a zone show, in seconds since 1970-01-01T00:00.
use Rattle.std.specs.Prelude.{◌≡◌, ◌≤◌, ◌<◌, ◌⊎◌, ℕ, ◌+◌, ◌-◌, ◌*◌, ◌/◌, ◌%◌, ◌==◌, Bool, false, not, ◌&&◌, nat_lt, nat_le, if◌then◌else◌, ℤ, pos, negsuc, ◌+ℤ◌, ◌-ℤ◌, ◌*ℤ◌, unsigned_abs, Option, None, Some}
use Rattle.jiff_core.specs.Calendar.{days_from_civil, days_in_month}
use Rattle.civil_time.specs.Civil.{weekday, year_of}
use Rattle.civil_time.specs.declared.zone.ChangeDate.{ChangeDate}
use Rattle.civil_time.specs.declared.zone.SummerTime.{SummerTime}
use Rattle.civil_time.specs.Zone.{ZoneRules}

-- an instant is a number of seconds since 1970-01-01T00:00Z, where one before it counts as 0
abbrev pub seconds : ℤ → ℕ
seconds (pos n) = n
seconds (negsuc n) = 0

-- from 1980-01-03T00:00Z to 3999-12-29T00:00Z
abbrev pub IsInstant : ℕ → Type 0
IsInstant instant = (315_705_600 ≤ instant) × (instant ≤ 64_060_329_600)

-- the same for a number with a sign
abbrev pub IsMoment : ℤ → Type 0
IsMoment at = IsInstant (seconds at)

-- the first and the last day of a month of a year from 1970 on
abbrev pub first_of_month : ℕ → ℕ → ℕ
first_of_month year month = unsigned_abs (days_from_civil (pos year) month 1)

abbrev pub last_of_month : ℕ → ℕ → ℕ
last_of_month year month = first_of_month year month + days_in_month (pos year) month - 1

-- the first such weekday that is not before the day
abbrev pub weekday_from : ℕ → ℕ → ℕ
weekday_from wanted day = day + (wanted + 7 - weekday day) % 7

-- the last such weekday that is not after the day
abbrev pub weekday_up_to : ℕ → ℕ → ℕ
weekday_up_to wanted day = day - (weekday day + 7 - wanted) % 7

-- the date in a year: such a weekday of the month, by its number or, where that is 5, the last one
abbrev pub change_day : ChangeDate → ℕ → ℕ
change_day date year =
    if date.week == 5 then weekday_up_to date.weekday (last_of_month year date.month)
    else weekday_from date.weekday (first_of_month year date.month) + 7 * (date.week - 1)

-- standard time: what the clock would show if it were never put forward
abbrev pub standard_time : ZoneRules → ℕ → ℕ
standard_time zone instant = unsigned_abs (pos instant -ℤ pos 3600 *ℤ zone.hours_west)

-- when summer time begins in a year, by standard time: 02:00 standard time on the first date
abbrev pub summer_begins : SummerTime → ℕ → ℕ
summer_begins summer year = 86_400 * change_day summer.begins year + 7200

-- when it ends, by standard time: 02:00 summer time on the second date
abbrev pub summer_ends : SummerTime → ℕ → ℕ
summer_ends summer year = 86_400 * change_day summer.ends year + 3600

-- from its beginning up to its end; where the end comes first in the year, all but what lies from the end up to the beginning
abbrev pub is_between : ℕ → ℕ → ℕ → Bool
is_between begins ends time =
    if nat_lt begins ends then nat_le begins time && nat_lt time ends
    else not (nat_le ends time && nat_lt time begins)

-- whether it is summer time (daylight saving time) when standard time is this
abbrev pub is_summer : Option SummerTime → ℕ → Bool
is_summer None standard = false
is_summer (Some summer) standard =
    let year = year_of (standard / 86_400) in is_between (summer_begins summer year) (summer_ends summer year) standard

-- the offset in force: by how many hours the clock is ahead of Greenwich at an instant, one more in summer time than in standard time
unfoldable pub offset_in_force : ZoneRules → ℕ → ℤ
offset_in_force zone instant =
    pos (if is_summer zone.summer (standard_time zone instant) then 1 else 0) -ℤ zone.hours_west

-- local time: the instant plus the offset then in force
unfoldable pub local_time : ZoneRules → ℕ → ℕ
local_time zone instant = unsigned_abs (pos instant +ℤ pos 3600 *ℤ offset_in_force zone instant)

-- the day on which it is, and the minute of that day, both rounded down
abbrev pub local_day : ZoneRules → ℕ → ℕ
local_day zone instant = local_time zone instant / 86_400

abbrev pub local_minute : ZoneRules → ℕ → ℕ
local_minute zone instant = local_time zone instant % 86_400 / 60

-- what the clock shows when standard time is this: an hour more in summer time
abbrev pub shown_at : ZoneRules → ℕ → ℕ
shown_at zone standard = standard + (if is_summer zone.summer standard then 3600 else 0)

-- a gap: the clock is put forward over this local time, so that no instant shows it
abbrev pub IsInGap : ZoneRules → ℕ → Type 0
IsInGap zone local = (instant : ℕ) → ¬ (local_time zone instant ≡ local)

-- a fold: the clock is put back over this local time, so that this instant shows it, and the one an hour later again
abbrev pub IsFirstInFold : ZoneRules → ℕ → ℕ → Type 0
IsFirstInFold zone local instant = (local_time zone instant ≡ local) × (local_time zone (instant + 3600) ≡ local)

-- the instant of a local time by standard time
abbrev pub instant_by_standard : ZoneRules → ℕ → ℕ
instant_by_standard zone local = unsigned_abs (pos local +ℤ pos 3600 *ℤ zone.hours_west)

-- the local times whose instants are asked for: from 1970-01-04T00:00 to the end of 3999-12-31
abbrev pub IsLocalTime : ℕ → Type 0
IsLocalTime local = (259_200 ≤ local) × (local < 64_060_588_800)

-- the instant of a local time: the earlier of two in a fold, and the one by standard time in a gap
unfoldable pub instant_of : ZoneRules → ℕ → ℕ
instant_of zone local =
    let standard = instant_by_standard zone local in
    if local_time zone (standard - 3600) == local then standard - 3600 else standard

-- what that means: no earlier instant shows the local time, and this one does, or it lies in a gap and this is the instant by standard time
pub record IsInstantOf (zone : ZoneRules) (local instant : ℕ) : Type 0 where
  pub earliest : (other : ℕ) → local_time zone other ≡ local → instant ≤ other
  pub shows : (local_time zone instant ≡ local) ⊎ (IsInGap zone local × (instant ≡ instant_by_standard zone local))
