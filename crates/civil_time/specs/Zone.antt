-- Zones: how far their clocks are from Greenwich, and when they keep daylight saving time.
use Rattle.std.specs.Prelude.{◌≢◌, ℕ, ◌+◌, ◌≤◌, ℤ, pos, negsuc, Option}
use Rattle.std.specs.Option.{ForSome}
use Rattle.std.specs.Int.{IsInRange}
use Rattle.jiff_core.specs.Calendar.{IsBetween}
use Rattle.civil_time.specs.declared.zone.ChangeDate.{ChangeDate}
use Rattle.civil_time.specs.declared.zone.SummerTime.{SummerTime}

-- a month from February to November, a week from 1 to 5, where 5 is the last, and a weekday from 0, Sunday, to 6
pub record IsChangeDate (date : ChangeDate) : Type 0 where
  pub month : IsInRange 2 11 date.month
  pub week : IsInRange 1 5 date.week
  pub weekday : date.weekday ≤ 6

-- two months are neither equal nor neighbours
abbrev pub AreApart : ℕ → ℕ → Type 0
AreApart first second = (first ≢ second) × (first + 1 ≢ second) × (first ≢ second + 1)

-- summer time, which American law calls daylight saving time, begins and ends on such dates, in months that are apart
pub record IsSummerTime (summer : SummerTime) : Type 0 where
  pub begins : IsChangeDate summer.begins
  pub ends : IsChangeDate summer.ends
  pub apart : AreApart summer.begins.month summer.ends.month

-- the rules of a zone: the whole hours that standard time is west of Greenwich, less than 0 to the east, and its summer time, if it keeps one
pub record ZoneRules : Type 0 where
  pub hours_west : ℤ
  pub summer : Option SummerTime

-- at most 12 hours west or east, and dates in their limits
pub record IsZone (zone : ZoneRules) : Type 0 where
  pub hours : IsBetween (negsuc 11) (pos 12) zone.hours_west
  pub summer : ForSome zone.summer IsSummerTime
