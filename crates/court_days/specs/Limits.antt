-- The limits of what a court may enter in its calendar.
use Rattle.std.specs.Prelude.{ℕ}

-- 2000-01-01
abbrev pub first_entered_day : ℕ
first_entered_day = 10_957

-- 2099-12-31
abbrev pub last_entered_day : ℕ
last_entered_day = 47_481

-- 2101-01-25, the last local day of an instant that lies near the days that may be entered
abbrev pub last_local_day : ℕ
last_local_day = 47_871

-- 1999-12-31T00:00Z
abbrev pub first_entered_instant : ℕ
first_entered_instant = 946_598_400

-- 2100-01-02T00:00Z
abbrev pub last_entered_instant : ℕ
last_entered_instant = 4_102_531_200

-- of days, spans and short days together
abbrev pub most_rows : ℕ
most_rows = 4000
