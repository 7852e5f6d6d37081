-- How a court is kept.
use Rattle.std.specs.Prelude.{◌≡◌, ◌<◌, Some, string_bytes}
use Rattle.civil_time.specs.ZoneText.{zone_at}
use Rattle.court_days.specs.Court.{CourtSettings}
use Rattle.court_days.specs.declared.court.Court.TheInside.{Inside}

-- the settings that the fields of a court hold
abbrev pub settings_in : Inside → CourtSettings
settings_in a = record { zone_text = string_bytes a.zone_text; close_minute = a.close_minute }

-- the zone is the one that the text spells, and the closing time is a minute of the day
pub record IsCourt (a : Inside) : Type 0 where
  pub spelled : zone_at (string_bytes a.zone_text) ≡ Some a.zone
  pub close : a.close_minute < 1440
